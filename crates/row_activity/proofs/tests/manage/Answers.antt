use Rattle.row_activity.proofs.tests.manage.Goals as goal

pub known-requires : goal.known-requires
known-requires c = let r = c.requires in (_, (c.step.ensures r.0 r.1 r.2).activity)
