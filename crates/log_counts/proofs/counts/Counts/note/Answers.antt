use Rattle.std.proofs.Common.{◌∙◌, ap, subst, sym}
use Rattle.log_counts.specs.Counts.{AreFew, counts_of, with_alert, with_command}
use Rattle.log_counts.specs.declared.counts.Counts.{Counts}
use Rattle.log_counts.proofs.Counting.{alerts-below, counts-more, few-kinds, few-still}
use Rattle.log_counts.proofs.counts.Counts.note.Goals as goal

pub note_alert-requires : goal.note_alert-requires
note_alert-requires c = let r = c.requires in alerts-below r.0 c.args.self.now r.1 r.2 r.3

pub note_kind-requires : goal.note_kind-requires
note_kind-requires c =
    let r = c.requires in
    subst AreFew (sym c.note_alert.ensures) (few-still c.args.is_raised c.args.self.now (few-kinds r.0 c.args.self.now r.1 r.2 r.3))

pub returns : goal.returns
returns c = λ h clock log e raised.
    c.note_kind.ensures
    ∙ ap (with_command c.args.command.now) (c.note_alert.ensures ∙ ap (λ (counts : Counts). with_alert c.args.is_raised counts) e ∙ ap (λ t. with_alert t (counts_of h log)) raised)
    ∙ sym (counts-more h (record { clock = clock; command = c.args.command.now }) log)
