use Rattle.std.proofs.Common.{◌∙◌}
use Rattle.made_jobs.proofs.ReadBack.{fills}
use Rattle.made_jobs.proofs.generator.draw_bytes.Goals as goal

pub returns : goal.returns
returns c = c.fill_bytes_via_u32.ensures ∙ fills c.args.words.now
