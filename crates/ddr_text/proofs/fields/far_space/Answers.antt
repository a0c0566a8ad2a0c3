use Rattle.ddr_text.proofs.FirstSpace.{space_found, space_within}
use Rattle.ddr_text.proofs.fields.far_space.Goals as goal

pub returns : goal.returns
returns c = record {
  first = space_found c.args.text.now c.memchr.result c.memchr.ensures;
  within = space_within c.args.text.now c.memchr.result c.memchr.ensures;
}
