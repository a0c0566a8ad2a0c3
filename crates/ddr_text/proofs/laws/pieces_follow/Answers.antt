use Rattle.ddr_text.proofs.Prefixes.{no-prefix, prefix-behind, prefix-longer, prefix-whole}
use Rattle.ddr_text.proofs.laws.pieces_follow.Goals as goal

pub returns : goal.returns
returns c = record { behind = prefix-behind; longer = prefix-longer; whole = prefix-whole; nothing = no-prefix }
