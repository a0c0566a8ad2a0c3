use Rattle.ddr_text.proofs.HexBytes.{lower-bytes, sized-bytes}
use Rattle.ddr_text.proofs.laws.hex_gives_bytes.Goals as goal

pub returns : goal.returns
returns c = record { either = sized-bytes; lower = lower-bytes }
