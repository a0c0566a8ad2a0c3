use Rattle.ondie_ecc.proofs.LawLemmas.{mended-codeword, repaired_of-codeword}
use Rattle.ondie_ecc.proofs.laws.codeword_is_clean.Goals as goal

pub returns : goal.returns
returns c = record { clean = repaired_of-codeword; stays = mended-codeword }
