use Rattle.device_core.proofs.NearWords.{Repairs}
use Rattle.device_core.proofs.TameLines.{plain-reading}
use Rattle.device_core.proofs.laws.reads_last_write.Goals as goal

pub returns : goal.returns
returns c =
    let laws : Repairs = record { clean = c.codeword_is_clean.ensures.clean; stays = c.codeword_is_clean.ensures.stays; fixed = c.one_turn_is_undone.ensures.fixed; undone = c.one_turn_is_undone.ensures.undone } in
    record {
      bytes = λ changes line given tame. (plain-reading laws changes line given tame).bytes;
      state = λ changes line given tame. (plain-reading laws changes line given tame).state;
    }
