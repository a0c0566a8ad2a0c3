use Rattle.device_core.proofs.NearWords.{Repairs}
use Rattle.spare_device.proofs.Dead.{whole-reading}
use Rattle.spare_device.proofs.laws.reads_without_one.Goals as goal

pub returns : goal.returns
returns c =
    let laws : Repairs = record { clean = c.codeword_is_clean.ensures.clean; stays = c.codeword_is_clean.ensures.stays; fixed = c.one_turn_is_undone.ensures.fixed; undone = c.one_turn_is_undone.ensures.undone } in
    record {
      bytes = λ dead changes line given tame. (whole-reading laws dead changes line given tame).bytes;
      state = λ dead changes line given tame. (whole-reading laws dead changes line given tame).state;
    }
