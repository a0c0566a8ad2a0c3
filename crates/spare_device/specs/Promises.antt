-- What holds of every script that is run on five devices of which one is dead.
use Rattle.std.specs.Prelude.{ℕ, ◌≡◌, ⊤, List, [], ◌∷◌}
use Rattle.device_core.specs.Stored.{changes_of}
use Rattle.error_scrub.specs.Reading.{IsGood}
use Rattle.error_scrub.specs.Tame.{last_written}
use Rattle.speed_bin.specs.declared.header.Header.{Header}
use Rattle.device_exec.specs.Executed.{execution}
use Rattle.device_exec.specs.Promises.{ShowsReads}
use Rattle.device_exec.specs.Scripts.{Answered}
use Rattle.spare_device.specs.Spare.{IsTameBut, spare_reading}
use Rattle.spare_device.specs.Spared.{five_devices}

-- where each live device took few turned bits since the line's last write, the reading has the bytes of that write, or zeros,
-- and is not lost, whatever was turned in the dead device
pub record IsRight (dead : ℕ) (h : Header) (read : Answered) : Type 0 where
  pub bytes : IsTameBut dead (changes_of h read.steps) read.line → (spare_reading dead (changes_of h read.steps) read.line).bytes ≡ last_written (changes_of h read.steps) read.line
  pub state : IsTameBut dead (changes_of h read.steps) read.line → IsGood (spare_reading dead (changes_of h read.steps) read.line).state

abbrev pub AreRight : ℕ → Header → List Answered → Type 0
AreRight dead h [] = ⊤
AreRight dead h (read ∷ reads) = IsRight dead h read × AreRight dead h reads

-- each RD has its D line, in their order, and each D line is right
pub record ReadsWell (dead : ℕ) (h : Header) (rest : List ℕ) : Type 0 where
  pub shown : ShowsReads (five_devices dead) h rest
  pub right : AreRight dead h (execution (five_devices dead) h rest).reads
