-- A turned bit of one of five devices, in four of which one stands for the spare.
use Rattle.std.proofs.Common.{◌≡◌, ◌≢◌, ℕ, ◌<◌, ◌==◌, Bool, true, false, if◌then◌else◌, List, ◌∷◌, refl, sym, subst, arith, Result, Ok, Err, OnOk}
use Rattle.command_words.specs.Place.{place_of}
use Rattle.device_core.specs.Steps.{Step, Flips}
use Rattle.speed_bin.specs.Header.{shape_of}
use Rattle.speed_bin.specs.declared.header.Header.{Header}
use Rattle.device_exec.specs.Scripts.{Ready}
use Rattle.device_exec.specs.Standing.{StandsFor}
use Rattle.device_exec.specs.declared.checked_device.CheckedDevice.{CheckedDevice}
use Rattle.spare_device.specs.Running.{SpareFor}
use Rattle.spare_device.specs.StandIn.{place_for, stood_steps}

test_true : (a b : ℕ) → a ≡ b → (a == b) ≡ true
test_true a b e = grind arith

test_false : (a b : ℕ) → a ≢ b → (a == b) ≡ false
test_false a b e = grind arith

abbrev pub Turns : ℕ → CheckedDevice → CheckedDevice → ℕ → ℕ → ℕ → Type 0
Turns dead old new line chip bit = (h : Header) (steps : List Step) → SpareFor dead old h steps Ready → SpareFor dead new h (Flips (place_of line (shape_of h)) chip bit ∷ steps) Ready

abbrev Own : CheckedDevice → CheckedDevice → ℕ → ℕ → ℕ → Type 0
Own old new line chip bit = (h : Header) (steps : List Step) → StandsFor old h steps Ready → StandsFor new h (Flips (place_of line (shape_of h)) chip bit ∷ steps) Ready

-- of the dead device nothing is kept
pub turn_dead : (dead : ℕ) (device : CheckedDevice) (line chip bit : ℕ) → chip ≡ dead → bit < 136 → Turns dead device device line chip bit
turn_dead dead device line chip bit is word h steps k = record {
  stands = subst (λ (b : Bool). StandsFor device h (if b then stood_steps dead steps else Flips (place_of line (shape_of h)) (place_for dead chip) bit ∷ stood_steps dead steps) Ready) (sym (test_true chip dead is)) k.stands;
  given = (word, k.given);
}

turn_live : (dead : ℕ) (old new : CheckedDevice) (line chip own bit : ℕ) → chip ≢ dead → place_for dead chip ≡ own → bit < 136 → Own old new line own bit → Turns dead old new line chip bit
turn_live dead old new line chip own bit other is word turns h steps k = record {
  stands = subst (λ (b : Bool). StandsFor new h (if b then stood_steps dead steps else Flips (place_of line (shape_of h)) (place_for dead chip) bit ∷ stood_steps dead steps) Ready) (sym (test_false chip dead other))
      (subst (λ (d : ℕ). StandsFor new h (Flips (place_of line (shape_of h)) d bit ∷ stood_steps dead steps) Ready) (sym is) (turns h (stood_steps dead steps) k.stands));
  given = (word, k.given);
}

spare_place : (dead chip : ℕ) (b : Bool) → b ≡ true → (if b then dead else chip) ≡ dead
spare_place dead chip true e = refl
spare_place dead chip false e = absurd cc

own_place : (dead chip : ℕ) (b : Bool) → b ≡ false → (if b then dead else chip) ≡ chip
own_place dead chip true e = absurd cc
own_place dead chip false e = refl

-- the spare is in the place of the dead one, and another live device in its own
pub turn_spare : {E : Type 0} (r : Result Unit E) (dead : ℕ) (old new : CheckedDevice) (line chip bit : ℕ) → chip ≢ dead → chip ≡ 4 → bit < 136 → OnOk r (Own old new line dead bit) → OnOk r (Turns dead old new line chip bit)
turn_spare (Ok done) dead old new line chip bit other is word turns = turn_live dead old new line chip dead bit other (spare_place dead chip (chip == 4) (test_true chip 4 is)) word turns
turn_spare (Err why) dead old new line chip bit other is word turns = tt

pub turn_own : {E : Type 0} (r : Result Unit E) (dead : ℕ) (old new : CheckedDevice) (line chip bit : ℕ) → chip ≢ dead → chip ≢ 4 → bit < 136 → OnOk r (Own old new line chip bit) → OnOk r (Turns dead old new line chip bit)
turn_own (Ok done) dead old new line chip bit other is word turns = turn_live dead old new line chip chip bit other (own_place dead chip (chip == 4) (test_false chip 4 is)) word turns
turn_own (Err why) dead old new line chip bit other is word turns = tt
