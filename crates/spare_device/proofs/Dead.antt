-- One of five devices is dead: its part is made of the others.
use Rattle.std.proofs.Common.{◌≡◌, ℕ, zero, suc, ◌<◌, ◌==◌, inl, Bool, true, false, cond, List, refl, sym, ap, ◌∙◌, arith}
use Rattle.std.proofs.lemmas.Bool.{eqb-true}
use Rattle.ondie_ecc.specs.Bits.{IsBytes}
use Rattle.error_scrub.specs.Changes.{Change}
use Rattle.error_scrub.specs.Reading.{IsGood, data_read, state_of, worse}
use Rattle.error_scrub.specs.Tame.{AreGiven, last_written}
use Rattle.spare_device.specs.Spare.{IsTameBut, held_by, live, mixed, mixed_four, read_words, rebuilt, spare_of, spare_reading, stored_word}
use Rattle.error_scrub.proofs.LineBytes.{part, sixteen, last-bytes}
use Rattle.spare_device.proofs.Mixed.{first, fourth, mixed-bytes, second, third}
use Rattle.device_core.proofs.NearWords.{IsRead, Repairs}
use Rattle.device_core.proofs.TameLines.{good-worse, parts-read}
use Rattle.spare_device.proofs.Near.{word-read}

abbrev repaired : List Change → ℕ → ℕ → List ℕ
repaired changes line device = data_read (stored_word changes line device)

abbrev others_of : ℕ → List Change → ℕ → List ℕ
others_of dead changes line = rebuilt dead (λ other. repaired changes line other)

-- ---- What a device holds

spare-bytes : (bytes : List ℕ) → IsBytes 64 bytes → IsBytes 16 (spare_of bytes)
spare-bytes bytes h =
    mixed-bytes 16 _ _ (mixed-bytes 16 _ _ (sixteen bytes 0 (omega arith) h) (sixteen bytes 1 (omega arith) h)) (mixed-bytes 16 _ _ (sixteen bytes 2 (omega arith) h) (sixteen bytes 3 (omega arith) h))

held-bytes : (bytes : List ℕ) (device : ℕ) → device < 5 → IsBytes 64 bytes → IsBytes 16 (held_by bytes device)
held-bytes bytes zero low h = sixteen bytes 0 (omega arith) h
held-bytes bytes (suc zero) low h = sixteen bytes 1 (omega arith) h
held-bytes bytes (suc (suc zero)) low h = sixteen bytes 2 (omega arith) h
held-bytes bytes (suc (suc (suc zero))) low h = sixteen bytes 3 (omega arith) h
held-bytes bytes (suc (suc (suc (suc zero)))) low h = spare-bytes bytes h
held-bytes bytes (suc (suc (suc (suc (suc device))))) low h = absurd (omega (arith, low))

live-read : Repairs → (dead : ℕ) (changes : List Change) (line device : ℕ) → device < 5 → AreGiven changes → IsTameBut dead changes line → (device == dead) ≡ false → IsRead (held_by (last_written changes line) device) (stored_word changes line device)
live-read laws dead changes line device low given tame alive =
    word-read laws changes line device low (held-bytes (last_written changes line) device low (last-bytes changes line given)) given (tame device low alive)

-- ---- The parts

live_good : Repairs → (dead : ℕ) (changes : List Change) (line device : ℕ) → device < 5 → AreGiven changes → IsTameBut dead changes line → (b : Bool) → (device == dead) ≡ b → IsGood (live b (state_of (stored_word changes line device)))
live_good laws dead changes line device low given tame true e = inl refl
live_good laws dead changes line device low given tame false e = (live-read laws dead changes line device low given tame e).not_lost

mix-two : (a b x y : List ℕ) → a ≡ x → b ≡ y → mixed a b ≡ mixed x y
mix-two a b x y e f = ap (λ l. mixed l b) e ∙ ap (mixed x) f

-- the dead device's part is that of the line
dead-part : Repairs → (dead : ℕ) → dead < 4 → (changes : List Change) (line : ℕ) → AreGiven changes → IsTameBut dead changes line → others_of dead changes line ≡ part (last_written changes line) dead
dead-part laws zero low changes line given tame =
    let bytes = last_written changes line in
    let l = last-bytes changes line given in
    let r : (d : ℕ) → d < 5 → (d == 0) ≡ false → repaired changes line d ≡ held_by bytes d = λ d k e. (live-read laws 0 changes line d k given tame e).bytes_are in
    mix-two _ _ _ _ (mix-two _ _ _ _ (r 1 (omega arith) refl) (r 2 (omega arith) refl)) (mix-two _ _ _ _ (r 3 (omega arith) refl) (r 4 (omega arith) refl))
    ∙ first 16 (part bytes 0) (part bytes 1) (part bytes 2) (part bytes 3) (sixteen bytes 0 (omega arith) l).counted (sixteen bytes 1 (omega arith) l).counted (sixteen bytes 2 (omega arith) l).counted (sixteen bytes 3 (omega arith) l).counted
dead-part laws (suc zero) low changes line given tame =
    let bytes = last_written changes line in
    let l = last-bytes changes line given in
    let r : (d : ℕ) → d < 5 → (d == 1) ≡ false → repaired changes line d ≡ held_by bytes d = λ d k e. (live-read laws 1 changes line d k given tame e).bytes_are in
    mix-two _ _ _ _ (mix-two _ _ _ _ (r 0 (omega arith) refl) (r 2 (omega arith) refl)) (mix-two _ _ _ _ (r 3 (omega arith) refl) (r 4 (omega arith) refl))
    ∙ second 16 (part bytes 0) (part bytes 1) (part bytes 2) (part bytes 3) (sixteen bytes 0 (omega arith) l).counted (sixteen bytes 1 (omega arith) l).counted (sixteen bytes 2 (omega arith) l).counted (sixteen bytes 3 (omega arith) l).counted
dead-part laws (suc (suc zero)) low changes line given tame =
    let bytes = last_written changes line in
    let l = last-bytes changes line given in
    let r : (d : ℕ) → d < 5 → (d == 2) ≡ false → repaired changes line d ≡ held_by bytes d = λ d k e. (live-read laws 2 changes line d k given tame e).bytes_are in
    mix-two _ _ _ _ (mix-two _ _ _ _ (r 0 (omega arith) refl) (r 1 (omega arith) refl)) (mix-two _ _ _ _ (r 3 (omega arith) refl) (r 4 (omega arith) refl))
    ∙ third 16 (part bytes 0) (part bytes 1) (part bytes 2) (part bytes 3) (sixteen bytes 0 (omega arith) l).counted (sixteen bytes 1 (omega arith) l).counted (sixteen bytes 2 (omega arith) l).counted (sixteen bytes 3 (omega arith) l).counted
dead-part laws (suc (suc (suc zero))) low changes line given tame =
    let bytes = last_written changes line in
    let l = last-bytes changes line given in
    let r : (d : ℕ) → d < 5 → (d == 3) ≡ false → repaired changes line d ≡ held_by bytes d = λ d k e. (live-read laws 3 changes line d k given tame e).bytes_are in
    mix-two _ _ _ _ (mix-two _ _ _ _ (r 0 (omega arith) refl) (r 1 (omega arith) refl)) (mix-two _ _ _ _ (r 2 (omega arith) refl) (r 4 (omega arith) refl))
    ∙ fourth 16 (part bytes 0) (part bytes 1) (part bytes 2) (part bytes 3) (sixteen bytes 0 (omega arith) l).counted (sixteen bytes 1 (omega arith) l).counted (sixteen bytes 2 (omega arith) l).counted (sixteen bytes 3 (omega arith) l).counted
dead-part laws (suc (suc (suc (suc dead)))) low changes line given tame = absurd (omega (arith, low))

held-part : (bytes : List ℕ) (device : ℕ) → device < 4 → held_by bytes device ≡ part bytes device
held-part bytes zero low = refl
held-part bytes (suc zero) low = refl
held-part bytes (suc (suc zero)) low = refl
held-part bytes (suc (suc (suc zero))) low = refl
held-part bytes (suc (suc (suc (suc device)))) low = absurd (omega (arith, low))

each-part : Repairs → (dead : ℕ) (changes : List Change) (line device : ℕ) → device < 4 → AreGiven changes → IsTameBut dead changes line → (b : Bool) → (device == dead) ≡ b → cond b (others_of dead changes line) (repaired changes line device) ≡ part (last_written changes line) device
each-part laws dead changes line device low given tame true e =
    let same = eqb-true device dead e in
    dead-part laws dead (omega (arith, same, low)) changes line given tame ∙ ap (part (last_written changes line)) (sym same)
each-part laws dead changes line device low given tame false e =
    (live-read laws dead changes line device (omega (arith, low)) given tame e).bytes_are ∙ held-part (last_written changes line) device low

-- the reading of a line that is tame but for the dead device
pub record IsWhole (dead : ℕ) (changes : List Change) (line : ℕ) : Type 0 where
  pub bytes : (spare_reading dead changes line).bytes ≡ last_written changes line
  pub state : IsGood (spare_reading dead changes line).state

pub whole-reading : Repairs → (dead : ℕ) (changes : List Change) (line : ℕ) → AreGiven changes → IsTameBut dead changes line → IsWhole dead changes line
unfolding read_words
whole-reading laws dead changes line given tame = record {
  bytes = parts-read (last_written changes line) _ _ _ _ (last-bytes changes line given)
      (each-part laws dead changes line 0 (omega arith) given tame (0 == dead) refl) (each-part laws dead changes line 1 (omega arith) given tame (1 == dead) refl)
      (each-part laws dead changes line 2 (omega arith) given tame (2 == dead) refl) (each-part laws dead changes line 3 (omega arith) given tame (3 == dead) refl);
  state =
      good-worse _ _
      (good-worse _ _
      (good-worse _ _ (live_good laws dead changes line 0 (omega arith) given tame (0 == dead) refl) (live_good laws dead changes line 1 (omega arith) given tame (1 == dead) refl))
      (good-worse _ _ (live_good laws dead changes line 2 (omega arith) given tame (2 == dead) refl) (live_good laws dead changes line 3 (omega arith) given tame (3 == dead) refl)))
      (live_good laws dead changes line 4 (omega arith) given tame (4 == dead) refl);
}
