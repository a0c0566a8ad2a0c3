-- A stored word of five devices that took few turned bits is a codeword of what its device holds, or one with one bit turned.
use Rattle.std.proofs.Common.{◌≡◌, ℕ, zero, suc, ◌<◌, ◌==◌, ◌&&◌, ◌||◌, inl, Bool, true, false, cond, List, [], ◌∷◌, replicate, refl, ap, arith}
use Rattle.ondie_ecc.specs.Bits.{IsBytes}
use Rattle.ondie_ecc.specs.Codeword.{codeword_of}
use Rattle.error_scrub.specs.Cells.{zero_word}
use Rattle.error_scrub.specs.Changes.{Change, wrote, turns, scrubs}
use Rattle.error_scrub.specs.Tame.{turns_since, is_tame, last_written, AreGiven}
use Rattle.device_core.proofs.NearWords.{IsNear, IsRead, Repairs, read-near, scrubs-step, turns-step}
use Rattle.spare_device.specs.Spare.{held_by, stored_word}

-- ---- One change more

wrote-step : (t tame : Bool) (device : ℕ) (new old word : List ℕ) (count : ℕ) → (t || tame) ≡ true → (tame ≡ true → IsNear (held_by old device) word count)
    → IsNear (held_by (cond t new old) device) (cond t (codeword_of (held_by new device)) word) (cond t 0 count)
wrote-step true tame device new old word count e h = inl (refl, refl)
wrote-step false tame device new old word count e h = h e

-- ---- All changes

held-zeros : (device : ℕ) → device < 5 → replicate 16 0 ≡ held_by (replicate 64 0) device
held-zeros zero low = refl
held-zeros (suc zero) low = refl
held-zeros (suc (suc zero)) low = refl
held-zeros (suc (suc (suc zero))) low = refl
held-zeros (suc (suc (suc (suc zero)))) low = refl
held-zeros (suc (suc (suc (suc (suc device))))) low = absurd (omega (arith, low))

near : Repairs → (changes : List Change) (line device : ℕ) → device < 5 → AreGiven changes → is_tame changes line device ≡ true
    → IsNear (held_by (last_written changes line) device) (stored_word changes line device) (turns_since changes line device)
unfolding zero_word
near laws [] line device low given e = inl (refl, ap codeword_of (held-zeros device low))
near laws (wrote at bytes ∷ changes) line device low given e =
    wrote-step (line == at) (is_tame changes line device) device bytes (last_written changes line) (stored_word changes line device) (turns_since changes line device) e
    (near laws changes line device low given.1)
near laws (scrubs at ∷ changes) line device low given e =
    scrubs-step laws (line == at) (held_by (last_written changes line) device) (stored_word changes line device) (turns_since changes line device) (near laws changes line device low given e)
near laws (turns at of bit ∷ changes) line device low given e =
    turns-step (line == at && device == of) (is_tame changes line device) (held_by (last_written changes line) device) (stored_word changes line device) (turns_since changes line device) bit given.0 e
    (near laws changes line device low given.1)

-- ---- What is read of it

pub word-read : Repairs → (changes : List Change) (line device : ℕ) → device < 5 → IsBytes 16 (held_by (last_written changes line) device) → AreGiven changes → is_tame changes line device ≡ true
    → IsRead (held_by (last_written changes line) device) (stored_word changes line device)
word-read laws changes line device low sixteen given tame =
    read-near laws (held_by (last_written changes line) device) (stored_word changes line device) _ sixteen (near laws changes line device low given tame)
