-- A stored word that took few turned bits is a codeword of what its line was last written with, or one with one bit turned.
use Rattle.std.proofs.Common.{◌≡◌, ℕ, suc, ◌+◌, ◌<◌, ◌==◌, ◌&&◌, ◌||◌, ◌⊎◌, inl, inr, Bool, true, false, not, cond, List, [], ◌∷◌, refl, ap, ◌∙◌, arith}
use Rattle.std.specs.Prelude.{nat_le, ◌-◌}
use Rattle.std.proofs.lemmas.Bool.{eqb-true}
use Rattle.ondie_ecc.specs.Bits.{turned, IsBytes}
use Rattle.ondie_ecc.specs.Codeword.{codeword_of, data_of, syndrome_of}
use Rattle.ondie_ecc.specs.Repaired.{mended, repaired_of}
use Rattle.ondie_ecc.specs.declared.codeword.Repaired.TheVariants.{Clean as CleanWord, Fixed as FixedWord, Lost as LostWord}
use Rattle.ondie_ecc.specs.declared.state.ReadState.TheVariants.{Clean, Fixed, Lost}
use Rattle.error_scrub.specs.Cells.{zero_word}
use Rattle.error_scrub.specs.Changes.{Change, wrote, turns, scrubs, word_after}
use Rattle.error_scrub.specs.Reading.{data_read, state_of}
use Rattle.error_scrub.specs.Tame.{turns_since, is_tame, last_written, AreGiven}
use Rattle.error_scrub.proofs.LineBytes.{part, zeros-part}

-- what the code of words does, as its own laws say
pub record Repairs : Type 0 where
  pub clean : (bytes : List ℕ) → IsBytes 16 bytes → repaired_of (codeword_of bytes) ≡ CleanWord bytes
  pub stays : (bytes : List ℕ) → mended (codeword_of bytes) ≡ codeword_of bytes
  pub fixed : (bytes : List ℕ) (bit : ℕ) → IsBytes 16 bytes → bit < 136 → repaired_of (turned (codeword_of bytes) bit) ≡ FixedWord bytes (bit + 1)
  pub undone : (bytes : List ℕ) (bit : ℕ) → bit < 136 → mended (turned (codeword_of bytes) bit) ≡ codeword_of bytes

-- ---- A word and its turned bits

-- the word has no turned bit, or one
abbrev pub IsNear : List ℕ → List ℕ → ℕ → Type 0
IsNear bytes word count =
    ((count ≡ 0) × (word ≡ codeword_of bytes)) ⊎ ((count ≡ 1) × ((bit : ℕ) × (bit < 136) × (word ≡ turned (codeword_of bytes) bit)))

wrote-step : (t tame : Bool) (device : ℕ) (new old word : List ℕ) (count : ℕ) → (t || tame) ≡ true → (tame ≡ true → IsNear (part old device) word count)
    → IsNear (part (cond t new old) device) (cond t (codeword_of (part new device)) word) (cond t 0 count)
wrote-step true tame device new old word count e h = inl (refl, refl)
wrote-step false tame device new old word count e h = h e

mended-near : Repairs → (bytes word : List ℕ) (count : ℕ) → IsNear bytes word count → mended word ≡ codeword_of bytes
mended-near laws bytes word count (inl h) = ap mended h.1 ∙ laws.stays bytes
mended-near laws bytes word count (inr h) = ap mended h.1.2 ∙ laws.undone bytes h.1.0 h.1.1

pub scrubs-step : Repairs → (t : Bool) (bytes word : List ℕ) (count : ℕ) → IsNear bytes word count → IsNear bytes (cond t (mended word) word) (cond t 0 count)
scrubs-step laws true bytes word count h = inl (refl, mended-near laws bytes word count h)
scrubs-step laws false bytes word count h = h

first-turn : (bytes word : List ℕ) (count bit : ℕ) → bit < 136 → count ≡ 0 → IsNear bytes word count → IsNear bytes (turned word bit) (suc count)
first-turn bytes word count bit low e (inl h) = inr (ap suc e, (bit, low, ap (λ w. turned w bit) h.1))
first-turn bytes word count bit low e (inr h) = absurd (omega (arith, e, h.0))

turns-two : (t tame b : Bool) → (tame && not (t && not b)) ≡ true → (tame ≡ true) × (t ≡ true → b ≡ true)
turns-two true true true e = (refl, λ k. refl)
turns-two true true false e = cc
turns-two false true b e = (refl, λ k. let f : false ≡ true = k in cc)
turns-two t false b e = cc

pub turns-step : (t tame : Bool) (bytes word : List ℕ) (count bit : ℕ) → bit < 136 → (tame && not (t && not (count == 0))) ≡ true → (tame ≡ true → IsNear bytes word count)
    → IsNear bytes (cond t (turned word bit) word) (cond t (suc count) count)
turns-step true tame bytes word count bit low e h =
    let k = turns-two true tame (count == 0) e in first-turn bytes word count bit low (eqb-true _ _ (k.1 refl)) (h k.0)
turns-step false tame bytes word count bit low e h = h (turns-two false tame (count == 0) e).0

pub near : Repairs → (changes : List Change) (line device : ℕ) → device < 4 → AreGiven changes → is_tame changes line device ≡ true
    → IsNear (part (last_written changes line) device) (word_after changes line device) (turns_since changes line device)
unfolding zero_word
near laws [] line device low given e = inl (refl, ap codeword_of (zeros-part device low))
near laws (wrote at bytes ∷ changes) line device low given e =
    wrote-step (line == at) (is_tame changes line device) device bytes (last_written changes line) (word_after changes line device) (turns_since changes line device) e
    (near laws changes line device low given.1)
near laws (scrubs at ∷ changes) line device low given e =
    scrubs-step laws (line == at) (part (last_written changes line) device) (word_after changes line device) (turns_since changes line device) (near laws changes line device low given e)
near laws (turns at of bit ∷ changes) line device low given e =
    turns-step (line == at && device == of) (is_tame changes line device) (part (last_written changes line) device) (word_after changes line device) (turns_since changes line device) bit given.0 e
    (near laws changes line device low given.1)

-- ---- What is read of it

-- the data of a word, and that it is not lost
pub record IsRead (bytes word : List ℕ) : Type 0 where
  pub bytes_are : data_read word ≡ bytes
  pub not_lost : (state_of word ≡ Clean) ⊎ (state_of word ≡ Fixed)

abbrev mended_by : Bool → Bool → List ℕ → List ℕ
mended_by a b word = cond a word (cond b (turned word (syndrome_of word - 1)) word)

clean-read : (a b : Bool) (word bytes : List ℕ)
    → cond a (CleanWord (data_of word)) (cond b (FixedWord (data_of (mended_by a b word)) (syndrome_of word)) (LostWord (data_of word) (syndrome_of word))) ≡ CleanWord bytes
    → (data_of (mended_by a b word) ≡ bytes) × ((cond a Clean (cond b Fixed Lost) ≡ Clean) ⊎ (cond a Clean (cond b Fixed Lost) ≡ Fixed))
clean-read true b word bytes e = (cc, inl refl)
clean-read false true word bytes e = cc
clean-read false false word bytes e = cc

fixed-read : (a b : Bool) (word bytes : List ℕ) (place : ℕ)
    → cond a (CleanWord (data_of word)) (cond b (FixedWord (data_of (mended_by a b word)) (syndrome_of word)) (LostWord (data_of word) (syndrome_of word))) ≡ FixedWord bytes place
    → (data_of (mended_by a b word) ≡ bytes) × ((cond a Clean (cond b Fixed Lost) ≡ Clean) ⊎ (cond a Clean (cond b Fixed Lost) ≡ Fixed))
fixed-read true b word bytes place e = cc
fixed-read false true word bytes place e = (cc, inr refl)
fixed-read false false word bytes place e = cc

read-clean : (word bytes : List ℕ) → repaired_of word ≡ CleanWord bytes → IsRead bytes word
unfolding repaired_of mended data_read state_of
read-clean word bytes e = let r = clean-read (syndrome_of word == 0) (nat_le (syndrome_of word) 136) word bytes e in record { bytes_are = r.0; not_lost = r.1 }

read-fixed : (word bytes : List ℕ) (place : ℕ) → repaired_of word ≡ FixedWord bytes place → IsRead bytes word
unfolding repaired_of mended data_read state_of
read-fixed word bytes place e = let r = fixed-read (syndrome_of word == 0) (nat_le (syndrome_of word) 136) word bytes place e in record { bytes_are = r.0; not_lost = r.1 }

pub read-near : Repairs → (bytes word : List ℕ) (count : ℕ) → IsBytes 16 bytes → IsNear bytes word count → IsRead bytes word
read-near laws bytes word count sixteen (inl h) = read-clean word bytes (ap repaired_of h.1 ∙ laws.clean bytes sixteen)
read-near laws bytes word count sixteen (inr h) = read-fixed word bytes (h.1.0 + 1) (ap repaired_of h.1.2 ∙ laws.fixed bytes h.1.0 sixteen h.1.1)
