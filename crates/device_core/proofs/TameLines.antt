-- A line whose words took few turned bits is read as it was last written.
use Rattle.std.proofs.Common.{◌≡◌, ℕ, ◌<◌, ◌++◌, inr, true, List, refl, ap, ◌∙◌, arith, append_assoc}
use Rattle.ondie_ecc.specs.Bits.{IsBytes}
use Rattle.ondie_ecc.specs.declared.state.ReadState.{ReadState}
use Rattle.ondie_ecc.specs.declared.state.ReadState.TheVariants.{Clean, Fixed, Lost}
use Rattle.error_scrub.specs.Changes.{Change, word_after}
use Rattle.error_scrub.specs.Reading.{worse, IsGood}
use Rattle.error_scrub.specs.Tame.{is_tame, IsTame, last_written, AreGiven}
use Rattle.device_core.specs.Stored.{reading}
use Rattle.error_scrub.proofs.LineBytes.{part, parts, sixteen, last-bytes}
use Rattle.device_core.proofs.NearWords.{Repairs, IsRead, near, read-near}

word-read : Repairs → (changes : List Change) (line device : ℕ) → device < 4 → AreGiven changes → is_tame changes line device ≡ true → IsRead (part (last_written changes line) device) (word_after changes line device)
word-read laws changes line device low given tame =
    read-near laws (part (last_written changes line) device) (word_after changes line device) _ (sixteen (last_written changes line) device low (last-bytes changes line given)) (near laws changes line device low given tame)

-- four devices read, and their bytes are the line's
pub parts-read : (bytes a b c d : List ℕ) → IsBytes 64 bytes → a ≡ part bytes 0 → b ≡ part bytes 1 → c ≡ part bytes 2 → d ≡ part bytes 3 → ((a ++ b) ++ c) ++ d ≡ bytes
parts-read bytes a b c d whole e f g h =
    ap (λ x. ((x ++ b) ++ c) ++ d) e ∙ ap (λ x. ((part bytes 0 ++ x) ++ c) ++ d) f ∙ ap (λ x. ((part bytes 0 ++ part bytes 1) ++ x) ++ d) g ∙ ap (λ x. ((part bytes 0 ++ part bytes 1) ++ part bytes 2) ++ x) h
    ∙ append_assoc (part bytes 0 ++ part bytes 1) (part bytes 2) (part bytes 3)
    ∙ append_assoc (part bytes 0) (part bytes 1) (part bytes 2 ++ part bytes 3)
    ∙ parts bytes whole.counted

pub good-worse : (a b : ReadState) → IsGood a → IsGood b → IsGood (worse a b)
good-worse Clean b h k = k
good-worse Fixed Clean h k = inr refl
good-worse Fixed Fixed h k = inr refl
good-worse Fixed Lost h k = k
good-worse Lost b h k = h

-- the reading of a tame line has the bytes that the line was last written with
pub record IsPlain (changes : List Change) (line : ℕ) : Type 0 where
  pub bytes : (reading changes line).bytes ≡ last_written changes line
  pub state : IsGood (reading changes line).state

pub plain-reading : Repairs → (changes : List Change) (line : ℕ) → AreGiven changes → IsTame changes line → IsPlain changes line
unfolding reading
plain-reading laws changes line given tame =
    let w0 = word-read laws changes line 0 (omega arith) given (tame 0 (omega arith)) in
    let w1 = word-read laws changes line 1 (omega arith) given (tame 1 (omega arith)) in
    let w2 = word-read laws changes line 2 (omega arith) given (tame 2 (omega arith)) in
    let w3 = word-read laws changes line 3 (omega arith) given (tame 3 (omega arith)) in
    record {
      bytes = parts-read (last_written changes line) _ _ _ _ (last-bytes changes line given) w0.bytes_are w1.bytes_are w2.bytes_are w3.bytes_are;
      state = good-worse _ _ (good-worse _ _ w0.not_lost w1.not_lost) (good-worse _ _ w2.not_lost w3.not_lost);
    }
