-- Bytes of a line, the 16 of each of its four devices, what a reading finds of them, and what a line was last written with.
use Rattle.std.proofs.Common.{◌≡◌, ℕ, zero, suc, ◌+◌, ◌*◌, ◌<◌, ◌≤◌, ◌==◌, Bool, true, cond, List, [], ◌∷◌, ◌++◌, length, replicate, take, drop, refl, sym, ap, ◌∙◌, arith, append-nil}
use Rattle.std.specs.Prelude.{slice_index, slice_range}
use Rattle.std.proofs.lemmas.List.{length-take, append_assoc}
use Rattle.std.proofs.lemmas.List.Folds.{drop_split}
use Rattle.ondie_ecc.specs.Bits.{IsBytes}
use Rattle.std.specs.Prelude.{false, Some, None}
use Rattle.ondie_ecc.specs.Codeword.{codeword_of, data_of}
use Rattle.ondie_ecc.specs.Repaired.{mended}
use Rattle.ondie_ecc.specs.declared.state.ReadState.{ReadState}
use Rattle.ondie_ecc.specs.declared.state.ReadState.TheVariants.{Clean}
use Rattle.ondie_ecc.proofs.Checks.{syndrome_of-codeword, data_of-codeword}
use Rattle.ondie_ecc.proofs.LawLemmas.{mended-codeword}
use Rattle.error_scrub.specs.declared.cells.LineRead.{LineRead}
use Rattle.error_scrub.specs.declared.stored.Stored.{Stored}
use Rattle.error_scrub.specs.declared.stored.Stored.TheVariants.{Bytes}
use Rattle.error_scrub.specs.Changes.{Change, wrote, turns, scrubs}
use Rattle.error_scrub.specs.Cells.{zero_word, written, word_of, read_of}
use Rattle.error_scrub.specs.Reading.{data_read, state_of, worse}
use Rattle.error_scrub.specs.Scrubbing.{is_fixed, is_lost}
use Rattle.error_scrub.specs.Tame.{AreGiven, last_written}
use Rattle.error_scrub.proofs.WordKinds.{clean_state, clean_fixed, clean_lost}
use Rattle.error_scrub.proofs.ZeroWords.{read_is}

-- the bytes of a line that was never written
abbrev pub zeros : List ℕ
zeros = replicate 64 0

-- the bytes of a device
abbrev pub part : List ℕ → ℕ → List ℕ
part bytes device = slice_range bytes (16 * device) (16 * device + 16)

abbrev IsSmall : List ℕ → Type 0
IsSmall xs = (i : ℕ) → slice_index xs i < 256

small-none : IsSmall []
small-none i = omega arith

small-take : (n : ℕ) (xs : List ℕ) → IsSmall xs → IsSmall (take n xs)
small-take zero xs h i = omega arith
small-take (suc n) [] h i = omega arith
small-take (suc n) (x ∷ xs) h zero = h 0
small-take (suc n) (x ∷ xs) h (suc i) = small-take n xs (λ j. h (suc j)) i

small-drop : (n : ℕ) (xs : List ℕ) → IsSmall xs → IsSmall (drop n xs)
small-drop zero xs h i = h i
small-drop (suc n) [] h i = omega arith
small-drop (suc n) (x ∷ xs) h i = small-drop n xs (λ j. h (suc j)) i

small-zeros : (n : ℕ) → IsSmall (replicate n 0)
small-zeros zero i = omega arith
small-zeros (suc n) zero = omega arith
small-zeros (suc n) (suc i) = small-zeros n i

length-drop : (n : ℕ) (xs : List ℕ) (m : ℕ) → length xs ≡ n + m → length (drop n xs) ≡ m
length-drop zero xs m e = omega (arith, e)
length-drop (suc n) [] m e = absurd (omega (arith, e))
length-drop (suc n) (x ∷ xs) m e = length-drop n xs m (omega (arith, e))

length-front : (n : ℕ) (xs : List ℕ) → n ≤ length xs → length (take n xs) ≡ n
length-front n xs le = omega (arith, length-take n xs, le)

sixteen-at : (bytes : List ℕ) (from rest : ℕ) → IsBytes 64 bytes → 64 ≡ from + (16 + rest) → IsBytes 16 (take 16 (drop from bytes))
sixteen-at bytes from rest h e =
    let behind : length (drop from bytes) ≡ 16 + rest = length-drop from bytes (16 + rest) (h.counted ∙ e) in
    record {
      counted = length-front 16 (drop from bytes) (omega (arith, behind));
      small = small-take 16 (drop from bytes) (small-drop from bytes h.small);
    }

pub sixteen : (bytes : List ℕ) (device : ℕ) → device < 4 → IsBytes 64 bytes → IsBytes 16 (part bytes device)
sixteen bytes zero low h = sixteen-at bytes 0 48 h refl
sixteen bytes (suc zero) low h = sixteen-at bytes 16 32 h refl
sixteen bytes (suc (suc zero)) low h = sixteen-at bytes 32 16 h refl
sixteen bytes (suc (suc (suc zero))) low h = sixteen-at bytes 48 0 h refl
sixteen bytes (suc (suc (suc (suc device)))) low h = absurd (omega (arith, low))

drop-whole : (n : ℕ) (xs : List ℕ) → length xs ≡ n → drop n xs ≡ []
drop-whole zero [] e = refl
drop-whole zero (x ∷ xs) e = absurd (omega (arith, e))
drop-whole (suc n) [] e = refl
drop-whole (suc n) (x ∷ xs) e = drop-whole n xs (omega (arith, e))

-- the four parts make the line
pub parts : (bytes : List ℕ) → length bytes ≡ 64 → part bytes 0 ++ (part bytes 1 ++ (part bytes 2 ++ part bytes 3)) ≡ bytes
parts bytes e = sym
    (drop_split bytes 0 16 (omega arith)
    ∙ ap (λ l. slice_range bytes 0 16 ++ l) (drop_split bytes 16 32 (omega arith)
    ∙ ap (λ l. slice_range bytes 16 32 ++ l) (drop_split bytes 32 48 (omega arith)
    ∙ ap (λ l. slice_range bytes 32 48 ++ l) (drop_split bytes 48 64 (omega arith)
    ∙ ap (λ l. slice_range bytes 48 64 ++ l) (drop-whole 64 bytes e) ∙ append-nil (slice_range bytes 48 64)))))

-- ---- What a reading finds

data_of-word : (bytes : List ℕ) → IsBytes 16 bytes → data_read (codeword_of bytes) ≡ bytes
unfolding data_read
data_of-word bytes h = ap data_of (mended-codeword bytes) ∙ data_of-codeword bytes h

state_of-word : (bytes : List ℕ) → state_of (codeword_of bytes) ≡ Clean
state_of-word bytes = clean_state (codeword_of bytes) (syndrome_of-codeword bytes)

all_clean : (a b c d : ReadState) → a ≡ Clean → b ≡ Clean → c ≡ Clean → d ≡ Clean → Clean ≡ worse (worse a b) (worse c d)
all_clean a b c d h0 h1 h2 h3 = rw (h0, h1, h2, h3) refl

four_same : (w x y z a b c d : List ℕ) → w ≡ a → x ≡ b → y ≡ c → z ≡ d → w ++ x ++ y ++ z ≡ a ++ b ++ c ++ d
four_same w x y z a b c d h0 h1 h2 h3 = rw (h0, h1, h2, h3) refl

left_nested : (a b c d : List ℕ) → a ++ b ++ c ++ d ≡ a ++ (b ++ (c ++ d))
left_nested a b c d = append_assoc (a ++ b) c d ∙ append_assoc a b (c ++ d)

data_of-zero : data_read zero_word ≡ replicate 16 0
unfolding zero_word
data_of-zero = data_of-word (replicate 16 0) (record { counted = refl; small = small-zeros 16 })

state_of-zero : state_of zero_word ≡ Clean
unfolding zero_word
state_of-zero = state_of-word (replicate 16 0)

pub read_none : ◌≡◌ {A = LineRead} (record { bytes = replicate 64 0; state = Clean }) (read_of None)
read_none = read_is None (replicate 64 0) Clean zero_word zero_word zero_word zero_word refl refl refl refl
    (sym (four_same (data_read zero_word) (data_read zero_word) (data_read zero_word) (data_read zero_word) (replicate 16 0) (replicate 16 0) (replicate 16 0) (replicate 16 0) data_of-zero data_of-zero data_of-zero data_of-zero))
    (all_clean (state_of zero_word) (state_of zero_word) (state_of zero_word) (state_of zero_word) state_of-zero state_of-zero state_of-zero state_of-zero)

pub read_bytes : (bytes : List ℕ) → IsBytes 64 bytes → ◌≡◌ {A = LineRead} (record { bytes = bytes; state = Clean }) (read_of (Some (Bytes bytes)))
read_bytes bytes h = read_is (Some (Bytes bytes)) bytes Clean (written bytes 0) (written bytes 1) (written bytes 2) (written bytes 3) refl refl refl refl
    (sym (four_same (data_read (written bytes 0)) (data_read (written bytes 1)) (data_read (written bytes 2)) (data_read (written bytes 3)) (part bytes 0) (part bytes 1) (part bytes 2) (part bytes 3)
    (data_of-word (part bytes 0) (sixteen bytes 0 (omega arith) h)) (data_of-word (part bytes 1) (sixteen bytes 1 (omega arith) h))
    (data_of-word (part bytes 2) (sixteen bytes 2 (omega arith) h)) (data_of-word (part bytes 3) (sixteen bytes 3 (omega arith) h))
    ∙ left_nested (part bytes 0) (part bytes 1) (part bytes 2) (part bytes 3) ∙ parts bytes h.counted))
    (all_clean (state_of (written bytes 0)) (state_of (written bytes 1)) (state_of (written bytes 2)) (state_of (written bytes 3))
    (state_of-word (part bytes 0)) (state_of-word (part bytes 1)) (state_of-word (part bytes 2)) (state_of-word (part bytes 3)))

-- ---- A scrub of what is kept as bytes

pub written-mended : (kept : Stored) (bytes : List ℕ) (device : ℕ) → kept ≡ Bytes bytes → word_of kept device ≡ mended (word_of kept device)
written-mended kept bytes device e = rw e (sym (mended-codeword (part bytes device)))

pub written-not_fixed : (kept : Stored) (bytes : List ℕ) (device : ℕ) → kept ≡ Bytes bytes → is_fixed (word_of kept device) ≡ false
written-not_fixed kept bytes device e = rw e (clean_fixed (written bytes device) (syndrome_of-codeword (part bytes device)))

pub written-not_lost : (kept : Stored) (bytes : List ℕ) (device : ℕ) → kept ≡ Bytes bytes → is_lost (word_of kept device) ≡ false
written-not_lost kept bytes device e = rw e (clean_lost (written bytes device) (syndrome_of-codeword (part bytes device)))

-- ---- What a line was last written with

zeros-bytes : IsBytes 64 zeros
zeros-bytes = record { counted = refl; small = small-zeros 64 }

pub zeros-part : (device : ℕ) → device < 4 → replicate 16 0 ≡ part zeros device
zeros-part zero low = refl
zeros-part (suc zero) low = refl
zeros-part (suc (suc zero)) low = refl
zeros-part (suc (suc (suc zero))) low = refl
zeros-part (suc (suc (suc (suc device)))) low = absurd (omega (arith, low))

bytes-cond : (b : Bool) (new old : List ℕ) → IsBytes 64 new → IsBytes 64 old → IsBytes 64 (cond b new old)
bytes-cond true new old h k = h
bytes-cond false new old h k = k

pub last-bytes : (changes : List Change) (line : ℕ) → AreGiven changes → IsBytes 64 (last_written changes line)
last-bytes [] line given = zeros-bytes
last-bytes (wrote at bytes ∷ changes) line given = bytes-cond (line == at) bytes (last_written changes line) given.0 (last-bytes changes line given.1)
last-bytes (turns at of bit ∷ changes) line given = last-bytes changes line given.1
last-bytes (scrubs at ∷ changes) line given = last-bytes changes line given
