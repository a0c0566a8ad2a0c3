-- The codeword of zeros has no set bit, and a scrub leaves it.
use Rattle.std.proofs.Common.{◌≡◌, ℕ, zero, suc, ◌<◌, false, List, [], ◌∷◌, ◌++◌, ◌∙◌, length, take, drop, slice_index_or, replicate, Option, None, refl, sym, ap, arith}
use Rattle.std.specs.Ordering.{nat_cmp}
use Rattle.std.specs.BTreeMap.{get}
use Rattle.std.proofs.lemmas.List.{append-nil, take_at, drop_at, drop_all}
use Rattle.ondie_ecc.specs.declared.codeword.Codeword.{Codeword}
use Rattle.ondie_ecc.specs.Bits.{packed}
use Rattle.ondie_ecc.specs.Codeword.{is_check, data_bits_below, syndrome_below, syndrome_of, laid, codeword_of}
use Rattle.ondie_ecc.specs.Repaired.{mended}
use Rattle.ondie_ecc.specs.declared.state.ReadState.{ReadState}
use Rattle.error_scrub.specs.declared.cells.Cells.{Cells}
use Rattle.error_scrub.specs.declared.stored.Stored.{Stored}
use Rattle.error_scrub.specs.declared.cells.LineRead.{LineRead}
use Rattle.error_scrub.specs.Reading.{data_read, state_of, worse}
use Rattle.error_scrub.specs.Cells.{line_read, read_of, scrubbed, stored, word_in, zero_word}
use Rattle.error_scrub.specs.Scrubbing.{is_fixed, is_lost}
use Rattle.error_scrub.proofs.WordKinds.{clean_fixed, clean_lost}

pub zero_word-is : zero_word ≡ replicate 17 0
unfolding zero_word codeword_of laid packed is_check data_bits_below syndrome_of syndrome_below
zero_word-is = refl

no_syndrome : syndrome_of (replicate 17 0) ≡ 0
unfolding syndrome_of syndrome_below
no_syndrome = refl

pub syndrome_of-zero : syndrome_of zero_word ≡ 0
syndrome_of-zero = ap syndrome_of zero_word-is ∙ no_syndrome

pub mended-zero : mended zero_word ≡ zero_word
unfolding mended
mended-zero = rw syndrome_of-zero

pub zero-not_fixed : is_fixed zero_word ≡ false
zero-not_fixed = clean_fixed zero_word syndrome_of-zero

pub zero-not_lost : is_lost zero_word ≡ false
zero-not_lost = clean_lost zero_word syndrome_of-zero

-- a fact of each of four words
pub four : (f : ℕ → List ℕ) (w0 w1 w2 w3 z : Codeword) → w0.0 ≡ f 0 → w1.0 ≡ f 1 → w2.0 ≡ f 2 → w3.0 ≡ f 3
    → (device : ℕ) → device < 4 → (slice_index_or {A = Codeword} (w0 ∷ w1 ∷ w2 ∷ w3 ∷ []) device z).0 ≡ f device
four f w0 w1 w2 w3 z h0 h1 h2 h3 zero near = h0
four f w0 w1 w2 w3 z h0 h1 h2 h3 (suc zero) near = h1
four f w0 w1 w2 w3 z h0 h1 h2 h3 (suc (suc zero)) near = h2
four f w0 w1 w2 w3 z h0 h1 h2 h3 (suc (suc (suc zero))) near = h3
four f w0 w1 w2 w3 z h0 h1 h2 h3 (suc (suc (suc (suc device)))) near = absurd (omega arith)

-- a half is laid over the second half of a list
pub over : (n : ℕ) (a z b : List ℕ) → length a ≡ n → length z ≡ n → take n (a ++ z) ++ (b ++ drop n (drop n (a ++ z))) ≡ a ++ b
over n a z b la lz =
    let front : take n (a ++ z) ≡ a = take_at a z n la in
    let rest : drop n (a ++ z) ≡ z = drop_at a z n la in
    let none : drop n z ≡ [] = drop_all n z (omega arith) in
    rw (front, rest, none, append-nil b)

-- a reading, from the words that it found
pub read_is : (kept : Option Stored) (bytes : List ℕ) (state : ReadState) (w0 w1 w2 w3 : List ℕ)
    → w0 ≡ word_in kept 0 → w1 ≡ word_in kept 1 → w2 ≡ word_in kept 2 → w3 ≡ word_in kept 3
    → bytes ≡ data_read w0 ++ data_read w1 ++ data_read w2 ++ data_read w3
    → state ≡ worse (worse (state_of w0) (state_of w1)) (worse (state_of w2) (state_of w3))
    → ◌≡◌ {A = LineRead} (record { bytes = bytes; state = state }) (read_of kept)
read_is kept bytes state w0 w1 w2 w3 h0 h1 h2 h3 isbytes isstate = rw (isbytes, isstate, h0, h1, h2, h3)

-- what is read of what is kept is the reading of the line
pub line_is : (cells : Cells) (line : ℕ) (kept : Option Stored) → kept ≡ get nat_cmp cells.kept line → read_of kept ≡ line_read cells line
unfolding line_read stored
line_is cells line kept e = ap read_of e

pub joined_is : (b0 b1 b2 b3 d0 d1 d2 d3 : List ℕ) → b0 ≡ d0 → b1 ≡ d1 → b2 ≡ d2 → b3 ≡ d3 → b0 ++ b1 ++ b2 ++ b3 ≡ d0 ++ d1 ++ d2 ++ d3
joined_is b0 b1 b2 b3 d0 d1 d2 d3 h0 h1 h2 h3 = cc

pub worst_is : (s a b a0 a1 b0 b1 t0 t1 t2 t3 : ReadState) → s ≡ worse a b → a ≡ worse a0 a1 → b ≡ worse b0 b1
    → a0 ≡ t0 → a1 ≡ t1 → b0 ≡ t2 → b1 ≡ t3 → s ≡ worse (worse t0 t1) (worse t2 t3)
worst_is s a b a0 a1 b0 b1 t0 t1 t2 t3 hs ha hb h0 h1 h2 h3 = cc

-- a line that is not kept has words of zeros
pub zero_at : (cells : Cells) (line device : ℕ) → None ≡ get nat_cmp cells.kept line → stored cells line device ≡ zero_word
unfolding stored
zero_at cells line device none = sym (ap (λ (w : Option Stored). word_in w device) none)

-- a scrub leaves the words of such a line
pub scrubbed-zero : (cells : Cells) (line device : ℕ) → None ≡ get nat_cmp cells.kept line → stored cells line device ≡ scrubbed cells line device
scrubbed-zero cells line device none =
    zero_at cells line device none ∙ sym mended-zero ∙ ap mended (sym (zero_at cells line device none))
