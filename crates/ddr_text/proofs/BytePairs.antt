-- Digits as pairs that make bytes, as loops read them.
use Rattle.std.proofs.Common.{◌≡◌, ◌≢◌, ◌∙◌, ◌⊎◌, inl, inr, ℕ, suc, ◌+◌, ◌*◌, ◌<◌, ◌≤◌, Bool, true, false, not, ◌&&◌, ◌||◌, List, [], ◌∷◌, length, slice_index, set, Some, Ok, refl, sym, ap, subst, arith}
use Rattle.std.proofs.lemmas.Bool.{cases_eq, cond-true}
use Rattle.std.proofs.lemmas.List.{get_or-set_same, get_or-set_other}
use Rattle.std.specs.List.{list_all}
use Rattle.hex.specs.Hex.{hex_digit_value, digit_or_error, pair_value, decode_pairs, decode_sized, ◌>>=◌}
use Rattle.hex.proofs.Pairs.{decode_sized-pairs}
use Rattle.ddr_text.specs.ByteDigits.{HaveValues, AreLower, ArePairs}
use Rattle.ddr_text.specs.Grammar.{bytes_of, or_hex}
use Rattle.ddr_text.specs.ReportGrammar.{is_lower_digit, lower_bytes_of}

pair_is : (h l i a b : ℕ) → hex_digit_value h ≡ Some a → hex_digit_value l ≡ Some b → pair_value h l i ≡ Ok (a * 16 + b)
pair_is h l i a b e f =
    ap (λ o. digit_or_error h i o >>= (λ x. digit_or_error l (i + 1) (hex_digit_value l) >>= (λ y. Ok (x * 16 + y)))) e
    ∙ ap (λ o. digit_or_error l (i + 1) o >>= (λ y. Ok (a * 16 + y))) f

-- the bytes of digits with these values
pairs : (v : ℕ → ℕ) (i : ℕ) (field bytes : List ℕ) → length field ≡ 2 * length bytes
    → ((j : ℕ) → j < length field → hex_digit_value (slice_index field j) ≡ Some (v j))
    → ((j : ℕ) → j < length bytes → slice_index bytes j ≡ v (2 * j) * 16 + v (2 * j + 1))
    → decode_pairs i field ≡ Ok bytes
unfolding decode_pairs
pairs v i [] [] e d b = refl
pairs v i [] (x ∷ bytes) e d b = absurd (omega (arith, e))
pairs v i (h ∷ []) bytes e d b = absurd (odd (length bytes) e)
  where
    odd : (n : ℕ) → 1 ≡ 2 * n → ⊥
    odd n e = omega (arith, e)
pairs v i (h ∷ l ∷ rest) [] e d b = absurd (omega (arith, e))
pairs v i (h ∷ l ∷ rest) (x ∷ bytes) e d b =
    ap (λ o. o >>= (λ y. decode_pairs (i + 2) rest >>= (λ ys. Ok (y ∷ ys)))) (pair_is h l i (v 0) (v 1) (d 0 (omega arith)) (d 1 (omega arith)))
    ∙ ap (λ o. o >>= (λ ys. Ok ((v 0 * 16 + v 1) ∷ ys))) (pairs (λ j. v (j + 2)) (i + 2) rest bytes (omega (arith, e)) (λ j low. later j (d (suc (suc j)) (omega (arith, low)))) (λ j low. next j (b (suc j) (omega (arith, low)))))
    ∙ ap (λ y. Ok (y ∷ bytes)) (sym (b 0 (omega arith)))
  where
    two : (j : ℕ) → suc (suc j) ≡ j + 2
    two j = omega arith

    later : (j : ℕ) → hex_digit_value (slice_index rest j) ≡ Some (v (suc (suc j))) → hex_digit_value (slice_index rest j) ≡ Some (v (j + 2))
    later j h = h ∙ ap (λ n. Some (v n)) (two j)

    low_is : (j : ℕ) → 2 * suc j ≡ 2 * j + 2
    low_is j = omega arith

    high_is : (j : ℕ) → 2 * suc j + 1 ≡ 2 * j + 1 + 2
    high_is j = omega arith

    next : (j : ℕ) → slice_index bytes j ≡ v (2 * suc j) * 16 + v (2 * suc j + 1) → slice_index bytes j ≡ v (2 * j + 2) * 16 + v (2 * j + 1 + 2)
    next j h = h ∙ ap (λ n. v n * 16 + v (2 * suc j + 1)) (low_is j) ∙ ap (λ n. v (2 * j + 2) * 16 + v n) (high_is j)

all_lower : (xs : List ℕ) → ((j : ℕ) → j < length xs → is_lower_digit (slice_index xs j) ≡ true) → list_all is_lower_digit xs ≡ true
all_lower [] h = refl
all_lower (x ∷ xs) h = both (is_lower_digit x) (list_all is_lower_digit xs) (h 0 (omega arith)) (all_lower xs (λ j low. h (suc j) (omega (arith, low))))
  where
    both : (a b : Bool) → a ≡ true → b ≡ true → (a && b) ≡ true
    both true b e f = f
    both false b e f = e

-- ---- One digit more

below : (j k : ℕ) → j < k + 1 → j ≢ k → j < k
below j k h n = grind arith

value_at : (field values : List ℕ) (k value j : ℕ) → k < length values → (j ≡ k) ⊎ (j ≢ k) → j < k + 1 → HaveValues field values k
    → hex_digit_value (slice_index field k) ≡ Some value
    → hex_digit_value (slice_index field j) ≡ Some (slice_index (set values k value) j)
value_at field values k value j low (inl e) near before here =
    subst (λ i. hex_digit_value (slice_index field i) ≡ Some (slice_index (set values k value) i)) (sym e)
    (subst (λ v. hex_digit_value (slice_index field k) ≡ Some v) (sym (get_or-set_same values k value 0 low)) here)
value_at field values k value j low (inr other) near before here =
    subst (λ v. hex_digit_value (slice_index field j) ≡ Some v) (sym (get_or-set_other values k j value 0 other)) (before j (below j k near other))

pub values_step : (field values : List ℕ) (k value : ℕ) (bad good : Bool) → k < length values → (bad ≡ false → HaveValues field values k)
    → (good ≡ true → hex_digit_value (slice_index field k) ≡ Some value)
    → (bad || not good) ≡ false → HaveValues field (set values k value) (k + 1)
values_step field values k value true good low before here h = absurd cc
values_step field values k value false false low before here h = absurd cc
values_step field values k value false true low before here h = λ j near. value_at field values k value j low (cases_eq j k) near (before refl) (here refl)

lower_at : (field : List ℕ) (k j : ℕ) → (j ≡ k) ⊎ (j ≢ k) → j < k + 1 → AreLower field k → is_lower_digit (slice_index field k) ≡ true
    → is_lower_digit (slice_index field j) ≡ true
lower_at field k j (inl e) near before here = subst (λ i. is_lower_digit (slice_index field i) ≡ true) (sym e) here
lower_at field k j (inr other) near before here = before j (below j k near other)

pub lower_step : (field : List ℕ) (k : ℕ) (bad good : Bool) → (bad ≡ false → AreLower field k)
    → (good ≡ true → is_lower_digit (slice_index field k) ≡ true)
    → (bad || not good) ≡ false → AreLower field (k + 1)
lower_step field k true good before here h = absurd cc
lower_step field k false false before here h = absurd cc
lower_step field k false true before here h = λ j near. lower_at field k j (cases_eq j k) near (before refl) (here refl)

-- ---- One byte more

pair_at : (values bytes : List ℕ) (k byte j : ℕ) → k < length bytes → (j ≡ k) ⊎ (j ≢ k) → j < k + 1 → ArePairs values bytes k
    → byte ≡ slice_index values (2 * k) * 16 + slice_index values (2 * k + 1)
    → slice_index (set bytes k byte) j ≡ slice_index values (2 * j) * 16 + slice_index values (2 * j + 1)
pair_at values bytes k byte j low (inl e) near before here =
    subst (λ i. slice_index (set bytes k byte) i ≡ slice_index values (2 * i) * 16 + slice_index values (2 * i + 1)) (sym e) (get_or-set_same bytes k byte 0 low ∙ here)
pair_at values bytes k byte j low (inr other) near before here = get_or-set_other bytes k j byte 0 other ∙ before j (below j k near other)

pub pairs_step : (values bytes : List ℕ) (k byte : ℕ) → k < length bytes → k < 64
    → ((j : ℕ) → j < 128 → slice_index values j < 16) → ArePairs values bytes k
    → (slice_index values (2 * k) < 16 → slice_index values (2 * k + 1) < 16 → byte ≡ slice_index values (2 * k) * 16 + slice_index values (2 * k + 1))
    → ArePairs values (set bytes k byte) (k + 1)
pairs_step values bytes k byte low near small before here = λ j less.
    pair_at values bytes k byte j low (cases_eq j k) less before (here (small (2 * k) (omega (arith, near))) (small (2 * k + 1) (omega (arith, near))))

-- ---- The field

value_small : (c v : ℕ) → hex_digit_value c ≡ Some v → v < 16
value_small c v h = grind arith

pub values_small : (field values : List ℕ) (k : ℕ) → 128 ≤ k → HaveValues field values k → (j : ℕ) → j < 128 → slice_index values j < 16
values_small field values k all are j low = value_small (slice_index field j) (slice_index values j) (are j (omega (arith, all, low)))

sized : (field values bytes : List ℕ) (k : ℕ) → length field ≡ 128 → length bytes ≡ 64 → 128 ≤ k → HaveValues field values k
    → ArePairs values bytes 64 → decode_sized field 64 ≡ Ok bytes
sized field values bytes k e f all are pair =
    decode_sized-pairs field 64 (omega (arith, e)) (omega (arith, e))
    ∙ pairs (λ j. slice_index values j) 0 field bytes (omega (arith, e, f)) (λ j low. are j (omega (arith, e, all, low)))
    (λ j low. pair j (omega (arith, f, low)))

pub read_whole : (field values bytes : List ℕ) (k : ℕ) → length field ≡ 128 → length bytes ≡ 64 → 128 ≤ k → HaveValues field values k
    → ArePairs values bytes 64 → bytes_of field ≡ Ok bytes
unfolding bytes_of
read_whole field values bytes k e f all are pair = ap or_hex (sized field values bytes k e f all are pair)

pub read_lower : (field values bytes : List ℕ) (k : ℕ) → length field ≡ 128 → length bytes ≡ 64 → 128 ≤ k → HaveValues field values k
    → AreLower field k → ArePairs values bytes 64 → lower_bytes_of 64 field ≡ Ok bytes
unfolding lower_bytes_of
read_lower field values bytes k e f all are lower pair =
    cond-true (list_all is_lower_digit field) _ _ (all_lower field (λ j low. lower j (omega (arith, e, all, low))))
    ∙ ap or_hex (sized field values bytes k e f all are pair)
