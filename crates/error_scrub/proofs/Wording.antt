-- The counts of a scrub, and a stored word, equal what their wording says of the steps and the changes.
use Rattle.std.proofs.Common.{◌≡◌, ◌≢◌, ◌∙◌, ℕ, suc, ◌+◌, ◌*◌, ◌/◌, ◌%◌, ◌<◌, ◌≤◌, ◌⊎◌, ◌==◌, inl, inr, Bool, true, false, not, ◌&&◌, if◌then◌else◌, cond, max, nat_lt, refl, sym, ap, subst, arith, mul-le-mul, Option, Some, None, List, [], ◌∷◌, length, filter, find, fold, take_while}
use Rattle.std.specs.Prelude.{reverse}
use Rattle.std.proofs.Math.Nat.{div-lt_iff_lt-mul, div-mul-le_self, lt-div-mul-add, mod-eq-sub-div-mul, add-mul-mod_self_right, add-mul-div_right, mod-eq_of_lt, div-eq_of_lt, mod-lt}
use Rattle.std.proofs.lemmas.Nat.{div-add-mod'}
use Rattle.std.proofs.lemmas.Bool.{cases_eq}
use Rattle.std.proofs.lemmas.Bool.Decides.{nat_tests}
use Rattle.std.proofs.lemmas.List.{reverse-append}
use Rattle.std.proofs.lemmas.List.Sums.{take_while-cons, fold-append}
use Rattle.command_words.specs.Geometry.{Shape, lines_of}
use Rattle.ondie_ecc.specs.Bits.{turned}
use Rattle.ondie_ecc.specs.Repaired.{mended}
use Rattle.error_scrub.specs.Cells.{written, zero_word}
use Rattle.error_scrub.specs.Changes.{Change, wrote, turns, scrubs, word_after}
use Rattle.error_scrub.specs.Scrubbing.{Step, fixed_in, lost_in, visit_length, visit_of, worst_of, line_after, worst_row_of}

-- ---- Visits: the steps are numbered from 0, and visit k has n of them, from number k * n on; the last may have fewer

-- how many words the steps of visit k fixed or lost
abbrev pub found_in_visit : ℕ → ℕ → List Step → ℕ
found_in_visit n k [] = 0
found_in_visit n k (step ∷ log) = (if length log / n == k then fixed_in step + lost_in step else 0) + found_in_visit n k log

same_test : (a b : ℕ) → a ≡ b → (a == b) ≡ true
same_test a b e = grind arith

other_test : (a b : ℕ) → a ≢ b → (a == b) ≡ false
other_test a b e = grind arith

told_zero : (a : ℕ) → (a == 0) ≡ true → a ≡ 0
told_zero a e = grind (arith, nat_tests)

told_other : (a : ℕ) → (a == 0) ≡ false → a ≢ 0
told_other a e = grind (arith, nat_tests)

either_way : (a b : ℕ) → (a < b) ⊎ (b ≤ a)
either_way a b = grind arith

apart_way : (a b : ℕ) → a ≢ b → (a < b) ⊎ (b < a)
apart_way a b apart = grind arith

-- a visit that has not begun
not_begun : (n k : ℕ) (log : List Step) → 0 < n → length log ≤ k * n → found_in_visit n k log ≡ 0
not_begun n k [] some short = refl
not_begun n k (step ∷ log) some short =
    let below : length log < k * n = omega arith in
    let low : length log / n < k = (div-lt_iff_lt-mul some).1 below in
    let apart : (length log / n == k) ≡ false = other_test (length log / n) k (λ e. absurd (omega (arith, e, low))) in
    let none : found_in_visit n k log ≡ 0 = not_begun n k log some (omega arith) in
    rw (apart, none) refl

elsewhere : (n k : ℕ) (step : Step) (log : List Step) → k ≢ length log / n → found_in_visit n k (step ∷ log) ≡ found_in_visit n k log
elsewhere n k step log apart =
    let test : (length log / n == k) ≡ false = other_test (length log / n) k (λ e. apart (sym e)) in
    rw test (omega arith)

here : (n : ℕ) (step : Step) (log : List Step) → found_in_visit n (length log / n) (step ∷ log) ≡ fixed_in step + lost_in step + found_in_visit n (length log / n) log
here n step log = let test : (length log / n == length log / n) ≡ true = same_test (length log / n) (length log / n) refl in rw test refl

first_of_visit : (m n : ℕ) → m % n ≡ 0 → m ≤ m / n * n
first_of_visit m n first = let e = mod-eq-sub-div-mul m n in omega (arith, e, first)

step_up : (p q n : ℕ) → p < q → p * n + n ≤ q * n
step_up p q n low =
    let up : suc p ≤ q = omega arith in
    let same : n ≤ n = omega arith in
    let m : suc p * n ≤ q * n = mul-le-mul up same in
    omega (arith, m)

-- a step that is not the first of its visit is of the visit of the step before it
goes_on : (m n : ℕ) → 0 < n → suc m % n ≢ 0 → suc m / n ≡ m / n
goes_on m n some inner = elim (cases_eq (suc m / n) (m / n)) [
  | inl same ↦ same
  | inr apart ↦ elim (apart_way (suc m / n) (m / n) apart) [
    | inl low ↦
        let a = div-mul-le_self m n in
        let b : suc m < suc m / n * n + n = lt-div-mul-add some in
        let up = step_up (suc m / n) (m / n) n low in
        absurd (omega (arith, a, b, up))
    | inr high ↦
        let a = div-mul-le_self (suc m) n in
        let b : m < m / n * n + n = lt-div-mul-add some in
        let up = step_up (m / n) (suc m / n) n high in
        let e = mod-eq-sub-div-mul (suc m) n in
        absurd (inner (omega (arith, a, b, up, e)))
  ]
]

visit_is : (g : Shape) (step : Step) (log : List Step) → 0 < visit_length g → visit_of g (step ∷ log) ≡ found_in_visit (visit_length g) (length log / visit_length g) (step ∷ log)
visit_is g step [] some = rw (here (visit_length g) step []) (go (0 % visit_length g == 0))
  where
    go : (t : Bool) → fixed_in step + lost_in step + cond t 0 0 ≡ fixed_in step + lost_in step + 0
    go true = refl
    go false = refl
visit_is g step (last ∷ log) some = rw (here (visit_length g) step (last ∷ log)) (go (suc (length log) % visit_length g == 0) refl (visit_is g last log some))
  where
    go : (t : Bool) → (suc (length log) % visit_length g == 0) ≡ t → visit_of g (last ∷ log) ≡ found_in_visit (visit_length g) (length log / visit_length g) (last ∷ log)
        → fixed_in step + lost_in step + cond t 0 (visit_of g (last ∷ log)) ≡ fixed_in step + lost_in step + found_in_visit (visit_length g) (suc (length log) / visit_length g) (last ∷ log)
    go true e before =
        let none : found_in_visit (visit_length g) (suc (length log) / visit_length g) (last ∷ log) ≡ 0 =
        not_begun (visit_length g) (suc (length log) / visit_length g) (last ∷ log) some (first_of_visit (suc (length log)) (visit_length g) (told_zero _ e)) in
        ap (λ (x : ℕ). fixed_in step + lost_in step + x) (sym none)
    go false e before =
        let on : suc (length log) / visit_length g ≡ length log / visit_length g = goes_on (length log) (visit_length g) some (told_other _ e) in
        ap (λ (x : ℕ). fixed_in step + lost_in step + x) (before ∙ ap (λ (k : ℕ). found_in_visit (visit_length g) k (last ∷ log)) (sym on))

-- ---- `worst` is the greatest number of such words in one visit

pub record IsGreatest (n : ℕ) (log : List Step) (worst : ℕ) : Type 0 where
  pub visit : ℕ
  pub reached : found_in_visit n visit log ≡ worst
  pub none_above : (k : ℕ) → found_in_visit n k log ≤ worst

second_max : (w v : ℕ) → w ≤ v → max w v ≡ v
second_max w v low = grind (arith, nat_tests)

first_max : (w v : ℕ) → v ≤ w → max w v ≡ w
first_max w v low = grind (arith, nat_tests)

-- one step more, whose visit has found v words with it
none_above_step : (n w v : ℕ) (step : Step) (log : List Step) → v ≡ found_in_visit n (length log / n) (step ∷ log)
    → ((j : ℕ) → found_in_visit n j log ≤ w) → (k : ℕ) → (found_in_visit n k (step ∷ log) ≡ v) ⊎ (found_in_visit n k (step ∷ log) ≤ w)
none_above_step n w v step log is low k = elim (cases_eq k (length log / n)) [
  | inl same ↦ inl (ap (λ (j : ℕ). found_in_visit n j (step ∷ log)) same ∙ sym is)
  | inr apart ↦ let e = elsewhere n k step log apart in let l = low k in inr (omega (arith, e, l))
]

greater_step : (n w v : ℕ) (step : Step) (log : List Step) → v ≡ found_in_visit n (length log / n) (step ∷ log) → IsGreatest n log w → w < v → IsGreatest n (step ∷ log) v
greater_step n w v step log is before more = record {
  visit = length log / n;
  reached = sym is;
  none_above = λ k. elim (none_above_step n w v step log is before.none_above k) [
    | inl e ↦ omega (arith, e)
    | inr low ↦ omega (arith, low, more)
  ];
}

-- where the visit has found no more than the greatest, each visit with the greatest number has it still
still_reached : (n w v k : ℕ) (step : Step) (log : List Step) → v ≡ found_in_visit n (length log / n) (step ∷ log) → v ≤ w → found_in_visit n k log ≡ w → found_in_visit n k (step ∷ log) ≡ w
still_reached n w v k step log is most reached = elim (cases_eq k (length log / n)) [
  | inl same ↦
      let h = here n step log in
      let r : found_in_visit n (length log / n) log ≡ w = ap (λ (j : ℕ). found_in_visit n j log) (sym same) ∙ reached in
      let all : found_in_visit n (length log / n) (step ∷ log) ≡ w = omega (arith, h, r, is, most) in
      ap (λ (j : ℕ). found_in_visit n j (step ∷ log)) same ∙ all
  | inr apart ↦ elsewhere n k step log apart ∙ reached
]

same_step : (n w v : ℕ) (step : Step) (log : List Step) → v ≡ found_in_visit n (length log / n) (step ∷ log) → IsGreatest n log w → v ≤ w → IsGreatest n (step ∷ log) w
same_step n w v step log is before most = record {
  visit = before.visit;
  reached = still_reached n w v before.visit step log is most before.reached;
  none_above = λ k. elim (none_above_step n w v step log is before.none_above k) [
    | inl e ↦ omega (arith, e, most)
    | inr low ↦ low
  ];
}

pub worst_is_greatest : (g : Shape) (log : List Step) → 0 < visit_length g → IsGreatest (visit_length g) log (worst_of g log)
worst_is_greatest g [] some = record { visit = 0; reached = refl; none_above = λ k. omega arith }
worst_is_greatest g (step ∷ log) some = go (visit_of g (step ∷ log)) (visit_is g step log some) (worst_is_greatest g log some) (either_way (worst_of g log) (visit_of g (step ∷ log)))
  where
    go : (v : ℕ) → v ≡ found_in_visit (visit_length g) (length log / visit_length g) (step ∷ log) → IsGreatest (visit_length g) log (worst_of g log)
        → (worst_of g log < v) ⊎ (v ≤ worst_of g log) → IsGreatest (visit_length g) (step ∷ log) (max (worst_of g log) v)
    go v is before (inl more) = subst (IsGreatest (visit_length g) (step ∷ log)) (sym (second_max (worst_of g log) v (omega arith))) (greater_step (visit_length g) (worst_of g log) v step log is before more)
    go v is before (inr most) = subst (IsGreatest (visit_length g) (step ∷ log)) (sym (first_max (worst_of g log) v most)) (same_step (visit_length g) (worst_of g log) v step log is before most)

-- ---- `worst_row` is the row number of the first visit with so many, and 0 where `worst` is 0

pub record IsFirst (n : ℕ) (log : List Step) (worst visit : ℕ) : Type 0 where
  pub reached : found_in_visit n visit log ≡ worst
  pub before : (j : ℕ) → j < visit → found_in_visit n j log < worst

first_new : (n w v : ℕ) (step : Step) (log : List Step) → v ≡ found_in_visit n (length log / n) (step ∷ log) → ((j : ℕ) → found_in_visit n j log ≤ w) → w < v → IsFirst n (step ∷ log) v (length log / n)
first_new n w v step log is low more = record {
  reached = sym is;
  before = λ j early.
      let e = elsewhere n j step log (λ same. absurd (omega (arith, same, early))) in
      let l = low j in
      omega (arith, e, l, more);
}

first_still : (n w v k : ℕ) (step : Step) (log : List Step) → 0 < n → 0 < w → v ≡ found_in_visit n (length log / n) (step ∷ log) → v ≤ w → IsFirst n log w k → IsFirst n (step ∷ log) w k
first_still n w v k step log some found is most first = record {
  reached = still_reached n w v k step log is most first.reached;
  before = λ j early. elim (cases_eq j (length log / n)) [
    | inl same ↦
        let later : length log / n < k = omega (arith, same, early) in
        let short : length log < k * n = (div-lt_iff_lt-mul some).0 later in
        let none = not_begun n k log some (omega (arith, short)) in
        let r = first.reached in
        absurd (omega (arith, none, r, found))
    | inr apart ↦ let e = elsewhere n j step log apart in let b = first.before j early in omega (arith, e, b)
  ];
}

-- the row number that the step of this number visits: the rows come in turn, one a visit
row_of_step : (m n rows : ℕ) → 0 < n → 0 < rows → m % (rows * n) / n ≡ m / n % rows
row_of_step m n rows some filled =
    let t : ℕ = m / n % rows in
    let u : ℕ = m / n / rows in
    let s : ℕ = m % n in
    let within : s < n = mod-lt m some in
    let low : t < rows = mod-lt (m / n) filled in
    let whole : m / n * n + s ≡ m = div-add-mod' m n in
    let round : u * rows + t ≡ m / n = div-add-mod' (m / n) rows in
    let parts : (u * rows + t) * n ≡ m / n * n = ap (λ (x : ℕ). x * n) round in
    let sum : m ≡ s + t * n + u * (rows * n) = omega (arith, whole, parts) in
    let up : t * n + n ≤ rows * n = step_up t rows n low in
    let below : s + t * n < rows * n = omega (arith, within, up) in
    let rest : m % (rows * n) ≡ s + t * n = ap (λ (x : ℕ). x % (rows * n)) sum ∙ add-mul-mod_self_right (s + t * n) u (rows * n) ∙ mod-eq_of_lt below in
    let none : s / n ≡ 0 = div-eq_of_lt within in
    let split : (s + t * n) / n ≡ s / n + t = add-mul-div_right s t some in
    ap (λ (x : ℕ). x / n) rest ∙ split ∙ (let e : s / n + t ≡ t = omega (arith, none) in e)

lower : (w v : ℕ) → w < v → nat_lt w v ≡ true
lower w v more = grind arith

not_lower : (w v : ℕ) → v ≤ w → nat_lt w v ≡ false
not_lower w v most = grind arith

pub record IsFirstRow (g : Shape) (log : List Step) : Type 0 where
  pub visit : ℕ
  pub first : IsFirst (visit_length g) log (worst_of g log) visit
  pub row : worst_row_of g log ≡ visit % g.rows

pub worst_row_is_first : (g : Shape) (log : List Step) → 0 < visit_length g → 0 < g.rows → 0 < worst_of g log → IsFirstRow g log
worst_row_is_first g [] some filled found = absurd (omega arith)
worst_row_is_first g (step ∷ log) some filled found =
    let p = go (visit_of g (step ∷ log)) (visit_is g step log some) (λ pos. worst_row_is_first g log some filled pos) found (either_way (worst_of g log) (visit_of g (step ∷ log))) in
    record { visit = p.0; first = p.1; row = p.2 }
  where
    row : line_after g (length log) / visit_length g ≡ length log / visit_length g % g.rows
    row =
        let lines : lines_of g ≡ g.rows * visit_length g = omega arith in
        ap (λ (l : ℕ). length log % l / visit_length g) lines ∙ row_of_step (length log) (visit_length g) g.rows some filled

    go : (v : ℕ) → v ≡ found_in_visit (visit_length g) (length log / visit_length g) (step ∷ log) → (0 < worst_of g log → IsFirstRow g log) → 0 < max (worst_of g log) v
        → (worst_of g log < v) ⊎ (v ≤ worst_of g log)
        → (visit : ℕ) × (IsFirst (visit_length g) (step ∷ log) (max (worst_of g log) v) visit)
        × ((if nat_lt (worst_of g log) v then line_after g (length log) / visit_length g else worst_row_of g log) ≡ visit % g.rows)
    go v is before pos (inl more) = (
      length log / visit_length g,
      subst (λ (w : ℕ). IsFirst (visit_length g) (step ∷ log) w (length log / visit_length g)) (sym (second_max (worst_of g log) v (omega arith)))
          (first_new (visit_length g) (worst_of g log) v step log is (worst_is_greatest g log some).none_above more),
      rw (lower (worst_of g log) v more) row,
    )
    go v is before pos (inr most) =
        let same = first_max (worst_of g log) v most in
        let some_found : 0 < worst_of g log = omega (arith, same, pos) in
        let rest = before some_found in (
          rest.visit,
          subst (λ (w : ℕ). IsFirst (visit_length g) (step ∷ log) w rest.visit) (sym same)
              (first_still (visit_length g) (worst_of g log) v rest.visit step log some some_found is most rest.first),
          rw (not_lower (worst_of g log) v most) rest.row,
        )

pub no_worst_row : (g : Shape) (log : List Step) → worst_of g log ≡ 0 → worst_row_of g log ≡ 0
no_worst_row g [] none = refl
no_worst_row g (step ∷ log) none = go (visit_of g (step ∷ log)) none (λ zero_worst. no_worst_row g log zero_worst) (either_way (worst_of g log) (visit_of g (step ∷ log)))
  where
    go : (v : ℕ) → max (worst_of g log) v ≡ 0 → (worst_of g log ≡ 0 → worst_row_of g log ≡ 0) → (worst_of g log < v) ⊎ (v ≤ worst_of g log)
        → (if nat_lt (worst_of g log) v then line_after g (length log) / visit_length g else worst_row_of g log) ≡ 0
    go v zero_max before (inl more) = let same = second_max (worst_of g log) v (omega arith) in absurd (omega (arith, same, zero_max, more))
    go v zero_max before (inr most) = let same = first_max (worst_of g log) v most in rw (not_lower (worst_of g log) v most) (before (sym same ∙ zero_max))

-- ---- A stored word is the codeword of the last write's data, or of zeros, with the turned bits and the scrubs since then

-- the change writes the line; it turns a bit of the word, or scrubs the line
abbrev pub writes : ℕ → Change → Bool
writes line (wrote at bytes) = line == at
writes line (turns at of bit) = false
writes line (scrubs at) = false

abbrev pub touches : ℕ → ℕ → Change → Bool
touches line device (wrote at bytes) = false
touches line device (turns at of bit) = line == at && device == of
touches line device (scrubs at) = line == at

-- the word that a write leaves, and the codeword of zeros where there was none
abbrev pub begun : ℕ → Option Change → List ℕ
begun device (Some (wrote at bytes)) = written bytes device
begun device (Some (turns at of bit)) = zero_word
begun device (Some (scrubs at)) = zero_word
begun device None = zero_word

abbrev pub changed : List ℕ → Change → List ℕ
changed word (wrote at bytes) = word
changed word (turns at of bit) = turned word bit
changed word (scrubs at) = mended word

-- the word that the last write of the line left
abbrev pub written_word : ℕ → ℕ → List Change → List ℕ
written_word line device log = begun device (find (λ change. writes line change) log)

-- the changes of the word since then, the newest first
abbrev pub since_write : ℕ → ℕ → List Change → List Change
since_write line device log = filter (λ change. touches line device change) (take_while (λ change. not (writes line change)) log)

one_more : (change : Change) (word : List ℕ) (later : List Change) → fold changed word (reverse (change ∷ later)) ≡ changed (fold changed word (reverse later)) change
one_more change word later =
    ap (λ (changes : List Change). fold changed word changes) (reverse-append (change ∷ []) later)
    ∙ fold-append changed word (reverse later) (change ∷ [])

-- in their order
pub word_since_write : (log : List Change) (line device : ℕ) → word_after log line device ≡ fold changed (written_word line device log) (reverse (since_write line device log))
word_since_write [] line device = refl
word_since_write (wrote at bytes ∷ log) line device =
    rw (take_while-cons (λ (change : Change). not (writes line change)) (wrote at bytes) log) (go (line == at) (word_since_write log line device))
  where
    go : (t : Bool) → word_after log line device ≡ fold changed (written_word line device log) (reverse (since_write line device log))
        → cond t (written bytes device) (word_after log line device)
        ≡ fold changed (begun device (cond t (Some (wrote at bytes)) (find (λ change. writes line change) log)))
        (reverse (filter (λ change. touches line device change) (cond (not t) (wrote at bytes ∷ take_while (λ change. not (writes line change)) log) [])))
    go true before = refl
    go false before = before
word_since_write (turns at of bit ∷ log) line device =
    rw (take_while-cons (λ (change : Change). not (writes line change)) (turns at of bit) log) (go (line == at && device == of) (word_since_write log line device))
  where
    go : (t : Bool) → word_after log line device ≡ fold changed (written_word line device log) (reverse (since_write line device log))
        → cond t (turned (word_after log line device) bit) (word_after log line device)
        ≡ fold changed (written_word line device log) (reverse (cond t (turns at of bit ∷ since_write line device log) (since_write line device log)))
    go true before =
        ap (λ (word : List ℕ). turned word bit) before
        ∙ sym (one_more (turns at of bit) (written_word line device log) (since_write line device log))
    go false before = before
word_since_write (scrubs at ∷ log) line device =
    rw (take_while-cons (λ (change : Change). not (writes line change)) (scrubs at) log) (go (line == at) (word_since_write log line device))
  where
    go : (t : Bool) → word_after log line device ≡ fold changed (written_word line device log) (reverse (since_write line device log))
        → cond t (mended (word_after log line device)) (word_after log line device)
        ≡ fold changed (written_word line device log) (reverse (cond t (scrubs at ∷ since_write line device log) (since_write line device log)))
    go true before = ap mended before ∙ sym (one_more (scrubs at) (written_word line device log) (since_write line device log))
    go false before = before
