-- The oldest waiting request has the least number that is not served.
use Rattle.std.proofs.Common.{◌≡◌, ℕ, ◌+◌, ◌<◌, ◌≤◌, ◌⊎◌, inl, inr, not, Bool, true, false, cond, List, [], ◌∷◌, length, refl, sym, ap, subst, arith}
use Rattle.std.specs.List.{filter}
use Rattle.speed_bin.specs.declared.header.Header.{Header}
use Rattle.requests.specs.declared.request.Request.{Request}
use Rattle.requests.specs.declared.waiting.Waiting.{Waiting}
use Rattle.requests.specs.Queue.{Step, numbered, waiting, waiting_as, is_served}
use Rattle.speed_bin.specs.Header.{shape_of}

first_or_later : (k n : ℕ) → n ≤ k → (k ≡ n) ⊎ (n + 1 ≤ k)
first_or_later k n h = grind arith

none_left : (h : Header) (n : ℕ) (rs : List Request) (log : List Step) → filter (λ w. not (is_served w.id log)) (numbered h n rs) ≡ [] → (k : ℕ) → n ≤ k → k < n + length rs → is_served k log ≡ true
none_left h n [] log e k low high = absurd (omega (arith, low, high))
none_left h n (r ∷ rs) log e k low high = go (is_served n log) refl e (first_or_later k n low) (λ f l. none_left h (n + 1) rs log f k l (omega (arith, high)))
  where
    go : (t : Bool) → is_served n log ≡ t → cond (not t) (waiting_as (shape_of h) n r ∷ filter (λ w. not (is_served w.id log)) (numbered h (n + 1) rs)) (filter (λ w. not (is_served w.id log)) (numbered h (n + 1) rs)) ≡ [] → (k ≡ n) ⊎ (n + 1 ≤ k) → (filter (λ w. not (is_served w.id log)) (numbered h (n + 1) rs) ≡ [] → n + 1 ≤ k → is_served k log ≡ true) → is_served k log ≡ true
    go true p f (inl same) ih = subst (λ (i : ℕ). is_served i log ≡ true) (sym same) p
    go true p f (inr later) ih = ih f later
    go false p f which ih = cc

before_first : (h : Header) (n : ℕ) (rs : List Request) (log : List Step) (w : Waiting) (ws : List Waiting) → filter (λ v. not (is_served v.id log)) (numbered h n rs) ≡ w ∷ ws → (k : ℕ) → n ≤ k → k < w.id → is_served k log ≡ true
before_first h n [] log w ws e k low high = cc
before_first h n (r ∷ rs) log w ws e k low high = go (is_served n log) refl e (first_or_later k n low) (λ f l. before_first h (n + 1) rs log w ws f k l high)
  where
    go : (t : Bool) → is_served n log ≡ t → cond (not t) (waiting_as (shape_of h) n r ∷ filter (λ v. not (is_served v.id log)) (numbered h (n + 1) rs)) (filter (λ v. not (is_served v.id log)) (numbered h (n + 1) rs)) ≡ w ∷ ws → (k ≡ n) ⊎ (n + 1 ≤ k) → (filter (λ v. not (is_served v.id log)) (numbered h (n + 1) rs) ≡ w ∷ ws → n + 1 ≤ k → is_served k log ≡ true) → is_served k log ≡ true
    go true p f (inl same) ih = subst (λ (i : ℕ). is_served i log ≡ true) (sym same) p
    go true p f (inr later) ih = ih f later
    go false p f which ih = let m : waiting_as (shape_of h) n r ≡ w = cc in let i : n ≡ w.id = ap (λ (v : Waiting). v.id) m in absurd (omega (arith, i, low, high))

pub all_served : (h : Header) (offered : List Request) (log : List Step) (n : ℕ) → waiting h offered log ≡ [] → 1 ≤ n → n ≤ length offered → is_served n log ≡ true
all_served h offered log n e low high = none_left h 1 offered log e n low (omega (arith, high))

pub served_before_oldest : (h : Header) (offered : List Request) (log : List Step) (w : Waiting) (ws : List Waiting) (n : ℕ) → waiting h offered log ≡ w ∷ ws → 1 ≤ n → n < w.id → is_served n log ≡ true
served_before_oldest h offered log w ws n e low high = before_first h 1 offered log w ws e n low high
