-- A queue that is filled before each turn is the window.
use Rattle.std.proofs.Common.{◌≡◌, ◌∙◌, ℕ, zero, suc, ◌+◌, ◌<◌, ◌≤◌, ◌⊎◌, inl, inr, true, false, not, cond, nat_lt, List, [], ◌∷◌, ◌++◌, length, take, refl, sym, ap, arith, rules}
use Rattle.std.specs.List.{filter}
use Rattle.std.proofs.lemmas.List.Elements.{filter-append}
use Rattle.std.proofs.Math.Seq.{take-append_seam}
use Rattle.requests.specs.declared.request.Request.{Request}
use Rattle.requests.specs.declared.waiting.Waiting.{Waiting}
use Rattle.speed_bin.specs.declared.header.Header.{Header}
use Rattle.requests.specs.Queue.{Step, numbered, waiting, waiting_as, span, is_served, AreKnown, IsFull}
use Rattle.speed_bin.specs.Header.{shape_of}
use Rattle.requests.specs.Window.{near, window}
use Rattle.requests.proofs.Queue.{Rising, rising-waiting, rising-numbered}

pub below : (a b : ℕ) → a < b → nat_lt a b ≡ true
below a b h = search rules

pub above : (a b : ℕ) → b ≤ a → nat_lt a b ≡ false
above a b h = grind arith

keeps_all : (lo hi m : ℕ) (ws : List Waiting) → Rising lo hi ws → hi ≤ m → filter (λ w. nat_lt w.id m) ws ≡ ws
keeps_all lo hi m [] h le = refl
keeps_all lo hi m (w ∷ ws) h le =
    ap (λ t. cond t (w ∷ filter (λ v. nat_lt v.id m) ws) (filter (λ v. nat_lt v.id m) ws)) (below w.id m (omega (arith, h.1)))
    ∙ ap (λ vs. w ∷ vs) (keeps_all (w.id + 1) hi m ws h.2 le)

pub drops_all : (lo hi m : ℕ) (ws : List Waiting) → Rising lo hi ws → m ≤ lo → filter (λ w. nat_lt w.id m) ws ≡ []
drops_all lo hi m [] h le = refl
drops_all lo hi m (w ∷ ws) h le =
    ap (λ t. cond t (w ∷ filter (λ v. nat_lt v.id m) ws) (filter (λ v. nat_lt v.id m) ws)) (above w.id m (omega (arith, h.0)))
    ∙ drops_all (w.id + 1) hi m ws h.2 (omega (arith, h.0))

take_short : (n : ℕ) (ws : List Waiting) → length ws ≤ n → take n ws ≡ ws
take_short zero [] h = refl
take_short zero (w ∷ ws) h = absurd (omega (arith, h))
take_short (suc n) [] h = refl
take_short (suc n) (w ∷ ws) h = ap (λ vs. w ∷ vs) (take_short n ws (omega (arith, h)))

numbered-more : (h : Header) (n : ℕ) (xs ys : List Request) (m : ℕ) → m ≡ n + length xs → numbered h n (xs ++ ys) ≡ numbered h n xs ++ numbered h m ys
numbered-more h n [] ys m e = let f : n ≡ m = omega (arith, e) in ap (λ k. numbered h k ys) f
numbered-more h n (x ∷ xs) ys m e = ap (λ rest. waiting_as (shape_of h) n x ∷ rest) (numbered-more h (n + 1) xs ys m (omega (arith, e)))

all_fresh : (h : Header) (m : ℕ) (xs : List Request) (log : List Step) → ((n : ℕ) → m ≤ n → is_served n log ≡ false) → filter (λ w. not (is_served w.id log)) (numbered h m xs) ≡ numbered h m xs
all_fresh h m [] log fresh = refl
all_fresh h m (x ∷ xs) log fresh =
    ap (λ t. cond (not t) (waiting_as (shape_of h) m x ∷ filter (λ w. not (is_served w.id log)) (numbered h (m + 1) xs)) (filter (λ w. not (is_served w.id log)) (numbered h (m + 1) xs))) (fresh m (omega arith))
    ∙ ap (λ rest. waiting_as (shape_of h) m x ∷ rest) (all_fresh h (m + 1) xs log (λ n le. fresh n (omega (arith, le))))

waiting-more : (h : Header) (offered later : List Request) (log : List Step) → AreKnown offered log → waiting h (offered ++ later) log ≡ waiting h offered log ++ numbered h (1 + length offered) later
waiting-more h offered later log known =
    ap (λ ws. filter (λ w. not (is_served w.id log)) ws) (numbered-more h 1 offered later (1 + length offered) refl)
    ∙ filter-append (λ w. not (is_served w.id log)) (numbered h 1 offered) (numbered h (1 + length offered) later)
    ∙ ap (λ ws. waiting h offered log ++ ws) (all_fresh h (1 + length offered) later log (λ n le. known n (omega (arith, le))))

-- with the first request of the queue: what lies near it
near_more : (n : ℕ) (w : Waiting) (ws ls : List Waiting) → Rising 1 (n + 1) (w ∷ ws) → span n (w ∷ ws) ≤ 64 → near ((w ∷ ws) ++ ls) ≡ (w ∷ ws) ++ filter (λ v. nat_lt v.id (w.id + 64)) ls
near_more n w ws ls rise le =
    filter-append (λ v. nat_lt v.id (w.id + 64)) (w ∷ ws) ls
    ∙ ap (λ vs. vs ++ filter (λ v. nat_lt v.id (w.id + 64)) ls) (keeps_all 1 (n + 1) (w.id + 64) (w ∷ ws) rise (let a = rise.1 in omega (arith, le, a)))

append-nil : (ws : List Waiting) → ws ++ [] ≡ ws
append-nil [] = refl
append-nil (w ∷ ws) = ap (λ vs. w ∷ vs) (append-nil ws)

filled : (h : Header) (n : ℕ) (ws : List Waiting) (later : List Request) → Rising 1 (n + 1) ws → length ws ≤ 32 → span n ws ≤ 64 → IsFull n ws ⊎ (later ≡ []) → take 32 (near (ws ++ numbered h (1 + n) later)) ≡ ws
filled h n [] later rise few le (inl (inl e)) = absurd (omega (arith, e))
filled h n [] later rise few le (inl (inr e)) = absurd (omega (arith, e))
filled h n [] later rise few le (inr e) = rw e refl
filled h n (w ∷ ws) later rise few le (inl (inl e)) =
    ap (take 32) (near_more n w ws (numbered h (1 + n) later) rise le)
    ∙ ap (λ k. take k ((w ∷ ws) ++ filter (λ v. nat_lt v.id (w.id + 64)) (numbered h (1 + n) later))) (sym e)
    ∙ take-append_seam (w ∷ ws) (filter (λ v. nat_lt v.id (w.id + 64)) (numbered h (1 + n) later))
filled h n (w ∷ ws) later rise few le (inl (inr e)) =
    ap (take 32) (near_more n w ws (numbered h (1 + n) later) rise le
    ∙ ap (λ vs. (w ∷ ws) ++ vs) (drops_all (1 + n) (1 + n + length later) (w.id + 64) (numbered h (1 + n) later) (rising-numbered h (1 + n) (1 + n + length later) later (omega arith)) (let a = rise.1 in omega (arith, e, a)))
    ∙ append-nil (w ∷ ws))
    ∙ take_short 32 (w ∷ ws) few
filled h n (w ∷ ws) later rise few le (inr e) =
    ap (λ ls. take 32 (near ((w ∷ ws) ++ numbered h (1 + n) ls))) e
    ∙ ap (take 32) (near_more n w ws [] rise le ∙ append-nil (w ∷ ws))
    ∙ take_short 32 (w ∷ ws) few

-- offered to until it is full, or until nothing stands before the next barrier, the queue is the window
pub queue_is_window : (h : Header) (offered later : List Request) (log : List Step) → AreKnown offered log → length (waiting h offered log) ≤ 32 → span (length offered) (waiting h offered log) ≤ 64 → IsFull (length offered) (waiting h offered log) ⊎ (later ≡ []) → waiting h offered log ≡ window h (offered ++ later) log
queue_is_window h offered later log known few le stop =
    sym (ap (λ ws. take 32 (near ws)) (waiting-more h offered later log known) ∙ filled h (length offered) (waiting h offered log) later (rising-waiting h offered log) few le stop)
