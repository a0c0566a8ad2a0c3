-- The requests before which none is unserved, and the others.
use Rattle.std.proofs.Common.{◌≡◌, ℕ, ◌==◌, ◌||◌, Bool, true, false, cond, Option, Some, None, List, [], ◌∷◌, ◌++◌, reverse, refl, sym, ap, ◌∙◌, append-nil, append_assoc}
use Rattle.std.proofs.lemmas.Bool.{eq-eqb}
use Rattle.std.proofs.lemmas.List.{reverse-append, append_cancel_left}
use Rattle.std.proofs.lemmas.List.Elements.{filter-append}
use Rattle.device_core.specs.Stored.{also}
use Rattle.reports.specs.Requests.{Request, on}
use Rattle.reports.specs.Runs.{Step, Issues, Flips, Run, served, has, is_served, Serves, ready, held}

-- ---- Whether a request is among others

or-true : (b : Bool) → (b || true) ≡ true
or-true true = refl
or-true false = refl

pub or-left : (a b : Bool) → a ≡ true → (a || b) ≡ true
or-left true b h = refl
or-left false b h = cc

pub or-right : (a b : Bool) → b ≡ true → (a || b) ≡ true
or-right true b h = refl
or-right false b h = h

pub or-split : (a b : Bool) (P : Type 0) → (a || b) ≡ true → (a ≡ true → P) → (b ≡ true → P) → P
or-split true b P h f g = f refl
or-split false b P h f g = g h

pub has-append : (n : ℕ) (a b : List Request) (P : Type 0) → has n (a ++ b) ≡ true → (has n a ≡ true → P) → (has n b ≡ true → P) → P
has-append n [] b P h f g = g h
has-append n (r ∷ a) b P h f g = or-split (r.number == n) (has n (a ++ b)) P h (λ e. f (or-left (r.number == n) (has n a) e)) (λ e. has-append n a b P e (λ k. f (or-right (r.number == n) (has n a) k)) g)

pub has-append_right : (n : ℕ) (a b : List Request) → has n b ≡ true → has n (a ++ b) ≡ true
has-append_right n [] b h = h
has-append_right n (r ∷ a) b h = or-right (r.number == n) (has n (a ++ b)) (has-append_right n a b h)

has-one : (n : ℕ) (r : Request) (rs : List Request) → has n (r ∷ []) ≡ true → has n (r ∷ rs) ≡ true
has-one n r rs h = or-split (r.number == n) false (has n (r ∷ rs) ≡ true) h (or-left (r.number == n) (has n rs)) (λ e. cc)

pub has-reverse : (n : ℕ) (rs : List Request) → has n (reverse rs) ≡ true → has n rs ≡ true
has-reverse n [] h = h
has-reverse n (r ∷ rs) h =
    has-append n (reverse rs) (r ∷ []) (has n (r ∷ rs) ≡ true) (ap (has n) (sym (reverse-append (r ∷ []) rs)) ∙ h)
    (λ e. or-right (r.number == n) (has n rs) (has-reverse n rs e)) (has-one n r rs)

has-on_step : (n : ℕ) (r : Request) (xs ys : List Request) (b : Bool) → (has n xs ≡ true → has n ys ≡ true) → has n (cond b (r ∷ xs) xs) ≡ true → has n (r ∷ ys) ≡ true
has-on_step n r xs ys true ih h = or-split (r.number == n) (has n xs) (has n (r ∷ ys) ≡ true) h (or-left (r.number == n) (has n ys)) (λ e. or-right (r.number == n) (has n ys) (ih e))
has-on_step n r xs ys false ih h = or-right (r.number == n) (has n ys) (ih h)

pub has-on : (n line : ℕ) (rs : List Request) → has n (on line rs) ≡ true → has n rs ≡ true
has-on n line [] h = h
has-on n line (r ∷ rs) h = has-on_step n r (on line rs) rs (r.line == line) (has-on n line rs) h

pub on-append : (line : ℕ) (xs ys : List Request) → on line (xs ++ ys) ≡ on line xs ++ on line ys
on-append line xs ys = filter-append (λ r. r.line == line) xs ys

pub on-own : (r : Request) (rs : List Request) → on r.line (r ∷ rs) ≡ r ∷ on r.line rs
on-own r rs = ap (λ t. cond t (r ∷ on r.line rs) (on r.line rs)) (eq-eqb r.line r.line refl)

-- where all is served, each of them is
pub is_served-each : (all before rest : List Request) (r : Request) (run : Run) → all ≡ before ++ r ∷ rest → Serves all run [] → is_served r.number run ≡ true
is_served-each all before rest r run e s =
    let there : on r.line all ≡ on r.line before ++ r ∷ on r.line rest = ap (on r.line) e ∙ on-append r.line before (r ∷ rest) ∙ ap (λ l. on r.line before ++ l) (on-own r rest) in
    let among : has r.number (on r.line all) ≡ true = ap (has r.number) there ∙ has-append_right r.number (on r.line before) (r ∷ on r.line rest) (or-left (r.number == r.number) (has r.number (on r.line rest)) (eq-eqb r.number r.number refl)) in
    let back : has r.number (reverse (on r.line (served run))) ≡ true = ap (has r.number) (sym (append-nil (reverse (on r.line (served run)))) ∙ s r.line) ∙ among in
    has-on r.number r.line (served run) (has-reverse r.number (on r.line (served run)) back)

-- ---- The two parts

also-has : (n : ℕ) (o : Option Request) (rs : List Request) → has n rs ≡ true → has n (also o rs) ≡ true
also-has n None rs h = h
also-has n (Some r) rs h = or-right (r.number == n) (has n rs) h

-- what is served stays served
pub still : (n : ℕ) (step : Step) (run : Run) → is_served n run ≡ true → is_served n (step ∷ run) ≡ true
still n (Issues s) run h = also-has n s.request (served run) h
still n (Flips k) run h = h

split-step : (b : Bool) (r : Request) (rs xs ys : List Request) → xs ++ ys ≡ rs → cond b (r ∷ xs) [] ++ cond b ys (r ∷ rs) ≡ r ∷ rs
split-step true r rs xs ys h = ap (λ l. r ∷ l) h
split-step false r rs xs ys h = refl

pub ready-held : (rs : List Request) (run : Run) → ready rs run ++ held rs run ≡ rs
ready-held [] run = refl
ready-held (r ∷ rs) run = split-step (is_served r.number run) r rs (ready rs run) (held rs run) (ready-held rs run)

none-step : (b : Bool) (r : Request) (rs held_rest : List Request) (run : Run) → is_served r.number run ≡ b → ready held_rest run ≡ [] → ready (cond b held_rest (r ∷ rs)) run ≡ []
none-step true r rs rest run e h = h
none-step false r rs rest run e h = ap (λ b. cond b (r ∷ ready rs run) []) e

pub ready-of_held : (rs : List Request) (run : Run) → ready (held rs run) run ≡ []
ready-of_held [] run = refl
ready-of_held (r ∷ rs) run = none-step (is_served r.number run) r rs (held rs run) run refl (ready-of_held rs run)

-- one more step: those that were ready stay so, and of the held ones some become ready
ready-more_step : (b c : Bool) (r : Request) (rs before after : List Request) (step : Step) (run : Run) → is_served r.number (step ∷ run) ≡ c → (b ≡ true → c ≡ true) → ready rs (step ∷ run) ≡ before ++ ready after (step ∷ run) → cond c (r ∷ ready rs (step ∷ run)) [] ≡ cond b (r ∷ before) [] ++ ready (cond b after (r ∷ rs)) (step ∷ run)
ready-more_step true true r rs before after step run e h ih = ap (λ l. r ∷ l) ih
ready-more_step true false r rs before after step run e h ih = let f : false ≡ true = h refl in cc
ready-more_step false c r rs before after step run e h ih = ap (λ t. cond t (r ∷ ready rs (step ∷ run)) []) (sym e)

pub ready-more : (rs : List Request) (step : Step) (run : Run) → ready rs (step ∷ run) ≡ ready rs run ++ ready (held rs run) (step ∷ run)
ready-more [] step run = refl
ready-more (r ∷ rs) step run = ready-more_step (is_served r.number run) (is_served r.number (step ∷ run)) r rs (ready rs run) (held rs run) step run refl (still r.number step run) (ready-more rs step run)

held-more_step : (b c : Bool) (r : Request) (rs after : List Request) (step : Step) (run : Run) → is_served r.number (step ∷ run) ≡ c → (b ≡ true → c ≡ true) → held rs (step ∷ run) ≡ held after (step ∷ run) → cond c (held rs (step ∷ run)) (r ∷ rs) ≡ held (cond b after (r ∷ rs)) (step ∷ run)
held-more_step true true r rs after step run e h ih = ih
held-more_step true false r rs after step run e h ih = let f : false ≡ true = h refl in cc
held-more_step false c r rs after step run e h ih = ap (λ t. cond t (held rs (step ∷ run)) (r ∷ rs)) (sym e)

pub held-more : (rs : List Request) (step : Step) (run : Run) → held rs (step ∷ run) ≡ held (held rs run) (step ∷ run)
held-more [] step run = refl
held-more (r ∷ rs) step run = held-more_step (is_served r.number run) (is_served r.number (step ∷ run)) r rs (held rs run) step run refl (still r.number step run) (held-more rs step run)

pub ready-none : (rs : List Request) → ready rs [] ≡ []
ready-none [] = refl
ready-none (r ∷ rs) = refl

pub held-none : (rs : List Request) → held rs [] ≡ rs
held-none [] = refl
held-none (r ∷ rs) = refl

-- where all is served, all is ready
ready-all_from : (all before rs : List Request) (run : Run) → all ≡ before ++ rs → Serves all run [] → ready rs run ≡ rs
ready-all_from all before [] run e s = refl
ready-all_from all before (r ∷ rs) run e s =
    ap (λ t. cond t (r ∷ ready rs run) []) (is_served-each all before rs r run e s)
    ∙ ap (λ l. r ∷ l) (ready-all_from all (before ++ r ∷ []) rs run (e ∙ sym (append_assoc before (r ∷ []) rs)) s)

pub ready-all : (all : List Request) (run : Run) → Serves all run [] → ready all run ≡ all
ready-all all run s = ready-all_from all [] all run refl s

-- ---- More requests behind

-- a list of which the first is unserved has none ready; so more of it behind changes nothing
pub ready-behind : (rs more : List Request) (run : Run) → ready more run ≡ [] → ready (rs ++ more) run ≡ ready rs run
ready-behind [] more run h = h
ready-behind (r ∷ rs) more run h = ap (λ l. cond (is_served r.number run) (r ∷ l) []) (ready-behind rs more run h)

pub ready-held_behind : (rs more : List Request) (step : Step) (run : Run) → ready more run ≡ [] → ready more (step ∷ run) ≡ [] → ready (held (rs ++ more) run) (step ∷ run) ≡ ready (held rs run) (step ∷ run)
ready-held_behind rs more step run h k =
    append_cancel_left (ready rs run) _ _
    (ap (λ l. l ++ ready (held (rs ++ more) run) (step ∷ run)) (sym (ready-behind rs more run h))
    ∙ sym (ready-more (rs ++ more) step run)
    ∙ ready-behind rs more (step ∷ run) k
    ∙ ready-more rs step run)

-- where all before is ready, the held ones begin behind
held-past_step : (b : Bool) (r : Request) (rs ready_rest after rest all : List Request) → cond b (r ∷ ready_rest) [] ≡ r ∷ rs → (ready_rest ≡ rs → after ≡ rest) → cond b after (r ∷ all) ≡ rest
held-past_step true r rs ready_rest after rest all e h = h cc
held-past_step false r rs ready_rest after rest all e h = cc

pub held-past : (rs more : List Request) (run : Run) → ready rs run ≡ rs → held (rs ++ more) run ≡ held more run
held-past [] more run h = refl
held-past (r ∷ rs) more run h = held-past_step (is_served r.number run) r rs (ready rs run) (held (rs ++ more) run) (held more run) (rs ++ more) h (held-past rs more run)

-- where none is ready, all are held
pub held-unready : (rs : List Request) (run : Run) → ready rs run ≡ [] → held rs run ≡ rs
held-unready rs run h = ap (λ l. l ++ held rs run) (sym h) ∙ ready-held rs run
