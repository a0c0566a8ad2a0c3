-- A run serves the requests of each line in the order of their offer, whatever it serves between.
use Rattle.std.proofs.Common.{◌≡◌, ℕ, ◌==◌, Bool, true, false, cond, Option, Some, None, List, [], ◌∷◌, ◌++◌, reverse, refl, sym, ap, ◌∙◌, subst, append_assoc, append-nil}
use Rattle.std.specs.Prelude.{IfSome}
use Rattle.std.proofs.lemmas.Bool.{eqb-true}
use Rattle.std.proofs.lemmas.List.{reverse-append}
use Rattle.speed_bin.specs.declared.header.Header.{Header}
use Rattle.ddr_text.specs.declared.lines.TraceLine.{TraceLine}
use Rattle.device_core.specs.Stored.{also}
use Rattle.reports.specs.Requests.{Request, requests, on}
use Rattle.reports.specs.Runs.{Served, Issues, Flips, Run, served, Serves, IsNext}
use Rattle.reports.specs.Sound.{Sound}
use Rattle.reports.proofs.Found.{nothing}
use Rattle.reports.proofs.Ready.{on-append, on-own}

-- ---- What is offered, and what is served

pub Serves-start : Serves [] [] []
Serves-start line = refl

-- one more request is offered
pub Serves-offer : (offered : List Request) (run : Run) (waiting : List Request) (r : Request) → Serves offered run waiting → Serves (offered ++ r ∷ []) run (waiting ++ r ∷ [])
Serves-offer offered run waiting r s line =
    ap (λ a. reverse (on line (served run)) ++ a) (on-append line waiting (r ∷ []))
    ∙ sym (append_assoc (reverse (on line (served run))) (on line waiting) (on line (r ∷ [])))
    ∙ ap (λ a. a ++ on line (r ∷ [])) (s line)
    ∙ sym (on-append line offered (r ∷ []))

-- a command that serves no request is issued
pub Serves-none : (offered : List Request) (run : Run) (waiting : List Request) (s : Served) → Serves offered run waiting → s.request ≡ None → Serves offered (Issues s ∷ run) waiting
Serves-none offered run waiting s h e line = ap (λ o. reverse (on line (also o (served run))) ++ on line waiting) e ∙ h line

issue_line : (line : ℕ) (x before behind : List Request) (r : Request) (b : Bool) → (r.line == line) ≡ b → (b ≡ true → on line before ≡ []) → reverse (cond b (r ∷ x) x) ++ (on line before ++ on line behind) ≡ reverse x ++ (on line before ++ cond b (r ∷ on line behind) (on line behind))
issue_line line x before behind r true e none =
    ap (λ a. reverse (r ∷ x) ++ (a ++ on line behind)) (none refl)
    ∙ ap (λ a. a ++ on line behind) (reverse-append (r ∷ []) x)
    ∙ append_assoc (reverse x) (r ∷ []) (on line behind)
    ∙ sym (ap (λ a. reverse x ++ (a ++ (r ∷ on line behind))) (none refl))
issue_line line x before behind r false e none = refl

-- a waiting request is served, before which none of its line waits
pub Serves-issue : (offered : List Request) (run : Run) (before behind : List Request) (r : Request) (s : Served) → Serves offered run (before ++ r ∷ behind) → on r.line before ≡ [] → s.request ≡ Some r → Serves offered (Issues s ∷ run) (before ++ behind)
Serves-issue offered run before behind r s h none e line =
    ap (λ o. reverse (on line (also o (served run))) ++ on line (before ++ behind)) e
    ∙ ap (λ a. reverse (cond (r.line == line) (r ∷ on line (served run)) (on line (served run))) ++ a) (on-append line before behind)
    ∙ issue_line line (on line (served run)) before behind r (r.line == line) refl (λ e. subst (λ l. on l before ≡ []) (eqb-true _ _ e) none)
    ∙ ap (λ a. reverse (on line (served run)) ++ a) (sym (on-append line before (r ∷ behind)))
    ∙ h line

-- ---- The request that comes next

-- where a list of the requests of a line has r, the whole list has it, behind those before it
pub record IsSplit (line : ℕ) (whole before : List Request) (r : Request) : Type 0 where
  pub earlier : List Request
  pub later : List Request
  pub is : whole ≡ earlier ++ r ∷ later
  pub on_line : on line earlier ≡ before
  pub of_line : r.line ≡ line

split_here : (line : ℕ) (q : Request) (rest before after : List Request) (r : Request) → (q.line == line) ≡ true → q ∷ on line rest ≡ before ++ r ∷ after → ((bs : List Request) → on line rest ≡ bs ++ r ∷ after → IsSplit line rest bs r) → IsSplit line (q ∷ rest) before r
split_here line q rest [] after r t e ih =
    let f : q ≡ r = cc in
    subst (λ v. IsSplit line (q ∷ rest) [] v) f (record { earlier = []; later = rest; is = refl; on_line = refl; of_line = eqb-true _ _ t })
split_here line q rest (b ∷ bs) after r t e ih =
    let f : q ≡ b = cc in
    let g : on line rest ≡ bs ++ r ∷ after = cc in
    let h = ih bs g in
    record {
      earlier = q ∷ h.earlier;
      later = h.later;
      is = ap (λ l. q ∷ l) h.is;
      on_line = ap (λ c. cond c (q ∷ on line h.earlier) (on line h.earlier)) t ∙ ap (λ l. q ∷ l) h.on_line ∙ ap (λ v. v ∷ bs) f;
      of_line = h.of_line;
    }

split_step : (line : ℕ) (q : Request) (rest before after : List Request) (r : Request) (b : Bool) → (q.line == line) ≡ b → cond b (q ∷ on line rest) (on line rest) ≡ before ++ r ∷ after → ((bs : List Request) → on line rest ≡ bs ++ r ∷ after → IsSplit line rest bs r) → IsSplit line (q ∷ rest) before r
split_step line q rest before after r true t e ih = split_here line q rest before after r t e ih
split_step line q rest before after r false t e ih =
    let h = ih before e in
    record {
      earlier = q ∷ h.earlier;
      later = h.later;
      is = ap (λ l. q ∷ l) h.is;
      on_line = ap (λ c. cond c (q ∷ on line h.earlier) (on line h.earlier)) t ∙ h.on_line;
      of_line = h.of_line;
    }

pub is_split : (line : ℕ) (whole before after : List Request) (r : Request) → on line whole ≡ before ++ r ∷ after → IsSplit line whole before r
is_split line [] before after r e = absurd (nothing before after r e)
is_split line (q ∷ rest) before after r e = split_step line q rest before after r (q.line == line) refl e (λ bs f. is_split line rest bs after r f)

-- the first waiting request of its line is the next one
pub is_next : (offered : List Request) (run : Run) (before behind : List Request) (r : Request) → Serves offered run (before ++ r ∷ behind) → on r.line before ≡ [] → IsNext offered run r
is_next offered run before behind r s none =
    let x : List Request = on r.line (served run) in
    let e : on r.line (before ++ r ∷ behind) ≡ r ∷ on r.line behind = on-append r.line before (r ∷ behind) ∙ ap (λ a. a ++ on r.line (r ∷ behind)) none ∙ on-own r behind in
    let f = is_split r.line offered (reverse x) (on r.line behind) r (sym (s r.line) ∙ ap (λ a. reverse x ++ a) e) in
    record { earlier = f.earlier; later = f.later; is_offered = f.is; in_order = sym f.on_line }

-- it stays the next one where more is offered
pub IsNext-more : (offered more : List Request) (run : Run) (r : Request) → IsNext offered run r → IsNext (offered ++ more) run r
IsNext-more offered more run r n = record {
  earlier = n.earlier;
  later = n.later ++ more;
  is_offered = ap (λ l. l ++ more) n.is_offered ∙ append_assoc n.earlier (r ∷ n.later) more;
  in_order = n.in_order;
}

-- ---- Runs that serve the requests in the order of their offer

reverse-on_step : (line : ℕ) (r : Request) (x front : List Request) (b : Bool) → (r.line == line) ≡ b → front ≡ reverse x → reverse (cond b (r ∷ x) x) ≡ front ++ cond b (r ∷ []) []
reverse-on_step line r x front true e h = reverse-append (r ∷ []) x ∙ ap (λ l. l ++ r ∷ []) (sym h)
reverse-on_step line r x front false e h = sym h ∙ sym (append-nil front)

pub reverse-on : (line : ℕ) (rs : List Request) → reverse (on line rs) ≡ on line (reverse rs)
reverse-on line [] = refl
reverse-on line (r ∷ rs) =
    reverse-on_step line r (on line rs) (on line (reverse rs)) (r.line == line) refl (sym (reverse-on line rs))
    ∙ sym (on-append line (reverse rs) (r ∷ []))
    ∙ ap (on line) (sym (reverse-append (r ∷ []) rs))

pub Serves-in_order : (offered : List Request) (run : Run) (waiting : List Request) → reverse (served run) ++ waiting ≡ offered → Serves offered run waiting
Serves-in_order offered run waiting e line =
    ap (λ l. l ++ on line waiting) (reverse-on line (served run)) ∙ sym (on-append line (reverse (served run)) waiting) ∙ ap (on line) e

pub next-in_order : (offered : List Request) (run : Run) (r : Request) (later : List Request) → offered ≡ reverse (served run) ++ r ∷ later → IsNext offered run r
next-in_order offered run r later e = record { earlier = reverse (served run); later = later; is_offered = e; in_order = reverse-on r.line (served run) }

-- ---- Sound runs

-- of a line, the requests that are not served yet, in order
pub record LeftInOrder (line : ℕ) (offered : List Request) (run : Run) : Type 0 where
  pub waiting : List Request
  pub is : reverse (on line (served run)) ++ waiting ≡ on line offered

waits-other : (line : ℕ) (offered : List Request) (run : Run) (s : Served) (r : Request) → s.request ≡ Some r → (r.line == line) ≡ false → LeftInOrder line offered run → LeftInOrder line offered (Issues s ∷ run)
waits-other line offered run s r e f w = record {
  waiting = w.waiting;
  is = ap (λ o. reverse (on line (also o (served run))) ++ w.waiting) e ∙ ap (λ b. reverse (cond b (r ∷ on line (served run)) (on line (served run))) ++ w.waiting) f ∙ w.is;
}

waits-own : (offered : List Request) (run : Run) (s : Served) (r : Request) → s.request ≡ Some r → IsNext offered run r → LeftInOrder r.line offered (Issues s ∷ run)
waits-own offered run s r e n = record {
  waiting = on r.line n.later;
  is = ap (λ o. reverse (on r.line (also o (served run))) ++ on r.line n.later) e
      ∙ ap (λ l. reverse l ++ on r.line n.later) (on-own r (served run))
      ∙ ap (λ l. l ++ on r.line n.later) (reverse-append (r ∷ []) (on r.line (served run)))
      ∙ append_assoc (reverse (on r.line (served run))) (r ∷ []) (on r.line n.later)
      ∙ ap (λ l. l ++ (r ∷ on r.line n.later)) n.in_order
      ∙ sym (ap (on r.line) n.is_offered ∙ on-append r.line n.earlier (r ∷ n.later) ∙ ap (λ l. on r.line n.earlier ++ l) (on-own r n.later));
}

waits-some : (line : ℕ) (offered : List Request) (run : Run) (s : Served) (r : Request) (b : Bool) → s.request ≡ Some r → (r.line == line) ≡ b → IsNext offered run r → LeftInOrder line offered run → LeftInOrder line offered (Issues s ∷ run)
waits-some line offered run s r true e f n w = subst (λ l. LeftInOrder l offered (Issues s ∷ run)) (eqb-true _ _ f) (waits-own offered run s r e n)
waits-some line offered run s r false e f n w = waits-other line offered run s r e f w

waits-place : (line : ℕ) (offered : List Request) (run : Run) (s : Served) (o : Option Request) → s.request ≡ o → IfSome o (λ r. IsNext offered run r) → LeftInOrder line offered run → LeftInOrder line offered (Issues s ∷ run)
waits-place line offered run s None e n w = record { waiting = w.waiting; is = ap (λ o. reverse (on line (also o (served run))) ++ w.waiting) e ∙ w.is }
waits-place line offered run s (Some r) e n w = waits-some line offered run s r (r.line == line) e refl n w

-- each line is served from the front, in order
pub waits : (h : Header) (trace : List TraceLine) (run : Run) (line : ℕ) → Sound h trace run → LeftInOrder line (requests trace) run
waits h trace [] line sound = record { waiting = on line (requests trace); is = refl }
waits h trace (Issues s ∷ run) line sound = waits-place line (requests trace) run s s.request refl sound.0.is_next (waits h trace run line sound.1)
waits h trace (Flips k ∷ run) line sound = let w = waits h trace run line sound.1 in record { waiting = w.waiting; is = w.is }
