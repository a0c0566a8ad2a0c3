-- The log of a sound run reads and writes each line in the order of the trace.
use Rattle.std.proofs.Common.{◌≡◌, ℕ, ◌==◌, Bool, true, false, cond, Option, Some, None, List, [], ◌∷◌, ◌++◌, map, reverse, refl, sym, ap, ◌∙◌, append-nil}
use Rattle.std.specs.Prelude.{option_map}
use Rattle.std.proofs.lemmas.List.{reverse-append, map-append}
use Rattle.speed_bin.specs.declared.header.Header.{Header}
use Rattle.ddr_text.specs.declared.lines.TraceLine.{TraceLine}
use Rattle.device_core.specs.Stored.{also}
use Rattle.reports.specs.Requests.{Request, requests, on}
use Rattle.reports.specs.Runs.{Issues, Flips, Run, log_of, served}
use Rattle.reports.specs.Accesses.{Access, access_of, accesses, of_line, InOrder, BeginsInOrder}
use Rattle.speed_bin.specs.Header.{shape_of}
use Rattle.reports.specs.Sound.{Sound, IsRun}
use Rattle.reports.proofs.Order.{waits}

map-also : (o : Option Request) (rs : List Request) → also (option_map access_of o) (map access_of rs) ≡ map access_of (also o rs)
map-also None rs = refl
map-also (Some r) rs = refl

-- what the log reads and writes is what the run serves
pub accesses-served : (h : Header) (trace : List TraceLine) (run : Run) → Sound h trace run → accesses (shape_of h) (log_of run) ≡ map access_of (served run)
accesses-served h trace [] sound = refl
accesses-served h trace (Issues s ∷ run) sound =
    ap (λ o. also o (accesses (shape_of h) (log_of run))) sound.0.is_of
    ∙ ap (also (option_map access_of s.request)) (accesses-served h trace run sound.1)
    ∙ map-also s.request (served run)
accesses-served h trace (Flips k ∷ run) sound = accesses-served h trace run sound.1

of_line-step : (r : Request) (rs : List Request) (xs : List Access) (b : Bool) → xs ≡ map access_of rs → cond b (access_of r ∷ xs) xs ≡ map access_of (cond b (r ∷ rs) rs)
of_line-step r rs xs true e = ap (λ l. access_of r ∷ l) e
of_line-step r rs xs false e = e

of_line-map : (line : ℕ) (rs : List Request) → of_line line (map access_of rs) ≡ map access_of (on line rs)
of_line-map line [] = refl
of_line-map line (r ∷ rs) = of_line-step r (on line rs) (of_line line (map access_of rs)) (r.line == line) (of_line-map line rs)

map-reverse : (rs : List Request) → reverse (map access_of rs) ≡ map access_of (reverse rs)
map-reverse [] = refl
map-reverse (r ∷ rs) =
    reverse-append (access_of r ∷ []) (map access_of rs)
    ∙ ap (λ l. l ++ access_of r ∷ []) (map-reverse rs)
    ∙ sym (map-append access_of (reverse rs) (r ∷ []))
    ∙ ap (map access_of) (sym (reverse-append (r ∷ []) rs))

served-of_line : (h : Header) (trace : List TraceLine) (run : Run) (line : ℕ) → Sound h trace run → reverse (of_line line (accesses (shape_of h) (log_of run))) ≡ map access_of (reverse (on line (served run)))
served-of_line h trace run line sound =
    ap (λ l. reverse (of_line line l)) (accesses-served h trace run sound)
    ∙ ap reverse (of_line-map line (served run))
    ∙ map-reverse (on line (served run))

pub in_order : (h : Header) (trace : List TraceLine) (run : Run) (clock : ℕ) → IsRun h trace run clock → InOrder (shape_of h) trace (log_of run)
in_order h trace run clock r line =
    served-of_line h trace run line r.sound
    ∙ ap (map access_of) (sym (append-nil (reverse (on line (served run)))) ∙ r.serves line)
    ∙ sym (of_line-map line (requests trace))

pub begins_in_order : (h : Header) (trace : List TraceLine) (run : Run) → Sound h trace run → BeginsInOrder (shape_of h) trace (log_of run)
begins_in_order h trace run sound line =
    let w = waits h trace run line sound in (
      map access_of w.waiting,
      ap (λ l. l ++ map access_of w.waiting) (served-of_line h trace run line sound)
          ∙ sym (map-append access_of (reverse (on line (served run))) w.waiting)
          ∙ ap (map access_of) w.is
          ∙ sym (of_line-map line (requests trace)),
    )
