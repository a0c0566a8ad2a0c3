-- What stays right where a run or its trace grows.
use Rattle.std.proofs.Common.{◌≡◌, ℕ, zero, suc, ◌+◌, ◌<◌, ◌≤◌, ◌&&◌, Bool, true, false, cond, Option, Some, None, List, [], ◌∷◌, ◌++◌, length, slice_get, refl, sym, ap, ◌∙◌, subst, arith, append_assoc, append-nil}
use Rattle.std.specs.Prelude.{IfSome, IsTrue, nat_lt}
use Rattle.std.specs.List.{list_all}
use Rattle.std.proofs.lemmas.List.{take-append-le}
use Rattle.speed_bin.specs.declared.header.Header.{Header}
use Rattle.ddr_text.specs.declared.lines.TraceLine.{TraceLine}
use Rattle.ddr_text.specs.declared.lines.ReportLine.{ReportLine}
use Rattle.reports.specs.Requests.{Request, requests_from, requests, flips_from, flips}
use Rattle.reports.specs.Runs.{Step, Issues, Flips, Run, is_served, flipped, Serves, IsNext, IsThrough, held}
use Rattle.reports.specs.Report.{latest, report}
use Rattle.reports.specs.Sound.{IsSoundStep, Sound}
use Rattle.reports.proofs.Found.{requests-append, flips-append, Between, Between-asked}
use Rattle.reports.proofs.Order.{IsNext-more}
use Rattle.reports.proofs.Longer.{flip-within}
use Rattle.reports.proofs.Underway.{and-both, and-left, and-right}

-- ---- A longer run

-- a report so far begins each later one
pub report-begins : (h : Header) (trace : List TraceLine) (later run : Run) → (rest : List ReportLine) × (report h trace (later ++ run) ≡ report h trace run ++ rest)
report-begins h trace [] run = ([], sym (append-nil (report h trace run)))
report-begins h trace (step ∷ later) run =
    let (rest, e) = report-begins h trace later run in
    (rest ++ latest h trace (later ++ run) step, ap (λ l. l ++ latest h trace (later ++ run) step) e ∙ append_assoc (report h trace run) rest (latest h trace (later ++ run) step))

-- ---- A longer trace

requests-longer : (trace more : List TraceLine) → requests (trace ++ more) ≡ requests trace ++ requests_from (1 + length trace) more
requests-longer trace more = requests-append 1 trace more (1 + length trace) refl

next-longer : (trace more : List TraceLine) (run : Run) (o : Option Request) → IfSome o (λ r. IsNext (requests trace) run r) → IfSome o (λ r. IsNext (requests (trace ++ more)) run r)
next-longer trace more run None n = tt
next-longer trace more run (Some r) n = subst (λ l. IsNext l run r) (sym (requests-longer trace more)) (IsNext-more (requests trace) (requests_from (1 + length trace) more) run r n)

slice_get-front : (xs ys : List ℕ) (k v : ℕ) → slice_get xs k ≡ Some v → slice_get (xs ++ ys) k ≡ Some v
slice_get-front [] ys k v e = cc
slice_get-front (x ∷ xs) ys zero v e = e
slice_get-front (x ∷ xs) ys (suc k) v e = slice_get-front xs ys k v e

above : (number low high : ℕ) (rs : List Request) → number < low → Between low high rs → IsTrue (list_all (λ r. nat_lt number r.number) rs)
above number low high [] h k = refl
above number low high (r ∷ rs) h k = and-both (nat_lt number r.number) (list_all (λ r. nat_lt number r.number) rs) (grind arith) (above number low high rs h k.2)

-- the held requests pass a test where those of the longer list and the ones behind it do
held-part_step : (p : Request → Bool) (r : Request) (rs rest : List Request) (b : Bool) → IsTrue (list_all p (r ∷ rs)) → IsTrue (list_all p rest) → IsTrue (list_all p (cond b rest (r ∷ rs)))
held-part_step p r rs rest true h k = k
held-part_step p r rs rest false h k = h

held-part : (p : Request → Bool) (rs : List Request) (run : Run) → IsTrue (list_all p rs) → IsTrue (list_all p (held rs run))
held-part p [] run h = h
held-part p (r ∷ rs) run h = held-part_step p r rs (held rs run) (is_served r.number run) h (held-part p rs run (and-right (p r) (list_all p rs) h))

both : (p : Request → Bool) (rs ms : List Request) → IsTrue (list_all p rs) → IsTrue (list_all p ms) → IsTrue (list_all p (rs ++ ms))
both p [] ms h k = k
both p (r ∷ rs) ms h k = and-both (p r) (list_all p (rs ++ ms)) (and-left (p r) (list_all p rs) h) (both p rs ms (and-right (p r) (list_all p rs) h) k)

held-both_step : (p : Request → Bool) (r : Request) (rs ms before after : List Request) (b : Bool) → IsTrue (list_all p (cond b before (r ∷ rs))) → IsTrue (list_all p ms) → (IsTrue (list_all p before) → IsTrue (list_all p after)) → IsTrue (list_all p (cond b after (r ∷ (rs ++ ms))))
held-both_step p r rs ms before after true h k ih = ih h
held-both_step p r rs ms before after false h k ih = both p (r ∷ rs) ms h k

held-both : (p : Request → Bool) (rs ms : List Request) (run : Run) → IsTrue (list_all p (held rs run)) → IsTrue (list_all p ms) → IsTrue (list_all p (held (rs ++ ms) run))
held-both p [] ms run h k = held-part p ms run k
held-both p (r ∷ rs) ms run h k = held-both_step p r rs ms (held rs run) (held (rs ++ ms) run) (is_served r.number run) h k (λ h. held-both p rs ms run h k)

step-longer : (h : Header) (trace more : List TraceLine) (run : Run) (step : Step) → IsSoundStep h trace run step → IsSoundStep h (trace ++ more) run step
step-longer h trace more run (Issues s) sound = record { in_time = sound.in_time; in_range = sound.in_range; rules = sound.rules; is_of = sound.is_of; is_next = next-longer trace more run s.request sound.is_next }
step-longer h trace more run (Flips k) sound =
    let behind : List Request = requests_from (1 + length trace) more in
    let low : (1 ≤ k) × (k < 1 + length trace) = flip-within 1 trace (length (flipped run)) k sound.is_next in
    record {
      is_next = ap (λ l. slice_get l (length (flipped run))) (flips-append 1 trace more (1 + length trace) refl) ∙ slice_get-front (flips trace) (flips_from (1 + length trace) more) (length (flipped run)) k sound.is_next;
      none_later = sound.none_later;
      all_earlier = subst (λ l. IsTrue (list_all (λ r. nat_lt k r.number) (held l run))) (sym (requests-longer trace more))
          (held-both (λ r. nat_lt k r.number) (requests trace) behind run sound.all_earlier (above k (1 + length trace) (1 + length trace + length more) behind low.1 (Between-asked (1 + length trace) more (1 + length trace + length more) refl)));
    }

-- each step that was right stays so
pub sound-longer : (h : Header) (trace more : List TraceLine) (run : Run) → Sound h trace run → Sound h (trace ++ more) run
sound-longer h trace more [] sound = tt
sound-longer h trace more (step ∷ run) sound = (step-longer h trace more run step sound.0, sound-longer h trace more run sound.1)

-- and a run that is through some lines is through them of the longer trace
pub through-longer : (trace more : List TraceLine) (n : ℕ) (run : Run) → IsThrough trace n run → n ≤ length trace → IsThrough (trace ++ more) n run
through-longer trace more n run h le = record {
  serves = subst (λ l. Serves (requests l) run []) (sym (take-append-le n trace more le)) h.serves;
  flips = h.flips ∙ ap flips (sym (take-append-le n trace more le));
}
