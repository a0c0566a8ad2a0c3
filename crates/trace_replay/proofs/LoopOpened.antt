-- What a replay answers, by the bytes that its source had.
use Rattle.std.proofs.Common.{◌≡◌, ◌∙◌, ℕ, inl, inr, true, false, Option, Some, None, is_some, Result, Ok, Err, List, [], ◌++◌, refl, sym, ap, subst}
use Rattle.ddr_io.specs.Line.{next_bytes}
use Rattle.ddr_io.specs.declared.status.Status.{Status}
use Rattle.ddr_io.specs.declared.status.Status.TheVariants as status
use Rattle.speed_bin.specs.declared.header.Header.{Header}
use Rattle.std.specs.Io.KnownBytes.{Keeps}
use Rattle.ddr_text.specs.Io.{io}
use Rattle.ddr_text.specs.Opening.{Accepts, Refuses, opening_of, IsOpening, IsAnswer, IsUnopened}
use Rattle.ddr_text.specs.declared.opening.Opening.{Opening}
use Rattle.ddr_text.specs.declared.opening.Opening.TheVariants as opens
use Rattle.ddr_text.specs.declared.lines.TraceLine.{TraceLine}
use Rattle.speed_bin.specs.Header.{shape_of}
use Rattle.trace_replay.specs.Job.{trace_of, Traced, IsJobOf, IsNoJob}
use Rattle.trace_replay.specs.Reading.{Continues}
use Rattle.trace_replay.specs.Replay.{JobAnswers, TraceAnswers, Answers, IsServed, TraceEnds, RunAnswers, EndCause, EndKept, IsUnrefused}
use Rattle.ddr_text.specs.Stop.{status_of}
use Rattle.trace_replay.specs.declared.ending.Ending.{Ending}
use Rattle.trace_replay.specs.declared.replay_loop.Ended.{Ended}
use Rattle.trace_replay.specs.declared.replay_loop.Ended.TheVariants.{Finished, Stopped, Refused as RefusedOpening}

-- ---- The opening is accepted

-- the bytes are used up alike, from the first on or from those behind the opening
behind-opening : (answer : Status) (h : Header) (text : List ℕ) (trace : List TraceLine) (refused : Option ℕ) (bytes rest : List ℕ) (left before after : Option (List ℕ)) → JobAnswers answer h text trace refused (Some rest) left before after
    → JobAnswers answer h text trace refused (Some bytes) left before after
behind-opening status.Ok h text trace refused bytes rest left before after a = a
behind-opening status.Refused h text trace refused bytes rest left before after a = a
behind-opening status.WriteFault h text trace refused bytes rest left before after a = a
behind-opening status.OutOfMemory h text trace refused bytes rest left before after a = a
behind-opening status.ReadFault h text trace refused bytes rest left before after a = a
behind-opening status.Usage h text trace refused bytes rest left before after a = a
behind-opening status.Broken h text trace refused bytes rest left before after a = a

of-unknown : (answer : Status) (h : Header) (text : List ℕ) (left before after : Option (List ℕ)) → IsAnswer (opens.Accepted h text) → TraceAnswers answer h text None left before after → Answers answer (io None left before after)
of-unknown answer h text left before after known (inl (trace, refused, traced, within, a)) = inl (h, text, trace, refused, known, within, a)
of-unknown answer h text left before after known (inr (trace, read, within, a)) = inr (inl (h, text, trace, known, within, a))

of-known : (answer : Status) (h : Header) (text bytes rest : List ℕ) (left before after : Option (List ℕ)) → opening_of bytes ≡ Accepts h text rest → TraceAnswers answer h text (Some rest) left before after → Answers answer (io (Some bytes) left before after)
of-known answer h text bytes rest left before after is (inl (trace, refused, traced, within, a)) =
    inl (h, text, trace, refused, (rest, is, traced), within, behind-opening answer h text trace refused bytes rest left before after a)
of-known answer h text bytes rest None before after is (inr (trace, read, within, a)) = absurd read
of-known answer h text bytes rest (Some left) before after is (inr (trace, read, within, a)) =
    inr (inl (h, text, trace, (read.0, is ∙ ap (Accepts h text) read.1, read.2), within, a))

from-here : (h : Header) (rest : List ℕ) → Continues (shape_of h) [] (Some rest) [] (Some rest)
from-here h rest = ([], refl, λ more. refl)

-- a record of what was served speaks of the bytes behind the opening as of all
served-behind : (h : Header) (text : List ℕ) (trace : List TraceLine) (refused : Option ℕ) (bytes rest : List ℕ) (left before now : Option (List ℕ)) (ending : Ending) → IsServed h text trace refused (Some rest) left before now ending
    → IsServed h text trace refused (Some bytes) left before now ending
served-behind h text trace refused bytes rest left before now ending s = record {
  run = s.run;
  used_up = s.used_up;
  is_run = s.is_run;
  promises = s.promises;
  wrote = s.wrote;
  ends = s.ends;
  shown = s.shown;
}

ends-unknown : (ended : Ended) (h : Header) (text : List ℕ) (left before after : Option (List ℕ)) → IsAnswer (opens.Accepted h text) → TraceEnds ended h text None left before after → RunAnswers ended (io None left before after)
ends-unknown (Finished ending) h text left before after known (trace, refused, traced, within, s) = (h, text, trace, refused, known, within, s)
ends-unknown (Stopped stop) h text left before after known e = of-unknown (status_of stop) h text left before after known e
ends-unknown RefusedOpening h text left before after known e = absurd e

ends-known : (ended : Ended) (h : Header) (text bytes rest : List ℕ) (left before after : Option (List ℕ)) → opening_of bytes ≡ Accepts h text rest → TraceEnds ended h text (Some rest) left before after → RunAnswers ended (io (Some bytes) left before after)
ends-known (Finished ending) h text bytes rest left before after is (trace, refused, traced, within, s) =
    (h, text, trace, refused, (rest, is, traced), within, served-behind h text trace refused bytes rest left before after ending s)
ends-known (Stopped stop) h text bytes rest left before after is e = of-known (status_of stop) h text bytes rest left before after is e
ends-known RefusedOpening h text bytes rest left before after is e = absurd e

accepted : (ended : Ended) (h : Header) (text : List ℕ) (held : List ℕ) (known next left before after : Option (List ℕ)) → held ≡ [] → IsOpening (next_bytes held known) next (opens.Accepted h text) → IsAnswer (opens.Accepted h text)
    → ((start : Option (List ℕ)) → Continues (shape_of h) [] start [] next → TraceEnds ended h text start left before after) → RunAnswers ended (io known left before after)
accepted ended h text held None next left before after none o fits e = ends-unknown ended h text left before after fits (e None tt)
accepted ended h text held (Some bytes) next left before after none o fits e =
    let is : opening_of bytes ≡ Accepts h text o.0 = subst (λ l. opening_of (l ++ bytes) ≡ Accepts h text o.0) none o.1 in
    ends-known ended h text bytes o.0 left before after is (e (Some o.0) (subst (λ n. Continues (shape_of h) [] (Some o.0) [] n) (sym o.2) (from-here h o.0)))

pub opened : (opening : Opening) (ended : Ended) (h : Header) (text : List ℕ) (held : List ℕ) (known next left before after : Option (List ℕ)) → opening ≡ opens.Accepted h text → held ≡ [] → IsOpening (next_bytes held known) next opening → IsAnswer opening
    → ((start : Option (List ℕ)) → Continues (shape_of h) [] start [] next → TraceEnds ended h text start left before after) → RunAnswers ended (io known left before after)
opened opening ended h text held known next left before after is none o fits e =
    accepted ended h text held known next left before after none (subst (λ (p : Opening). IsOpening (next_bytes held known) next p) is o) (subst (λ (p : Opening). IsAnswer p) is fits) e

-- ---- The opening is not read to its end

keeps-same : (known : Option (List ℕ)) → Keeps known known
keeps-same None = tt
keeps-same (Some bytes) = refl

held-none : (held : List ℕ) (known left : Option (List ℕ)) → held ≡ [] → IsUnopened (next_bytes held known) left → IsUnopened known left
held-none held None left none u = tt
held-none held (Some bytes) left none u = subst (λ l. IsUnopened (Some (l ++ bytes)) left) none u

pub failed : (held : List ℕ) (known left written : Option (List ℕ)) → held ≡ [] → IsUnopened (next_bytes held known) left → Answers status.ReadFault (io known left written written)
failed held known left written none u = inr (inr (inr (held-none held known left none u, keeps-same written)))

-- ---- No fault was counted

pub kept-behind : (before read read_after wrote wrote_after : ℕ) (ended : Ended) → read ≡ before → EndKept read read_after wrote wrote_after ended → EndKept before read_after wrote wrote_after ended
kept-behind before read read_after wrote wrote_after ended same k = subst (λ n. EndKept n read_after wrote wrote_after ended) same k

pub cause-behind : (before read read_after wrote wrote_after : ℕ) (ended : Ended) → read ≡ before → EndCause read read_after wrote wrote_after ended → EndCause before read_after wrote wrote_after ended
cause-behind before read read_after wrote wrote_after ended same k = subst (λ n. EndCause n read_after wrote wrote_after ended) same k

pub accepted-read : {E : Type 0} (opening : Opening) (h : Header) (text : List ℕ) → opening ≡ opens.Accepted h text → ◌≡◌ {A = Result Opening E} (Ok opening) (Ok opens.Failed) → ⊥
accepted-read opening h text is e = let f : opening ≡ opens.Failed = cc in let k : opens.Accepted h text ≡ opens.Failed = sym is ∙ f in cc

pub failed-read : {E : Type 0} (opening : Opening) → opening ≡ opens.Failed → ◌≡◌ {A = Result Opening E} (Ok opening) (Ok opens.Failed)
failed-read opening is = ap Ok is

pub refused-read : {E : Type 0} (opening : Opening) (reason : ℕ) → opening ≡ opens.Refused reason → ◌≡◌ {A = Result Opening E} (Ok opening) (Ok opens.Failed) → ⊥
refused-read opening reason is e = let f : opening ≡ opens.Failed = cc in let k : opens.Refused reason ≡ opens.Failed = sym is ∙ f in cc

pub memory-read : {E : Type 0} (answer : Result Opening E) (error : E) → answer ≡ Err error → answer ≡ Ok opens.Failed → ⊥
memory-read {E = E} answer error is e = let k : ◌≡◌ {A = Result Opening E} (Err error) (Ok opens.Failed) = sym is ∙ e in cc

-- ---- A job with nothing to refuse is not refused

-- bytes open a job in one way
same-job : (h other : Header) (text other_text rest other_rest : List ℕ) → Accepts h text rest ≡ Accepts other other_text other_rest → (h ≡ other) × (rest ≡ other_rest)
same-job h other text other_text rest other_rest same = (cc, cc)

none-refused : (bytes : List ℕ) (h other : Header) (text other_text : List ℕ) (trace shown : List TraceLine) (refused : Option ℕ) → IsJobOf (Some bytes) other other_text shown refused → IsJobOf (Some bytes) h text trace None → refused ≡ None
none-refused bytes h other text other_text trace shown refused (rest, is, of) (whole_rest, whole_is, of_whole) =
    let same = same-job other h other_text text rest whole_rest (sym is ∙ whole_is) in
    let traces : trace_of (shape_of h) whole_rest ≡ record { lines = shown; refused = refused } = subst (λ k. trace_of (shape_of k) whole_rest ≡ record { lines = shown; refused = refused }) same.0
    (subst (λ l. trace_of (shape_of other) l ≡ record { lines = shown; refused = refused }) same.1 of) in
    ap (λ (t : Traced). t.refused) (sym traces ∙ of_whole)

no-opening : (bytes : List ℕ) (reason : ℕ) (h : Header) (text : List ℕ) (trace : List TraceLine) → IsNoJob (Some bytes) reason → IsJobOf (Some bytes) h text trace None → ⊥
no-opening bytes reason h text trace refuses (rest, is, of) = let same : Refuses reason ≡ Accepts h text rest = sym refuses ∙ is in cc

unrefused : (refusal : Option (ℕ × ℕ)) (refused : Option ℕ) → refused ≡ None → is_some refusal ≡ is_some refused → refusal ≡ None
unrefused None refused none e = refl
unrefused (Some it) refused none e = let no : true ≡ false = e ∙ ap (λ (o : Option ℕ). is_some o) none in cc

ends-unrefused : (ended : Ended) (bytes : List ℕ) (left before after : Option (List ℕ)) (h : Header) (text : List ℕ) (trace : List TraceLine) → RunAnswers ended (io (Some bytes) left before after) → IsJobOf (Some bytes) h text trace None → IsUnrefused ended
ends-unrefused (Finished ending) bytes left before after h text trace (other, other_text, shown, refused, is, within, s) job = unrefused ending.refusal refused (none-refused bytes h other text other_text trace shown refused is job) s.shown
ends-unrefused (Stopped stop) bytes left before after h text trace r job = tt
ends-unrefused RefusedOpening bytes left before after h text trace (reason, refuses, wrote) job = no-opening bytes reason h text trace refuses job

pub run-complete : (ended : Ended) (known left before after : Option (List ℕ)) (bytes : List ℕ) (h : Header) (text : List ℕ) (trace : List TraceLine) → RunAnswers ended (io known left before after) → known ≡ Some bytes → IsJobOf (Some bytes) h text trace None → IsUnrefused ended
run-complete ended known left before after bytes h text trace answers is job = ends-unrefused ended bytes left before after h text trace (subst (λ l. RunAnswers ended (io l left before after)) is answers) job
