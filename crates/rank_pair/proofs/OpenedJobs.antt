-- What is answered from the first byte of a job on.
use Rattle.std.proofs.Common.{◌≡◌, ◌∙◌, ℕ, inl, inr, refl, sym, ap, subst, Bool, true, false, List, Option, Some, None, IsSome, Result, Ok, [], ◌++◌}
use Rattle.ddr_io.specs.Line.{next_bytes}
use Rattle.ddr_io.specs.declared.status.Status.{Status}
use Rattle.ddr_io.specs.declared.status.Status.TheVariants as status
use Rattle.std.proofs.KnownBytes.{Keeps-refl}
use Rattle.ddr_text.specs.Opening.{Accepts, IsAnswer, IsOpening, IsUnopened, Refuses}
use Rattle.ddr_text.specs.Outcome.{RefusesLine}
use Rattle.ddr_text.specs.declared.opening.Opening.{Opening}
use Rattle.ddr_text.specs.declared.opening.Opening.TheVariants.{Accepted, Failed, Refused}
use Rattle.pair_deadlines.specs.Budget.{HasTime}
use Rattle.pair_reports.specs.declared.rank_line.RankLine.{RankLine}
use Rattle.speed_bin.specs.Header.{shape_of}
use Rattle.speed_bin.specs.declared.header.Header.{Header}
use Rattle.rank_pair.specs.Answers.{IsTraced, JobAnswers, PairAnswers, TraceAnswers}
use Rattle.rank_pair.specs.Job.{IsNoPairJob, IsPairJobOf, Traced, trace_of}

-- ---- The opening is accepted

-- of known bytes all are used up alike, from the first on or from those behind the opening
behind_opening : (answer : Status) (h : Header) (text : List ℕ) (trace : List RankLine) (refused : Option ℕ) (bytes rest : List ℕ) (left before after : Option (List ℕ)) → JobAnswers answer h text trace refused (Some rest) left before after
    → JobAnswers answer h text trace refused (Some bytes) left before after
behind_opening status.Ok h text trace refused bytes rest left before after a = a
behind_opening status.Refused h text trace refused bytes rest left before after a = a
behind_opening status.WriteFault h text trace refused bytes rest left before after a = a
behind_opening status.OutOfMemory h text trace refused bytes rest left before after a = a
behind_opening status.ReadFault h text trace refused bytes rest left before after a = a
behind_opening status.Usage h text trace refused bytes rest left before after a = a
behind_opening status.Broken h text trace refused bytes rest left before after a = a

-- of unknown bytes nothing is said
behind_unknown : (answer : Status) (h : Header) (text : List ℕ) (trace : List RankLine) (refused : Option ℕ) (start left before after : Option (List ℕ)) → JobAnswers answer h text trace refused start left before after
    → JobAnswers answer h text trace refused None left before after
behind_unknown status.Ok h text trace refused start left before after a = (a.0, tt, a.2)
behind_unknown status.Refused h text trace refused start left before after a = a
behind_unknown status.WriteFault h text trace refused start left before after a = a
behind_unknown status.OutOfMemory h text trace refused start left before after a = a
behind_unknown status.ReadFault h text trace refused start left before after a = a
behind_unknown status.Usage h text trace refused start left before after a = a
behind_unknown status.Broken h text trace refused start left before after a = a

pub opened : (answer : Status) (h : Header) (text : List ℕ) (old start left before after : Option (List ℕ)) → IsOpening (next_bytes [] old) start (Accepted h text) → IsAnswer (Accepted h text) → HasTime h
    → TraceAnswers answer h text start left before after → PairAnswers answer old left before after
opened answer h text None start left before after o known time (trace, refused, traced, a) =
    inl (h, text, trace, refused, (known.0, time, known.1), behind_unknown answer h text trace refused start left before after a)
opened answer h text (Some bytes) start left before after o known time (trace, refused, traced, a) =
    inl (
      h,
      text,
      trace,
      refused,
      (o.0, o.1, time, subst (λ (s : Option (List ℕ)). IsTraced h s trace refused) o.2 traced),
      behind_opening answer h text trace refused bytes o.0 left before after (subst (λ (s : Option (List ℕ)). JobAnswers answer h text trace refused s left before after) o.2 a),
    )

-- ---- The opening is refused

no_time : (h : Header) (text : List ℕ) (old start : Option (List ℕ)) → IsOpening (next_bytes [] old) start (Accepted h text) → (HasTime h → ⊥) → IsNoPairJob old 30
no_time h text None start o late = inr refl
no_time h text (Some bytes) start o late = inr (refl, (h, text, o.0, o.1, late))

-- what is false does not hold
pub not_both : (b : Bool) → b ≡ false → b ≡ true → ⊥
not_both b f t = let k : true ≡ false = sym t ∙ f in cc

pub opened_late : (answer : Status) (h : Header) (text : List ℕ) (old start left before after : Option (List ℕ)) → IsOpening (next_bytes [] old) start (Accepted h text) → (HasTime h → ⊥) → RefusesLine answer 0 30 before after → PairAnswers answer old left before after
opened_late answer h text old start left before after o late refuses = inr (inl (30, no_time h text old start o late, refuses))

no_job : (reason : ℕ) (old start : Option (List ℕ)) → IsOpening (next_bytes [] old) start (Refused reason) → IsAnswer (Refused reason) → IsNoPairJob old reason
no_job reason None start o known = inl known
no_job reason (Some bytes) start o known = inl o

pub opened_not : (answer : Status) (reason : ℕ) (old start left before after : Option (List ℕ)) → IsOpening (next_bytes [] old) start (Refused reason) → IsAnswer (Refused reason) → RefusesLine answer 0 reason before after → PairAnswers answer old left before after
opened_not answer reason old start left before after o known refuses = inr (inl (reason, no_job reason old start o known, refuses))

unopened : (held : List ℕ) (old left : Option (List ℕ)) → held ≡ [] → IsUnopened (next_bytes held old) left → IsUnopened old left
unopened held None left none u = tt
unopened held (Some bytes) left none u = subst (λ (l : List ℕ). IsUnopened (Some (l ++ bytes)) left) none u

pub opened_fault : (held : List ℕ) (old left written : Option (List ℕ)) → held ≡ [] → IsUnopened (next_bytes held old) left → PairAnswers status.ReadFault old left written written
opened_fault held old left written none u = inr (inr (unopened held old left none u, Keeps-refl written))

-- the opening that failed is the answer
pub is_failed : {E : Type 0} (opening : Opening) → opening ≡ Failed → ◌≡◌ {A = Result Opening E} (Ok opening) (Ok Failed)
is_failed opening is = ap Ok is

pub opened_nothing : (old left written : Option (List ℕ)) → PairAnswers status.OutOfMemory old left written written
opened_nothing old left written = inr (inr (Keeps-refl written))

-- ---- What is never answered

pub no_usage : (answer : Status) (old left before after : Option (List ℕ)) → PairAnswers answer old left before after → answer ≡ status.Usage → ⊥
no_usage answer old left before after answers e = go (subst (λ (s : Status). PairAnswers s old left before after) e answers)
  where
    go : PairAnswers status.Usage old left before after → ⊥
    go (inl (h, text, trace, refused, is, a)) = a
    go (inr (inl (reason, is, a))) = a
    go (inr (inr a)) = a

pub no_broken : (answer : Status) (old left before after : Option (List ℕ)) → PairAnswers answer old left before after → answer ≡ status.Broken → ⊥
no_broken answer old left before after answers e = go (subst (λ (s : Status). PairAnswers s old left before after) e answers)
  where
    go : PairAnswers status.Broken old left before after → ⊥
    go (inl (h, text, trace, refused, is, a)) = a
    go (inr (inl (reason, is, a))) = a
    go (inr (inr a)) = a

-- ---- A job with nothing to refuse is not refused

-- bytes open a job in one way
same_job : (h other : Header) (text other_text rest other_rest : List ℕ) → Accepts h text rest ≡ Accepts other other_text other_rest → (h ≡ other) × (rest ≡ other_rest)
same_job h other text other_text rest other_rest same = (cc, cc)

none_refused : (bytes : List ℕ) (h other : Header) (text other_text : List ℕ) (trace shown : List RankLine) (refused : Option ℕ) → IsPairJobOf (Some bytes) other other_text shown refused → IsPairJobOf (Some bytes) h text trace None → refused ≡ None
none_refused bytes h other text other_text trace shown refused (rest, is, time, of) (whole_rest, whole_is, whole_time, of_whole) =
    let same = same_job other h other_text text rest whole_rest (sym is ∙ whole_is) in
    let traces : trace_of (shape_of h) whole_rest ≡ record { lines = shown; refused = refused } = subst (λ (k : Header). trace_of (shape_of k) whole_rest ≡ record { lines = shown; refused = refused }) same.0
    (subst (λ (l : List ℕ). trace_of (shape_of other) l ≡ record { lines = shown; refused = refused }) same.1 of) in
    ap (λ (t : Traced). t.refused) (sym traces ∙ of_whole)

none_left : (refused : Option ℕ) → refused ≡ None → IsSome refused → ⊥
none_left None e is = cc
none_left (Some reason) e is = cc

is_opened : (bytes : List ℕ) (reason : ℕ) (h : Header) (text : List ℕ) (trace : List RankLine) → IsNoPairJob (Some bytes) reason → IsPairJobOf (Some bytes) h text trace None → ⊥
is_opened bytes reason h text trace (inl refuses) (rest, is, time, of) = let same : Refuses reason ≡ Accepts h text rest = sym refuses ∙ is in absurd cc
is_opened bytes reason h text trace (inr (number, (other, other_text, other_rest, opens, late))) (rest, is, time, of) =
    late (subst (λ (k : Header). HasTime k) (same_job h other text other_text rest other_rest (sym is ∙ opens)).0 time)

pub completes : (bytes : List ℕ) (h : Header) (text : List ℕ) (trace : List RankLine) (answer : Status) (old left before after : Option (List ℕ)) → PairAnswers answer old left before after → old ≡ Some bytes → IsPairJobOf (Some bytes) h text trace None
    → answer ≡ status.Refused → ⊥
completes bytes h text trace answer old left before after answers is job e =
    go (subst (λ (s : Status). PairAnswers s (Some bytes) left before after) e (subst (λ (o : Option (List ℕ)). PairAnswers answer o left before after) is answers))
  where
    go : PairAnswers status.Refused (Some bytes) left before after → ⊥
    go (inl (other, other_text, shown, refused, is, a)) = none_left refused (none_refused bytes h other text other_text trace shown refused is job) a.0
    go (inr (inl (reason, none, a))) = is_opened bytes reason h text trace none job
    go (inr (inr a)) = a
