-- The lines of a trace, one after another.
use Rattle.std.proofs.Common.{◌≡◌, ◌∙◌, ℕ, ◌+◌, ◌-◌, ◌<◌, refl, sym, ap, subst, arith, List, [], ◌∷◌, ◌++◌, sum, Option, Some, None, append-nil, append_assoc}
use Rattle.command_words.specs.Geometry.{Shape}
use Rattle.ddr_io.specs.Line.{next_bytes}
use Rattle.ddr_io.specs.Reading.{Reading as ReaderOfLines}
use Rattle.ddr_io.specs.declared.line_reader.Line.TheVariants.{Text}
use Rattle.ddr_text.specs.declared.lines.TraceLine.{TraceLine}
use Rattle.ddr_text.specs.declared.lines.TraceLine.TheVariants.{Read, Write, Flip, Idle}
use Rattle.pair_deadlines.specs.Keeping.{Resting}
use Rattle.reports.specs.Barriers.{idle_clocks}
use Rattle.reports.specs.Delivered.{AreInside, IsInside}
use Rattle.speed_bin.specs.Header.{shape_of}
use Rattle.speed_bin.specs.declared.header.Header.{Header}
use Rattle.pair_reports.specs.Lines.{lines_of}
use Rattle.pair_reports.specs.declared.rank_line.RankLine.{RankLine}
use Rattle.rank_pair.specs.Accessing.{IsThere, MayCarryOut}
use Rattle.rank_pair.specs.Answers.{IsTraced}
use Rattle.rank_pair.specs.Job.{IsPairTrace, clocks_of, in_front, trace_of}
use Rattle.rank_pair.specs.Reading.{IsBehind, IsStep, Place, StepsOn, lines_left}
use Rattle.rank_pair.specs.Running.{RunsSoFar}
use Rattle.rank_pair.specs.declared.pair.Pair.{Pair}
use Rattle.rank_pair.specs.declared.rank_reader.Next.TheVariants.{Line as LineNext, End as EndNext, Refused as RefusedNext}
use Rattle.rank_pair.proofs.Traces.{idle_sum, length_more}

-- ---- A line more

one_clock : (line : TraceLine) → sum (idle_clocks (line ∷ [])) ≡ clocks_of line
one_clock (Read line) = refl
one_clock (Write line bytes) = refl
one_clock (Flip line device bit) = refl
one_clock (Idle clocks) = omega arith

more_inside : (g : Shape) (front : List RankLine) (it : RankLine) → AreInside g (lines_of front) → IsInside g it.line → AreInside g (lines_of (front ++ it ∷ []))
more_inside g [] it all own = (own, tt)
more_inside g (first ∷ front) it all own = (all.0, more_inside g front it all.1 own)

pub more_traced : (h : Header) (start left before after : Option (List ℕ)) (it new : Place) (p : Pair) (line : RankLine) (r : RunsSoFar h start it left p before after) → StepsOn it new line → IsPairTrace (shape_of h) (r.front ++ line ∷ [])
more_traced h start left before after it new p line r steps =
    let t = r.there.under.under.on_bus.traced in
    record {
      inside = more_inside (shape_of h) r.front line t.inside (subst (λ (g : Shape). IsInside g line.line) r.shape steps.inside);
      few = (let a = steps.few in let b = r.lines in let e = length_more r.front line in omega (arith, a, b, e));
      idle = (let a = steps.short in let b = r.clocks in let e = idle_sum r.front line in let f = one_clock line.line in omega (arith, a, b, e, f));
    }

pub may_carry_out : (h : Header) (start left before after : Option (List ℕ)) (it new : Place) (p : Pair) (line : RankLine) (number : ℕ) (r : RunsSoFar h start it left p before after) → StepsOn it new line → number ≡ it.lines + 1 → MayCarryOut p line number after
may_carry_out h start left before after it new p line number r steps is = record {
  h = h;
  front = r.front;
  before = before;
  there = r.there;
  traced = more_traced h start left before after it new p line r steps;
  numbered = is ∙ ap (λ (n : ℕ). n + 1) r.lines;
}

pub behind_more : (start : Option (List ℕ)) (front : List RankLine) (it new : Place) (line : RankLine) (now after : Option (List ℕ)) → new.shape ≡ it.shape → IsBehind start front it now → IsStep it new now after (LineNext line) → IsBehind start (front ++ line ∷ []) new after
behind_more None front it new line now after same b step = tt
behind_more (Some bytes) front it new line None after same b step = absurd b
behind_more (Some bytes) front it new line (Some left) after same b step =
    subst (λ (o : Option (List ℕ)). IsBehind (Some bytes) (front ++ line ∷ []) new o) (sym step.1)
    (ap (λ (g : Shape). trace_of g bytes) same ∙ b ∙ ap (in_front front) step.2 ∙ ap (λ (lines : List RankLine). record { lines = lines; refused = (lines_left new step.0).refused }) (sym (append_assoc front (line ∷ []) (lines_left new step.0).lines)))

pub runs_on : (h : Header) (start now later before middle after : Option (List ℕ)) (it new : Place) (p q : Pair) (line : RankLine) (r : RunsSoFar h start it now p before middle) → StepsOn it new line → IsStep it new now later (LineNext line)
    → IsThere q h (r.front ++ line ∷ []) Resting before after → RunsSoFar h start new later q before after
runs_on h start now later before middle after it new p q line r steps step there = record {
  front = r.front ++ line ∷ [];
  there = there;
  is_behind = behind_more start r.front it new line now later steps.shape r.is_behind step;
  shape = steps.shape ∙ r.shape;
  lines = (let a = steps.lines in let b = r.lines in let e = length_more r.front line in omega (arith, a, b, e));
  clocks = (let a = steps.clocks in let b = r.clocks in let e = idle_sum r.front line in let f = one_clock line.line in omega (arith, a, b, e, f));
  last = steps.last;
}

pub runs_first : (h : Header) (reader : ReaderOfLines) (it : Place) (left before after : Option (List ℕ)) (p : Pair) → it ≡ record { reader = reader; shape = shape_of h; lines = 0; clocks = 0 } → reader.last ≡ Text → IsThere p h [] Resting before after
    → RunsSoFar h (next_bytes reader.held left) it (next_bytes it.reader.held left) p before after
runs_first h reader it left before after p is last there =
    subst (λ (x : Place). RunsSoFar h (next_bytes reader.held left) x (next_bytes x.reader.held left) p before after) (sym is)
    (record { front = []; there = there; is_behind = first (next_bytes reader.held left); shape = refl; lines = refl; clocks = refl; last = last })
  where
    first : (o : Option (List ℕ)) → IsBehind o [] (record { reader = reader; shape = shape_of h; lines = 0; clocks = 0 }) o
    first None = tt
    first (Some bytes) = refl

pub fewer_left : (old new : Place) (line : RankLine) → StepsOn old new line → 1048577 - new.lines < 1048577 - old.lines
fewer_left old new line steps = let few = steps.few in let next = steps.lines in omega arith

-- ---- No line more

traced_to : (h : Header) (start now after : Option (List ℕ)) (front : List RankLine) (it : Place) (refused : Option ℕ) → it.shape ≡ shape_of h → IsBehind start front it now
    → ((bytes : List ℕ) → now ≡ Some bytes → lines_left it bytes ≡ record { lines = []; refused = refused }) → IsTraced h start front refused
traced_to h None now after front it refused same b none = tt
traced_to h (Some bytes) None after front it refused same b none = absurd b
traced_to h (Some bytes) (Some left) after front it refused same b none =
    ap (λ (g : Shape). trace_of g bytes) (sym same) ∙ b ∙ ap (in_front front) (none left refl) ∙ ap (λ (lines : List RankLine). record { lines = lines; refused = refused }) (append-nil front)

-- the trace ends
pub traced_end : (h : Header) (start now after : Option (List ℕ)) (front : List RankLine) (it new : Place) → it.shape ≡ shape_of h → IsBehind start front it now → IsStep it new now after EndNext → IsTraced h start front None
traced_end h start now after front it new same b step = traced_to h start now after front it None same b (λ bytes is. go now bytes is step)
  where
    go : (o : Option (List ℕ)) (bytes : List ℕ) → o ≡ Some bytes → IsStep it new o after EndNext → lines_left it bytes ≡ record { lines = []; refused = None }
    go None bytes is step = absurd cc
    go (Some own) bytes is step = let same : own ≡ bytes = cc in subst (λ (x : List ℕ). lines_left it x ≡ record { lines = []; refused = None }) same step.1

-- a line is refused
pub traced_refused : (h : Header) (start now after : Option (List ℕ)) (front : List RankLine) (it new : Place) (reason : ℕ) → it.shape ≡ shape_of h → IsBehind start front it now → IsStep it new now after (RefusedNext reason) → IsTraced h start front (Some reason)
traced_refused h start now after front it new reason same b step = traced_to h start now after front it (Some reason) same b (λ bytes is. go now bytes is step)
  where
    go : (o : Option (List ℕ)) (bytes : List ℕ) → o ≡ Some bytes → IsStep it new o after (RefusedNext reason) → lines_left it bytes ≡ record { lines = []; refused = Some reason }
    go None bytes is step = absurd cc
    go (Some own) bytes is step = let same : own ≡ bytes = cc in subst (λ (x : List ℕ). lines_left it x ≡ record { lines = []; refused = Some reason }) same step
