-- The trace of a merged job is read from its lines.
use Rattle.std.proofs.Common.{◌≡◌, ℕ, zero, suc, ◌+◌, ◌&&◌, ◌≤◌, Bool, true, false, cond, List, [], ◌∷◌, ◌++◌, get_or, refl, sym, ap, ◌∙◌, subst, arith, append_assoc, append-nil, Result, Ok, Err}
use Rattle.std.specs.Prelude.{nat_lt, sum}
use Rattle.std.specs.List.{flat_map, slice_split}
use Rattle.std.proofs.lemmas.Bool.{ne_eqb}
use Rattle.std.proofs.lemmas.List.Splits.{slice_split_at}
use Rattle.command_words.specs.Geometry.{Shape}
use Rattle.ddr_io.specs.Line.{HasNoFeed}
use Rattle.ddr_text.specs.Grammar.{trace_line_of}
use Rattle.ddr_text.specs.Opening.{is_feed, is_long, parts_of, with_feed}
use Rattle.ddr_text.specs.declared.lines.LineFault.{LineFault}
use Rattle.ddr_text.specs.declared.lines.TraceLine.{TraceLine}
use Rattle.reports.specs.Barriers.{idle_clocks}
use Rattle.trace_replay.specs.Job.{at_end, clocks_of, continued, if_read, is_full, trace_from, trace_of, with_part}
use Rattle.ddr_text.specs.Accepted.{TraceGrammar}
use Rattle.reports.specs.Ages.{IsCapped}
use Rattle.fair_queue.specs.Merged.{barred, barrier, ending, is_due, is_request, one_more}
use Rattle.fair_queue.specs.Parsed.{AreLines, AreRead}
use Rattle.fair_queue.proofs.Capped.{merged-capped}

-- ---- Lines are read one after another

record IsLonger (g : Shape) (trace : List TraceLine) (text : List ℕ) (longer : List TraceLine) : Type 0 where
  line : TraceLine
  read : trace_line_of g text ≡ Ok line
  is : longer ≡ trace ++ line ∷ []

longer-of : (g : Shape) (trace : List TraceLine) (text : List ℕ) (longer : List TraceLine) (r : Result TraceLine LineFault) → trace_line_of g text ≡ r → if_read trace r ≡ Ok longer → IsLonger g trace text longer
longer-of g trace text longer (Err fault) e k = cc
longer-of g trace text longer (Ok line) e k = go (nat_lt 4294967296 (sum (idle_clocks trace) + clocks_of line)) k
  where
    go : (b : Bool) → cond {A = Result (List TraceLine) ℕ} b (Err 10) (Ok (trace ++ line ∷ [])) ≡ Ok longer → IsLonger g trace text longer
    go true f = cc
    go false f = let own : List TraceLine = trace ++ line ∷ [] in let same : own ≡ longer = cc in record { line = line; read = e; is = sym same }

part-longer : (g : Shape) (trace : List TraceLine) (text : List ℕ) (longer : List TraceLine) → with_part g trace text ≡ Ok longer → IsLonger g trace text longer
part-longer g trace text longer e = go (is_full trace) (is_long text) e
  where
    go : (a b : Bool) → cond {A = Result (List TraceLine) ℕ} a (Err 9) (cond {A = Result (List TraceLine) ℕ} b (Err 7) (if_read trace (trace_line_of g text))) ≡ Ok longer → IsLonger g trace text longer
    go true b f = cc
    go false true f = cc
    go false false f = longer-of g trace text longer (trace_line_of g text) refl f

pub record IsTracedFrom (g : Shape) (trace : List TraceLine) (parts : List (List ℕ)) (lines : List TraceLine) : Type 0 where
  pub more : List TraceLine
  pub is : lines ≡ trace ++ more
  pub read : AreRead g parts more

end-lines : (trace : List TraceLine) (last : List ℕ) → (at_end trace last).lines ≡ trace
end-lines trace [] = refl
end-lines trace (byte ∷ bytes) = refl

pub traced : (g : Shape) (trace : List TraceLine) (parts : List (List ℕ)) → IsTracedFrom g trace parts (trace_from g trace parts).lines
traced g trace [] = record { more = []; is = sym (append-nil trace); read = tt }
traced g trace (last ∷ []) = record { more = []; is = end-lines trace last ∙ sym (append-nil trace); read = tt }
traced g trace (text ∷ next ∷ parts) = go (with_part g trace text) refl (λ longer. traced g longer (next ∷ parts))
  where
    go : (r : Result (List TraceLine) ℕ) → with_part g trace text ≡ r → ((longer : List TraceLine) → IsTracedFrom g longer (next ∷ parts) (trace_from g longer (next ∷ parts)).lines)
        → IsTracedFrom g trace (text ∷ next ∷ parts) (continued trace r (λ longer. trace_from g longer (next ∷ parts))).lines
    go (Err reason) e ih = record { more = []; is = sym (append-nil trace); read = tt }
    go (Ok longer) e ih =
        let l = part-longer g trace text longer e in
        let h = ih longer in
        record {
          more = l.line ∷ h.more;
          is = h.is ∙ ap (λ t. t ++ h.more) l.is ∙ append_assoc trace (l.line ∷ []) h.more;
          read = (l.read, h.read);
        }

-- ---- The parts of lines

lines-parts : (texts : List (List ℕ)) (rest : List ℕ) → AreLines texts → parts_of (flat_map with_feed texts ++ rest) ≡ texts ++ parts_of rest
unfolding parts_of
lines-parts [] rest a = refl
lines-parts (text ∷ texts) rest a =
    ap (slice_split is_feed) (append_assoc (with_feed text) (flat_map with_feed texts) rest ∙ append_assoc text (10 ∷ []) (flat_map with_feed texts ++ rest))
    ∙ slice_split_at is_feed text 10 (flat_map with_feed texts ++ rest) (λ i d low. ne_eqb (get_or text i d) 10 (a.0 i d low)) refl
    ∙ ap (λ l. text ∷ l) (lines-parts texts rest a.1)

-- behind the lines stand none that are read
abbrev IsEmpty : List (List ℕ) → Type 0
IsEmpty [] = Unit {0}
IsEmpty (text ∷ texts) = text ≡ []

read-front : (g : Shape) (texts behind : List (List ℕ)) (trace : List TraceLine) → IsEmpty behind → AreRead g (texts ++ behind) trace → AreRead g texts trace
unfolding trace_line_of
read-front g texts behind [] i r = tt
read-front g [] [] (line ∷ trace) i r = r
read-front g [] (text ∷ behind) (line ∷ trace) i r = nothing line (ap (trace_line_of g) (sym i) ∙ r.0)
  where
    nothing : (line : TraceLine) → trace_line_of g [] ≡ Ok line → ⊥
    nothing line e = cc
read-front g (text ∷ texts) behind (line ∷ trace) i r = (r.0, read-front g texts behind trace i r.1)

ending-empty : (b : Bool) → IsEmpty (parts_of (ending b))
unfolding parts_of
ending-empty true = refl
ending-empty false = refl

pub job-read : (g : Shape) (texts : List (List ℕ)) (b : Bool) → AreLines texts → AreRead g texts (trace_of g (flat_map with_feed texts ++ ending b)).lines
job-read g texts b a =
    let t = traced g [] (parts_of (flat_map with_feed texts ++ ending b)) in
    subst (AreRead g texts) (sym t.is)
    (read-front g texts (parts_of (ending b)) t.more (ending-empty b) (subst (λ p. AreRead g p t.more) (lines-parts texts (ending b) a) t.read))

-- ---- The lines of a merge

barrier-line : HasNoFeed barrier
barrier-line zero d low = λ e. omega (arith, e)
barrier-line (suc zero) d low = λ e. omega (arith, e)
barrier-line (suc (suc zero)) d low = λ e. omega (arith, e)
barrier-line (suc (suc (suc i))) d low = absurd (omega (arith, low))

bars-lines : (b : Bool) (texts : List (List ℕ)) → AreLines texts → AreLines (cond b (barrier ∷ []) [] ++ texts)
bars-lines true texts a = (barrier-line, a)
bars-lines false texts a = a

barred-lines : (cap count : ℕ) (rests : List (List ℕ)) → AreLines rests → AreLines (barred cap count rests)
barred-lines cap count [] a = tt
barred-lines cap count (rest ∷ rests) a = bars-lines (is_request rest && is_due cap count) (rest ∷ barred cap (one_more (is_request rest) count) rests) (a.0, barred-lines cap (one_more (is_request rest) count) rests a.1)

pub job-capped : TraceGrammar → (g : Shape) (cap : ℕ) (rests : List (List ℕ)) (b : Bool) → 1 ≤ cap → AreLines rests → IsCapped cap (trace_of g (flat_map with_feed (barred cap 0 rests) ++ ending b)).lines
job-capped grammar g cap rests b one a =
    merged-capped grammar g cap rests (trace_of g (flat_map with_feed (barred cap 0 rests) ++ ending b)).lines one (job-read g (barred cap 0 rests) b (barred-lines cap 0 rests a))
