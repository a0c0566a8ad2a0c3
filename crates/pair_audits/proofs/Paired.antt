-- What is written of a job for two ranks, and what an audit finds in the part of each rank.
use Rattle.std.proofs.Common.{◌≡◌, inl, inr, ◌∙◌, ℕ, suc, ◌<◌, ◌≤◌, ◌+◌, Bool, true, false, Option, Some, None, Result, Ok, Err, List, [], ◌∷◌, ◌++◌, length, sum, refl, sym, ap, subst, arith, if◌then◌else◌}
use Rattle.std.specs.Prelude.{⊤, IfSome, nat_le, nat_lt}
use Rattle.command_words.specs.Geometry.{Shape}
use Rattle.command_words.specs.declared.words.WordFault.TheVariants as word
use Rattle.ddr_io.specs.declared.status.Status.TheVariants as status
use Rattle.ddr_text.specs.Opening.{Accepts, Refuses, is_long, opening_of, parts_of}
use Rattle.ddr_text.specs.Reason.{fault_reason}
use Rattle.ddr_text.specs.declared.lines.LineFault.{LineFault}
use Rattle.ddr_text.specs.declared.lines.LineFault.TheVariants.{Empty, Letter, Fields, Number, Range, Hex, Word}
use Rattle.ddr_text.specs.ReportParts.{Refusal}
use Rattle.rank_bus.specs.declared.rank.Rank.{Rank}
use Rattle.reports.specs.Barriers.{idle_clocks}
use Rattle.reports.specs.Delivered.{AreInside}
use Rattle.speed_bin.specs.Header.{shape_of}
use Rattle.speed_bin.specs.declared.header.Header.{Header}
use Rattle.audited_reports.specs.Audited.{IsAuditedOk, IsTold}
use Rattle.pair_deadlines.specs.Budget.{HasTime}
use Rattle.pair_reports.specs.Grammar.{rank_line_of}
use Rattle.pair_reports.specs.Lines.{lines_of}
use Rattle.pair_reports.specs.Report.{digit_of}
use Rattle.pair_reports.specs.Whole.{IsPairReportOf}
use Rattle.pair_reports.specs.declared.rank_line.RankLine.{RankLine}
use Rattle.rank_pair.specs.Answers.{PairAnswers, PairReports, refusal_of}
use Rattle.rank_pair.specs.Job.{IsNoPairJob, Traced, behind_line, clocks_of, judged_line, judged_rest, lines_in, most_clocks, most_lines, trace_of, within}
use Rattle.audited_pairs.specs.Split.{own_lines}

-- ---- Reasons are small

abbrev IsSmall : Option ℕ → Type 0
IsSmall refused = IfSome refused (λ reason. reason < 256)

abbrev IsSmallFault : Result RankLine ℕ → Type 0
IsSmallFault (Ok it) = ⊤
IsSmallFault (Err reason) = reason < 256

small_fault : (fault : LineFault) → fault_reason fault < 256
small_fault Empty = omega arith
small_fault Letter = omega arith
small_fault Fields = omega arith
small_fault Number = omega arith
small_fault Range = omega arith
small_fault Hex = omega arith
small_fault (Word word.Unknown) = omega arith
small_fault (Word word.SecondMissing) = omega arith
small_fault (Word word.SecondExtra) = omega arith
small_fault (Word word.Reserved) = omega arith
small_fault (Word word.Range) = omega arith

small_if : (b : Bool) (x y : Result RankLine ℕ) → IsSmallFault x → IsSmallFault y → IsSmallFault (if b then x else y)
small_if true x y f g = f
small_if false x y f g = g

small_within : (clocks : ℕ) (read : Result RankLine LineFault) → IsSmallFault (within clocks read)
small_within clocks (Ok it) = small_if (nat_lt most_clocks (clocks + clocks_of it.line)) (Err 10) (Ok it) (omega arith) tt
small_within clocks (Err fault) = small_fault fault

small_line : (g : Shape) (lines clocks : ℕ) (text : List ℕ) → IsSmallFault (judged_line g lines clocks text)
unfolding judged_line
small_line g lines clocks text =
    small_if (nat_le most_lines lines) (Err 9) (if is_long text then Err 7 else within clocks (rank_line_of g text)) (omega arith)
    (small_if (is_long text) (Err 7) (within clocks (rank_line_of g text)) (omega arith) (small_within clocks (rank_line_of g text)))

small_reason : (full long : Bool) → (if full then 9 else if long then 7 else 8) < 256
small_reason true long = omega arith
small_reason false true = omega arith
small_reason false false = omega arith

small_rest : (lines : ℕ) (last : List ℕ) → IsSmall (judged_rest lines last)
unfolding judged_rest
small_rest lines [] = tt
small_rest lines (byte ∷ bytes) = small_reason (nat_le most_lines lines) (is_long (byte ∷ bytes))

small_behind : (r : Result RankLine ℕ) (go_on : RankLine → Traced) → IsSmallFault r → ((it : RankLine) → IsSmall (go_on it).refused) → IsSmall (behind_line r go_on).refused
small_behind (Ok it) go_on f h = h it
small_behind (Err reason) go_on f h = f

small_trace : (g : Shape) (lines clocks : ℕ) (parts : List (List ℕ)) → IsSmall (lines_in g lines clocks parts).refused
small_trace g lines clocks [] = tt
small_trace g lines clocks (last ∷ []) = small_rest lines last
small_trace g lines clocks (text ∷ next ∷ parts) =
    small_behind (judged_line g lines clocks text) (λ it. lines_in g (suc lines) (clocks + clocks_of it.line) (next ∷ parts)) (small_line g lines clocks text)
    (λ it. small_trace g (suc lines) (clocks + clocks_of it.line) (next ∷ parts))

told : (g : Shape) (rest : List ℕ) (trace : List RankLine) (refused : Option ℕ) → trace_of g rest ≡ record { lines = trace; refused = refused } → length trace ≤ 1048576 → IsTold (refusal_of trace refused)
told g rest trace None is few = tt
told g rest trace (Some reason) is few = (omega (arith, few), subst IsSmall (ap (λ (t : Traced). t.refused) is) (small_trace g 0 0 (parts_of rest)))

-- ---- The report

-- what is taken from the law on the bytes of finished reports
abbrev pub Law : Type 0
Law = (h : Header) (job text rest : List ℕ) (trace : List RankLine) (refusal : Option Refusal) (lines : List ℕ) (rank : Rank) → opening_of job ≡ Accepts h text rest → AreInside (shape_of h) (lines_of trace) → length trace ≤ 1048576
    → sum (idle_clocks (lines_of trace)) ≤ 4294967296 → IsTold refusal → IsPairReportOf h text trace refusal (text ++ lines) → IsAuditedOk (text ++ own_lines (digit_of rank) lines)

reported : Law → (h : Header) (job text rest lines : List ℕ) (trace : List RankLine) (refused : Option ℕ) (rank : Rank) → opening_of job ≡ Accepts h text rest → trace_of (shape_of h) rest ≡ record { lines = trace; refused = refused }
    → PairReports h text trace refused (Some []) (Some (text ++ lines)) → IsAuditedOk (text ++ own_lines (digit_of rank) lines)
reported law h job text rest lines trace refused rank opens traced r =
    law h job text rest trace (refusal_of trace refused) lines rank opens r.traced.inside r.traced.few r.traced.idle (told (shape_of h) rest trace refused traced r.traced.few) (r.run, r.clock, r.is_run, r.wrote)

-- the opening of a job is one
opened : (text own : List ℕ) (h k : Header) (rest more : List ℕ) (o : List ℕ) → opening_of o ≡ Accepts h text rest → opening_of o ≡ Accepts k own more → text ≡ own
opened text own h k rest more o e f = let same : Accepts h text rest ≡ Accepts k own more = sym e ∙ f in cc

of_text : Law → (k : Header) (job text own more lines : List ℕ) (trace : List RankLine) (refused : Option ℕ) (rank : Rank) → text ≡ own → opening_of job ≡ Accepts k own more → trace_of (shape_of k) more ≡ record { lines = trace; refused = refused }
    → PairReports k own trace refused (Some []) (Some (text ++ lines)) → IsAuditedOk (text ++ own_lines (digit_of rank) lines)
of_text law k job text own more lines trace refused rank same opens traced r =
    subst (λ (t : List ℕ). IsAuditedOk (t ++ own_lines (digit_of rank) lines)) (sym same)
    (reported law k job own more lines trace refused rank opens traced (subst (λ (t : List ℕ). PairReports k own trace refused (Some []) (Some (t ++ lines))) same r))

pub finished : Law → (h : Header) (job text rest lines : List ℕ) (left : Option (List ℕ)) (rank : Rank) → opening_of job ≡ Accepts h text rest → PairAnswers status.Ok (Some job) left (Some []) (Some (text ++ lines)) → IsAuditedOk (text ++ own_lines (digit_of rank) lines)
finished law h job text rest lines left rank opens (inl a) =
    let at = a.4 in
    of_text law a.0 job text a.1 at.0 lines a.2 a.3 rank (opened text a.1 h a.0 rest at.0 job opens at.1) at.1 at.3 a.5.2
finished law h job text rest lines left rank opens (inr (inl a)) = absurd a.2
finished law h job text rest lines left rank opens (inr (inr a)) = absurd a

-- an opening that is accepted, with which two ranks have time, is refused for nothing
no_reason : (h : Header) (job text rest : List ℕ) (reason : ℕ) → opening_of job ≡ Accepts h text rest → HasTime h → IsNoPairJob (Some job) reason → ⊥
no_reason h job text rest reason opens time (inl e) = let both : Accepts h text rest ≡ Refuses reason = sym opens ∙ e in cc
no_reason h job text rest reason opens time (inr e) =
    let none = e.1 in
    let both : Accepts h text rest ≡ Accepts none.0 none.1 none.2 = sym opens ∙ none.3 in
    let same : h ≡ none.0 = cc in
    none.4 (subst HasTime same time)

pub refused : Law → (h : Header) (job text rest lines : List ℕ) (left : Option (List ℕ)) (rank : Rank) → opening_of job ≡ Accepts h text rest → HasTime h → PairAnswers status.Refused (Some job) left (Some []) (Some (text ++ lines))
    → IsAuditedOk (text ++ own_lines (digit_of rank) lines)
refused law h job text rest lines left rank opens time (inl a) =
    let at = a.4 in
    of_text law a.0 job text a.1 at.0 lines a.2 a.3 rank (opened text a.1 h a.0 rest at.0 job opens at.1) at.1 at.3 a.5.1
refused law h job text rest lines left rank opens time (inr (inl a)) = absurd (no_reason h job text rest a.0 opens time a.1)
refused law h job text rest lines left rank opens time (inr (inr a)) = absurd a
