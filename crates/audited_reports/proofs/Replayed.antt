-- A replay's answer, and what an audit finds in what it wrote.
use Rattle.std.proofs.Common.{◌≡◌, inl, inr, ℕ, ◌+◌, ◌<◌, ◌≤◌, Bool, true, false, cond, Option, Some, None, Result, Ok, Err, List, [], ◌∷◌, ◌++◌, length, sum, sym, ap, ◌∙◌, subst, arith}
use Rattle.std.specs.Prelude.{⊤, IfSome, nat_lt}
use Rattle.command_words.specs.Geometry.{Shape}
use Rattle.command_words.specs.declared.words.WordFault.TheVariants as word
use Rattle.ddr_io.specs.declared.status.Status.TheVariants as status
use Rattle.ddr_text.specs.Io.{io}
use Rattle.ddr_text.specs.Grammar.{trace_line_of}
use Rattle.ddr_text.specs.Opening.{Accepts, Refuses, is_long, opening_of, parts_of}
use Rattle.ddr_text.specs.Reason.{fault_reason}
use Rattle.ddr_text.specs.Spelling.{spelled}
use Rattle.ddr_text.specs.declared.lines.LineFault.{LineFault}
use Rattle.ddr_text.specs.declared.lines.LineFault.TheVariants.{Empty, Letter, Fields, Number, Range, Hex, Word}
use Rattle.ddr_text.specs.declared.lines.TraceLine.{TraceLine}
use Rattle.speed_bin.specs.Header.{shape_of}
use Rattle.speed_bin.specs.declared.header.Header.{Header}
use Rattle.reports.specs.Barriers.{idle_clocks}
use Rattle.ddr_text.specs.ReportParts.{Refusal}
use Rattle.reports.specs.Whole.{IsReportOf}
use Rattle.trace_replay.specs.Job.{IsTrace, Traced, at_end, clocks_of, continued, if_read, is_full, trace_from, trace_of, with_part}
use Rattle.trace_replay.specs.Replay.{Answers, Reports, refusal_of}
use Rattle.audited_reports.specs.Audited.{IsAuditedOk, IsTold, IsWithinLimits}

-- ---- Reasons are small

-- the reason, where there is one, is below 256
abbrev IsSmall : Option ℕ → Type 0
IsSmall refused = IfSome refused (λ reason. reason < 256)

abbrev IsSmallFault : {A : Type 0} → Result A ℕ → Type 0
IsSmallFault (Ok x) = ⊤
IsSmallFault (Err reason) = reason < 256

small-fault : (fault : LineFault) → fault_reason fault < 256
small-fault Empty = omega arith
small-fault Letter = omega arith
small-fault Fields = omega arith
small-fault Number = omega arith
small-fault Range = omega arith
small-fault Hex = omega arith
small-fault (Word word.Unknown) = omega arith
small-fault (Word word.SecondMissing) = omega arith
small-fault (Word word.SecondExtra) = omega arith
small-fault (Word word.Reserved) = omega arith
small-fault (Word word.Range) = omega arith

small-cond : {A : Type 0} (b : Bool) (x y : Result A ℕ) → IsSmallFault x → IsSmallFault y → IsSmallFault (cond b x y)
small-cond true x y f g = f
small-cond false x y f g = g

small-read : (trace : List TraceLine) (read : Result TraceLine LineFault) → IsSmallFault (if_read trace read)
small-read trace (Ok line) = small-cond (nat_lt 4294967296 (sum (idle_clocks trace) + clocks_of line)) (Err 10) (Ok (trace ++ line ∷ [])) (omega arith) tt
small-read trace (Err fault) = small-fault fault

small-part : (g : Shape) (trace : List TraceLine) (part : List ℕ) → IsSmallFault (with_part g trace part)
small-part g trace part =
    small-cond (is_full trace) (Err 9) (cond (is_long part) (Err 7) (if_read trace (trace_line_of g part))) (omega arith)
    (small-cond (is_long part) (Err 7) (if_read trace (trace_line_of g part)) (omega arith) (small-read trace (trace_line_of g part)))

small-reason : (full long : Bool) → cond full 9 (cond long 7 8) < 256
small-reason true long = omega arith
small-reason false true = omega arith
small-reason false false = omega arith

small-end : (trace : List TraceLine) (last : List ℕ) → IsSmall (at_end trace last).refused
small-end trace [] = tt
small-end trace (byte ∷ bytes) = small-reason (is_full trace) (is_long (byte ∷ bytes))

small-continued : (trace : List TraceLine) (r : Result (List TraceLine) ℕ) (go_on : List TraceLine → Traced) → IsSmallFault r → ((longer : List TraceLine) → IsSmall (go_on longer).refused) → IsSmall (continued trace r go_on).refused
small-continued trace (Ok longer) go_on f h = h longer
small-continued trace (Err reason) go_on f h = f

small-trace : (g : Shape) (trace : List TraceLine) (parts : List (List ℕ)) → IsSmall (trace_from g trace parts).refused
small-trace g trace [] = tt
small-trace g trace (last ∷ []) = small-end trace last
small-trace g trace (line ∷ next ∷ parts) =
    small-continued trace (with_part g trace line) (λ longer. trace_from g longer (next ∷ parts)) (small-part g trace line) (λ longer. small-trace g longer (next ∷ parts))

-- an X line can tell the refusal of a job
told : (g : Shape) (rest : List ℕ) (trace : List TraceLine) (refused : Option ℕ) → trace_of g rest ≡ record { lines = trace; refused = refused } → length trace ≤ 1048576 → IsTold (refusal_of trace refused)
told g rest trace None is few = tt
told g rest trace (Some reason) is few = (omega (arith, few), subst IsSmall (ap (λ (t : Traced). t.refused) is) (small-trace g [] (parts_of rest)))

-- ---- The report

-- what is taken from the law on finished reports
abbrev pub Law : Type 0
Law = (h : Header) (job text rest : List ℕ) (trace : List TraceLine) (refusal : Option Refusal) (bytes : List ℕ) → opening_of job ≡ Accepts h text rest → IsWithinLimits h trace → IsTold refusal → IsReportOf spelled h text trace refusal bytes → IsAuditedOk bytes

reported : Law → (h : Header) (job text rest report : List ℕ) (trace : List TraceLine) (refused : Option ℕ) → opening_of job ≡ Accepts h text rest → trace_of (shape_of h) rest ≡ record { lines = trace; refused = refused } → IsTrace (shape_of h) trace
    → Reports h text trace refused (Some []) (Some report) → IsAuditedOk report
reported law h job text rest report trace refused opens traced limits r =
    law h job text rest trace (refusal_of trace refused) report opens (record { inside = limits.inside; few = limits.few; idle = limits.idle }) (told (shape_of h) rest trace refused traced limits.few)
    (r.run, r.clock, r.is_run, r.wrote)

pub finished : Law → (job report : List ℕ) (left : Option (List ℕ)) → Answers status.Ok (io (Some job) left (Some []) (Some report)) → IsAuditedOk report
finished law job report left (inl a) = reported law a.0 job a.1 a.4.0 report a.2 a.3 a.4.1 a.4.2 a.5 a.6.2
finished law job report left (inr (inl a)) = absurd a.5
finished law job report left (inr (inr (inl a))) = absurd a.2
finished law job report left (inr (inr (inr a))) = absurd a

pub refused : Law → (h : Header) (job text rest report : List ℕ) (left : Option (List ℕ)) → opening_of job ≡ Accepts h text rest → Answers status.Refused (io (Some job) left (Some []) (Some report)) → IsAuditedOk report
refused law h job text rest report left opens (inl a) = reported law a.0 job a.1 a.4.0 report a.2 a.3 a.4.1 a.4.2 a.5 a.6.1
refused law h job text rest report left opens (inr (inl a)) = absurd a.5
refused law h job text rest report left opens (inr (inr (inl a))) = absurd (let no : Accepts h text rest ≡ Refuses a.0 = sym opens ∙ a.1 in cc)
refused law h job text rest report left opens (inr (inr (inr a))) = absurd a
