-- What an audit finds in the report of a job.
use Rattle.std.specs.Prelude.{ℕ, ◌≡◌, ◌≤◌, ◌<◌, ◌^◌, ⊤, true, Option, Some, None, List, length, sum, codes}
use Rattle.std.specs.Io.KnownBytes.{Appends}
use Rattle.ddr_io.specs.declared.status.Status.{Status}
use Rattle.ddr_io.specs.declared.status.Status.TheVariants as status
use Rattle.ddr_text.specs.declared.lines.TraceLine.{TraceLine}
use Rattle.log_auditor.specs.Findings.{finding_of, finding_text, is_fine, status_of}
use Rattle.speed_bin.specs.Header.{shape_of}
use Rattle.speed_bin.specs.declared.header.Header.{Header}
use Rattle.speed_bin.specs.Rules.{verdict_at_end}
use Rattle.reports.specs.Barriers.{idle_clocks}
use Rattle.reports.specs.Delivered.{AreInside}
use Rattle.reports.specs.Headline.{shown_log}
use Rattle.reports.specs.Runs.{Run, log_of}
use Rattle.reports.specs.Sound.{Sound}
use Rattle.reports.specs.Whole.{whole}
use Rattle.ddr_text.specs.ReportParts.{Refusal}

-- a trace within the limits of a job: its lines are of the subchannel, not too many, and the sum of its I lines is not too
-- great
pub record IsWithinLimits (h : Header) (trace : List TraceLine) : Type 0 where
  pub inside : AreInside (shape_of h) trace
  pub few : length trace ≤ 1048576
  pub idle : sum (idle_clocks trace) ≤ 4294967296

-- an X line can tell the refusal
abbrev pub IsTold : Option Refusal → Type 0
IsTold None = ⊤
IsTold (Some refusal) = (refusal.line < 2 ^ 64) × (refusal.reason < 256)

-- A run that ended at this clock, within what a report can hold: it is sound, and its report shows a log with no broken rule.
pub record IsEnding (h : Header) (trace : List TraceLine) (run : Run) (clock : ℕ) (refusal : Option Refusal) : Type 0 where
  pub sound : Sound h trace run
  pub rules : verdict_at_end h clock (shown_log h trace run) ≡ None
  pub low : clock < 2 ^ 48
  pub commands : length (log_of run) < 2 ^ 48
  pub lines : length (whole h trace run clock refusal) < 4294967295

-- an audit finds the bytes to be a well-formed report whose log satisfies the rules, says `A ok`, and has status Ok
pub record IsAuditedOk (bytes : List ℕ) : Type 0 where
  pub finding : is_fine (finding_of bytes) ≡ true
  pub text : finding_text (finding_of bytes) ≡ codes "A ok\n"
  pub status : status_of (finding_of bytes) ≡ status.Ok

-- What an audit answers and writes that says `A ok`, unless it is stopped: by a fault of its source or its sink, or by
-- want of memory.
abbrev pub SaysOk : Status → Option (List ℕ) → Option (List ℕ) → Type 0
SaysOk status.Ok before after = Appends before after (codes "A ok\n")
SaysOk status.Broken before after = ⊥
SaysOk status.Refused before after = ⊥
SaysOk status.Usage before after = ⊥
SaysOk status.ReadFault before after = ⊤
SaysOk status.WriteFault before after = ⊤
SaysOk status.OutOfMemory before after = ⊤
