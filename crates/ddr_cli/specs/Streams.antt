-- What a run on a reader and a writer ends with.
use Rattle.std.specs.Prelude.{ℕ, ◌≡◌, ◌⊎◌, List, None}
use Rattle.std.specs.declared.option.Option.{Option}
use Rattle.ddr_io.specs.declared.Status.{Status}
use Rattle.ddr_io.specs.declared.Status.TheVariants as status
use Rattle.ddr_text.specs.Io.{Io, io}
use Rattle.ddr_text.specs.Outcome.{AnswersAs}
use Rattle.device_exec.specs.Executed.{IsExecuted}
use Rattle.fair_queue.specs.Answering.{MergeAnswers}
use Rattle.fair_queue.specs.Serving.{PortsAnswers}
use Rattle.log_auditor.specs.Findings.{Answers as AuditAnswers}
use Rattle.made_jobs.specs.Made.{made}
use Rattle.made_jobs.specs.Writing.{Writes}
use Rattle.rank_pair.specs.Answers.{PairAnswers}
use Rattle.spare_device.specs.Spared.{IsSpared}
use Rattle.trace_replay.specs.Replay.{Answers}
use Rattle.ddr_cli.specs.AtEnd.{IsAnswer}
use Rattle.ddr_cli.specs.Made.{MadeAnswers}
use Rattle.ddr_cli.specs.Shown.{ShowAnswers}
use Rattle.ddr_cli.specs.Upgraded.{UpgradeAnswers}
use Rattle.ddr_cli.specs.declared.form.Form.{Form}
use Rattle.ddr_cli.specs.declared.form.Form.TheVariants as form

-- what a form of words asks for is answered with this status, by the input and the output before and after
abbrev pub IsDone : Form → Status → Io → Type 0
IsDone form.Replay it io = Answers it io
IsDone form.Audit it io = AuditAnswers it io
IsDone form.Show it io = ShowAnswers it io
IsDone form.Upgrade it io = UpgradeAnswers it io
IsDone (form.Gen seed requests) it io = Writes it io.written_before io.written_after (made seed requests)
IsDone (form.GenRun seed requests) it io = MadeAnswers it seed requests io.written_before io.written_after
IsDone (form.Ports cap) it io = PortsAnswers cap it io
IsDone (form.Merge cap) it io = MergeAnswers cap it io
IsDone form.Exec it io = AnswersAs (IsExecuted io.had) it io
IsDone (form.Spare dead) it io = AnswersAs (IsSpared dead io.had) it io
IsDone form.Pair it io = PairAnswers it io.had io.left io.written_before io.written_after

-- what a reader gave is answered with this status; nothing is said of what was written
abbrev pub IsDoneFor : Form → Option (List ℕ) → Status → Type 0
IsDoneFor it left end = (rest : Option (List ℕ)) × IsDone it end (io left rest None None)

-- the status is one of which this holds; or an answer of which it holds could not be handed on; or memory ran out
abbrev pub EndsAs : (Status → Type 0) → Status → Type 0
EndsAs Holds it = (it ≡ status.OutOfMemory) ⊎ ((before : Status) × Holds before × ((it ≡ before) ⊎ (IsAnswer before × (it ≡ status.WriteFault))))
