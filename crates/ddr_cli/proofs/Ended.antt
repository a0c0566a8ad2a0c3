-- The status of a run on streams.
use Rattle.std.proofs.Common.{ℕ, ◌≡◌, ◌⊎◌, inl, inr, refl, List, Option, Bool, true, false}
use Rattle.std.specs.Prelude.{String}
use Rattle.std.specs.declared.alloc.Global.{Global}
use Rattle.ddr_io.specs.declared.Status.{Status}
use Rattle.ddr_io.specs.declared.Status.TheVariants as status
use Rattle.ddr_text.specs.Io.{io}
use Rattle.ddr_text.specs.Outcome.{AnswersAs}
use Rattle.device_exec.specs.Executed.{IsExecuted}
use Rattle.fair_queue.specs.Answering.{MergeAnswers}
use Rattle.fair_queue.specs.Serving.{PortsAnswers}
use Rattle.log_auditor.specs.Findings.{Answers as AuditAnswers}
use Rattle.made_jobs.specs.Made.{made}
use Rattle.made_jobs.specs.Writing.{Writes}
use Rattle.rank_pair.specs.Answers.{PairAnswers}
use Rattle.spare_device.specs.Spared.{IsSpared}
use Rattle.trace_replay.specs.Replay.{Answers}
use Rattle.ddr_cli.specs.AtEnd.{IsAnswer, status_at_end}
use Rattle.ddr_cli.specs.Made.{MadeAnswers}
use Rattle.ddr_cli.specs.Shown.{ShowAnswers}
use Rattle.ddr_cli.specs.Streams.{IsDone}
use Rattle.ddr_cli.specs.Upgraded.{UpgradeAnswers}
use Rattle.ddr_cli.specs.Words.{IsAudit, IsExec, IsGen, IsGenRun, IsMerge, IsOfForm, IsPair, IsPorts, IsReplay, IsShow, IsSpare, IsUpgrade}
use Rattle.ddr_cli.specs.declared.form.Form.{Form}
use Rattle.ddr_cli.specs.declared.form.Form.TheVariants as form

-- what a run says of each form of words, it says of the one that the words are of
pub done_of : (words : List (String Global)) (it : Status) (left rest had has : Option (List ℕ))
    → (IsReplay words → Answers it (io left rest had has))
    → (IsAudit words → AuditAnswers it (io left rest had has))
    → (IsShow words → ShowAnswers it (io left rest had has))
    → (IsUpgrade words → UpgradeAnswers it (io left rest had has))
    → ((seed requests : ℕ) → IsGen words seed requests → Writes it had has (made seed requests))
    → ((seed requests : ℕ) → IsGenRun words seed requests → MadeAnswers it seed requests had has)
    → ((cap : ℕ) → IsPorts words cap → PortsAnswers cap it (io left rest had has))
    → ((cap : ℕ) → IsMerge words cap → MergeAnswers cap it (io left rest had has))
    → (IsExec words → AnswersAs (IsExecuted left) it (io left rest had has))
    → ((dead : ℕ) → IsSpare words dead → AnswersAs (IsSpared dead left) it (io left rest had has))
    → (IsPair words → PairAnswers it left rest had has)
    → (which : Form) → IsOfForm words which → IsDone which it (io left rest had has)
done_of words it left rest had has replayed audited shown upgraded made made_run ported merged executed spared paired form.Replay is = replayed is
done_of words it left rest had has replayed audited shown upgraded made made_run ported merged executed spared paired form.Audit is = audited is
done_of words it left rest had has replayed audited shown upgraded made made_run ported merged executed spared paired form.Show is = shown is
done_of words it left rest had has replayed audited shown upgraded made made_run ported merged executed spared paired form.Upgrade is = upgraded is
done_of words it left rest had has replayed audited shown upgraded made made_run ported merged executed spared paired (form.Gen seed requests) is = made seed requests is
done_of words it left rest had has replayed audited shown upgraded made made_run ported merged executed spared paired (form.GenRun seed requests) is = made_run seed requests is
done_of words it left rest had has replayed audited shown upgraded made made_run ported merged executed spared paired (form.Ports cap) is = ported cap is
done_of words it left rest had has replayed audited shown upgraded made made_run ported merged executed spared paired (form.Merge cap) is = merged cap is
done_of words it left rest had has replayed audited shown upgraded made made_run ported merged executed spared paired form.Exec is = executed is
done_of words it left rest had has replayed audited shown upgraded made made_run ported merged executed spared paired (form.Spare dead) is = spared dead is
done_of words it left rest had has replayed audited shown upgraded made made_run ported merged executed spared paired form.Pair is = paired is

-- the two flushes at the end keep the status, or make a write fault of an answer
pub at_end_twice : (it : Status) (first second : Bool) → (status_at_end (status_at_end it first) second ≡ it) ⊎ (IsAnswer it × (status_at_end (status_at_end it first) second ≡ status.WriteFault))
at_end_twice status.Ok true true = inl refl
at_end_twice status.Ok true false = inr (inl refl, refl)
at_end_twice status.Ok false true = inr (inl refl, refl)
at_end_twice status.Ok false false = inr (inl refl, refl)
at_end_twice status.Refused true true = inl refl
at_end_twice status.Refused true false = inr (inr (inl refl), refl)
at_end_twice status.Refused false true = inr (inr (inl refl), refl)
at_end_twice status.Refused false false = inr (inr (inl refl), refl)
at_end_twice status.Broken true true = inl refl
at_end_twice status.Broken true false = inr (inr (inr refl), refl)
at_end_twice status.Broken false true = inr (inr (inr refl), refl)
at_end_twice status.Broken false false = inr (inr (inr refl), refl)
at_end_twice status.Usage first second = inl refl
at_end_twice status.ReadFault first second = inl refl
at_end_twice status.WriteFault first second = inl refl
at_end_twice status.OutOfMemory first second = inl refl
