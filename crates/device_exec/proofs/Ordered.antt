-- A script is judged line by line, by the rules alone.
use Rattle.std.proofs.Common.{◌≡◌, ◌∙◌, ℕ, suc, ◌+◌, Bool, true, false, if◌then◌else◌, Option, Some, None, List, [], ◌∷◌, length, refl, sym, ap, subst, Result, Ok, Err}
use Rattle.command_words.specs.Geometry.{Shape}
use Rattle.command_words.specs.Kinds.{is_wr}
use Rattle.command_words.specs.Place.{place_of}
use Rattle.command_words.specs.declared.command.Command.{Command}
use Rattle.ddr_io.specs.declared.status.Status.{Status}
use Rattle.ddr_io.specs.declared.status.Status.TheVariants as status
use Rattle.ddr_text.specs.Io.{io}
use Rattle.ddr_text.specs.Opening.{Opens, Accepts, opening_of, parts_of}
use Rattle.ddr_text.specs.Outcome.{AnswersAs, EndsAs, Outcome}
use Rattle.ddr_text.specs.ReportParts.{Refusal}
use Rattle.ddr_text.specs.declared.lines.ReportLine.TheVariants.{Issued as IssuedLine}
use Rattle.device_core.specs.Standing.{with_command}
use Rattle.device_core.specs.Steps.{Step, Flips, log_of}
use Rattle.speed_bin.specs.Header.{shape_of}
use Rattle.speed_bin.specs.Log.{Issued as Place, Log}
use Rattle.speed_bin.specs.Rules.{broken, broken_at_end, verdict, verdict_after, verdict_at_end}
use Rattle.speed_bin.specs.declared.header.Header.{Header}
use Rattle.device_exec.specs.Executed.{IsExecuted, executed, executed_in, four_devices, script_lines}
use Rattle.device_exec.specs.Promises.{IsFlawless, IsUnblamed, JudgesInOrder, breach_in, log_behind, or_later, status_by}
use Rattle.device_exec.specs.Reading.{Placed, behind_line, end_at, ending_at, judged_line, judged_rest, lines_in, stage_after, stage_behind}
use Rattle.device_exec.specs.Scripts.{Devices, Execution, Moves, Phase, Ready, Waits, Ended, Script, answer_lines, followed, next, placed, reads_of, run_from, stage_of, unless_broken}
use Rattle.device_exec.specs.declared.script_line.ScriptLine.{ScriptLine}
use Rattle.device_exec.specs.declared.script_line.ScriptLine.TheVariants.{Issued, Bytes, Flip, End}
use Rattle.device_exec.specs.declared.script_reader.Stage.{Stage}
use Rattle.device_exec.specs.declared.script_reader.Stage.TheVariants as stage
use Rattle.device_exec.proofs.Judged.{none_after}
use Rattle.device_exec.proofs.NextLines.{judged_ok}

-- ---- The lines of a script stand where they may

-- each line may stand at its stage, and a script that ends has its E line last
abbrev AllStand : Stage → List ScriptLine → Result ℕ Refusal → Type 0
AllStand at [] ending = (clock : ℕ) → ending ≡ Ok clock → at ≡ stage.Ended clock
AllStand at (line ∷ lines) ending = (after : Stage) × (stage_after at line ≡ Some after) × AllStand after lines ending

ends_behind : (at : Stage) (number clock : ℕ) (judged : Result ℕ ℕ) → end_at at ≡ judged → ending_at number judged ≡ Ok clock → at ≡ stage.Ended clock
ends_behind stage.Body number clock judged e f = let both = subst (λ (r : Result ℕ ℕ). ending_at number r ≡ Ok clock) (sym e) f in absurd cc
ends_behind stage.Awaits number clock judged e f = let both = subst (λ (r : Result ℕ ℕ). ending_at number r ≡ Ok clock) (sym e) f in absurd cc
ends_behind (stage.Ended own) number clock judged e f =
    let both : ◌≡◌ {A = Result ℕ Refusal} (Ok own) (Ok clock) = subst (λ (r : Result ℕ ℕ). ending_at number r ≡ Ok clock) (sym e) f in
    let same : own ≡ clock = cc in
    ap stage.Ended same

rest_ends : (at : Stage) (number : ℕ) (rest : List ℕ) (clock : ℕ) → ending_at number (judged_rest at number rest) ≡ Ok clock → at ≡ stage.Ended clock
unfolding judged_rest
rest_ends at number [] clock e = ends_behind at number clock (end_at at) refl e
rest_ends at number (byte ∷ bytes) clock e = absurd cc

no_clock : (number reason clock : ℕ) → ending_at number (Err reason) ≡ Ok clock → ⊥
no_clock number reason clock e = cc

all_stand : (g : Shape) (devices : ℕ) (at : Stage) (number : ℕ) (parts : List (List ℕ)) → AllStand at (lines_in g devices at number parts).lines (lines_in g devices at number parts).ending
all_stand g devices at number [] = λ clock e. ends_behind at number clock (end_at at) refl e
all_stand g devices at number (rest ∷ []) = λ clock e. rest_ends at number rest clock e
all_stand g devices at number (text ∷ more ∷ parts) = go (judged_line g devices at number text) refl (λ later. all_stand g devices later (suc number) (more ∷ parts))
  where
    go : (judged : Result Placed ℕ) → judged_line g devices at number text ≡ judged → ((later : Stage) → AllStand later (lines_in g devices later (suc number) (more ∷ parts)).lines (lines_in g devices later (suc number) (more ∷ parts)).ending)
        → AllStand at (behind_line number judged (lines_in g devices (stage_behind at judged) (suc number) (more ∷ parts))).lines (behind_line number judged (lines_in g devices (stage_behind at judged) (suc number) (more ∷ parts))).ending
    go (Ok found) e rest = (found.stage, (judged_ok g devices at number text found e).stage_is, rest found.stage)
    go (Err reason) e rest = λ clock f. absurd (no_clock number reason clock f)

-- ---- What comes of them

-- the log of the C lines so far, with a WR that waits
abbrev so_far : Phase → Log → Log
so_far Ready log = log
so_far (Waits place) log = place ∷ log
so_far (Ended clock) log = log

-- the end that was judged breaks no rule
abbrev EndsFine : Header → Log → Phase → Type 0
EndsFine h log Ready = Unit {0}
EndsFine h log (Waits place) = Unit {0}
EndsFine h log (Ended clock) = broken_at_end h clock log ≡ None

record Orders (h : Header) (e : Execution) (log : Log) (number : ℕ) (lines : List ScriptLine) (ending : Result ℕ Refusal) : Type 0 where
  breach_is : e.breach ≡ breach_in h log number lines
  status_is : e.status ≡ status_by e.breach ending
  fine : (clock : ℕ) → e.status ≡ status.Ok → ending ≡ Ok clock → verdict_at_end h clock (log_behind log lines) ≡ None

abbrev script_at : List Step → Phase → ℕ → Script
script_at steps phase number = record { steps = steps; phase = phase; number = number }

-- the rest is ordered, wherever it begins
abbrev Rest : (d : Devices) → Header → List ScriptLine → Result ℕ Refusal → Type 0
Rest d h lines ending = (steps : List Step) (phase : Phase) (number : ℕ) → AllStand (stage_of phase) lines ending → verdict h (so_far phase (log_of steps)) ≡ None → EndsFine h (log_of steps) phase
    → Orders h (run_from d h (script_at steps phase number) lines ending) (so_far phase (log_of steps)) number lines ending

still_fine : (h : Header) (place : Place) (log : Log) → verdict h log ≡ None → broken h place.clock place.command log ≡ None → verdict h (place ∷ log) ≡ None
still_fine h place log e f = rw (e, f) refl

fine_at_end : (h : Header) (clock : ℕ) (log : Log) → verdict h log ≡ None → broken_at_end h clock log ≡ None → verdict_at_end h clock log ≡ None
fine_at_end h clock log e f = rw (e, f) refl

never_fine : (h : Header) (log : Log) (lines : List ScriptLine) (ending : Result ℕ Refusal) → (clock : ℕ) → status.Broken ≡ status.Ok → ending ≡ Ok clock → verdict_at_end h clock (log_behind log lines) ≡ None
never_fine h log lines ending clock e f = absurd cc

command_orders : (d : Devices) (h : Header) (lines : List ScriptLine) (ending : Result ℕ Refusal) (steps : List Step) (number clock : ℕ) (command : Command) (o : Option ℕ) (b : Bool) → broken h clock command (log_of steps) ≡ o → verdict h (log_of steps) ≡ None → AllStand (if b then stage.Awaits else stage.Body) lines ending → Rest d h lines ending
    → Orders h (followed (script_at steps Ready number) (unless_broken o (if b then Moves (IssuedLine clock command ∷ []) [] (next (script_at steps Ready number) steps (Waits (placed clock command)))
    else Moves (IssuedLine clock command ∷ answer_lines d h (reads_of h (script_at steps Ready number) command)) (reads_of h (script_at steps Ready number) command) (next (script_at steps Ready number) (with_command clock command None steps) Ready)))
    (λ later. run_from d h later lines ending)) (log_of steps) number (Issued clock command ∷ lines) ending
command_orders d h lines ending steps number clock command (Some rule) b is fine stand rest = record {
  breach_is = ap (λ (o : Option ℕ). or_later o number (breach_in h (placed clock command ∷ log_of steps) (number + 1) lines)) (sym is);
  status_is = refl;
  fine = λ at e f. never_fine h (log_of steps) (Issued clock command ∷ lines) ending at e f;
}
command_orders d h lines ending steps number clock command None true is fine stand rest =
    let k = rest steps (Waits (placed clock command)) (number + 1) stand (still_fine h (placed clock command) (log_of steps) fine is) tt in
    record {
      breach_is = k.breach_is ∙ ap (λ (o : Option ℕ). or_later o number (breach_in h (placed clock command ∷ log_of steps) (number + 1) lines)) (sym is);
      status_is = k.status_is;
      fine = k.fine;
    }
command_orders d h lines ending steps number clock command None false is fine stand rest =
    let k = rest (with_command clock command None steps) Ready (number + 1) stand (still_fine h (placed clock command) (log_of steps) fine is) tt in
    record {
      breach_is = k.breach_is ∙ ap (λ (o : Option ℕ). or_later o number (breach_in h (placed clock command ∷ log_of steps) (number + 1) lines)) (sym is);
      status_is = k.status_is;
      fine = k.fine;
    }

end_orders : (d : Devices) (h : Header) (lines : List ScriptLine) (ending : Result ℕ Refusal) (steps : List Step) (number clock : ℕ) (o : Option ℕ) → broken_at_end h clock (log_of steps) ≡ o → verdict h (log_of steps) ≡ None → AllStand (stage.Ended clock) lines ending → Rest d h lines ending
    → Orders h (followed (script_at steps Ready number) (unless_broken o (Moves [] [] (next (script_at steps Ready number) steps (Ended clock)))) (λ later. run_from d h later lines ending)) (log_of steps) number (End clock ∷ lines) ending
end_orders d h lines ending steps number clock (Some rule) is fine stand rest = record {
  breach_is = ap (λ (o : Option ℕ). or_later o number (breach_in h (log_of steps) (number + 1) lines)) (sym is);
  status_is = refl;
  fine = λ at e f. never_fine h (log_of steps) (End clock ∷ lines) ending at e f;
}
end_orders d h lines ending steps number clock None is fine stand rest =
    let k = rest steps (Ended clock) (number + 1) stand fine is in
    record {
      breach_is = k.breach_is ∙ ap (λ (o : Option ℕ). or_later o number (breach_in h (log_of steps) (number + 1) lines)) (sym is);
      status_is = k.status_is;
      fine = k.fine;
    }

some_is : (a b : Stage) → ◌≡◌ {A = Option Stage} (Some a) (Some b) → b ≡ a
some_is a b e = cc

-- no line is left
none_orders : (d : Devices) (h : Header) (ending : Result ℕ Refusal) (steps : List Step) (phase : Phase) (number : ℕ) → AllStand (stage_of phase) [] ending → verdict h (so_far phase (log_of steps)) ≡ None → EndsFine h (log_of steps) phase
    → Orders h (run_from d h (script_at steps phase number) [] ending) (so_far phase (log_of steps)) number [] ending
none_orders d h (Err refusal) steps phase number stand fine ends = record { breach_is = refl; status_is = refl; fine = λ clock e f. absurd cc }
none_orders d h (Ok own) steps phase number stand fine ends = record { breach_is = refl; status_is = refl; fine = λ clock e f. go clock phase (stand clock f) fine ends }
  where
    go : (clock : ℕ) (p : Phase) → stage_of p ≡ stage.Ended clock → verdict h (so_far p (log_of steps)) ≡ None → EndsFine h (log_of steps) p → verdict_at_end h clock (so_far p (log_of steps)) ≡ None
    go clock Ready e f k = absurd cc
    go clock (Waits place) e f k = absurd cc
    go clock (Ended at) e f k = let same : at ≡ clock = cc in subst (λ (n : ℕ). verdict_at_end h n (log_of steps) ≡ None) same (fine_at_end h at (log_of steps) f k)

in_order : (d : Devices) (h : Header) (lines : List ScriptLine) (ending : Result ℕ Refusal) → Rest d h lines ending
in_order d h [] ending steps phase number stand fine ends = none_orders d h ending steps phase number stand fine ends
in_order d h (Issued clock command ∷ lines) ending steps Ready number stand fine ends =
    command_orders d h lines ending steps number clock command (broken h clock command (log_of steps)) (is_wr command) refl fine
    (subst (λ (s : Stage). AllStand s lines ending) (some_is _ _ stand.1) stand.2) (λ later phase n a b c. in_order d h lines ending later phase n a b c)
in_order d h (Issued clock command ∷ lines) ending steps (Waits place) number stand fine ends = let never = stand.1 in absurd cc
in_order d h (Issued clock command ∷ lines) ending steps (Ended at) number stand fine ends = let never = stand.1 in absurd cc
in_order d h (Bytes bytes ∷ lines) ending steps Ready number stand fine ends = let never = stand.1 in absurd cc
in_order d h (Bytes bytes ∷ lines) ending steps (Waits place) number stand fine ends =
    let k = in_order d h lines ending (with_command place.clock place.command (Some bytes) steps) Ready (number + 1) (subst (λ (s : Stage). AllStand s lines ending) (some_is _ _ stand.1) stand.2) fine tt in
    record { breach_is = k.breach_is; status_is = k.status_is; fine = k.fine }
in_order d h (Bytes bytes ∷ lines) ending steps (Ended at) number stand fine ends = let never = stand.1 in absurd cc
in_order d h (Flip line device bit ∷ lines) ending steps Ready number stand fine ends =
    let k = in_order d h lines ending (Flips (place_of line (shape_of h)) device bit ∷ steps) Ready (number + 1) (subst (λ (s : Stage). AllStand s lines ending) (some_is _ _ stand.1) stand.2) fine tt in
    record { breach_is = k.breach_is; status_is = k.status_is; fine = k.fine }
in_order d h (Flip line device bit ∷ lines) ending steps (Waits place) number stand fine ends = let never = stand.1 in absurd cc
in_order d h (Flip line device bit ∷ lines) ending steps (Ended at) number stand fine ends = let never = stand.1 in absurd cc
in_order d h (End clock ∷ lines) ending steps Ready number stand fine ends =
    end_orders d h lines ending steps number clock (broken_at_end h clock (log_of steps)) refl fine
    (subst (λ (s : Stage). AllStand s lines ending) (some_is _ _ stand.1) stand.2) (λ later phase n a b c. in_order d h lines ending later phase n a b c)
in_order d h (End clock ∷ lines) ending steps (Waits place) number stand fine ends = let never = stand.1 in absurd cc
in_order d h (End clock ∷ lines) ending steps (Ended at) number stand fine ends = let never = stand.1 in absurd cc

-- ---- Where no rule is broken

first_none : (v : Option (ℕ × ℕ)) (n : ℕ) (o : Option ℕ) → verdict_after v n o ≡ None → v ≡ None
first_none None n o e = refl
first_none (Some breach) n o e = absurd cc

-- a log that breaks no rule has broken none before
earlier_fine : (h : Header) (lines : List ScriptLine) (log : Log) → verdict h (log_behind log lines) ≡ None → verdict h log ≡ None
earlier_fine h [] log e = e
earlier_fine h (Issued clock command ∷ lines) log e = first_none (verdict h log) (suc (length log)) (broken h clock command log) (earlier_fine h lines (placed clock command ∷ log) e)
earlier_fine h (Bytes bytes ∷ lines) log e = earlier_fine h lines log e
earlier_fine h (Flip line device bit ∷ lines) log e = earlier_fine h lines log e
earlier_fine h (End clock ∷ lines) log e = earlier_fine h lines log e

-- nothing stands behind the E line, which has the clock of the end
end_breach : (h : Header) (lines : List ScriptLine) (ending : Result ℕ Refusal) (log : Log) (number own clock : ℕ) → AllStand (stage.Ended own) lines ending → ending ≡ Ok clock → verdict_at_end h clock (log_behind log lines) ≡ None
    → breach_in h log number (End own ∷ lines) ≡ None
end_breach h [] ending log number own clock stand e fine =
    let same : own ≡ clock = (let both = stand clock e in cc) in
    let ends = none_after (verdict h log) (suc (length log)) (broken_at_end h clock log) fine in
    ap (λ (o : Option ℕ). or_later o number None) (ap (λ (n : ℕ). broken_at_end h n log) same ∙ ends)
end_breach h (line ∷ lines) ending log number own clock stand e fine = let never = stand.1 in absurd cc

no_breach : (h : Header) (lines : List ScriptLine) (ending : Result ℕ Refusal) (at : Stage) (log : Log) (number clock : ℕ) → AllStand at lines ending → ending ≡ Ok clock → verdict_at_end h clock (log_behind log lines) ≡ None
    → breach_in h log number lines ≡ None
no_breach h [] ending at log number clock stand e fine = refl
no_breach h (Issued own command ∷ lines) ending at log number clock stand e fine =
    let all = log_behind (placed own command ∷ log) lines in
    let so_far = earlier_fine h lines (placed own command ∷ log) (first_none (verdict h all) (suc (length all)) (broken_at_end h clock all) fine) in
    ap (λ (o : Option ℕ). or_later o number (breach_in h (placed own command ∷ log) (number + 1) lines)) (none_after (verdict h log) (suc (length log)) (broken h own command log) so_far)
    ∙ no_breach h lines ending stand.0 (placed own command ∷ log) (number + 1) clock stand.2 e fine
no_breach h (Bytes bytes ∷ lines) ending at log number clock stand e fine = no_breach h lines ending stand.0 log (number + 1) clock stand.2 e fine
no_breach h (Flip line device bit ∷ lines) ending at log number clock stand e fine = no_breach h lines ending stand.0 log (number + 1) clock stand.2 e fine
no_breach h (End own ∷ lines) ending stage.Body log number clock stand e fine =
    end_breach h lines ending log number own clock (subst (λ (s : Stage). AllStand s lines ending) (some_is _ _ stand.1) stand.2) e fine
no_breach h (End own ∷ lines) ending stage.Awaits log number clock stand e fine = let never = stand.1 in absurd cc
no_breach h (End own ∷ lines) ending (stage.Ended at) log number clock stand e fine = let never = stand.1 in absurd cc

pub judged_in_order : (d : Devices) (h : Header) (rest : List ℕ) → JudgesInOrder d h rest
judged_in_order d h rest =
    let found = script_lines d.count h rest in
    let stand = all_stand (shape_of h) d.count stage.Body 1 (parts_of rest) in
    let k = in_order d h found.lines found.ending [] Ready 1 stand refl tt in
    record {
      breach = k.breach_is;
      status_is = k.status_is;
      flawless = λ clock e f. (f, k.fine clock e f);
      ok = λ clock fine. k.status_is ∙ ap (λ (b : Option (ℕ × ℕ)). status_by b found.ending) (k.breach_is ∙ no_breach h found.lines found.ending stage.Body [] 1 clock stand fine.0 fine.1)
          ∙ ap (status_by None) fine.0;
    }

-- ---- What is answered

-- such a script is neither refused nor broken
pub unblamed : (old new before after : Option (List ℕ)) (answer : Status) → AnswersAs (IsExecuted old) answer (io old new before after) → (bytes rest text : List ℕ) (h : Header) (clock : ℕ) → old ≡ Some bytes → opening_of bytes ≡ Accepts h text rest
    → IsFlawless four_devices h rest clock → IsUnblamed answer
unblamed old new before after answer answers bytes rest text h clock is opens fine = (
  λ (e : answer ≡ status.Refused). never status.Refused (subst (λ (s : Status). AnswersAs (IsExecuted old) s (io old new before after)) e answers) (λ f. cc),
  λ (e : answer ≡ status.Broken). never status.Broken (subst (λ (s : Status). AnswersAs (IsExecuted old) s (io old new before after)) e answers) (λ f. cc),
)
  where
    never : (s : Status) → EndsAs (IsExecuted old) s before after → (s ≡ status.Ok → ⊥) → ⊥
    never s (it, executes, same, wrote) other =
        let own : IsExecuted (Some bytes) it = subst (λ (o : Option (List ℕ)). IsExecuted o it) is executes in
        let ok : (executed bytes).status ≡ status.Ok = ap (λ (o : Opens). (executed_in four_devices o).status) opens ∙ (judged_in_order four_devices h rest).ok clock fine in
        other (same ∙ ap (λ (o : Outcome). o.status) (sym own) ∙ ok)
