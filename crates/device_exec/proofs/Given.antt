-- What the devices are given in a script, and its reads.
use Rattle.std.proofs.Common.{◌≡◌, ◌∙◌, ℕ, suc, ◌<◌, Bool, true, false, if◌then◌else◌, Option, Some, None, List, [], ◌∷◌, ◌++◌, refl, sym, ap, subst, Result, Ok, Err}
use Rattle.command_words.specs.Geometry.{Shape}
use Rattle.command_words.specs.Kinds.{is_wr}
use Rattle.command_words.specs.Place.{place_of}
use Rattle.command_words.specs.declared.command.Command.{Command}
use Rattle.command_words.specs.declared.command.Command.TheVariants.{Act, Rd, Wr, PrePb, PreSb, PreAb, RefAb, RefSb, RfmAb, RfmSb, Mrw, Ecs, Nop}
use Rattle.ddr_text.specs.Opening.{parts_of}
use Rattle.ddr_text.specs.ReportParts.{Refusal}
use Rattle.ddr_text.specs.declared.lines.ReportLine.{ReportLine}
use Rattle.ddr_text.specs.declared.lines.ReportLine.TheVariants.{Issued as IssuedLine, Value, Flip as FlipLine, Stat, End as EndLine, Refused}
use Rattle.device_core.specs.Legal.{AllLegal, IsLegal}
use Rattle.device_core.specs.Standing.{with_command}
use Rattle.device_core.specs.Steps.{Step, Flips, log_of}
use Rattle.device_core.specs.Stored.{also, change_of, changes_of, reading}
use Rattle.error_scrub.specs.Changes.{Change}
use Rattle.error_scrub.specs.Reading.{IsGood}
use Rattle.error_scrub.specs.Tame.{AreGiven, IsTame, last_written}
use Rattle.ondie_ecc.specs.Bits.{IsBytes}
use Rattle.speed_bin.specs.Header.{shape_of}
use Rattle.speed_bin.specs.Log.{Log}
use Rattle.speed_bin.specs.Rules.{broken, broken_at_end}
use Rattle.speed_bin.specs.declared.header.Header.{Header}
use Rattle.device_exec.specs.Executed.{execution, four_devices, script_lines}
use Rattle.device_exec.specs.Promises.{AreAnswered, AreRight, CountNoReads, IsRight, ReadsWell, ShowsReads, data_in}
use Rattle.device_exec.specs.Reading.{Placed, behind_line, judged_line, lines_in, stage_behind}
use Rattle.device_exec.specs.ScriptGrammar.{IsScriptLine, ScriptLines}
use Rattle.device_exec.specs.Scripts.{Answered, Devices, Effect, Execution, Moves, Phase, Ready, Waits, Ended, Script, acted, answer_line, answer_lines, begun, behind, followed, given, next, placed, reads_of, run_from, unless_broken, written}
use Rattle.device_exec.specs.declared.script_line.ScriptLine.{ScriptLine}
use Rattle.device_exec.specs.declared.script_line.ScriptLine.TheVariants.{Issued, Bytes, Flip, End}
use Rattle.device_exec.specs.declared.script_reader.Stage.{Stage}
use Rattle.device_exec.specs.declared.script_reader.Stage.TheVariants.{Body}
use Rattle.device_exec.proofs.Judged.{place_kept}
use Rattle.device_exec.proofs.NextLines.{judged_ok}

-- ---- The lines of a script are within their ranges

abbrev pub AllInside : Shape → ℕ → List ScriptLine → Type 0
AllInside g devices [] = Unit {0}
AllInside g devices (line ∷ lines) = IsScriptLine g devices line × AllInside g devices lines

pub all_inside : ScriptLines → (g : Shape) (devices : ℕ) (stage : Stage) (number : ℕ) (parts : List (List ℕ)) → AllInside g devices (lines_in g devices stage number parts).lines
all_inside law g devices stage number [] = tt
all_inside law g devices stage number (rest ∷ []) = tt
all_inside law g devices stage number (text ∷ more ∷ parts) = go (judged_line g devices stage number text) refl (λ later. all_inside law g devices later (suc number) (more ∷ parts))
  where
    go : (judged : Result Placed ℕ) → judged_line g devices stage number text ≡ judged → ((later : Stage) → AllInside g devices (lines_in g devices later (suc number) (more ∷ parts)).lines)
        → AllInside g devices (behind_line number judged (lines_in g devices (stage_behind stage judged) (suc number) (more ∷ parts))).lines
    go (Ok found) e rest = ((law.only g devices text found.line (judged_ok g devices stage number text found e).reads).0, rest found.stage)
    go (Err reason) e rest = tt

-- ---- Bytes and bits

pub none_given : (h : Header) (command : Command) (log : Log) (changes : List Change) → AreGiven changes → AreGiven (also (change_of h command None log) changes)
none_given h (Act bank row) log changes a = a
none_given h (Rd bank column) log changes a = a
none_given h (Wr bank column) log changes a = a
none_given h (PrePb bank) log changes a = a
none_given h (PreSb address) log changes a = a
none_given h PreAb log changes a = a
none_given h RefAb log changes a = a
none_given h (RefSb address) log changes a = a
none_given h RfmAb log changes a = a
none_given h (RfmSb address) log changes a = a
none_given h (Mrw write) log changes a = a
none_given h Ecs log changes a = a
none_given h Nop log changes a = a

some_given : (h : Header) (command : Command) (bytes : List ℕ) (log : Log) (changes : List Change) → IsBytes 64 bytes → AreGiven changes → AreGiven (also (change_of h command (Some bytes) log) changes)
some_given h (Act bank row) bytes log changes i a = a
some_given h (Rd bank column) bytes log changes i a = a
some_given h (Wr bank column) bytes log changes i a = (i, a)
some_given h (PrePb bank) bytes log changes i a = a
some_given h (PreSb address) bytes log changes i a = a
some_given h PreAb bytes log changes i a = a
some_given h RefAb bytes log changes i a = a
some_given h (RefSb address) bytes log changes i a = a
some_given h RfmAb bytes log changes i a = a
some_given h (RfmSb address) bytes log changes i a = a
some_given h (Mrw write) bytes log changes i a = a
some_given h Ecs bytes log changes i a = a
some_given h Nop bytes log changes i a = a

pub written_given : (h : Header) (phase : Phase) (bytes : List ℕ) (steps : List Step) → IsBytes 64 bytes → AreGiven (changes_of h steps) → AreGiven (changes_of h (written phase bytes steps))
written_given h Ready bytes steps i a = a
written_given h (Waits place) bytes steps i a = some_given h place.command bytes (log_of steps) (changes_of h steps) i a
written_given h (Ended clock) bytes steps i a = a

-- ---- Reads

answered_append : (h : Header) (a b : List Answered) → AreAnswered h a → AreAnswered h b → AreAnswered h (a ++ b)
answered_append h [] b r s = s
answered_append h (x ∷ a) b r s = (r.0, answered_append h a b r.1 s)

reads_given : (h : Header) (script : Script) (command : Command) → AreGiven (changes_of h script.steps) → AreAnswered h (reads_of h script command)
reads_given h script (Act bank row) a = tt
reads_given h script (Rd bank column) a = (a, tt)
reads_given h script (Wr bank column) a = tt
reads_given h script (PrePb bank) a = tt
reads_given h script (PreSb address) a = tt
reads_given h script PreAb a = tt
reads_given h script RefAb a = tt
reads_given h script (RefSb address) a = tt
reads_given h script RfmAb a = tt
reads_given h script (RfmSb address) a = tt
reads_given h script (Mrw write) a = tt
reads_given h script Ecs a = tt
reads_given h script Nop a = tt

abbrev Rest : Devices → Header → List ScriptLine → Result ℕ Refusal → Type 0
Rest d h lines ending = (later : Script) → AreGiven (changes_of h later.steps) → AreAnswered h (run_from d h later lines ending).reads

abbrev Follows : Devices → Header → List ScriptLine → Result ℕ Refusal → Script → Effect → Type 0
Follows d h lines ending script effect = AreAnswered h (followed script effect (λ later. run_from d h later lines ending)).reads

given_follows : (d : Devices) (h : Header) (lines : List ScriptLine) (ending : Result ℕ Refusal) (script : Script) (clock : ℕ) (command : Command) (b : Bool) → AreGiven (changes_of h script.steps) → Rest d h lines ending
    → Follows d h lines ending script (if b then Moves (IssuedLine clock command ∷ []) [] (next script script.steps (Waits (placed clock command)))
    else Moves (IssuedLine clock command ∷ answer_lines d h (reads_of h script command)) (reads_of h script command) (next script (with_command clock command None script.steps) Ready))
given_follows d h lines ending script clock command true a rest = rest (next script script.steps (Waits (placed clock command))) a
given_follows d h lines ending script clock command false a rest =
    answered_append h (reads_of h script command) _ (reads_given h script command a) (rest (next script (with_command clock command None script.steps) Ready) (none_given h command (log_of script.steps) (changes_of h script.steps) a))

unless_follows : (d : Devices) (h : Header) (lines : List ScriptLine) (ending : Result ℕ Refusal) (script : Script) (o : Option ℕ) (effect : Effect) → Follows d h lines ending script effect → Follows d h lines ending script (unless_broken o effect)
unless_follows d h lines ending script (Some rule) effect f = tt
unless_follows d h lines ending script None effect f = f

line_follows : (d : Devices) (h : Header) (lines : List ScriptLine) (ending : Result ℕ Refusal) (script : Script) (line : ScriptLine) → IsScriptLine (shape_of h) d.count line → AreGiven (changes_of h script.steps) → Rest d h lines ending → Follows d h lines ending script (acted d h script line)
line_follows d h lines ending script (Issued clock command) inside a rest =
    unless_follows d h lines ending script (broken h clock command (log_of script.steps)) (given d h script clock command) (given_follows d h lines ending script clock command (is_wr command) a rest)
line_follows d h lines ending script (Bytes bytes) inside a rest = rest (next script (written script.phase bytes script.steps) Ready) (written_given h script.phase bytes script.steps inside a)
line_follows d h lines ending script (Flip line device bit) inside a rest = rest (next script (Flips (place_of line (shape_of h)) device bit ∷ script.steps) Ready) (inside.2, a)
line_follows d h lines ending script (End clock) inside a rest =
    unless_follows d h lines ending script (broken_at_end h clock (log_of script.steps)) (Moves [] [] (next script script.steps (Ended clock))) (rest (next script script.steps (Ended clock)) a)

run_reads : (d : Devices) (h : Header) (lines : List ScriptLine) (ending : Result ℕ Refusal) (script : Script) → AllInside (shape_of h) d.count lines → AreGiven (changes_of h script.steps) → AreAnswered h (run_from d h script lines ending).reads
run_reads d h [] (Ok clock) script inside a = tt
run_reads d h [] (Err refusal) script inside a = tt
run_reads d h (line ∷ lines) ending script inside a = line_follows d h lines ending script line inside.0 a (λ later k. run_reads d h lines ending later inside.1 k)

all_right : (h : Header) (reads : List Answered) → ((changes : List Change) (line : ℕ) → AreGiven changes → IsTame changes line → (reading changes line).bytes ≡ last_written changes line)
    → ((changes : List Change) (line : ℕ) → AreGiven changes → IsTame changes line → IsGood (reading changes line).state) → AreAnswered h reads → AreRight h reads
all_right h [] bytes state a = tt
all_right h (read ∷ reads) bytes state a = (record { bytes = bytes (changes_of h read.steps) read.line a.0; state = state (changes_of h read.steps) read.line a.0 }, all_right h reads bytes state a.1)

-- ---- D lines

data_append : (a b : List ReportLine) → data_in (a ++ b) ≡ data_in a ++ data_in b
data_append [] b = refl
data_append (Value number line bytes state ∷ a) b = ap (λ l. Value number line bytes state ∷ l) (data_append a b)
data_append (IssuedLine clock command ∷ a) b = data_append a b
data_append (FlipLine clock line device bit ∷ a) b = data_append a b
data_append (Stat name number ∷ a) b = data_append a b
data_append (EndLine clock ∷ a) b = data_append a b
data_append (Refused line reason ∷ a) b = data_append a b

answers_append : (d : Devices) (h : Header) (a b : List Answered) → answer_lines d h (a ++ b) ≡ answer_lines d h a ++ answer_lines d h b
answers_append d h [] b = refl
answers_append d h (read ∷ a) b = ap (λ l. answer_line d h read ∷ l) (answers_append d h a b)

data_answers : (d : Devices) (h : Header) (reads : List Answered) → data_in (answer_lines d h reads) ≡ answer_lines d h reads
data_answers d h [] = refl
data_answers d h (read ∷ reads) = ap (λ l. answer_line d h read ∷ l) (data_answers d h reads)

-- the D lines of an execution are those of its reads
abbrev Shows : (d : Devices) → Header → Execution → Type 0
Shows d h e = data_in e.lines ≡ answer_lines d h e.reads

shows_behind : (d : Devices) (h : Header) (lines : List ReportLine) (reads : List Answered) (e : Execution) → data_in lines ≡ answer_lines d h reads → Shows d h e → Shows d h (behind lines reads e)
shows_behind d h lines reads e same shows =
    data_append lines e.lines ∙ ap (λ l. l ++ data_in e.lines) same ∙ ap (λ l. answer_lines d h reads ++ l) shows ∙ sym (answers_append d h reads e.reads)

command_shows : (d : Devices) (h : Header) (script : Script) (clock : ℕ) (command : Command) (o : Option ℕ) (b : Bool) (go_on : Script → Execution) → ((later : Script) → Shows d h (go_on later))
    → Shows d h (followed script (unless_broken o (if b then Moves (IssuedLine clock command ∷ []) [] (next script script.steps (Waits (placed clock command)))
    else Moves (IssuedLine clock command ∷ answer_lines d h (reads_of h script command)) (reads_of h script command) (next script (with_command clock command None script.steps) Ready))) go_on)
command_shows d h script clock command (Some rule) b go_on rest = refl
command_shows d h script clock command None true go_on rest = rest (next script script.steps (Waits (placed clock command)))
command_shows d h script clock command None false go_on rest =
    let later = next script (with_command clock command None script.steps) Ready in
    shows_behind d h (IssuedLine clock command ∷ answer_lines d h (reads_of h script command)) (reads_of h script command) (go_on later) (data_answers d h (reads_of h script command)) (rest later)

end_shows : (d : Devices) (h : Header) (script : Script) (clock : ℕ) (o : Option ℕ) (go_on : Script → Execution) → ((later : Script) → Shows d h (go_on later)) → Shows d h (followed script (unless_broken o (Moves [] [] (next script script.steps (Ended clock)))) go_on)
end_shows d h script clock (Some rule) go_on rest = refl
end_shows d h script clock None go_on rest = rest (next script script.steps (Ended clock))

run_shows : (d : Devices) (h : Header) → CountNoReads d → (lines : List ScriptLine) (ending : Result ℕ Refusal) (script : Script) → Shows d h (run_from d h script lines ending)
run_shows d h none [] (Ok clock) script = data_append (d.counts h script.steps) (EndLine clock ∷ []) ∙ ap (λ l. l ++ []) (none h script.steps)
run_shows d h none [] (Err refusal) script = refl
run_shows d h none (Issued clock command ∷ lines) ending script =
    command_shows d h script clock command (broken h clock command (log_of script.steps)) (is_wr command) (λ later. run_from d h later lines ending) (λ later. run_shows d h none lines ending later)
run_shows d h none (Bytes bytes ∷ lines) ending script = run_shows d h none lines ending (next script (written script.phase bytes script.steps) Ready)
run_shows d h none (Flip line device bit ∷ lines) ending script = run_shows d h none lines ending (next script (Flips (place_of line (shape_of h)) device bit ∷ script.steps) Ready)
run_shows d h none (End clock ∷ lines) ending script =
    end_shows d h script clock (broken_at_end h clock (log_of script.steps)) (λ later. run_from d h later lines ending) (λ later. run_shows d h none lines ending later)

pub shows_reads : (d : Devices) (h : Header) (rest : List ℕ) → CountNoReads d → ShowsReads d h rest
shows_reads d h rest none = let found = script_lines d.count h rest in run_shows d h none found.lines found.ending begun

pub all_given : ScriptLines → (d : Devices) (h : Header) (rest : List ℕ) → AreAnswered h (execution d h rest).reads
all_given law d h rest = let found = script_lines d.count h rest in run_reads d h found.lines found.ending begun (all_inside law (shape_of h) d.count Body 1 (parts_of rest)) tt

pub reads_well : ScriptLines → ((changes : List Change) (line : ℕ) → AreGiven changes → IsTame changes line → (reading changes line).bytes ≡ last_written changes line)
    → ((changes : List Change) (line : ℕ) → AreGiven changes → IsTame changes line → IsGood (reading changes line).state) → (h : Header) (rest : List ℕ) → ReadsWell h rest
reads_well law bytes state h rest = record {
  shown = shows_reads four_devices h rest (λ k steps. refl);
  right = all_right h (execution four_devices h rest).reads bytes state (all_given law four_devices h rest);
}

-- ---- Legal steps

-- the steps are legal, and so is the WR that waits behind them
abbrev WaitsLegally : Header → Log → Phase → Type 0
WaitsLegally h log Ready = Unit {0}
WaitsLegally h log (Waits place) = IsLegal h place.clock place.command log
WaitsLegally h log (Ended clock) = Unit {0}

record IsSound (h : Header) (script : Script) : Type 0 where
  steps_are : AllLegal h (log_of script.steps)
  waiting : WaitsLegally h (log_of script.steps) script.phase

abbrev Sound : Devices → Header → List ScriptLine → Result ℕ Refusal → Type 0
Sound d h lines ending = (later : Script) → IsSound h later → AllLegal h (log_of (run_from d h later lines ending).steps)

legal_line : (h : Header) (clock : ℕ) (command : Command) (devices : ℕ) (log : Log) → IsScriptLine (shape_of h) devices (Issued clock command) → broken h clock command log ≡ None → IsLegal h clock command log
legal_line h clock command devices log inside none = record { in_time = inside.0; in_range = inside.1; row = place_kept h command inside.1 inside.2; rules = none }

command_sound : (d : Devices) (h : Header) (lines : List ScriptLine) (ending : Result ℕ Refusal) (script : Script) (clock : ℕ) (command : Command) (o : Option ℕ) (b : Bool) → IsSound h script → (o ≡ None → IsLegal h clock command (log_of script.steps)) → Sound d h lines ending
    → AllLegal h (log_of (followed script (unless_broken o (if b then Moves (IssuedLine clock command ∷ []) [] (next script script.steps (Waits (placed clock command)))
    else Moves (IssuedLine clock command ∷ answer_lines d h (reads_of h script command)) (reads_of h script command) (next script (with_command clock command None script.steps) Ready))) (λ later. run_from d h later lines ending)).steps)
command_sound d h lines ending script clock command (Some rule) b sound legal rest = sound.steps_are
command_sound d h lines ending script clock command None true sound legal rest = rest (next script script.steps (Waits (placed clock command))) (record { steps_are = sound.steps_are; waiting = legal refl })
command_sound d h lines ending script clock command None false sound legal rest = rest (next script (with_command clock command None script.steps) Ready) (record { steps_are = (sound.steps_are, legal refl); waiting = tt })

end_sound : (d : Devices) (h : Header) (lines : List ScriptLine) (ending : Result ℕ Refusal) (script : Script) (clock : ℕ) (o : Option ℕ) → IsSound h script → Sound d h lines ending
    → AllLegal h (log_of (followed script (unless_broken o (Moves [] [] (next script script.steps (Ended clock)))) (λ later. run_from d h later lines ending)).steps)
end_sound d h lines ending script clock (Some rule) sound rest = sound.steps_are
end_sound d h lines ending script clock None sound rest = rest (next script script.steps (Ended clock)) (record { steps_are = sound.steps_are; waiting = tt })

written_sound : (h : Header) (script : Script) (bytes : List ℕ) (phase : Phase) → AllLegal h (log_of script.steps) → WaitsLegally h (log_of script.steps) phase → IsSound h (next script (written phase bytes script.steps) Ready)
written_sound h script bytes Ready all waits = record { steps_are = all; waiting = tt }
written_sound h script bytes (Waits place) all waits = record { steps_are = (all, waits); waiting = tt }
written_sound h script bytes (Ended clock) all waits = record { steps_are = all; waiting = tt }

run_sound : (d : Devices) (h : Header) (lines : List ScriptLine) (ending : Result ℕ Refusal) (script : Script) → AllInside (shape_of h) d.count lines → IsSound h script → AllLegal h (log_of (run_from d h script lines ending).steps)
run_sound d h [] (Ok clock) script inside sound = sound.steps_are
run_sound d h [] (Err refusal) script inside sound = sound.steps_are
run_sound d h (Issued clock command ∷ lines) ending script inside sound =
    command_sound d h lines ending script clock command (broken h clock command (log_of script.steps)) (is_wr command) sound (legal_line h clock command d.count (log_of script.steps) inside.0) (λ later k. run_sound d h lines ending later inside.1 k)
run_sound d h (Bytes bytes ∷ lines) ending script inside sound =
    run_sound d h lines ending (next script (written script.phase bytes script.steps) Ready) inside.1 (written_sound h script bytes script.phase sound.steps_are sound.waiting)
run_sound d h (Flip line device bit ∷ lines) ending script inside sound =
    run_sound d h lines ending (next script (Flips (place_of line (shape_of h)) device bit ∷ script.steps) Ready) inside.1 (record { steps_are = sound.steps_are; waiting = tt })
run_sound d h (End clock ∷ lines) ending script inside sound =
    end_sound d h lines ending script clock (broken_at_end h clock (log_of script.steps)) sound (λ later k. run_sound d h lines ending later inside.1 k)

-- every script gives legal steps alone
pub all_legal : ScriptLines → (h : Header) (rest : List ℕ) → AllLegal h (log_of (execution four_devices h rest).steps)
all_legal law h rest =
    let found = script_lines 4 h rest in
    run_sound four_devices h found.lines found.ending begun (all_inside law (shape_of h) 4 Body 1 (parts_of rest)) (record { steps_are = tt; waiting = tt })
