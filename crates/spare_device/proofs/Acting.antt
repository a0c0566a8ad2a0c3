-- What was done of one line of a script.
use Rattle.std.proofs.Common.{◌≡◌, ◌∙◌, ℕ, ◌+◌, ◌<◌, Bool, true, false, if◌then◌else◌, Option, Some, None, List, [], ◌∷◌, ◌++◌, refl, sym, ap, subst, append-nil, Result, Ok, Err, OnOk, IfErr}
use Rattle.std.specs.Io.KnownBytes.{Appends}
use Rattle.std.specs.List.{flat_map}
use Rattle.std.proofs.KnownBytes.{Appends-nil}
use Rattle.command_words.specs.Geometry.{Shape}
use Rattle.command_words.specs.Kinds.{is_wr}
use Rattle.command_words.specs.Place.{place_of}
use Rattle.command_words.specs.declared.command.Command.{Command}
use Rattle.command_words.specs.declared.command.Command.TheVariants.{Act, Rd, Wr, PrePb, PreSb, PreAb, RefAb, RefSb, RfmAb, RfmSb, Mrw, Ecs, Nop}
use Rattle.ddr_io.specs.Sink.{AppendsPrefix}
use Rattle.ddr_text.specs.Spelling.{spelled}
use Rattle.ddr_text.specs.declared.lines.ReportLine.{ReportLine}
use Rattle.ddr_text.specs.declared.lines.ReportLine.TheVariants.{Issued as IssuedLine, Flip as FlipLine}
use Rattle.device_core.specs.Standing.{with_command}
use Rattle.device_core.specs.Steps.{Step, Flips, log_of}
use Rattle.log_auditor.specs.declared.verdict.Rule.{Rule}
use Rattle.speed_bin.specs.Header.{shape_of}
use Rattle.speed_bin.specs.Log.{Issued as Place, Log}
use Rattle.speed_bin.specs.Rules.{broken, broken_at_end}
use Rattle.speed_bin.specs.declared.header.Header.{Header}
use Rattle.device_exec.specs.Reading.{stage_after}
use Rattle.device_exec.specs.Running.{data_lines, gone_on}
use Rattle.spare_device.specs.Running.{Acts, IsAt, MayAct, SpareFor, answer_in}
use Rattle.spare_device.specs.Spared.{five_devices}
use Rattle.spare_device.specs.StandIn.{restored, stood_in, stood_steps}
use Rattle.device_core.specs.Stored.{changes_of, line_at, reading}
use Rattle.error_scrub.specs.Changes.{Change}
use Rattle.error_scrub.specs.Tame.{AreGiven}
use Rattle.error_scrub.specs.declared.cells.LineRead.{LineRead}
use Rattle.ondie_ecc.specs.Bits.{IsBytes}
use Rattle.device_exec.specs.ScriptGrammar.{IsScriptLine}
use Rattle.device_exec.specs.Scripts.{Answered, Devices, Effect, Moves, Breaks, Phase, Ready, Waits, Ended, Script, acted, answer_line, answer_lines, given, last_clock, next, placed, reads_of, stage_of, unless_broken, written}
use Rattle.device_exec.specs.Standing.{Commands, Ends, StandsFor, answered, geometry_of}
use Rattle.device_exec.specs.declared.checked_device.Answer.{Answer}
use Rattle.device_exec.specs.declared.checked_device.Checked.TheVariants as checked
use Rattle.device_exec.specs.declared.checked_device.CheckedDevice.{CheckedDevice}
use Rattle.device_exec.specs.declared.script_line.ScriptLine.{ScriptLine}
use Rattle.device_exec.specs.declared.script_line.ScriptLine.TheVariants.{Issued, Bytes, Flip, End}
use Rattle.device_exec.specs.declared.script_reader.Stage.{Stage}
use Rattle.device_exec.specs.declared.script_reader.Stage.TheVariants as stage
use Rattle.ddr_text.specs.declared.stop.Stop.{Stop}
use Rattle.ddr_text.proofs.Prefixes.{no-prefix}
use Rattle.device_exec.proofs.Acting.{ready_command, ready_end, ready_flip, waits_bytes}
use Rattle.device_exec.proofs.Given.{none_given, written_given}
use Rattle.spare_device.proofs.StandIns.{changes-stood, log-stood, reading-stood}

-- ---- Commands

shown-at : (dead : ℕ) → dead < 5 → (h : Header) (number : ℕ) (steps : List Step) (own line : ℕ) → AreGiven (changes_of h steps) → own ≡ line
    → data_lines number (Some (record { line = own; read = restored dead (reading (changes_of h (stood_steps dead steps)) own) })) ≡ answer_line (five_devices dead) h (record { number = number; line = line; steps = steps }) ∷ []
shown-at dead small h number steps own line given same =
    ap (λ (l : ℕ). data_lines number (Some (record { line = l; read = restored dead (reading (changes_of h (stood_steps dead steps)) l) }))) same
    ∙ ap (λ (read : LineRead). data_lines number (Some (record { line = line; read = read })))
    (ap (λ (changes : List Change). restored dead (reading changes line)) (changes-stood dead h steps) ∙ reading-stood dead small (changes_of h steps) line given)

-- the D line of an RD, and of no other command
pub answers_shown : (dead : ℕ) (h : Header) (script : Script) (command : Command) → dead < 5 → AreGiven (changes_of h script.steps) → data_lines script.number (answer_in dead (answered h command (stood_steps dead script.steps))) ≡ answer_lines (five_devices dead) h (reads_of h script command)
answers_shown dead h script (Act bank row) small given = refl
answers_shown dead h script (Rd bank column) small given =
    shown-at dead small h script.number script.steps _ _ given (ap (λ (log : Log). line_at h bank column log) (log-stood dead script.steps))
answers_shown dead h script (Wr bank column) small given = refl
answers_shown dead h script (PrePb bank) small given = refl
answers_shown dead h script (PreSb address) small given = refl
answers_shown dead h script PreAb small given = refl
answers_shown dead h script RefAb small given = refl
answers_shown dead h script (RefSb address) small given = refl
answers_shown dead h script RfmAb small given = refl
answers_shown dead h script (RfmSb address) small given = refl
answers_shown dead h script (Mrw write) small given = refl
answers_shown dead h script Ecs small given = refl
answers_shown dead h script Nop small given = refl

-- the rules are those of the log, which is the same
same_broken : (dead : ℕ) (h : Header) (clock : ℕ) (command : Command) (steps : List Step) → broken h clock command (log_of steps) ≡ broken h clock command (log_of (stood_steps dead steps))
same_broken dead h clock command steps = ap (λ (log : Log). broken h clock command log) (sym (log-stood dead steps))

pub acts_breaks : (dead : ℕ) (h : Header) (script : Script) (clock : ℕ) (command : Command) (rule : Rule) (new : CheckedDevice) (before : Option (List ℕ)) → broken h clock command (log_of (stood_steps dead script.steps)) ≡ Some rule.0
    → Acts dead (Ok (Some rule)) (acted (five_devices dead) h script (Issued clock command)) h new before before
acts_breaks dead h script clock command rule new before e =
    subst (λ (o : Option ℕ). Acts dead (Ok (Some rule)) (unless_broken o (given (five_devices dead) h script clock command)) h new before before) (sym (same_broken dead h clock command script.steps ∙ e)) (refl, refl)

-- lines that were written, or cut off
acts_lines : (dead : ℕ) (r : Result Unit Stop) (lines : List ReportLine) (reads : List Answered) (later : Script) (h : Header) (new : CheckedDevice) (before after : Option (List ℕ)) → SpareFor dead new h later.steps later.phase
    → OnOk r (Appends before after (flat_map spelled lines)) → IfErr r (λ stop. AppendsPrefix before after (flat_map spelled lines)) → Acts dead (gone_on r) (Moves lines reads later) h new before after
acts_lines dead (Ok done) lines reads later h new before after stands whole cut = (stands, whole)
acts_lines dead (Err stop) lines reads later h new before after stands whole cut = cut

waiting_effect : (dead : ℕ) (h : Header) (script : Script) (clock : ℕ) (command : Command) → broken h clock command (log_of script.steps) ≡ None → is_wr command ≡ true
    → acted (five_devices dead) h script (Issued clock command) ≡ Moves (IssuedLine clock command ∷ []) [] (next script script.steps (Waits (placed clock command)))
waiting_effect dead h script clock command none is =
    ap (λ (o : Option ℕ). unless_broken o (given (five_devices dead) h script clock command)) none
    ∙ ap (λ (b : Bool). if b then Moves (IssuedLine clock command ∷ []) [] (next script script.steps (Waits (placed clock command)))
    else Moves (IssuedLine clock command ∷ answer_lines (five_devices dead) h (reads_of h script command)) (reads_of h script command) (next script (with_command clock command None script.steps) Ready)) is

done_effect : (dead : ℕ) (h : Header) (script : Script) (clock : ℕ) (command : Command) → broken h clock command (log_of script.steps) ≡ None → is_wr command ≡ false
    → acted (five_devices dead) h script (Issued clock command) ≡ Moves (IssuedLine clock command ∷ answer_lines (five_devices dead) h (reads_of h script command)) (reads_of h script command) (next script (with_command clock command None script.steps) Ready)
done_effect dead h script clock command none is =
    ap (λ (o : Option ℕ). unless_broken o (given (five_devices dead) h script clock command)) none
    ∙ ap (λ (b : Bool). if b then Moves (IssuedLine clock command ∷ []) [] (next script script.steps (Waits (placed clock command)))
    else Moves (IssuedLine clock command ∷ answer_lines (five_devices dead) h (reads_of h script command)) (reads_of h script command) (next script (with_command clock command None script.steps) Ready)) is

pub acts_waits : (dead : ℕ) (r : Result Unit Stop) (h : Header) (script : Script) (clock : ℕ) (command : Command) (new : CheckedDevice) (before after : Option (List ℕ)) → Commands checked.Awaits new h clock command (stood_steps dead script.steps) → AreGiven (changes_of h script.steps)
    → OnOk r (Appends before after (flat_map spelled (IssuedLine clock command ∷ []))) → IfErr r (λ stop. AppendsPrefix before after (flat_map spelled (IssuedLine clock command ∷ [])))
    → Acts dead (gone_on r) (acted (five_devices dead) h script (Issued clock command)) h new before after
acts_waits dead r h script clock command new before after came bytes whole cut =
    subst (λ (e : Effect). Acts dead (gone_on r) e h new before after) (sym (waiting_effect dead h script clock command (same_broken dead h clock command script.steps ∙ came.0) came.1))
    (acts_lines dead r (IssuedLine clock command ∷ []) [] (next script script.steps (Waits (placed clock command))) h new before after (record { stands = came.2; given = bytes }) whole cut)

pub acts_done : (dead : ℕ) (r : Result Unit Stop) (h : Header) (script : Script) (number clock : ℕ) (command : Command) (answer shown : Option Answer) (new : CheckedDevice) (before after : Option (List ℕ)) → dead < 5 → shown ≡ answer_in dead answer → number ≡ script.number → Commands (checked.Done answer) new h clock command (stood_steps dead script.steps) → AreGiven (changes_of h script.steps)
    → OnOk r (Appends before after (flat_map spelled (IssuedLine clock command ∷ data_lines number shown))) → IfErr r (λ stop. AppendsPrefix before after (flat_map spelled (IssuedLine clock command ∷ data_lines number shown)))
    → Acts dead (gone_on r) (acted (five_devices dead) h script (Issued clock command)) h new before after
acts_done dead r h script number clock command answer shown new before after small is numbered came bytes whole cut =
    let lines : data_lines number shown ≡ answer_lines (five_devices dead) h (reads_of h script command)
    = ap (λ (n : ℕ). data_lines n shown) numbered ∙ ap (data_lines script.number) (is ∙ ap (answer_in dead) came.3) ∙ answers_shown dead h script command small bytes in
    subst (λ (e : Effect). Acts dead (gone_on r) e h new before after) (sym (done_effect dead h script clock command (same_broken dead h clock command script.steps ∙ came.0) came.1))
    (acts_lines dead r (IssuedLine clock command ∷ answer_lines (five_devices dead) h (reads_of h script command)) (reads_of h script command) (next script (with_command clock command None script.steps) Ready) h new before after (record { stands = came.2; given = none_given h command (log_of script.steps) (changes_of h script.steps) bytes })
    (subst (λ (l : List ReportLine). OnOk r (Appends before after (flat_map spelled (IssuedLine clock command ∷ l)))) lines whole)
    (subst (λ (l : List ReportLine). IfErr r (λ stop. AppendsPrefix before after (flat_map spelled (IssuedLine clock command ∷ l)))) lines cut))

-- ---- Bytes, bits, the end

pub acts_bytes : (dead : ℕ) (h : Header) (script : Script) (bytes : List ℕ) (place : Place) (new : CheckedDevice) (before : Option (List ℕ)) → script.phase ≡ Waits place → IsBytes 64 bytes → AreGiven (changes_of h script.steps) → StandsFor new h (with_command place.clock place.command (Some (stood_in dead bytes)) (stood_steps dead script.steps)) Ready
    → Acts dead (Ok None) (acted (five_devices dead) h script (Bytes bytes)) h new before before
acts_bytes dead h script bytes place new before is whole given stands =
    (subst (λ (p : Phase). SpareFor dead new h (written p bytes script.steps) Ready) (sym is) (record { stands = stands; given = written_given h (Waits place) bytes script.steps whole given }), Appends-nil before)

pub acts_no_bytes : (dead : ℕ) (h : Header) (script : Script) (bytes : List ℕ) (stop : Stop) (new : CheckedDevice) (before : Option (List ℕ)) → Acts dead (Err stop) (acted (five_devices dead) h script (Bytes bytes)) h new before before
acts_no_bytes dead h script bytes stop new before = no-prefix before []

pub acts_flips : (dead : ℕ) (r : Result Unit Stop) (h : Header) (script : Script) (clock line device bit : ℕ) (new : CheckedDevice) (before after : Option (List ℕ)) → clock ≡ last_clock (log_of script.steps) → SpareFor dead new h (Flips (place_of line (shape_of h)) device bit ∷ script.steps) Ready
    → OnOk r (Appends before after (spelled (FlipLine clock line device bit))) → IfErr r (λ stop. AppendsPrefix before after (spelled (FlipLine clock line device bit)))
    → Acts dead (gone_on r) (acted (five_devices dead) h script (Flip line device bit)) h new before after
acts_flips dead r h script clock line device bit new before after at stands whole cut =
    let text : spelled (FlipLine clock line device bit) ≡ flat_map spelled (FlipLine (last_clock (log_of script.steps)) line device bit ∷ [])
    = ap (λ (n : ℕ). spelled (FlipLine n line device bit)) at ∙ sym (append-nil (spelled (FlipLine (last_clock (log_of script.steps)) line device bit))) in
    acts_lines dead r (FlipLine (last_clock (log_of script.steps)) line device bit ∷ []) [] (next script (Flips (place_of line (shape_of h)) device bit ∷ script.steps) Ready) h new before after stands
    (subst (λ (t : List ℕ). OnOk r (Appends before after t)) text whole)
    (subst (λ (t : List ℕ). IfErr r (λ stop. AppendsPrefix before after t)) text cut)

pub acts_no_flip : (dead : ℕ) (h : Header) (script : Script) (line device bit : ℕ) (stop : Stop) (new : CheckedDevice) (before : Option (List ℕ)) → Acts dead (Err stop) (acted (five_devices dead) h script (Flip line device bit)) h new before before
acts_no_flip dead h script line device bit stop new before = no-prefix before _

same_end : (dead : ℕ) (h : Header) (clock : ℕ) (steps : List Step) → broken_at_end h clock (log_of steps) ≡ broken_at_end h clock (log_of (stood_steps dead steps))
same_end dead h clock steps = ap (λ (log : Log). broken_at_end h clock log) (sym (log-stood dead steps))

pub acts_ends : (dead : ℕ) (o : Option Rule) (h : Header) (script : Script) (clock : ℕ) (new : CheckedDevice) (before : Option (List ℕ)) → Ends o new h clock (stood_steps dead script.steps) → AreGiven (changes_of h script.steps) → Acts dead (Ok o) (acted (five_devices dead) h script (End clock)) h new before before
acts_ends dead None h script clock new before ends bytes =
    subst (λ (o : Option ℕ). Acts dead (Ok None) (unless_broken o (Moves [] [] (next script script.steps (Ended clock)))) h new before before) (sym (same_end dead h clock script.steps ∙ ends.0)) (record { stands = ends.1; given = bytes }, Appends-nil before)
acts_ends dead (Some rule) h script clock new before ends bytes =
    subst (λ (o : Option ℕ). Acts dead (Ok (Some rule)) (unless_broken o (Moves [] [] (next script script.steps (Ended clock)))) h new before before) (sym (same_end dead h clock script.steps ∙ ends)) (refl, refl)

-- ---- What a line may be given to

at_line : (dead : ℕ) (device : CheckedDevice) (h : Header) (script : Script) (number : ℕ) (line own : ScriptLine) → line ≡ own → IsAt dead device h script number line → IsAt dead device h script number own
at_line dead device h script number line own is at = subst (λ (l : ScriptLine). IsAt dead device h script number l) is at

pub at_command : (dead : ℕ) (device : CheckedDevice) (h : Header) (script : Script) (number clock : ℕ) (command : Command) (line : ScriptLine) → line ≡ Issued clock command → IsAt dead device h script number line → SpareFor dead device h script.steps Ready
at_command dead device h script number clock command line is at =
    let k = at_line dead device h script number line (Issued clock command) is at in
    subst (SpareFor dead device h script.steps) (ready_command script.phase clock command k.place.0 k.place.1) k.stands

pub at_bytes : (dead : ℕ) (device : CheckedDevice) (h : Header) (script : Script) (number : ℕ) (bytes : List ℕ) (line : ScriptLine) → line ≡ Bytes bytes → IsAt dead device h script number line → (place : Place) × (script.phase ≡ Waits place) × SpareFor dead device h script.steps (Waits place)
at_bytes dead device h script number bytes line is at =
    let k = at_line dead device h script number line (Bytes bytes) is at in
    let p = waits_bytes script.phase bytes k.place.0 k.place.1 in
    (p.0, p.1, subst (SpareFor dead device h script.steps) p.1 k.stands)

pub at_flip : (dead : ℕ) (device : CheckedDevice) (h : Header) (script : Script) (number own chip bit : ℕ) (line : ScriptLine) → line ≡ Flip own chip bit → IsAt dead device h script number line → SpareFor dead device h script.steps Ready
at_flip dead device h script number own chip bit line is at =
    let k = at_line dead device h script number line (Flip own chip bit) is at in
    subst (SpareFor dead device h script.steps) (ready_flip script.phase own chip bit k.place.0 k.place.1) k.stands

pub at_end : (dead : ℕ) (device : CheckedDevice) (h : Header) (script : Script) (number clock : ℕ) (line : ScriptLine) → line ≡ End clock → IsAt dead device h script number line → SpareFor dead device h script.steps Ready
at_end dead device h script number clock line is at =
    let k = at_line dead device h script number line (End clock) is at in
    subst (SpareFor dead device h script.steps) (ready_end script.phase clock k.place.0 k.place.1) k.stands

-- the numbers of the line are in the ranges of the device's shape
pub line_inside : (dead : ℕ) (device : CheckedDevice) (number : ℕ) (line own : ScriptLine) → ((it : CheckedDevice) (h : Header) (steps : List Step) (phase : Phase) → StandsFor it h steps phase → geometry_of it ≡ shape_of h) → line ≡ own → MayAct dead device number line → IsScriptLine (geometry_of device) 5 own
line_inside dead device number line own law is may =
    subst (λ (g : Shape). IsScriptLine g 5 own) (sym (law device may.0 (stood_steps dead may.1.steps) may.1.phase may.2.stands.stands)) (subst (λ (l : ScriptLine). IsScriptLine (shape_of may.0) 5 l) is may.2.inside)
