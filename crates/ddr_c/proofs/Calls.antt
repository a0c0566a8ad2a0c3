-- What a session stands for behind a call, and what came of the call.
use Rattle.std.proofs.Common.{◌≡◌, ◌∙◌, ℕ, ◌<◌, ◌^◌, ◌&&◌, nat_lt, ltb-true, Bool, true, false, if◌then◌else◌, inl, inr, Option, Some, None, List, ◌∷◌, refl, sym, ap, subst, Result, Ok, Err}
use Rattle.std.proofs.Math.Logic.{∥∥₁_map}
use Rattle.std.proofs.lemmas.Bool.{and_parts}
use Rattle.command_words.specs.Command.{IsInRange}
use Rattle.command_words.specs.Geometry.{Shape, lines_of}
use Rattle.command_words.specs.Kinds.{is_wr}
use Rattle.command_words.specs.Place.{place_of}
use Rattle.command_words.specs.declared.command.Command.{Command}
use Rattle.command_words.specs.declared.command.Command.TheVariants.{Act, Rd, Wr, PrePb, PreSb, PreAb, RefAb, RefSb, RfmAb, RfmSb, Mrw, Ecs, Nop}
use Rattle.command_words.specs.declared.words.Words.{Words}
use Rattle.ddr_text.specs.AcceptedReport.{IsReportLine}
use Rattle.ddr_text.specs.ReportGrammar.{has_place}
use Rattle.ddr_text.specs.declared.lines.ReportLine.TheVariants.{Issued as IssuedLine, End as EndLine}
use Rattle.device_core.specs.Standing.{with_command}
use Rattle.device_core.specs.Steps.{Step, Flips, log_of}
use Rattle.device_exec.specs.ScriptGrammar.{IsScriptLine}
use Rattle.device_exec.specs.Scripts.{Ready, Waits, placed}
use Rattle.device_exec.specs.Standing.{AwaitsBytes, Commands, IsReady, StandsFor, answered, geometry_of, place_in}
use Rattle.device_exec.specs.declared.checked_device.Answer.{Answer}
use Rattle.device_exec.specs.declared.checked_device.Checked.TheVariants as checked
use Rattle.device_exec.specs.declared.checked_device.CheckedDevice.{CheckedDevice}
use Rattle.device_exec.specs.declared.checked_device.Waiting.{Waiting}
use Rattle.device_exec.specs.declared.script_line.ScriptLine.TheVariants.{Flip}
use Rattle.log_auditor.specs.declared.verdict.Rule.{Rule}
use Rattle.speed_bin.specs.Header.{shape_of}
use Rattle.speed_bin.specs.Log.{Issued as Place}
use Rattle.speed_bin.specs.Rules.{broken, broken_at_end}
use Rattle.speed_bin.specs.declared.header.Header.{Header}
use Rattle.ddr_c.specs.Effects.{Carried, Carries, Closes, Effect, Ends, Follows, Refuses, Turns, again, delivered, ended, given, in_reach, is_again, is_bit, is_in_reach, is_in_time, is_raised, issued, judged, line_told, turned, unless_broken}
use Rattle.ddr_c.specs.Standing.{Stage, Going, Awaits, Broken, SessionFor, Stands, stage_in}
use Rattle.ddr_c.specs.declared.answers.Refusal.{Refusal}
use Rattle.ddr_c.specs.declared.answers.Refusal.TheVariants as refusal
use Rattle.ddr_c.specs.declared.line.Line.{Line}
use Rattle.ddr_c.specs.declared.session.Session.{Session}
use Rattle.ddr_c.specs.declared.session.State.TheVariants as state

-- ---- Stages

going : (it : Session) (h : Header) (steps : List Step) (stage : Stage) → SessionFor it h steps stage → it.state ≡ state.Going → stage ≡ Going
going it h steps stage keeps is = sym keeps.stage_is ∙ ap stage_in is

awaiting : (it : Session) (h : Header) (steps : List Step) (stage : Stage) (waiting : Waiting) → SessionFor it h steps stage → it.state ≡ state.Awaits waiting → stage ≡ Awaits (place_in waiting)
awaiting it h steps stage waiting keeps is = sym keeps.stage_is ∙ ap stage_in is

broken_by : (it : Session) (h : Header) (steps : List Step) (stage : Stage) (rule : Rule) → SessionFor it h steps stage → it.state ≡ state.Broken rule → stage ≡ Broken rule
broken_by it h steps stage rule keeps is = sym keeps.stage_is ∙ ap stage_in is

-- a session in which no rule is broken and no WR waits has a device that is ready
pub ready : (it : Session) → Stands it → it.state ≡ state.Going → IsReady it.device
ready it s is = ∣ (s.0, s.1, (subst (SessionFor it s.0 s.1) (going it s.0 s.1 s.2 s.3 is) s.3).device) ∣₁

-- and one in which a WR waits has a device that awaits its bytes
pub awaits : (it : Session) (waiting : Waiting) → Stands it → it.state ≡ state.Awaits waiting → AwaitsBytes it.device
awaits it waiting s is = ∣ (s.0, s.1, place_in waiting, (subst (SessionFor it s.0 s.1) (awaiting it s.0 s.1 s.2 waiting s.3 is) s.3).device) ∣₁

-- ---- Ranges

-- the numbers of a command in reach are in the ranges of its line
pub reach_inside : (g : Shape) (clock : ℕ) (command : Command) → is_in_reach g clock command ≡ true → IsInRange command → IsReportLine g (IssuedLine clock command)
reach_inside g clock command reach inside = let p = and_parts (is_in_time clock) (has_place g command) reach in (ltb-true clock (2 ^ 48) p.0, inside, p.1)

pub time_inside : (g : Shape) (clock : ℕ) → is_in_time clock ≡ true → IsReportLine g (EndLine clock)
time_inside g clock is = ltb-true clock (2 ^ 48) is

pub bit_inside : (g : Shape) (line device bit : ℕ) → is_bit g line device bit ≡ true → IsScriptLine g 4 (Flip line device bit)
bit_inside g line device bit is =
    let p = and_parts (nat_lt line (lines_of g)) (nat_lt device 4 && nat_lt bit 136) is in
    let q = and_parts (nat_lt device 4) (nat_lt bit 136) p.1 in
    (ltb-true line (lines_of g) p.0, ltb-true device 4 q.0, ltb-true bit 136 q.1)

-- ---- A command

pub issued_in : (it new : Session) (h : Header) (steps : List Step) (stage : Stage) (clock : ℕ) (command : Command) (words : Words) (before after : Line) (told : Result Unit Refusal) → SessionFor it h steps stage → is_in_reach (geometry_of it.device) clock command ≡ true
    → Follows (issued h steps stage clock command words before.bytes) h steps stage new before after told → Follows (in_reach (is_in_reach (shape_of h) clock command) (issued h steps stage clock command words before.bytes)) h steps stage new before after told
issued_in it new h steps stage clock command words before after told keeps is follows =
    let here : is_in_reach (shape_of h) clock command ≡ true = subst (λ (g : Shape). is_in_reach g clock command ≡ true) keeps.shape is in
    subst (λ (b : Bool). Follows (in_reach b (issued h steps stage clock command words before.bytes)) h steps stage new before after told) (sym here) follows

pub issued_out : (it : Session) (h : Header) (steps : List Step) (stage : Stage) (clock : ℕ) (command : Command) (words : Words) (before : Line) → SessionFor it h steps stage → is_in_reach (geometry_of it.device) clock command ≡ false
    → Follows (in_reach (is_in_reach (shape_of h) clock command) (issued h steps stage clock command words before.bytes)) h steps stage it before before (Err refusal.OutOfRange)
issued_out it h steps stage clock command words before keeps is =
    let here : is_in_reach (shape_of h) clock command ≡ false = subst (λ (g : Shape). is_in_reach g clock command ≡ false) keeps.shape is in
    subst (λ (b : Bool). Follows (in_reach b (issued h steps stage clock command words before.bytes)) h steps stage it before before (Err refusal.OutOfRange)) (sym here) (refl, keeps, refl)

pub went_on : (it new : Session) (h : Header) (steps : List Step) (stage : Stage) (clock : ℕ) (command : Command) (words : Words) (before after : Line) (told : Result Unit Refusal) → SessionFor it h steps stage → it.state ≡ state.Going
    → (SessionFor it h steps Going → Follows (judged h steps clock command before.bytes) h steps Going new before after told) → Follows (issued h steps stage clock command words before.bytes) h steps stage new before after told
went_on it new h steps stage clock command words before after told keeps is follows =
    let e = going it h steps stage keeps is in
    subst (λ (s : Stage). Follows (issued h steps s clock command words before.bytes) h steps s new before after told) (sym e) (follows (subst (SessionFor it h steps) e keeps))

pub waited : (it new : Session) (h : Header) (steps : List Step) (stage : Stage) (waiting : Waiting) (clock : ℕ) (command : Command) (words : Words) (before after : Line) (told : Result Unit Refusal) → SessionFor it h steps stage → it.state ≡ state.Awaits waiting
    → (SessionFor it h steps (Awaits (place_in waiting)) → Follows (again (place_in waiting) clock words before.bytes steps) h steps (Awaits (place_in waiting)) new before after told)
    → Follows (issued h steps stage clock command words before.bytes) h steps stage new before after told
waited it new h steps stage waiting clock command words before after told keeps is follows =
    let e = awaiting it h steps stage waiting keeps is in
    subst (λ (s : Stage). Follows (issued h steps s clock command words before.bytes) h steps s new before after told) (sym e) (follows (subst (SessionFor it h steps) e keeps))

pub stays_broken : (it : Session) (h : Header) (steps : List Step) (stage : Stage) (rule : Rule) (clock : ℕ) (command : Command) (words : Words) (before : Line) → SessionFor it h steps stage → it.state ≡ state.Broken rule
    → Follows (issued h steps stage clock command words before.bytes) h steps stage it before before (Err (refusal.Breaks rule))
stays_broken it h steps stage rule clock command words before keeps is =
    let e = broken_by it h steps stage rule keeps is in
    subst (λ (s : Stage). Follows (issued h steps s clock command words before.bytes) h steps s it before before (Err (refusal.Breaks rule))) (sym e) (refl, subst (SessionFor it h steps) e keeps, refl)

-- ---- The bytes of a WR

pub again_given : (waiting : Waiting) (new : Session) (h : Header) (steps : List Step) (place : Place) (clock : ℕ) (words : Words) (before after : Line) (told : Result Unit Refusal) → place_in waiting ≡ place → is_again waiting.clock waiting.command clock words ≡ true
    → Carried (delivered place before.bytes steps) None h steps new before after told → Follows (again place clock words before.bytes steps) h steps (Awaits place) new before after told
again_given waiting new h steps place clock words before after told same is carried =
    let t : is_again place.clock place.command clock words ≡ true = subst (λ (p : Place). is_again p.clock p.command clock words ≡ true) same is in
    subst (λ (b : Bool). Follows (if b then Carries (delivered place before.bytes steps) None else Refuses refusal.NoMemory) h steps (Awaits place) new before after told) (sym t) carried

pub again_refused : (waiting : Waiting) (it : Session) (h : Header) (steps : List Step) (place : Place) (clock : ℕ) (words : Words) (before : Line) → place_in waiting ≡ place → is_again waiting.clock waiting.command clock words ≡ false
    → SessionFor it h steps (Awaits place) → Follows (again place clock words before.bytes steps) h steps (Awaits place) it before before (Err refusal.NoMemory)
again_refused waiting it h steps place clock words before same is keeps =
    let t : is_again place.clock place.command clock words ≡ false = subst (λ (p : Place). is_again p.clock p.command clock words ≡ false) same is in
    subst (λ (b : Bool). Follows (if b then Carries (delivered place before.bytes steps) None else Refuses refusal.NoMemory) h steps (Awaits place) it before before (Err refusal.NoMemory)) (sym t) (refl, keeps, refl)

-- the session goes on behind these steps
goes_on : (it new : Session) (h : Header) (steps later : List Step) (stage : Stage) → SessionFor it h steps stage → new.state ≡ state.Going → geometry_of new.device ≡ geometry_of it.device → StandsFor new.device h later Ready → SessionFor new h later Going
goes_on it new h steps later stage keeps is geometry stands = record { stage_is = ap stage_in is; shape = geometry ∙ keeps.shape; device = stands }

pub delivered_fine : (it new : Session) (h : Header) (steps : List Step) (place : Place) (before after : Line) (raised : Bool) → SessionFor it h steps (Awaits place) → new.state ≡ state.Going → geometry_of new.device ≡ geometry_of it.device
    → StandsFor new.device h (delivered place before.bytes steps) Ready → raised ≡ is_raised h (delivered place before.bytes steps) → after ≡ line_told before.bytes raised None → Carried (delivered place before.bytes steps) None h steps new before after (Ok tt)
delivered_fine it new h steps place before after raised keeps is geometry stands alert told =
    inl (refl, goes_on it new h steps (delivered place before.bytes steps) (Awaits place) keeps is geometry stands, told ∙ ap (λ (b : Bool). line_told before.bytes b None) alert)

pub delivered_late : (it new : Session) (h : Header) (steps : List Step) (place : Place) (before : Line) → SessionFor it h steps (Awaits place) → new.state ≡ it.state → geometry_of new.device ≡ geometry_of it.device → StandsFor new.device h steps (Waits place)
    → Carried (delivered place before.bytes steps) None h steps new before before (Err refusal.NoMemory)
delivered_late it new h steps place before keeps is geometry stands =
    inr (refl, (place, refl, record { stage_is = ap stage_in is ∙ keeps.stage_is; shape = geometry ∙ keeps.shape; device = stands }), refl)

-- ---- What came of a command

found_in : (h : Header) (command : Command) (steps : List Step) → is_wr command ≡ true → answered h command steps ≡ None
found_in h (Act bank row) steps is = absurd cc
found_in h (Rd bank column) steps is = absurd cc
found_in h (Wr bank column) steps is = refl
found_in h (PrePb bank) steps is = absurd cc
found_in h (PreSb address) steps is = absurd cc
found_in h PreAb steps is = absurd cc
found_in h RefAb steps is = absurd cc
found_in h (RefSb address) steps is = absurd cc
found_in h RfmAb steps is = absurd cc
found_in h (RfmSb address) steps is = absurd cc
found_in h (Mrw write) steps is = absurd cc
found_in h Ecs steps is = absurd cc
found_in h Nop steps is = absurd cc

-- the command is fine, and these are the bytes that come with it
fine : (new : Session) (h : Header) (steps : List Step) (clock : ℕ) (command : Command) (bytes : Option (List ℕ)) (before after : Line) (told : Result Unit Refusal) → broken h clock command (log_of steps) ≡ None → given command before.bytes ≡ bytes
    → Carried (with_command clock command bytes steps) (answered h command steps) h steps new before after told → Follows (judged h steps clock command before.bytes) h steps Going new before after told
fine new h steps clock command bytes before after told none same carried =
    subst (λ (o : Option ℕ). Follows (unless_broken o (Carries (with_command clock command (given command before.bytes) steps) (answered h command steps))) h steps Going new before after told) (sym none)
    (subst (λ (b : Option (List ℕ)). Carried (with_command clock command b steps) (answered h command steps) h steps new before after told) (sym same) carried)

pub judged_broken : (it new : Session) (h : Header) (steps : List Step) (clock : ℕ) (command : Command) (rule : Rule) (before : Line) → SessionFor it h steps Going → Commands (checked.Breaks rule) new.device h clock command steps → new.state ≡ state.Broken rule
    → geometry_of new.device ≡ geometry_of it.device → Follows (judged h steps clock command before.bytes) h steps Going new before before (Err (refusal.Breaks rule))
judged_broken it new h steps clock command rule before keeps came is geometry =
    subst (λ (o : Option ℕ). Follows (unless_broken o (Carries (with_command clock command (given command before.bytes) steps) (answered h command steps))) h steps Going new before before (Err (refusal.Breaks rule))) (sym came)
    (refl, record { stage_is = ap stage_in is; shape = geometry ∙ keeps.shape; device = tt }, refl)

pub judged_done : (it new : Session) (h : Header) (steps : List Step) (clock : ℕ) (command : Command) (found : Option Answer) (before after : Line) (raised : Bool) → SessionFor it h steps Going → Commands (checked.Done found) new.device h clock command steps → new.state ≡ it.state
    → geometry_of new.device ≡ geometry_of it.device → (StandsFor new.device h (with_command clock command None steps) Ready → raised ≡ is_raised h (with_command clock command None steps)) → after ≡ line_told before.bytes raised found
    → Follows (judged h steps clock command before.bytes) h steps Going new before after (Ok tt)
judged_done it new h steps clock command found before after raised keeps came is geometry alert told =
    fine new h steps clock command None before after (Ok tt) came.0 (ap (λ (b : Bool). if b then Some before.bytes else None) came.1) (inl (
      refl,
      record { stage_is = ap stage_in is ∙ keeps.stage_is; shape = geometry ∙ keeps.shape; device = came.2 },
      told ∙ ap (λ (b : Bool). line_told before.bytes b found) (alert came.2) ∙ ap (line_told before.bytes (is_raised h (with_command clock command None steps))) came.3,
    ))

-- a WR that is fine, before its bytes are given
pub judged_waiting : (it mid : Session) (h : Header) (steps : List Step) (clock : ℕ) (command : Command) → SessionFor it h steps Going → Commands checked.Awaits mid.device h clock command steps → mid.state ≡ state.Awaits (record { clock = clock; command = command })
    → geometry_of mid.device ≡ geometry_of it.device → SessionFor mid h steps (Awaits (placed clock command))
judged_waiting it mid h steps clock command keeps came is geometry = record { stage_is = ap stage_in is; shape = geometry ∙ keeps.shape; device = came.2 }

pub judged_write : (new : Session) (device : CheckedDevice) (h : Header) (steps : List Step) (clock : ℕ) (command : Command) (before after : Line) (told : Result Unit Refusal) → Commands checked.Awaits device h clock command steps
    → Carried (delivered (placed clock command) before.bytes steps) None h steps new before after told → Follows (judged h steps clock command before.bytes) h steps Going new before after told
judged_write new device h steps clock command before after told came carried =
    fine new h steps clock command (Some before.bytes) before after told came.0 (ap (λ (b : Bool). if b then Some before.bytes else None) came.1)
    (subst (λ (o : Option Answer). Carried (delivered (placed clock command) before.bytes steps) o h steps new before after told) (sym (found_in h command steps came.1)) carried)

pub waits_for : (device new : CheckedDevice) (clock : ℕ) (command : Command) → IsReady device → ((h : Header) (steps : List Step) → StandsFor device h steps Ready → Commands checked.Awaits new h clock command steps) → AwaitsBytes new
waits_for device new clock command is came = ∥∥₁_map is (λ r. (r.0, r.1, placed clock command, (came r.0 r.1 r.2).2))

-- ---- Bits

pub turned_in : (it new : Session) (h : Header) (steps : List Step) (stage : Stage) (line device bit : ℕ) (told : Result Unit Refusal) → SessionFor it h steps stage → is_bit (geometry_of it.device) line device bit ≡ true
    → Turns (turned true h steps stage line device bit) h steps stage new told → Turns (turned (is_bit (shape_of h) line device bit) h steps stage line device bit) h steps stage new told
turned_in it new h steps stage line device bit told keeps is turns =
    let here : is_bit (shape_of h) line device bit ≡ true = subst (λ (g : Shape). is_bit g line device bit ≡ true) keeps.shape is in
    subst (λ (b : Bool). Turns (turned b h steps stage line device bit) h steps stage new told) (sym here) turns

pub turned_out : (it : Session) (h : Header) (steps : List Step) (stage : Stage) (line device bit : ℕ) → SessionFor it h steps stage → is_bit (geometry_of it.device) line device bit ≡ false
    → Turns (turned (is_bit (shape_of h) line device bit) h steps stage line device bit) h steps stage it (Err refusal.OutOfRange)
turned_out it h steps stage line device bit keeps is =
    let here : is_bit (shape_of h) line device bit ≡ false = subst (λ (g : Shape). is_bit g line device bit ≡ false) keeps.shape is in
    subst (λ (b : Bool). Turns (turned b h steps stage line device bit) h steps stage it (Err refusal.OutOfRange)) (sym here) (refl, keeps)

pub turned_fine : (it new : Session) (h : Header) (steps : List Step) (stage : Stage) (line device bit : ℕ) → SessionFor it h steps stage → it.state ≡ state.Going → new.state ≡ it.state → geometry_of new.device ≡ geometry_of it.device
    → (StandsFor it.device h steps Ready → StandsFor new.device h (Flips (place_of line (shape_of h)) device bit ∷ steps) Ready) → Turns (turned true h steps stage line device bit) h steps stage new (Ok tt)
turned_fine it new h steps stage line device bit keeps is same geometry flips =
    let e = going it h steps stage keeps is in
    let k = subst (SessionFor it h steps) e keeps in
    subst (λ (s : Stage). Turns (turned true h steps s line device bit) h steps s new (Ok tt)) (sym e)
    (inl (refl, goes_on it new h steps (Flips (place_of line (shape_of h)) device bit ∷ steps) Going k (same ∙ is) geometry (flips k.device)))

pub turned_late : (it new : Session) (h : Header) (steps : List Step) (stage : Stage) (line device bit : ℕ) → SessionFor it h steps stage → it.state ≡ state.Going → new.state ≡ it.state → geometry_of new.device ≡ geometry_of it.device
    → (StandsFor it.device h steps Ready → StandsFor new.device h steps Ready) → Turns (turned true h steps stage line device bit) h steps stage new (Err refusal.NoMemory)
turned_late it new h steps stage line device bit keeps is same geometry stays =
    let e = going it h steps stage keeps is in
    let k = subst (SessionFor it h steps) e keeps in
    subst (λ (s : Stage). Turns (turned true h steps s line device bit) h steps s new (Err refusal.NoMemory)) (sym e) (inr (refl, goes_on it new h steps steps Going k (same ∙ is) geometry (stays k.device)))

pub turned_waiting : (it : Session) (h : Header) (steps : List Step) (stage : Stage) (waiting : Waiting) (line device bit : ℕ) → SessionFor it h steps stage → it.state ≡ state.Awaits waiting → Turns (turned true h steps stage line device bit) h steps stage it (Err refusal.NoMemory)
turned_waiting it h steps stage waiting line device bit keeps is =
    let e = awaiting it h steps stage waiting keeps is in
    subst (λ (s : Stage). Turns (turned true h steps s line device bit) h steps s it (Err refusal.NoMemory)) (sym e) (refl, subst (SessionFor it h steps) e keeps)

pub turned_broken : (it : Session) (h : Header) (steps : List Step) (stage : Stage) (rule : Rule) (line device bit : ℕ) → SessionFor it h steps stage → it.state ≡ state.Broken rule → Turns (turned true h steps stage line device bit) h steps stage it (Err (refusal.Breaks rule))
turned_broken it h steps stage rule line device bit keeps is =
    let e = broken_by it h steps stage rule keeps is in
    subst (λ (s : Stage). Turns (turned true h steps s line device bit) h steps s it (Err (refusal.Breaks rule))) (sym e) (refl, subst (SessionFor it h steps) e keeps)

-- ---- The end

pub ended_in : (new : Session) (h : Header) (steps : List Step) (stage : Stage) (clock : ℕ) (told : Result Unit Refusal) → is_in_time clock ≡ true → Ends (ended true h steps stage clock) h steps stage new told → Ends (ended (is_in_time clock) h steps stage clock) h steps stage new told
ended_in new h steps stage clock told is ends = subst (λ (b : Bool). Ends (ended b h steps stage clock) h steps stage new told) (sym is) ends

pub ended_out : (it : Session) (h : Header) (steps : List Step) (stage : Stage) (clock : ℕ) → is_in_time clock ≡ false → SessionFor it h steps stage → Ends (ended (is_in_time clock) h steps stage clock) h steps stage it (Err refusal.OutOfRange)
ended_out it h steps stage clock is keeps = subst (λ (b : Bool). Ends (ended b h steps stage clock) h steps stage it (Err refusal.OutOfRange)) (sym is) (refl, keeps)

pub ended_broken : (it new : Session) (h : Header) (steps : List Step) (stage : Stage) (clock : ℕ) (rule : Rule) → SessionFor it h steps stage → it.state ≡ state.Going → (StandsFor it.device h steps Ready → broken_at_end h clock (log_of steps) ≡ Some rule.0) → new.state ≡ state.Broken rule
    → geometry_of new.device ≡ geometry_of it.device → Ends (ended true h steps stage clock) h steps stage new (Err (refusal.Breaks rule))
ended_broken it new h steps stage clock rule keeps is breaks now geometry =
    let e = going it h steps stage keeps is in
    let k = subst (SessionFor it h steps) e keeps in
    subst (λ (s : Stage). Ends (ended true h steps s clock) h steps s new (Err (refusal.Breaks rule))) (sym e)
    (subst (λ (o : Option ℕ). Ends (unless_broken o Closes) h steps Going new (Err (refusal.Breaks rule))) (sym (breaks k.device)) (refl, record { stage_is = ap stage_in now; shape = geometry ∙ k.shape; device = tt }))

pub ended_fine : (it new : Session) (h : Header) (steps : List Step) (stage : Stage) (clock : ℕ) → SessionFor it h steps stage → it.state ≡ state.Going → (StandsFor it.device h steps Ready → broken_at_end h clock (log_of steps) ≡ None)
    → Ends (ended true h steps stage clock) h steps stage new (Ok tt)
ended_fine it new h steps stage clock keeps is none =
    let e = going it h steps stage keeps is in
    let k = subst (SessionFor it h steps) e keeps in
    subst (λ (s : Stage). Ends (ended true h steps s clock) h steps s new (Ok tt)) (sym e)
    (subst (λ (o : Option ℕ). Ends (unless_broken o Closes) h steps Going new (Ok tt)) (sym (none k.device)) refl)

pub ended_waiting : (it : Session) (h : Header) (steps : List Step) (stage : Stage) (waiting : Waiting) (clock : ℕ) → SessionFor it h steps stage → it.state ≡ state.Awaits waiting → Ends (ended true h steps stage clock) h steps stage it (Err refusal.NoMemory)
ended_waiting it h steps stage waiting clock keeps is =
    let e = awaiting it h steps stage waiting keeps is in
    subst (λ (s : Stage). Ends (ended true h steps s clock) h steps s it (Err refusal.NoMemory)) (sym e) (refl, subst (SessionFor it h steps) e keeps)

pub ended_before : (it : Session) (h : Header) (steps : List Step) (stage : Stage) (rule : Rule) (clock : ℕ) → SessionFor it h steps stage → it.state ≡ state.Broken rule → Ends (ended true h steps stage clock) h steps stage it (Err (refusal.Breaks rule))
ended_before it h steps stage rule clock keeps is =
    let e = broken_by it h steps stage rule keeps is in
    subst (λ (s : Stage). Ends (ended true h steps s clock) h steps s it (Err (refusal.Breaks rule))) (sym e) (refl, subst (SessionFor it h steps) e keeps)
