-- What a checked device stands for after one thing more.
use Rattle.std.proofs.Common.{◌≡◌, ◌∙◌, ℕ, suc, ◌<◌, length, true, false, Option, Some, None, List, ◌∷◌, is_some, option_map, refl, sym, ap, subst}
use Rattle.std.specs.Coded.{le_prop}
use Rattle.std.proofs.Math.Logic.{∥∥₁_elim, ∥∥₁_map}
use Rattle.bank_state.specs.Standing.{StandsFor as BanksFor}
use Rattle.command_words.specs.Geometry.{Shape, lines_of}
use Rattle.command_words.specs.Kinds.{is_wr}
use Rattle.command_words.specs.Place.{IsInside, place_of}
use Rattle.command_words.specs.declared.command.Command.{Command}
use Rattle.command_words.specs.declared.command.Command.TheVariants.{Act, Rd, Wr, PrePb, PreSb, PreAb, RefAb, RefSb, RfmAb, RfmSb, Mrw, Ecs, Nop}
use Rattle.command_words.specs.declared.geometry.Place.{Place}
use Rattle.ddr_text.specs.AcceptedReport.{IsReportLine}
use Rattle.ddr_text.specs.declared.lines.ReportLine.TheVariants.{Issued as IssuedLine}
use Rattle.device_core.specs.Held.{Held}
use Rattle.device_core.specs.Standing.{StandsFor as DeviceFor, HasBytes, geometry_of as device_geometry, with_command}
use Rattle.device_core.specs.Steps.{Step, Flips, log_of}
use Rattle.device_core.specs.Stored.{answer}
use Rattle.error_scrub.specs.declared.cells.LineRead.{LineRead}
use Rattle.log_auditor.specs.Auditing.{geometry_of as auditor_geometry}
use Rattle.log_auditor.specs.declared.judge.Judge.{Judge}
use Rattle.speed_bin.specs.Header.{shape_of}
use Rattle.speed_bin.specs.Log.{Issued, Log}
use Rattle.speed_bin.specs.Rules.{broken, verdict}
use Rattle.speed_bin.specs.declared.header.Header.{Header}
use Rattle.device_exec.specs.Scripts.{Phase, Ready, Waits, Ended, placed}
use Rattle.device_exec.specs.Standing.{Audits, AwaitsBytes, BothStand, IsFine, IsFineForSome, IsJudged, IsReady, Keeps, MayTake, StandsFor, Commands, answer_of, answered, geometry_of, line_read, place_in, waiting_in}
use Rattle.device_exec.specs.declared.checked_device.Answer.{Answer}
use Rattle.device_exec.specs.declared.checked_device.Checked.TheVariants.{Awaits, Done}
use Rattle.device_exec.specs.declared.checked_device.CheckedDevice.{CheckedDevice}
use Rattle.device_exec.specs.declared.checked_device.Waiting.{Waiting}
use Rattle.device_exec.specs.declared.memory.Memory.{Memory}
use Rattle.device_exec.proofs.Judged.{none_after}

-- ---- A command

pub ready_fine : (it : CheckedDevice) → IsReady it → IsFineForSome it.auditor
unfolding StandsFor
ready_fine it ready = ∥∥₁_map ready (λ r. (r.0, log_of r.1, r.2.auditor))

pub judged_next : (it : CheckedDevice) (h : Header) (steps : List Step) (clock : ℕ) (command : Command) (bytes : Option (List ℕ)) (auditor : Judge) → Keeps it h steps Ready → IsReportLine (auditor_geometry it.auditor) (IssuedLine clock command) → IsFine auditor h (placed clock command ∷ log_of steps) → HasBytes command bytes
    → IsJudged h clock command bytes steps
judged_next it h steps clock command bytes auditor keeps inside fine with_bytes = record {
  inside = subst (λ (g : Shape). IsReportLine g (IssuedLine clock command)) keeps.shape inside;
  fine = fine.fine;
  with_bytes = with_bytes;
}

-- a command that needs no bytes may be given at once
pub may_take : (it : CheckedDevice) (clock : ℕ) (command : Command) (auditor : Judge) → IsReady it → IsReportLine (auditor_geometry it.auditor) (IssuedLine clock command) → ((h : Header) (log : Log) → IsFine it.auditor h log → IsFine auditor h (placed clock command ∷ log)) → is_wr command ≡ false
    → MayTake it.memory clock command None
unfolding StandsFor
may_take it clock command auditor ready inside fine no_bytes =
    ∥∥₁_map ready (λ r. (r.0, r.1, r.2.memory, judged_next it r.0 r.1 clock command None auditor r.2 inside (fine r.0 (log_of r.1) r.2.auditor) (sym no_bytes)))

pub waits : (it new : CheckedDevice) (h : Header) (steps : List Step) (clock : ℕ) (command : Command) → Keeps it h steps Ready → IsReportLine (auditor_geometry it.auditor) (IssuedLine clock command) → IsFine new.auditor h (placed clock command ∷ log_of steps) → is_wr command ≡ true
    → auditor_geometry new.auditor ≡ auditor_geometry it.auditor → new.memory ≡ it.memory → new.waiting ≡ Some (record { clock = clock; command = command }) → new.last ≡ it.last
    → Keeps new h steps (Waits (placed clock command))
waits it new h steps clock command keeps inside fine is geometry memory waiting last = record {
  shape = geometry ∙ keeps.shape;
  auditor = fine;
  memory = subst (λ (m : Memory). BothStand m h steps) (sym memory) keeps.memory;
  waiting = ap (option_map place_in) waiting;
  awaited = (is, subst (λ (g : Shape). IsReportLine g (IssuedLine clock command)) keeps.shape inside);
  last = last ∙ keeps.last;
}

pub done : (it new : CheckedDevice) (h : Header) (steps : List Step) (clock : ℕ) (command : Command) → Keeps it h steps Ready → IsFine new.auditor h (placed clock command ∷ log_of steps)
    → auditor_geometry new.auditor ≡ auditor_geometry it.auditor → BothStand new.memory h (with_command clock command None steps) → new.waiting ≡ it.waiting → new.last ≡ clock
    → Keeps new h (with_command clock command None steps) Ready
done it new h steps clock command keeps fine geometry memory waiting last = record {
  shape = geometry ∙ keeps.shape;
  auditor = fine;
  memory = memory;
  waiting = ap (option_map place_in) waiting ∙ keeps.waiting;
  awaited = tt;
  last = last;
}

-- what an RD finds, with its line
pub answers : (h : Header) (command : Command) (steps : List Step) → answer_of (line_read h command (log_of steps)) (answer h command steps) ≡ answered h command steps
answers h (Act bank row) steps = refl
answers h (Rd bank column) steps = refl
answers h (Wr bank column) steps = refl
answers h (PrePb bank) steps = refl
answers h (PreSb address) steps = refl
answers h PreAb steps = refl
answers h RefAb steps = refl
answers h (RefSb address) steps = refl
answers h RfmAb steps = refl
answers h (RfmSb address) steps = refl
answers h (Mrw write) steps = refl
answers h Ecs steps = refl
answers h Nop steps = refl

-- ---- The bytes of a WR

same_some : {A : Type 0} (a b : A) → ◌≡◌ {A = Option A} (Some a) (Some b) → a ≡ b
same_some a b e = cc

pub waiting_is : (it : CheckedDevice) (h : Header) (steps : List Step) (place : Issued) (waiting : Waiting) → it.waiting ≡ Some waiting → Keeps it h steps (Waits place) → placed waiting.clock waiting.command ≡ place
waiting_is it h steps place waiting is keeps = same_some (place_in waiting) place (sym (ap (option_map place_in) is) ∙ keeps.waiting)

pub none_waits : (it : CheckedDevice) (h : Header) (steps : List Step) (place : Issued) → it.waiting ≡ None → Keeps it h steps (Waits place) → ⊥
none_waits it h steps place is keeps = let both : ◌≡◌ {A = Option Issued} None (Some place) = sym (ap (option_map place_in) is) ∙ keeps.waiting in absurd cc

pub judged_waiting : (it : CheckedDevice) (h : Header) (steps : List Step) (place : Issued) (waiting : Waiting) (bytes : List ℕ) → it.waiting ≡ Some waiting → Keeps it h steps (Waits place) → IsJudged h waiting.clock waiting.command (Some bytes) steps
judged_waiting it h steps place waiting bytes is keeps =
    subst (λ (p : Issued). IsJudged h p.clock p.command (Some bytes) steps) (sym (waiting_is it h steps place waiting is keeps)) (record {
      inside = keeps.awaited.1;
      fine = keeps.auditor.fine;
      with_bytes = sym keeps.awaited.0;
    })

pub may_write : (it : CheckedDevice) (waiting : Waiting) (bytes : List ℕ) → it.waiting ≡ Some waiting → AwaitsBytes it → MayTake it.memory waiting.clock waiting.command (Some bytes)
unfolding StandsFor
may_write it waiting bytes is awaits = ∥∥₁_map awaits (λ r. (r.0, r.1, r.3.memory, judged_waiting it r.0 r.1 r.2 waiting bytes is r.3))

pub wrote : (it new : CheckedDevice) (h : Header) (steps : List Step) (place : Issued) (waiting : Waiting) (bytes : List ℕ) → it.waiting ≡ Some waiting → Keeps it h steps (Waits place)
    → new.auditor ≡ it.auditor → BothStand new.memory h (with_command waiting.clock waiting.command (Some bytes) steps) → new.waiting ≡ None → new.last ≡ waiting.clock
    → Keeps new h (with_command place.clock place.command (Some bytes) steps) Ready
wrote it new h steps place waiting bytes is keeps auditor memory gone last =
    let same = waiting_is it h steps place waiting is keeps in
    record {
      shape = ap auditor_geometry auditor ∙ keeps.shape;
      auditor = subst (λ (a : Judge). IsFine a h (place ∷ log_of steps)) (sym auditor) keeps.auditor;
      memory = subst (λ (p : Issued). BothStand new.memory h (with_command p.clock p.command (Some bytes) steps)) same memory;
      waiting = ap (option_map place_in) gone;
      awaited = tt;
      last = last ∙ ap (λ (p : Issued). p.clock) same;
    }

-- another device and its open rows, which stand for the same steps
pub same_steps : (it new : CheckedDevice) (h : Header) (steps : List Step) (phase : Phase) → Keeps it h steps phase → new.auditor ≡ it.auditor → BothStand new.memory h steps → new.waiting ≡ it.waiting → new.last ≡ it.last → Keeps new h steps phase
same_steps it new h steps phase keeps auditor memory waiting last = record {
  shape = ap auditor_geometry auditor ∙ keeps.shape;
  auditor = subst (λ (a : Judge). Audits a h steps phase) (sym auditor) keeps.auditor;
  memory = memory;
  waiting = ap (option_map place_in) waiting ∙ keeps.waiting;
  awaited = keeps.awaited;
  last = last ∙ keeps.last;
}

-- ---- Bits

-- the line is one of the device's
pub line_in : (it : CheckedDevice) (line : ℕ) → IsReady it → line < lines_of (auditor_geometry it.auditor) → line < lines_of it.memory.geometry
unfolding StandsFor
line_in it line ready low = ∥∥₁_elim ready le_prop (λ r. subst (λ (g : Shape). line < lines_of g) (r.2.shape ∙ sym r.2.memory.geometry) low)

pub inside_device : ((device : Held) (h : Header) (steps : List Step) → DeviceFor device h steps → device_geometry device ≡ shape_of h)
    → (it : CheckedDevice) (place : Place) → IsReady it → IsInside place it.memory.geometry → IsInside place (device_geometry it.memory.device)
unfolding StandsFor
inside_device law it place ready inside = record {
  row = ∥∥₁_elim ready le_prop (λ r. subst (λ (g : Shape). place.row < g.rows) (r.2.memory.geometry ∙ sym (law it.memory.device r.0 r.1 r.2.memory.device)) inside.row);
  group = ∥∥₁_elim ready le_prop (λ r. subst (λ (g : Shape). place.bank.group < g.groups) (r.2.memory.geometry ∙ sym (law it.memory.device r.0 r.1 r.2.memory.device)) inside.group);
}

pub flipped : (it new : CheckedDevice) (h : Header) (steps : List Step) (line : ℕ) (place : Place) (device bit : ℕ) → Keeps it h steps Ready → place ≡ place_of line it.memory.geometry
    → new.auditor ≡ it.auditor → DeviceFor new.memory.device h (Flips place device bit ∷ steps) → new.memory.banks ≡ it.memory.banks → new.memory.geometry ≡ it.memory.geometry → new.memory.raised ≡ it.memory.raised → new.waiting ≡ it.waiting → new.last ≡ it.last
    → Keeps new h (Flips (place_of line (shape_of h)) device bit ∷ steps) Ready
flipped it new h steps line place device bit keeps at auditor flips banks geometry raised waiting last = record {
  shape = ap auditor_geometry auditor ∙ keeps.shape;
  auditor = subst (λ (a : Judge). IsFine a h (log_of steps)) (sym auditor) keeps.auditor;
  memory = record {
    device = subst (λ (p : Place). DeviceFor new.memory.device h (Flips p device bit ∷ steps)) (at ∙ ap (place_of line) keeps.memory.geometry) flips;
    banks = subst (λ (rows : List (Option ℕ)). BanksFor rows (log_of steps)) (sym banks) keeps.memory.banks;
    geometry = geometry ∙ keeps.memory.geometry;
    raised = raised ∙ keeps.memory.raised;
  };
  waiting = ap (option_map place_in) waiting ∙ keeps.waiting;
  awaited = tt;
  last = last ∙ keeps.last;
}

-- ---- The end

pub ended : (it new : CheckedDevice) (h : Header) (steps : List Step) (clock : ℕ) → Keeps it h steps Ready → auditor_geometry new.auditor ≡ auditor_geometry it.auditor → new.memory ≡ it.memory → new.waiting ≡ it.waiting → new.last ≡ it.last
    → Keeps new h steps (Ended clock)
ended it new h steps clock keeps geometry memory waiting last = record {
  shape = geometry ∙ keeps.shape;
  auditor = tt;
  memory = subst (λ (m : Memory). BothStand m h steps) (sym memory) keeps.memory;
  waiting = ap (option_map place_in) waiting ∙ keeps.waiting;
  awaited = tt;
  last = last ∙ keeps.last;
}

-- ---- What came of a command

no_rule : (h : Header) (clock : ℕ) (command : Command) (log : Log) (auditor : Judge) → IsFine auditor h (placed clock command ∷ log) → broken h clock command log ≡ None
no_rule h clock command log auditor fine = none_after (verdict h log) (suc (length log)) (broken h clock command log) fine.fine

pub came_waits : (it new : CheckedDevice) (h : Header) (steps : List Step) (clock : ℕ) (command : Command) → StandsFor it h steps Ready → IsReportLine (geometry_of it) (IssuedLine clock command) → (IsFine it.auditor h (log_of steps) → IsFine new.auditor h (placed clock command ∷ log_of steps)) → is_wr command ≡ true
    → auditor_geometry new.auditor ≡ auditor_geometry it.auditor → new.memory ≡ it.memory → new.waiting ≡ Some (record { clock = clock; command = command }) → new.last ≡ it.last
    → Commands Awaits new h clock command steps
unfolding StandsFor geometry_of
came_waits it new h steps clock command keeps inside judged is geometry memory waiting last =
    let fine = judged keeps.auditor in
    (no_rule h clock command (log_of steps) new.auditor fine, is, waits it new h steps clock command keeps inside fine is geometry memory waiting last)

pub came_done : (it new : CheckedDevice) (h : Header) (steps : List Step) (clock : ℕ) (command : Command) (line : Option ℕ) (read : Option LineRead) (answer_is : Option Answer) → StandsFor it h steps Ready → IsReportLine (geometry_of it) (IssuedLine clock command) → (IsFine it.auditor h (log_of steps) → IsFine new.auditor h (placed clock command ∷ log_of steps)) → is_wr command ≡ false
    → auditor_geometry new.auditor ≡ auditor_geometry it.auditor
    → (BothStand it.memory h steps → IsJudged h clock command None steps → BothStand new.memory h (with_command clock command None steps))
    → (BothStand it.memory h steps → IsJudged h clock command None steps → line ≡ line_read h command (log_of steps))
    → (BothStand it.memory h steps → IsJudged h clock command None steps → read ≡ answer h command steps)
    → answer_is ≡ answer_of line read → new.waiting ≡ it.waiting → new.last ≡ clock
    → Commands (Done answer_is) new h clock command steps
unfolding StandsFor geometry_of
came_done it new h steps clock command line read answer_is keeps inside judged is geometry memory line_is read_is both waiting last =
    let fine = judged keeps.auditor in
    let k = judged_next it h steps clock command None new.auditor keeps inside fine (sym is) in (
      no_rule h clock command (log_of steps) new.auditor fine,
      is,
      done it new h steps clock command keeps fine geometry (memory keeps.memory k) waiting last,
      both ∙ ap (λ (l : Option ℕ). answer_of l read) (line_is keeps.memory k) ∙ ap (answer_of (line_read h command (log_of steps))) (read_is keeps.memory k) ∙ answers h command steps,
    )
