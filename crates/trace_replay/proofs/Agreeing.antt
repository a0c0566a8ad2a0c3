-- One list at both ends: its logs are the same, a turn leaves it as it was, and what is pending may be given.
use Rattle.std.proofs.Common.{◌++◌, Result, Ok, Err, IfOk, OnOk, OnErr, ◌*◌, true, nat_lt, lt-ltb, eqb-true, IsSome, ◌≡◌, ◌∙◌, ◌<◌, ◌^◌, ℕ, Bool, false, Option, Some, None, is_some, option_map, option_copied, List, [], ◌∷◌, max, IsTrue, refl, sym, ap, subst, arith}
use Rattle.std.proofs.Math.Bridge.{le_prop}
use Rattle.std.proofs.Math.Logic.{∥∥₁_elim, ∥∥₁_map}
use Rattle.requests.proofs.Oldest.{holds}
use Rattle.speed_bin.proofs.Tests.{both, joined}
use Rattle.std.specs.Borrow.{Bor}
use Rattle.command_words.specs.Command.{bank_number, IsInRange}
use Rattle.command_words.specs.Words.{Spells}
use Rattle.command_words.specs.declared.command.Command.{Command}
use Rattle.command_words.specs.declared.command.Command.TheVariants.{Act, Rd, Wr, PrePb, PreSb, PreAb, RefAb, RefSb, RfmAb, RfmSb, Mrw, Ecs, Nop}
use Rattle.command_words.specs.declared.words.Words.{Words}
use Rattle.speed_bin.specs.Alert.{alert}
use Rattle.command_words.specs.Kinds.{is_wr}
use Rattle.speed_bin.specs.Log.{Log}
use Rattle.speed_bin.specs.Marks.{is_bank, stays_inside}
use Rattle.speed_bin.specs.Rules.{all_closed, broken, broken_at_end}
use Rattle.speed_bin.specs.declared.header.Header.{Header}
use Rattle.requests.specs.Choice.{IsChosen, IsOldestRow, IsPrompt}
use Rattle.requests.specs.Queue.{in_bank, hits, oldest, Step as NumberedStep, places, waiting}
use Rattle.requests.specs.declared.request.Request.{Request}
use Rattle.requests.specs.declared.waiting.Waiting.{Waiting}
use Rattle.scheduler.specs.Controller.{number_of, StandsFor as ControllerFor, After as ControllerAfter, header_of as controller_header, from_of as controller_from}
use Rattle.scheduler.specs.declared.state.State.{State as Controller}
use Rattle.scheduler.specs.declared.turn.Turn.{Turn}
use Rattle.scheduler.specs.declared.turn.Turn.TheVariants.{Issue, Idle, Done}
use Rattle.command_words.specs.Geometry.{Shape}
use Rattle.command_words.specs.Place.{IsInside}
use Rattle.command_words.specs.declared.geometry.Place.{Place}
use Rattle.speed_bin.specs.Header.{shape_of}
use Rattle.device_core.specs.Standing.{StandsFor as DeviceFor, MayFollow, IsUnchanged, geometry_of}
use Rattle.device_core.specs.Steps.{Step as DeviceStep, Flips as Turns, log_of as device_log}
use Rattle.device_core.specs.Held.{Held as DeviceHeld}
use Rattle.trace_replay.specs.Coupled.{Step, Delivers, Flips, log_of, controller_steps, device_steps, with_pending, issued_as, issued_in, step_of, IsDue, IsDueIfAny, IsAwaited, delivered, Keeps, StandsFor, StandsForSome, After, controller_of, pending_of}
use Rattle.trace_replay.specs.declared.ends.Pending.{Pending}
use Rattle.trace_replay.specs.declared.ends.Ends.{Ends as Coupled}

-- ---- One log

pub places_are : (steps : List Step) → places (controller_steps steps) ≡ log_of steps
places_are [] = refl
places_are (Delivers d ∷ steps) = ap (λ (log : Log). d.issued ∷ log) (places_are steps)
places_are (Flips place device bit ∷ steps) = places_are steps

pub device_log_is : (steps : List Step) → device_log (device_steps steps) ≡ log_of steps
device_log_is [] = refl
device_log_is (Delivers d ∷ steps) = ap (λ (log : Log). d.issued ∷ log) (device_log_is steps)
device_log_is (Flips place device bit ∷ steps) = device_log_is steps

-- ---- A turn

-- where nothing is pending, the controller stands for the list itself
pub unpended : (c : Coupled) (h : Header) (offered : List Request) (idle : ℕ) (steps : List Step) → option_map step_of c.pending ≡ None → Keeps c h offered idle steps → ControllerFor h c.controller offered idle (controller_steps steps)
unpended c h offered idle steps e s = subst (λ (p : Option NumberedStep). ControllerFor h c.controller offered idle (with_pending p (controller_steps steps))) e s.controller

pub told : (c : Coupled) (h : Header) (offered : List Request) (idle : ℕ) (steps : List Step) → Keeps c h offered idle steps → c.alert ≡ is_some (alert h (places (controller_steps steps)))
told c h offered idle steps s = s.alert ∙ sym (ap (λ (log : Log). is_some (alert h log)) (places_are steps))

-- what holds of every controller
pub record Laws : Type 0 where
  pub inside : (h : Header) (c : Controller) (offered : List Request) (idle : ℕ) (log : List NumberedStep) (b row : ℕ) → ControllerFor h c offered idle log → IsOldestRow (waiting h offered log) b row → row < h.settings.rows
  pub own : (h : Header) (c : Controller) (offered : List Request) (idle : ℕ) (log : List NumberedStep) (test : Waiting → Bool) (w : Waiting) → ControllerFor h c offered idle log → oldest test (waiting h offered log) ≡ Some w → bank_number w.place.bank < h.version.groups * 4
  pub newest : (h : Header) (c : Controller) (offered : List Request) (idle : ℕ) (step : NumberedStep) (log : List NumberedStep) → ControllerFor h c offered idle (step ∷ log) → step.issued.clock < controller_from c
  pub near : (h : Header) (c : Controller) (offered : List Request) (idle : ℕ) (log : List NumberedStep) → ControllerFor h c offered idle log → controller_from c < 2 ^ 48

-- the banks of waiting requests are the header's
abbrev OwnBanks : Header → List Waiting → Type 0
OwnBanks h ws = (test : Waiting → Bool) (w : Waiting) → oldest test ws ≡ Some w → bank_number w.place.bank < h.version.groups * 4

own_bank : (h : Header) (ws : List Waiting) (b : ℕ) (w : Waiting) → OwnBanks h ws → oldest (in_bank b) ws ≡ Some w → nat_lt b (h.version.groups * 4) ≡ true
own_bank h ws b w own e =
    let same : bank_number w.place.bank ≡ b = eqb-true _ _ (holds (in_bank b) ws w e) in
    lt-ltb b (h.version.groups * 4) (subst (λ n. n < h.version.groups * 4) same (own (in_bank b) w e))

hit_bank : (h : Header) (ws : List Waiting) (b : ℕ) (open_row : Option ℕ) (w : Waiting) → OwnBanks h ws → oldest (hits b open_row) ws ≡ Some w → nat_lt b (h.version.groups * 4) ≡ true
hit_bank h ws b open_row w own e =
    let same : bank_number w.place.bank ≡ b = eqb-true _ _ (both (in_bank b w) _ (holds (hits b open_row) ws w e)).0 in
    lt-ltb b (h.version.groups * 4) (subst (λ n. n < h.version.groups * 4) same (own (hits b open_row) w e))

some_bank : (h : Header) (ws : List Waiting) (b : ℕ) (o : Option Waiting) → OwnBanks h ws → oldest (in_bank b) ws ≡ o → IsSome o → nat_lt b (h.version.groups * 4) ≡ true
some_bank h ws b None own e some = absurd cc
some_bank h ws b (Some w) own e some = own_bank h ws b w own e

row_inside : (h : Header) (ws : List Waiting) (log : Log) (clock : ℕ) (command : Command) (id : Option ℕ) → ((b row : ℕ) → IsOldestRow ws b row → row < h.settings.rows) → OwnBanks h ws → IsChosen h ws log clock command id → IsTrue (stays_inside h command)
row_inside h ws log clock (Act bank row) id inside own chosen =
    joined (nat_lt row h.settings.rows) (is_bank h bank) (lt-ltb row h.settings.rows (inside _ row chosen.0)) (own_bank h ws (bank_number bank) chosen.0.request own chosen.0.oldest_of)
row_inside h ws log clock (Rd bank column) id inside own chosen = hit_bank h ws (bank_number bank) _ chosen.request own chosen.oldest_hit
row_inside h ws log clock (Wr bank column) id inside own chosen = hit_bank h ws (bank_number bank) _ chosen.request own chosen.oldest_hit
row_inside h ws log clock (PrePb bank) id inside own chosen = some_bank h ws (bank_number bank) (oldest (in_bank (bank_number bank)) ws) own refl chosen.0.some
row_inside h ws log clock (PreSb address) id inside own chosen = refl
row_inside h ws log clock PreAb id inside own chosen = refl
row_inside h ws log clock RefAb id inside own chosen = refl
row_inside h ws log clock (RefSb address) id inside own chosen = refl
row_inside h ws log clock RfmAb id inside own chosen = refl
row_inside h ws log clock (RfmSb address) id inside own chosen = refl
row_inside h ws log clock (Mrw write) id inside own chosen = refl
row_inside h ws log clock Ecs id inside own chosen = refl
row_inside h ws log clock Nop id inside own chosen = refl

resting : (h : Header) (old : Coupled) (controller : Controller) (pending : Option Pending) (offered : List Request) (idle : ℕ) (steps : List Step)
    → Keeps old h offered idle steps → ControllerFor h controller offered idle (controller_steps steps) → option_map step_of pending ≡ None
    → Keeps (record { controller = controller; device = old.device; pending = pending; alert = old.alert }) h offered idle steps
resting h old controller pending offered idle steps s t e = record {
  controller = subst (λ (p : Option NumberedStep). ControllerFor h controller offered idle (with_pending p (controller_steps steps))) (sym e) t;
  device = s.device;
  alert = s.alert;
  due = subst (λ (p : Option NumberedStep). IsDueIfAny h (log_of steps) p) (sym e) tt;
}

pub after_turn : (turn : Turn) (from until : ℕ) (finished : Bool) (h : Header) (old : Coupled) (controller : Controller) (pending : Option Pending) (offered : List Request) (idle : ℕ) (steps : List Step)
    → Laws → option_map step_of old.pending ≡ None → Keeps old h offered idle steps
    → ControllerAfter turn from until finished h controller offered idle (controller_steps steps) → option_map step_of pending ≡ issued_in turn
    → After turn from until finished h (record { controller = controller; device = old.device; pending = pending; alert = old.alert }) offered idle steps
unfolding StandsFor controller_of pending_of
after_turn (Issue clock command id) from until finished h old controller pending offered idle steps laws none s t e =
    let log = places_are steps in
    let newest = laws.newest h controller offered idle _ (controller_steps steps) t.stands in
    let near = laws.near h controller offered idle _ t.stands in
    let due : IsDue h (log_of steps) (issued_as clock command id) = record {
      in_time = omega (arith, newest, near);
      row = row_inside h (waiting h offered (controller_steps steps)) (places (controller_steps steps)) clock command (number_of id)
          (λ b row oldest. laws.inside h old.controller offered idle (controller_steps steps) b row (unpended old h offered idle steps none s) oldest)
          (λ test w is. laws.own h old.controller offered idle (controller_steps steps) test w (unpended old h offered idle steps none s) is) t.chosen;
      rules = subst (λ (l : Log). broken h clock command l ≡ None) log t.right;
    } in
    record {
      late = t.late;
      due = due;
      chosen = subst (λ (l : Log). IsChosen h (waiting h offered (controller_steps steps)) l clock command (number_of id)) log t.chosen;
      prompt = subst (λ (l : Log). IsPrompt h from l clock command) log t.prompt;
      busy = λ rest. let b = t.busy rest in (b.0, subst (λ (l : Log). all_closed l ≡ false) log b.1);
      now = t.now;
      stands = record {
        controller = subst (λ (p : Option NumberedStep). ControllerFor h controller offered idle (with_pending p (controller_steps steps))) (sym e) t.stands;
        device = s.device;
        alert = s.alert;
        due = subst (λ (p : Option NumberedStep). IsDueIfAny h (log_of steps) p) (sym e) due;
      };
      is_pending = e;
    }
after_turn Idle from until finished h old controller pending offered idle steps laws none s t e =
    (record { rest = t.0.rest; now = t.0.now; stands = resting h old controller pending offered idle steps s t.0.stands e; none_pending = e }, t.1)
after_turn Done from until finished h old controller pending offered idle steps laws none s t e = (
  record { rest = t.0.rest; now = t.0.now; stands = resting h old controller pending offered idle steps s t.0.stands e; none_pending = e },
  t.1,
  subst (λ (l : Log). broken_at_end h (max from until) l ≡ None) (places_are steps) t.2,
)

-- ---- A delivery

pub pending_here : (o : Option Pending) (r : Option (Bor Pending)) (b : Bor Pending) → option_copied r ≡ o → r ≡ Some b → o ≡ Some b.now
pending_here o r b value e = sym value ∙ ap (λ (x : Option (Bor Pending)). option_copied x) e

-- the pending step is that of what is pending
pub same_step : (o : Option Pending) (p : Pending) (step : NumberedStep) → o ≡ Some p → option_map step_of o ≡ Some step → step_of p ≡ step
same_step o p step here e = let both : Some (step_of p) ≡ Some step = sym (ap (λ (x : Option Pending). option_map step_of x) here) ∙ e in cc

-- what is pending may be given, with bytes where it is a WR
pub may_follow : (c : Coupled) (h : Header) (offered : List Request) (idle : ℕ) (steps : List Step) (p : Pending) (words : Words) (bytes : Option (List ℕ))
    → Keeps c h offered idle steps → c.pending ≡ Some p → IsAwaited (option_map step_of c.pending) bytes → Spells p.command words → IsInRange p.command
    → MayFollow h p.clock p.command words bytes (device_steps steps)
may_follow c h offered idle steps p words bytes s here awaited spelled in_range =
    let due : IsDue h (log_of steps) (step_of p) = subst (λ (o : Option Pending). IsDueIfAny h (log_of steps) (option_map step_of o)) here s.due in
    let same = same_step c.pending p awaited.step here awaited.is_pending in
    record {
      spelled = spelled;
      given = record {
        legal = record {
          in_time = due.in_time;
          in_range = in_range;
          row = due.row;
          rules = subst (λ (l : Log). broken h p.clock p.command l ≡ None) (sym (device_log_is steps)) due.rules;
        };
        with_bytes = subst (λ (step : NumberedStep). is_some bytes ≡ is_wr step.issued.command) (sym same) awaited.with_bytes;
      };
    }

pub after_delivery : (c : Coupled) (h : Header) (offered : List Request) (idle : ℕ) (steps : List Step) (p : Pending) (bytes : Option (List ℕ)) (device : DeviceHeld) (raised : Bool)
    → Keeps c h offered idle steps → c.pending ≡ Some p
    → DeviceFor device h (device_steps (delivered (step_of p) bytes ∷ steps)) → raised ≡ is_some (alert h (device_log (device_steps (delivered (step_of p) bytes ∷ steps))))
    → Keeps (record { controller = c.controller; device = device; pending = None; alert = raised }) h offered idle (delivered (step_of p) bytes ∷ steps)
after_delivery c h offered idle steps p bytes device raised s here given shown = record {
  controller = subst (λ (o : Option Pending). ControllerFor h c.controller offered idle (with_pending (option_map step_of o) (controller_steps steps))) here s.controller;
  device = given;
  alert = shown ∙ ap (λ (l : Log). is_some (alert h l)) (device_log_is (delivered (step_of p) bytes ∷ steps));
  due = tt;
}

-- ---- There is always a list

-- the same ends with this controller, which stands for these
pub with_controller : (c : Coupled) (controller : Controller) (h : Header) (offered later : List Request) (idle rest : ℕ) (steps : List Step)
    → Keeps c h offered idle steps → ControllerFor h controller later rest (with_pending (option_map step_of c.pending) (controller_steps steps))
    → Keeps (record { controller = controller; device = c.device; pending = c.pending; alert = c.alert }) h later rest steps
with_controller c controller h offered later idle rest steps s t = record { controller = t; device = s.device; alert = s.alert; due = s.due }

-- the same ends with this device, which stands for the list
pub with_device : (c : Coupled) (device : DeviceHeld) (h : Header) (offered : List Request) (idle : ℕ) (steps : List Step)
    → Keeps c h offered idle steps → DeviceFor device h (device_steps steps)
    → Keeps (record { controller = c.controller; device = device; pending = c.pending; alert = c.alert }) h offered idle steps
with_device c device h offered idle steps s t = record { controller = s.controller; device = t; alert = s.alert; due = s.due }

-- the same ends with this device, of which one more bit was turned
pub with_bit : (c : Coupled) (device : DeviceHeld) (h : Header) (offered : List Request) (idle : ℕ) (steps : List Step) (place : Place) (at bit : ℕ)
    → Keeps c h offered idle steps → DeviceFor device h (device_steps (Flips place at bit ∷ steps))
    → Keeps (record { controller = c.controller; device = device; pending = c.pending; alert = c.alert }) h offered idle (Flips place at bit ∷ steps)
with_bit c device h offered idle steps place at bit s t = record { controller = s.controller; device = t; alert = s.alert; due = s.due }

-- a request that was taken is one more, and one that came back leaves all as it was
pub offered_some : {T E : Type 0} (r : Result T E) (c : Coupled) (controller : Controller) (request : Request)
    → IfOk r (λ id. (h : Header) (offered : List Request) (idle : ℕ) (log : List NumberedStep) → ControllerFor h c.controller offered idle log → ControllerFor h controller (offered ++ request ∷ []) idle log)
    → OnErr r (controller ≡ c.controller) → StandsForSome c
    → StandsForSome (record { controller = controller; device = c.device; pending = c.pending; alert = c.alert })
unfolding StandsFor
offered_some (Ok id) c controller request taken back some =
    ∥∥₁_map some (λ m. (
      m.0,
      m.1 ++ request ∷ [],
      m.2,
      m.3,
      with_controller c controller m.0 m.1 (m.1 ++ request ∷ []) m.2 m.2 m.3 m.4
          (taken m.0 m.1 m.2 (with_pending (option_map step_of c.pending) (controller_steps m.3)) m.4.controller),
    ))
offered_some (Err e) c controller request taken back some =
    ∥∥₁_map some (λ m. (
      m.0,
      m.1,
      m.2,
      m.3,
      with_controller c controller m.0 m.1 m.1 m.2 m.2 m.3 m.4
          (subst (λ (x : Controller). ControllerFor m.0 x m.1 m.2 (with_pending (option_map step_of c.pending) (controller_steps m.3))) (sym back) m.4.controller),
    ))

-- a device that is as it was stands for the lists that it stood for
abbrev pub StaysLaw : Type 0
StaysLaw = (old new : DeviceHeld) (h : Header) (steps : List DeviceStep) → IsUnchanged old new → DeviceFor old h steps → DeviceFor new h steps

pub same_device : (law : StaysLaw) (c : Coupled) (device : DeviceHeld) → IsUnchanged c.device device → StandsForSome c
    → StandsForSome (record { controller = c.controller; device = device; pending = c.pending; alert = c.alert })
unfolding StandsFor
same_device law c device same some =
    ∥∥₁_map some (λ m. (m.0, m.1, m.2, m.3, with_device c device m.0 m.1 m.2 m.3 m.4 (law c.device device m.0 (device_steps m.3) same m.4.device)))

-- the header under which a controller stands is the one that it holds
abbrev pub HeldLaw : Type 0
HeldLaw = (h : Header) (c : Controller) (offered : List Request) (idle : ℕ) (log : List NumberedStep) → ControllerFor h c offered idle log → controller_header c ≡ h

-- and it is of the geometry of the device
abbrev pub GeometryLaw : Type 0
GeometryLaw = (device : DeviceHeld) (h : Header) (steps : List DeviceStep) → DeviceFor device h steps → geometry_of device ≡ shape_of h

one_geometry : (held : HeldLaw) (geometry : GeometryLaw) (c : Coupled) (h : Header) (offered : List Request) (idle : ℕ) (steps : List Step) (place : Place)
    → Keeps c h offered idle steps → IsInside place (shape_of (controller_header c.controller)) → IsInside place (geometry_of c.device)
one_geometry held geometry c h offered idle steps place s inside =
    let same = ap (λ (x : Header). shape_of x) (held h c.controller offered idle (with_pending (option_map step_of c.pending) (controller_steps steps)) s.controller) in
    subst (λ (g : Shape). IsInside place g) (same ∙ sym (geometry c.device h (device_steps steps) s.device)) inside

-- so a place of the header that the controller holds is one of the device
pub place_of_device : (held : HeldLaw) (geometry : GeometryLaw) (c : Coupled) (place : Place) → IsInside place (shape_of (controller_header c.controller)) → StandsForSome c
    → IsInside place (geometry_of c.device)
unfolding StandsFor
place_of_device held geometry c place inside some = record {
  row = ∥∥₁_elim some le_prop (λ m. (one_geometry held geometry c m.0 m.1 m.2 m.3 place m.4 inside).row);
  group = ∥∥₁_elim some le_prop (λ m. (one_geometry held geometry c m.0 m.1 m.2 m.3 place m.4 inside).group);
}

-- a turned bit makes the list longer
pub flipped : {T E : Type 0} (r : Result T E) (c : Coupled) (device : DeviceHeld) (place : Place) (at bit : ℕ)
    → OnOk r ((h : Header) (steps : List DeviceStep) → DeviceFor c.device h steps → DeviceFor device h (Turns place at bit ∷ steps))
    → OnOk r ((h : Header) (offered : List Request) (idle : ℕ) (steps : List Step) → StandsFor c h offered idle steps
    → StandsFor (record { controller = c.controller; device = device; pending = c.pending; alert = c.alert }) h offered idle (Flips place at bit ∷ steps))
unfolding StandsFor
flipped (Ok x) c device place at bit turned = λ h offered idle steps s. with_bit c device h offered idle steps place at bit s (turned h (device_steps steps) s.device)
flipped (Err e) c device place at bit turned = tt

-- and want of memory leaves it
pub flipped_some : {T E : Type 0} (r : Result T E) (stays : StaysLaw) (c : Coupled) (device : DeviceHeld) (place : Place) (at bit : ℕ)
    → OnOk r ((h : Header) (steps : List DeviceStep) → DeviceFor c.device h steps → DeviceFor device h (Turns place at bit ∷ steps))
    → OnErr r (IsUnchanged c.device device) → StandsForSome c
    → StandsForSome (record { controller = c.controller; device = device; pending = c.pending; alert = c.alert })
unfolding StandsFor
flipped_some (Ok x) stays c device place at bit turned same some =
    ∥∥₁_map some (λ m. (m.0, m.1, m.2, Flips place at bit ∷ m.3, with_bit c device m.0 m.1 m.2 m.3 place at bit m.4 (turned m.0 (device_steps m.3) m.4.device)))
flipped_some (Err e) stays c device place at bit turned same some = same_device stays c device same some

-- where memory is wanting, every list that was stood for is stood for still
pub unchanged : {T E : Type 0} (r : Result T E) (stays : StaysLaw) (c : Coupled) (device : DeviceHeld) → OnErr r (IsUnchanged c.device device)
    → OnErr r ((h : Header) (offered : List Request) (idle : ℕ) (steps : List Step) → StandsFor c h offered idle steps
    → StandsFor (record { controller = c.controller; device = device; pending = c.pending; alert = c.alert }) h offered idle steps)
unfolding StandsFor
unchanged (Ok x) stays c device same = tt
unchanged (Err e) stays c device same = λ h offered idle steps s.
    with_device c device h offered idle steps s (stays c.device device h (device_steps steps) same s.device)

-- whatever a turn answers, both ends stand for a list behind it
pub stands_after : (turn : Turn) (from until : ℕ) (finished : Bool) (h : Header) (new : Coupled) (offered : List Request) (idle : ℕ) (steps : List Step)
    → After turn from until finished h new offered idle steps → StandsFor new h offered idle steps
stands_after (Issue clock command id) from until finished h new offered idle steps t = t.stands
stands_after Idle from until finished h new offered idle steps t = t.0.stands
stands_after Done from until finished h new offered idle steps t = t.0.stands
