-- What a turn says, read for what is kept: in numbers, for the counts, and for the waiting requests.
use Rattle.std.proofs.Common.{◌≡◌, ◌∙◌, ℕ, ◌<◌, ◌≤◌, Bool, true, false, ◌&&◌, ◌||◌, ◌==◌, nat_le, ◌⊎◌, inl, inr, refl, sym, ap, arith, cond, List, [], length, Option, Some, None, max, leb-true, IsTrue, eq-eqb, eqb-true}
use Rattle.command_words.specs.Command.{bank_number, is_at, covers}
use Rattle.command_words.specs.declared.place.Bank.{Bank}
use Rattle.command_words.specs.declared.command.Command.{Command}
use Rattle.command_words.specs.declared.command.Command.TheVariants.{Act, Rd, Wr, PrePb, PreSb, PreAb, RefSb, RfmAb, RfmSb, Mrw, Nop}
use Rattle.speed_bin.specs.Alert.{alert}
use Rattle.command_words.specs.Kinds.{Closes, Manages, effect, is_act, is_precharge, is_rfm_all, is_rfm_same, is_mrw, is_nop, Leaves}
use Rattle.speed_bin.specs.Log.{Issued, Log, open_at, raa}
use Rattle.speed_bin.specs.Rules.{rule_10, is_wanted}
use Rattle.speed_bin.specs.declared.header.Header.{Header}
use Rattle.speed_bin.specs.declared.settings.RefreshMode.{RefreshMode}
use Rattle.speed_bin.proofs.Tests.{both, any_below_some}
use Rattle.speed_bin.proofs.Effects.{closes_precharge}
use Rattle.requests.specs.Choice.{IsSoonest}
use Rattle.requests.specs.Owed.{is_column, owed}
use Rattle.deadlines.specs.Tasks.{task_covers, precharge_of, command_of}
use Rattle.deadlines.specs.Rounds.{Rounds}
use Rattle.deadlines.specs.Counts.{Works}
use Rattle.deadlines.specs.Standing.{InMode, Opening, Stands}
use Rattle.deadlines.specs.Turns.{LooksTo, Target as LooksToTarget, Candidate, StartsWhenDue, Decides as Decided, BacksOff, GoesOn, Scrubs as ScrubsNow, RefreshesAll, RefreshesSame, ManagesSame, has_request, Takes, Serves as ServesOne, Column as ServesColumn, Activates, Precharges, Advances as AdvancesBy, OwedColumn, Shuts, Turn, WritesRegister, ServesTask, EndsTask, ServesRequest, ClosesAtEnd}
use Rattle.deadlines.specs.declared.task.Task.{Task}
use Rattle.deadlines.specs.declared.task.Task.TheVariants.{RfmAll, Ecs, RefAll, RefSame, RfmSame}
use Rattle.deadlines.proofs.Moves.{Slack, Advances, Column, Shut, Decides, Backs_off, Goes_on, Scrubs, Refreshes_all, Refreshes_same, Manages_same, Issues, Writes, Serves, Ends, Freely, Finally, Reaches, Now, Due, Target, Queued}
use Rattle.deadlines.proofs.Following.{column_other, precharge_other}
use Rattle.deadlines.proofs.Keeping.{some_interval, first_soon}
use Rattle.deadlines.proofs.Due.{before_due, next_due_unique, due_by, turn_is, ecs_is_due, ecs_not_due}

-- ---- In numbers

precharge_of_is : (task : Task) → is_precharge (precharge_of task) ≡ true
precharge_of_is RfmAll = refl
precharge_of_is Ecs = refl
precharge_of_is RefAll = refl
precharge_of_is (RefSame address) = refl
precharge_of_is (RfmSame address) = refl

precharge_shuts : (task : Task) (i : ℕ) → task_covers task i ≡ true → effect i (precharge_of task) ≡ Closes
precharge_shuts RfmAll i own = refl
precharge_shuts Ecs i own = refl
precharge_shuts RefAll i own = refl
precharge_shuts (RefSame address) i own = rw own refl
precharge_shuts (RfmSame address) i own = rw own refl

closes_covered : (task : Task) (i : ℕ) → effect i (precharge_of task) ≡ Closes → task_covers task i ≡ true
closes_covered RfmAll i shut = refl
closes_covered Ecs i shut = refl
closes_covered RefAll i shut = refl
closes_covered (RefSame address) i shut = (closes_precharge i (PreSb address) shut).1
closes_covered (RfmSame address) i shut = (closes_precharge i (PreSb address) shut).1

is_the_precharge : (task : Task) (c : Command) → c ≡ precharge_of task → is_precharge c ≡ true
is_the_precharge task c e = ap is_precharge e ∙ precharge_of_is task

pub advances_in_numbers : (h : Header) (task : Task) (log : Log) (now : ℕ) (place : Issued) (waiting later : List ℕ) → AdvancesBy task place.command log waiting later → Advances h task log now place
advances_in_numbers h task log now place waiting later (OwedColumn b low column cover own within takes) = Column b low column cover own within
advances_in_numbers h task log now place waiting later (Shuts b low within opened unowed is same) =
    Shut b low (is_the_precharge task place.command is) within opened (λ i own. ap (λ (c : Command). effect i c) is ∙ precharge_shuts task i own)

pub decides_in_numbers : (h : Header) (log : Log) (task : Option Task) (now until : ℕ) (chosen : Task) (start : ℕ) → Slack h → Rounds log → InMode h log task → Decided h log task now until chosen start → Decides h log task now chosen start
decides_in_numbers h log task now until chosen start slack r mode (BacksOff a raised is same) = Backs_off a raised is same
decides_in_numbers h log task now until chosen start slack r mode (GoesOn none is same) = Goes_on none is same
decides_in_numbers h log task now until chosen start slack r mode (ScrubsNow none n due is same) = Scrubs none n (ecs_is_due h log due) is same
decides_in_numbers h log task now until chosen start slack r mode (RefreshesAll none n undue all is when_due) =
    let same = when_due.starts in
    let e = next_due_unique h when_due.due log (some_interval h slack) r when_due.next in
    Refreshes_all none n (ecs_not_due h log undue) is (mode.alike all) (rw e at same)
decides_in_numbers h log task now until chosen start slack r mode (RefreshesSame address clock none n undue one behind is when_due) =
    let same = when_due.starts in
    let e = next_due_unique h when_due.due log (some_interval h slack) r when_due.next in
    Refreshes_same address none n (ecs_not_due h log undue) is (turn_is h clock address log r behind) (rw e at same)
decides_in_numbers h log task now until chosen start slack r mode (ManagesSame address soonest none n undue more nothing is same) =
    let low = before_due h soonest log (some_interval h slack) nothing in
    Manages_same address none n (ecs_not_due h log undue) (omega arith) is same

column_kind : (c : Command) → is_column c ≡ true → (is_act c || (is_column c || is_precharge c)) ≡ true
column_kind (Rd bank column) k = refl
column_kind (Wr bank column) k = refl
column_kind c k = absurd (cc)

serves_kind : (c : Command) (log : Log) (waiting later : List ℕ) → ServesOne c log waiting later → (is_act c || (is_column c || is_precharge c)) ≡ true
serves_kind c log waiting later (ServesColumn column takes) = column_kind c column
serves_kind c log waiting later (Activates bank row is low none request same) = rw is refl
serves_kind c log waiting later (Precharges bank is low opened unowed same) = rw is refl

pub issues_in_numbers : (h : Header) (log : Log) (task : Option Task) (now until : ℕ) (waiting : List ℕ) (place : Issued) (next : Option Task) (later : List ℕ) → Slack h → Stands h log task now → (length log < 8 → Opening h log task now) → InMode h log task → Turn h log task now until waiting place next later → Issues h log task now place next
issues_in_numbers h log task now until waiting place next later slack s o mode (WritesRegister few write at n same) =
    let opening = o few in
    Writes write few opening.calm opening.untasked n (first_soon h task now place.clock place.command log slack s.backoff opening few at) at
issues_in_numbers h log task now until waiting place next later slack s o mode (ServesTask chosen start many d at adv n) =
    Serves chosen start (decides_in_numbers h log task now until chosen start slack s.timely.rounds mode d) at (advances_in_numbers h chosen log start place waiting later adv) n
issues_in_numbers h log task now until waiting place next later slack s o mode (EndsTask chosen start many d at is shut wanted n same) =
    Ends chosen start (decides_in_numbers h log task now until chosen start slack s.timely.rounds mode d) at is shut n
issues_in_numbers h log task now until waiting place next later slack s o mode (ServesRequest many u undue nothing window at serves n) =
    Freely u n (ecs_not_due h log undue) (before_due h place.clock log (some_interval h slack) nothing) window (serves_kind place.command log waiting later serves) at
issues_in_numbers h log task now until waiting place next later slack s o mode (ClosesAtEnd b many u none undue nothing at is low opened empty n same) =
    Finally (max now until) u n none (ecs_not_due h log undue) (omega arith) (before_due h (max now until) log (some_interval h slack) nothing) is at

-- ---- From which clock

looks_either : (h : Header) (log : Log) (now until soonest : ℕ) → LooksTo h log now until soonest → (c : Command) × ((soonest ≡ max now until) ⊎ IsSoonest h log now c soonest)
looks_either h log now until soonest (LooksToTarget e) = (Nop, inl e)
looks_either h log now until soonest (Candidate c at) = (c, inr at)

reaches_when_due : (h : Header) (log : Log) (now until start : ℕ) → Slack h → Rounds log → StartsWhenDue h log now until start → Reaches h log now until start
reaches_when_due h log now until start slack r w =
    let same = w.starts in
    let e = next_due_unique h w.due log (some_interval h slack) r w.next in
    let by = due_by h w.soonest w.due log w.next w.is_due in
    let p = looks_either h log now until w.soonest w.looks in
    Due w.soonest p.0 (rw e at same) (omega arith) p.1

decides_reaches : (h : Header) (log : Log) (task : Option Task) (now until : ℕ) (chosen : Task) (start : ℕ) → Slack h → Rounds log → Decided h log task now until chosen start → Reaches h log now until start
decides_reaches h log task now until chosen start slack r (BacksOff a raised is same) = Now same
decides_reaches h log task now until chosen start slack r (GoesOn none is same) = Now same
decides_reaches h log task now until chosen start slack r (ScrubsNow none n due is same) = Now same
decides_reaches h log task now until chosen start slack r (RefreshesAll none n undue all is when_due) = reaches_when_due h log now until start slack r when_due
decides_reaches h log task now until chosen start slack r (RefreshesSame address clock none n undue one behind is when_due) = reaches_when_due h log now until start slack r when_due
decides_reaches h log task now until chosen start slack r (ManagesSame address soonest none n undue more nothing is same) = Now same

-- the clock from which the turn's command is issued, at the soonest
pub record From (h : Header) (log : Log) (now until : ℕ) (place : Issued) : Type 0 where
  pub start : ℕ
  pub reaches : Reaches h log now until start
  pub at : IsSoonest h log start place.command place.clock

pub turn_from : (h : Header) (log : Log) (task : Option Task) (now until : ℕ) (waiting : List ℕ) (place : Issued) (next : Option Task) (later : List ℕ) → Slack h → Rounds log → Turn h log task now until waiting place next later → From h log now until place
turn_from h log task now until waiting place next later slack r (WritesRegister few write at n same) = record { start = now; reaches = Now refl; at = at }
turn_from h log task now until waiting place next later slack r (ServesTask chosen start many d at adv n) = record { start = start; reaches = decides_reaches h log task now until chosen start slack r d; at = at }
turn_from h log task now until waiting place next later slack r (EndsTask chosen start many d at is shut wanted n same) = record { start = start; reaches = decides_reaches h log task now until chosen start slack r d; at = at }
turn_from h log task now until waiting place next later slack r (ServesRequest many u undue nothing window at serves n) = record { start = now; reaches = Now refl; at = at }
turn_from h log task now until waiting place next later slack r (ClosesAtEnd b many u none undue nothing at is low opened empty n same) = record { start = max now until; reaches = Target refl; at = at }

-- ---- For the waiting requests

queued_column : (place : Issued) (waiting later : List ℕ) → is_column place.command ≡ true → Takes place.command waiting later → Queued place waiting later
queued_column place waiting later column takes = record {
  column = λ k. (takes.bank, takes.older, takes.newer, takes.before, takes.left, takes.covered);
  other = λ k. absurd (cc);
  act = λ bank row is. absurd (no_act bank row is);
  no_nop = no_nop place.command column;
}
  where
    no_act : (bank : Bank) (row : ℕ) → place.command ≡ Act bank row → ⊥
    no_act bank row is = let k : is_column (Act bank row) ≡ true = rw is at column in absurd (cc)

    no_nop : (c : Command) → is_column c ≡ true → is_nop c ≡ false
    no_nop Nop k = absurd (cc)
    no_nop c k = refl

queued_same : (place : Issued) (waiting later : List ℕ) → is_column place.command ≡ false → is_nop place.command ≡ false → is_act place.command ≡ false → later ≡ waiting → Queued place waiting later
queued_same place waiting later column nop act same = record {
  column = λ k. absurd (cc);
  other = λ k. same;
  act = λ bank row is. absurd (no_act bank row is);
  no_nop = nop;
}
  where
    no_act : (bank : Bank) (row : ℕ) → place.command ≡ Act bank row → ⊥
    no_act bank row is = let k : is_act (Act bank row) ≡ false = rw is at act in absurd (cc)

queued_act : (place : Issued) (waiting later : List ℕ) (bank : Bank) (row : ℕ) → place.command ≡ Act bank row → has_request waiting (bank_number bank) ≡ true → later ≡ waiting → Queued place waiting later
queued_act place waiting later bank row is request same = record {
  column = λ k. (let c : is_column (Act bank row) ≡ true = rw is at k in absurd (cc));
  other = λ k. same;
  act = λ own other e. ap (λ (c : Command). has_request waiting (bank_of c)) (sym e ∙ is) ∙ request;
  no_nop = rw is refl;
}
  where
    bank_of : Command → ℕ
    bank_of (Act own other) = bank_number own
    bank_of c = 0

precharge_no_column : (c : Command) → is_precharge c ≡ true → (is_column c ≡ false) × (is_nop c ≡ false)
precharge_no_column (PrePb bank) k = (refl, refl)
precharge_no_column (PreSb address) k = (refl, refl)
precharge_no_column PreAb k = (refl, refl)
precharge_no_column c k = absurd (cc)

queued_precharge : (place : Issued) (waiting later : List ℕ) → is_precharge place.command ≡ true → later ≡ waiting → Queued place waiting later
queued_precharge place waiting later is same =
    let p = precharge_no_column place.command is in
    queued_same place waiting later p.0 p.1 (precharge_other place.command is) same

write_kinds : (c : Command) → is_mrw c ≡ true → (is_column c ≡ false) × (is_nop c ≡ false) × (is_act c ≡ false) × (is_precharge c ≡ false) × (is_rfm_same c ≡ false)
write_kinds (Mrw write) k = (refl, refl, refl, refl, refl)
write_kinds c k = absurd (cc)

own_kinds : (task : Task) → (is_column (command_of task) ≡ false) × (is_nop (command_of task) ≡ false) × (is_act (command_of task) ≡ false) × (is_precharge (command_of task) ≡ false)
own_kinds RfmAll = (refl, refl, refl, refl)
own_kinds Ecs = (refl, refl, refl, refl)
own_kinds RefAll = (refl, refl, refl, refl)
own_kinds (RefSame address) = (refl, refl, refl, refl)
own_kinds (RfmSame address) = (refl, refl, refl, refl)

pub turn_queued : (h : Header) (log : Log) (task : Option Task) (now until : ℕ) (waiting : List ℕ) (place : Issued) (next : Option Task) (later : List ℕ) → Turn h log task now until waiting place next later → Queued place waiting later
turn_queued h log task now until waiting place next later (WritesRegister few write at n same) =
    let k = write_kinds place.command write in
    queued_same place waiting later k.0 k.1 k.2 same
turn_queued h log task now until waiting place next later (ServesTask chosen start many d at (OwedColumn b low column cover own within takes) n) = queued_column place waiting later column takes
turn_queued h log task now until waiting place next later (ServesTask chosen start many d at (Shuts b low within opened unowed is same) n) = queued_precharge place waiting later (is_the_precharge chosen place.command is) same
turn_queued h log task now until waiting place next later (EndsTask chosen start many d at is shut wanted n same) =
    let k = own_kinds chosen in
    queued_same place waiting later (ap is_column is ∙ k.0) (ap is_nop is ∙ k.1) (ap is_act is ∙ k.2) same
turn_queued h log task now until waiting place next later (ServesRequest many u undue nothing window at (ServesColumn column takes) n) = queued_column place waiting later column takes
turn_queued h log task now until waiting place next later (ServesRequest many u undue nothing window at (Activates bank row is low none request same) n) = queued_act place waiting later bank row is request same
turn_queued h log task now until waiting place next later (ServesRequest many u undue nothing window at (Precharges bank is low opened unowed same) n) = queued_precharge place waiting later (rw is refl) same
turn_queued h log task now until waiting place next later (ClosesAtEnd b many u none undue nothing at is low opened empty n same) = queued_precharge place waiting later (rw is refl) (same ∙ sym empty)

-- ---- For the counts

works_none : (h : Header) (place : Issued) (log : Log) → is_act place.command ≡ false → is_precharge place.command ≡ false → is_rfm_same place.command ≡ false → (is_rfm_all place.command ≡ true → alert h log ≡ None → ⊥) → Works h place log
works_none h place log act precharge rfm raised = record {
  act = λ bank row is. (let k : is_act (Act bank row) ≡ false = rw is at act in absurd (cc));
  precharge = λ k. absurd (cc);
  unowed = λ b low shut. (let k = (closes_precharge b place.command shut).0 in absurd (cc));
  rfm_all = raised;
  rfm_same = λ k. absurd (cc);
}

works_precharge : (h : Header) (place : Issued) (log : Log) (b : ℕ) → is_precharge place.command ≡ true → b < 32 → effect b place.command ≡ Closes → (open_at b log ≡ None → ⊥) → ((i : ℕ) → i < 32 → effect i place.command ≡ Closes → owed i log ≡ false) → Works h place log
works_precharge h place log b precharge low shut opened unowed = record {
  act = λ bank row is. (let k : is_precharge (Act bank row) ≡ true = rw is at precharge in absurd (cc));
  precharge = λ k. (b, low, shut, opened);
  unowed = unowed;
  rfm_all = λ k. absurd (no_rfm place.command precharge k);
  rfm_same = λ k. absurd (no_rfm_same place.command precharge k);
}
  where
    no_rfm : (c : Command) → is_precharge c ≡ true → is_rfm_all c ≡ true → ⊥
    no_rfm RfmAb k m = absurd (cc)
    no_rfm c k m = absurd (cc)

    no_rfm_same : (c : Command) → is_precharge c ≡ true → is_rfm_same c ≡ true → ⊥
    no_rfm_same (RfmSb address) k m = absurd (cc)
    no_rfm_same c k m = absurd (cc)

works_act : (h : Header) (place : Issued) (log : Log) (bank : Bank) (row : ℕ) → place.command ≡ Act bank row → bank_number bank < 32 → open_at (bank_number bank) log ≡ None → Works h place log
works_act h place log bank row is low none = record {
  act = λ own other e. (below own other (sym e ∙ is), shut own other (sym e ∙ is));
  precharge = λ k. (let m : is_precharge (Act bank row) ≡ true = rw is at k in absurd (cc));
  unowed = λ b under shut. (let k = (closes_precharge b place.command shut).0 in let m : is_precharge (Act bank row) ≡ true = rw is at k in absurd (cc));
  rfm_all = λ k. (let m : is_rfm_all (Act bank row) ≡ true = rw is at k in absurd (cc));
  rfm_same = λ k. (let m : is_rfm_same (Act bank row) ≡ true = rw is at k in absurd (cc));
}
  where
    number_of : Command → ℕ
    number_of (Act own other) = bank_number own
    number_of c = 0

    below : (own : Bank) (other : ℕ) → Act own other ≡ Act bank row → bank_number own < 32
    below own other e = let n : bank_number own ≡ bank_number bank = ap number_of e in omega arith

    shut : (own : Bank) (other : ℕ) → Act own other ≡ Act bank row → open_at (bank_number own) log ≡ None
    shut own other e = let n : bank_number own ≡ bank_number bank = ap number_of e in ap (λ (i : ℕ). open_at i log) n ∙ none

works_rfm_same : (h : Header) (place : Issued) (log : Log) (address : ℕ) → place.command ≡ RfmSb address → IsTrue (rule_10 h place.command log) → Works h place log
works_rfm_same h place log address is wanted = record {
  act = λ bank row e. absurd (cc);
  precharge = λ k. (let m : is_precharge (RfmSb address) ≡ true = rw is at k in absurd (cc));
  unowed = λ b low shut. (let k = (closes_precharge b place.command shut).0 in let m : is_precharge (RfmSb address) ≡ true = rw is at k in absurd (cc));
  rfm_all = λ k. (let m : is_rfm_all (RfmSb address) ≡ true = rw is at k in absurd (cc));
  rfm_same = λ k. found;
}
  where
    high : is_wanted h (RfmSb address) log ≡ true
    high = rw is at wanted

    found : (b : ℕ) × (b < 32) × (effect b place.command ≡ Manages) × (h.settings.raaimt ≤ raa h b log)
    found =
        let p = any_below_some 32 (λ b. covers (RfmSb address) b && nat_le h.settings.raaimt (raa h b log)) high in
        let q = both (is_at address p.0) (nat_le h.settings.raaimt (raa h p.0 log)) p.2 in
        (p.0, p.1, ap (λ (c : Command). effect p.0 c) is ∙ manages p.0 q.0, leb-true h.settings.raaimt (raa h p.0 log) q.1)
      where
        manages : (b : ℕ) → is_at address b ≡ true → effect b (RfmSb address) ≡ Manages
        manages b k = rw k refl

works_own : (h : Header) (place : Issued) (log : Log) (task : Task) → place.command ≡ command_of task → IsTrue (rule_10 h place.command log) → (is_rfm_all place.command ≡ true → alert h log ≡ None → ⊥) → Works h place log
works_own h place log RfmAll is wanted raised = works_none h place log (rw is refl) (rw is refl) (rw is refl) raised
works_own h place log Ecs is wanted raised = works_none h place log (rw is refl) (rw is refl) (rw is refl) raised
works_own h place log RefAll is wanted raised = works_none h place log (rw is refl) (rw is refl) (rw is refl) raised
works_own h place log (RefSame address) is wanted raised = works_none h place log (rw is refl) (rw is refl) (rw is refl) raised
works_own h place log (RfmSame address) is wanted raised = works_rfm_same h place log address is wanted

column_kinds : (c : Command) → is_column c ≡ true → (is_precharge c ≡ false) × (is_rfm_same c ≡ false)
column_kinds (Rd bank column) k = (refl, refl)
column_kinds (Wr bank column) k = (refl, refl)
column_kinds c k = absurd (cc)

works_column : (h : Header) (place : Issued) (log : Log) → is_column place.command ≡ true → (is_rfm_all place.command ≡ true → alert h log ≡ None → ⊥) → Works h place log
works_column h place log column raised =
    let k = column_kinds place.command column in
    works_none h place log (column_other place.command column) k.0 k.1 raised

no_request : (i : ℕ) → has_request [] i ≡ true → ⊥
unfolding has_request
no_request i m = absurd (cc)

pub turn_works : (h : Header) (log : Log) (task : Option Task) (now until : ℕ) (waiting : List ℕ) (place : Issued) (next : Option Task) (later : List ℕ) → ((b : ℕ) → b < 32 → owed b log ≡ true → has_request waiting b ≡ true) → (is_rfm_all place.command ≡ true → alert h log ≡ None → ⊥) → Turn h log task now until waiting place next later → Works h place log
turn_works h log task now until waiting place next later owes raised (WritesRegister few write at n same) =
    let k = write_kinds place.command write in
    works_none h place log k.2 k.3 k.4 raised
turn_works h log task now until waiting place next later owes raised (ServesTask chosen start many d at (OwedColumn b low column cover own within takes) n) = works_column h place log column raised
turn_works h log task now until waiting place next later owes raised (ServesTask chosen start many d at (Shuts b low within opened unowed is same) n) =
    works_precharge h place log b (is_the_precharge chosen place.command is) low (ap (λ (c : Command). effect b c) is ∙ precharge_shuts chosen b within) opened
    (λ i under shut. unowed i under (closes_covered chosen i (sym (ap (λ (c : Command). effect i c) is) ∙ shut)))
turn_works h log task now until waiting place next later owes raised (EndsTask chosen start many d at is shut wanted n same) = works_own h place log chosen is wanted raised
turn_works h log task now until waiting place next later owes raised (ServesRequest many u undue nothing window at (ServesColumn column takes) n) = works_column h place log column raised
turn_works h log task now until waiting place next later owes raised (ServesRequest many u undue nothing window at (Activates bank row is low none request same) n) = works_act h place log bank row is low none
turn_works h log task now until waiting place next later owes raised (ServesRequest many u undue nothing window at (Precharges bank is low opened unowed same) n) =
    works_precharge h place log (bank_number bank) (rw is refl) low (ap (λ (c : Command). effect (bank_number bank) c) is ∙ shuts_own (bank_number bank)) opened
    (λ i under shut. ap (λ (k : ℕ). owed k log) (sym (own i shut)) ∙ unowed)
  where
    shuts_own : (b : ℕ) → cond (b == b) Closes Leaves ≡ Closes
    shuts_own b = let k : (b == b) ≡ true = eq-eqb b b refl in rw k refl

    own : (i : ℕ) → effect i place.command ≡ Closes → bank_number bank ≡ i
    own i shut =
        let c = (closes_precharge i place.command shut).1 in
        let k : (bank_number bank == i) ≡ true = rw is at c in
        eqb-true (bank_number bank) i k
turn_works h log task now until waiting place next later owes raised (ClosesAtEnd b many u none undue nothing at is low opened empty n same) =
    works_precharge h place log b (rw is refl) low (rw is refl) opened
    (λ i under shut. unowed i under (owed i log) refl)
  where
    unowed : (i : ℕ) → i < 32 → (x : Bool) → owed i log ≡ x → x ≡ false
    unowed i under true e = let k = owes i under e in let m : has_request [] i ≡ true = rw empty at k in absurd (no_request i m)
    unowed i under false e = refl

-- ---- For the mode of refreshes

decided_mode : (h : Header) (log : Log) (task : Option Task) (now until : ℕ) (chosen : Task) (start address : ℕ) → InMode h log task → Decided h log task now until chosen start → chosen ≡ RefSame address → h.settings.refresh ≡ RefreshMode.Same
decided_mode h log task now until chosen start address mode (BacksOff a raised is same) e = let x : RfmAll ≡ RefSame address = rw is at e in absurd (cc)
decided_mode h log task now until chosen start address mode (GoesOn none is same) e = mode.same address (is ∙ ap {B = Option Task} (λ x. Some x) e)
decided_mode h log task now until chosen start address mode (ScrubsNow none n due is same) e = let x : Ecs ≡ RefSame address = rw is at e in absurd (cc)
decided_mode h log task now until chosen start address mode (RefreshesAll none n undue all is when_due) e = let x : RefAll ≡ RefSame address = rw is at e in absurd (cc)
decided_mode h log task now until chosen start address mode (RefreshesSame own clock none n undue one behind is when_due) e = one
decided_mode h log task now until chosen start address mode (ManagesSame own soonest none n undue more nothing is same) e = let x : RfmSame own ≡ RefSame address = rw is at e in absurd (cc)

pub next_mode : (h : Header) (log : Log) (task : Option Task) (now until : ℕ) (waiting : List ℕ) (place : Issued) (next : Option Task) (later : List ℕ) (address : ℕ) → InMode h log task → Turn h log task now until waiting place next later → next ≡ Some (RefSame address) → h.settings.refresh ≡ RefreshMode.Same
next_mode h log task now until waiting place next later address mode (WritesRegister few write at n same) e = absurd (cc)
next_mode h log task now until waiting place next later address mode (ServesTask chosen start many d at adv n) e = let same : chosen ≡ RefSame address = cc in decided_mode h log task now until chosen start address mode d same
next_mode h log task now until waiting place next later address mode (EndsTask chosen start many d at is shut wanted n same) e = absurd (cc)
next_mode h log task now until waiting place next later address mode (ServesRequest many u undue nothing window at serves n) e = absurd (cc)
next_mode h log task now until waiting place next later address mode (ClosesAtEnd b many u none undue nothing at is low opened empty n same) e = absurd (cc)

own_ref_same : (task : Task) (address : ℕ) → command_of task ≡ RefSb address → task ≡ RefSame address
own_ref_same RfmAll address e = absurd (cc)
own_ref_same Ecs address e = absurd (cc)
own_ref_same RefAll address e = absurd (cc)
own_ref_same (RefSame own) address e = cc
own_ref_same (RfmSame own) address e = absurd (cc)

pub ref_same_mode : (h : Header) (log : Log) (task : Option Task) (now until : ℕ) (waiting : List ℕ) (place : Issued) (next : Option Task) (later : List ℕ) (address : ℕ) → InMode h log task → Turn h log task now until waiting place next later → place.command ≡ RefSb address → h.settings.refresh ≡ RefreshMode.Same
ref_same_mode h log task now until waiting place next later address mode (WritesRegister few write at n same) e = let k : is_mrw (RefSb address) ≡ true = rw e at write in absurd (cc)
ref_same_mode h log task now until waiting place next later address mode (ServesTask chosen start many d at (OwedColumn b low column cover own within takes) n) e = let k : is_column (RefSb address) ≡ true = rw e at column in absurd (cc)
ref_same_mode h log task now until waiting place next later address mode (ServesTask chosen start many d at (Shuts b low within opened unowed is same) n) e = let k : is_precharge (RefSb address) ≡ true = rw e at (is_the_precharge chosen place.command is) in absurd (cc)
ref_same_mode h log task now until waiting place next later address mode (EndsTask chosen start many d at is shut wanted n same) e = decided_mode h log task now until chosen start address mode d (own_ref_same chosen address (sym is ∙ e))
ref_same_mode h log task now until waiting place next later address mode (ServesRequest many u undue nothing window at serves n) e = let k : (is_act (RefSb address) || (is_column (RefSb address) || is_precharge (RefSb address))) ≡ true = rw e at (serves_kind place.command log waiting later serves) in absurd (cc)
ref_same_mode h log task now until waiting place next later address mode (ClosesAtEnd b many u none undue nothing at is low opened empty n same) e = absurd (cc)
