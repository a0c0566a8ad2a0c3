-- What a set task rests on, and that columns and precharges leave it.
use Rattle.std.proofs.Common.{◌≡◌, ◌∙◌, ℕ, ◌+◌, ◌/◌, ◌≤◌, ◌&&◌, Bool, true, false, Option, Some, None, ◌∷◌, refl, ap, subst, arith, cond, nat_le}
use Rattle.std.specs.Prelude.{pos, ◌-ℤ◌, ◌<ℤ◌}
use Rattle.command_words.specs.Command.{covers, is_at}
use Rattle.command_words.specs.declared.command.Command.{Command}
use Rattle.command_words.specs.declared.command.Command.TheVariants.{RfmAb, RfmSb}
use Rattle.command_words.specs.declared.geometry.Place.{Place}
use Rattle.speed_bin.specs.Alert.{alert, alert_after}
use Rattle.command_words.specs.Kinds.{Closes, Leaves, effect, is_rfm_all, is_scrub, refreshes}
use Rattle.speed_bin.specs.Log.{Log, Issued, raa, raa_after, refs, scrubs}
use Rattle.speed_bin.specs.Rules.{is_wanted}
use Rattle.speed_bin.specs.declared.header.Header.{Header}
use Rattle.refresh_plan.specs.Debts.{IsNothingDue}
use Rattle.requests.specs.declared.request.Kind.{Kind}
use Rattle.requests.specs.declared.request.Kind.TheVariants.{Read, Write}
use Rattle.deadlines.specs.Tasks.{task_covers, precharge_of, command_of}
use Rattle.deadlines.specs.Turns.{Decides, BacksOff, GoesOn, Scrubs, RefreshesAll, RefreshesSame, ManagesSame}
use Rattle.deadlines.specs.declared.task.Task.{Task}
use Rattle.deadlines.specs.declared.task.Task.TheVariants.{RfmAll, Ecs, RefAll, RefSame, RfmSame}
use Rattle.requests.specs.Choice.{column_for}
use Rattle.scheduler.specs.Controller.{IsCalm, IsTasked, is_covered}
use Rattle.speed_bin.proofs.Tests.{any_below_same, both}
use Rattle.scheduler.proofs.Tools.{any_below_wider, nothing_due_before}

-- a command that manages, refreshes and scrubs nothing
pub record Plain (command : Command) : Type 0 where
  pub alert : is_rfm_all command ≡ false
  pub scrub : is_scrub command ≡ false
  pub refresh : (address : ℕ) → refreshes address command ≡ false
  pub count : (h : Header) (b before : ℕ) → raa_after h (effect b command) before ≡ before

pub column_plain : (kind : Kind) (place : Place) → Plain (column_for kind place)
column_plain Read place = record { alert = refl; scrub = refl; refresh = λ address. refl; count = λ h b before. refl }
column_plain Write place = record { alert = refl; scrub = refl; refresh = λ address. refl; count = λ h b before. refl }

closes_count : (h : Header) (t : Bool) (before : ℕ) → raa_after h (cond t Closes Leaves) before ≡ before
closes_count h true before = refl
closes_count h false before = refl

pub precharge_plain : (task : Task) → Plain (precharge_of task)
precharge_plain RfmAll = record { alert = refl; scrub = refl; refresh = λ address. refl; count = λ h b before. refl }
precharge_plain Ecs = record { alert = refl; scrub = refl; refresh = λ address. refl; count = λ h b before. refl }
precharge_plain RefAll = record { alert = refl; scrub = refl; refresh = λ address. refl; count = λ h b before. refl }
precharge_plain (RefSame own) = record { alert = refl; scrub = refl; refresh = λ address. refl; count = λ h b before. closes_count h (is_at own b) before }
precharge_plain (RfmSame own) = record { alert = refl; scrub = refl; refresh = λ address. refl; count = λ h b before. closes_count h (is_at own b) before }

-- ---- What such a command leaves

refs_kept : (address : ℕ) (place : Issued) (log : Log) → refreshes address place.command ≡ false → refs address (place ∷ log) ≡ refs address log
refs_kept address place log e = rw e refl

scrubs_kept : (place : Issued) (log : Log) → is_scrub place.command ≡ false → scrubs (place ∷ log) ≡ scrubs log
scrubs_kept place log e = rw e refl

due_kept : (h : Header) (clock : ℕ) (place : Issued) (log : Log) → Plain place.command → IsNothingDue h clock (place ∷ log) → IsNothingDue h clock log
due_kept h clock place log plain nothing = λ address low. subst (λ n. (pos (clock / h.timing.nrefi) -ℤ pos n) <ℤ pos 2) (refs_kept address place log (plain.refresh address)) (nothing address low)

wanted_kept : (h : Header) (address : ℕ) (place : Issued) (log : Log) → Plain place.command → is_wanted h (RfmSb address) (place ∷ log) ≡ is_wanted h (RfmSb address) log
wanted_kept h address place log plain = any_below_same 32 (λ b. is_at address b && nat_le h.settings.raaimt (raa h b (place ∷ log))) (λ b. is_at address b && nat_le h.settings.raaimt (raa h b log)) (λ b low. ap (λ n. is_at address b && nat_le h.settings.raaimt n) (plain.count h b (raa h b log)))

alert_kept : (all raises : Bool) (clock : ℕ) (o : Option ℕ) → all ≡ false → (o ≡ None → ⊥) → alert_after all raises clock o ≡ None → ⊥
alert_kept all raises clock None e some f = some refl
alert_kept true raises clock (Some a) e some f = cc
alert_kept false raises clock (Some a) e some f = cc

pub tasked_after : (h : Header) (log : Log) (start clock : ℕ) (task : Task) (command : Command) → 1 ≤ h.timing.nrefi → Plain command → start ≤ clock → IsTasked h log start (Some task) → IsTasked h (record { clock = clock; command = command } ∷ log) (clock + 1) (Some task)
tasked_after h log start clock RfmAll command some plain le t = alert_kept (is_rfm_all command) _ clock (alert h log) plain.alert t
tasked_after h log start clock Ecs command some plain le t = (t.0, let a = refs_kept 0 (record { clock = clock; command = command }) log (plain.refresh 0) in let b = scrubs_kept (record { clock = clock; command = command }) log plain.scrub in rw (a, b) t.1)
tasked_after h log start clock RefAll command some plain le t = λ nothing. t (nothing_due_before h log start (clock + 1) some (omega (arith, le)) (due_kept h (clock + 1) (record { clock = clock; command = command }) log plain nothing))
tasked_after h log start clock (RefSame address) command some plain le t = (t.0, λ nothing. t.1 (nothing_due_before h log start (clock + 1) some (omega (arith, le)) (due_kept h (clock + 1) (record { clock = clock; command = command }) log plain nothing)))
tasked_after h log start clock (RfmSame address) command some plain le t = wanted_kept h address (record { clock = clock; command = command }) log plain ∙ t

-- ---- A set task has its cause

pub wanted_all : (h : Header) (address : ℕ) (log : Log) → is_wanted h (RfmSb address) log ≡ true → is_wanted h RfmAb log ≡ true
wanted_all h address log e = any_below_wider 32 (λ b. is_at address b && nat_le h.settings.raaimt (raa h b log)) (λ b. covers RfmAb b && nat_le h.settings.raaimt (raa h b log)) (λ b low f. (both (is_at address b) (nat_le h.settings.raaimt (raa h b log)) f).1) e

pub never_calm : (h : Header) (log : Log) (start soonest : ℕ) (task : Task) → 1 ≤ h.timing.nrefi → start ≤ soonest → IsTasked h log start (Some task) → IsCalm h soonest log → ⊥
never_calm h log start soonest RfmAll some le t calm = t calm.no_alert
never_calm h log start soonest Ecs some le t calm = calm.no_scrub t
never_calm h log start soonest RefAll some le t calm = t (nothing_due_before h log start soonest some le calm.no_refresh)
never_calm h log start soonest (RefSame address) some le t calm = t.1 (nothing_due_before h log start soonest some le calm.no_refresh)
never_calm h log start soonest (RfmSame address) some le t calm = let e = wanted_all h address log t in let f = calm.no_management in cc

-- a task that was set stays so at a later clock
pub tasked_later : (h : Header) (log : Log) (from start : ℕ) (task : Task) → 1 ≤ h.timing.nrefi → from ≤ start → IsTasked h log from (Some task) → IsTasked h log start (Some task)
tasked_later h log from start RfmAll some le t = t
tasked_later h log from start Ecs some le t = t
tasked_later h log from start RefAll some le t = λ nothing. t (nothing_due_before h log from start some le nothing)
tasked_later h log from start (RefSame address) some le t = (t.0, λ nothing. t.1 (nothing_due_before h log from start some le nothing))
tasked_later h log from start (RfmSame address) some le t = t

-- ---- The banks of a task

-- a turn's task covers what the task before it covered
pub still_covered : (h : Header) (log : Log) (task : Option Task) (now until : ℕ) (chosen : Task) (start : ℕ) → Decides h log task now until chosen start → (b : ℕ) → is_covered task b ≡ true → task_covers chosen b ≡ true
still_covered h log task now until chosen start (BacksOff raised e f g) b covered = rw f refl
still_covered h log task now until chosen start (GoesOn e f g) b covered = subst (λ (t : Option Task). is_covered t b ≡ true) f covered
still_covered h log task now until chosen start (Scrubs e f d k g) b covered = absurd (let x = subst (λ (t : Option Task). is_covered t b ≡ true) f covered in cc)
still_covered h log task now until chosen start (RefreshesAll e f d m k s) b covered = absurd (let x = subst (λ (t : Option Task). is_covered t b ≡ true) f covered in cc)
still_covered h log task now until chosen start (RefreshesSame address clock e f d m k l s) b covered = absurd (let x = subst (λ (t : Option Task). is_covered t b ≡ true) f covered in cc)
still_covered h log task now until chosen start (ManagesSame address soonest e f d l k m s) b covered = absurd (let x = subst (λ (t : Option Task). is_covered t b ≡ true) f covered in cc)

pub precharge_covers : (task : Task) (b : ℕ) → covers (precharge_of task) b ≡ task_covers task b
precharge_covers RfmAll b = refl
precharge_covers Ecs b = refl
precharge_covers RefAll b = refl
precharge_covers (RefSame address) b = refl
precharge_covers (RfmSame address) b = refl

pub command_covers : (task : Task) (b : ℕ) → covers (command_of task) b ≡ task_covers task b
command_covers RfmAll b = refl
command_covers Ecs b = refl
command_covers RefAll b = refl
command_covers (RefSame address) b = refl
command_covers (RfmSame address) b = refl

closes_if : (t : Bool) → cond t Closes Leaves ≡ Closes → t ≡ true
closes_if true e = refl
closes_if false e = cc

-- it closes only banks of the task
pub precharge_closes : (task : Task) (b : ℕ) → effect b (precharge_of task) ≡ Closes → task_covers task b ≡ true
precharge_closes RfmAll b e = refl
precharge_closes Ecs b e = refl
precharge_closes RefAll b e = refl
precharge_closes (RefSame address) b e = closes_if (is_at address b) e
precharge_closes (RfmSame address) b e = closes_if (is_at address b) e
