-- What the service of a rank needs.
use Rattle.std.specs.Prelude.{ℕ, ◌/◌, ◌<◌, ◌≡◌, ◌≢◌, false, Option, Some, None, IsTrue}
use Rattle.command_words.specs.declared.command.Command.{Command}
use Rattle.command_words.specs.declared.command.Command.TheVariants.{Act, Rd, Wr, PrePb, PreSb, PreAb, RefAb, RefSb, RfmAb, RfmSb, Mrw, Ecs, Nop}
use Rattle.speed_bin.specs.Log.{Log, refs, scrubs}
use Rattle.speed_bin.specs.Rules.{is_wanted}
use Rattle.speed_bin.specs.declared.header.Header.{Header}
use Rattle.speed_bin.specs.declared.settings.RefreshMode.TheVariants.{All, Same}
use Rattle.refresh_plan.specs.declared.due_refresh.Due.{Due}
use Rattle.refresh_plan.specs.Debts.{IsNothingDue, IsMostBehind}

-- an ECS is due: fewer stand in the log than its refreshes of address 0 allow
abbrev pub IsEcsDue : Header → Log → Type 0
IsEcsDue h log = (h.settings.ecs_every ≢ 0) × (scrubs log < refs 0 log / h.settings.ecs_every)

-- an RFMsb is wanted of this address, and of none below it
pub record IsFirstWanted (h : Header) (log : Log) (address : ℕ) : Type 0 where
  pub wanted : IsTrue (is_wanted h (RfmSb address) log)
  pub first : (lower : ℕ) → lower < address → is_wanted h (RfmSb lower) log ≡ false

-- what is needed after this log at this clock: the ECS that is due, else the refresh, else the RFMsb that is wanted, else
-- nothing
abbrev pub IsServedBy : Header → Log → ℕ → Option Command → Type 0
IsServedBy h log clock None = (IsEcsDue h log → ⊥) × IsNothingDue h clock log × (is_wanted h RfmAb log ≡ false)
IsServedBy h log clock (Some Ecs) = IsEcsDue h log
IsServedBy h log clock (Some RefAb) = (IsEcsDue h log → ⊥) × (h.settings.refresh ≡ All) × (IsNothingDue h clock log → ⊥)
IsServedBy h log clock (Some (RefSb address)) = (IsEcsDue h log → ⊥) × (h.settings.refresh ≡ Same) × (IsNothingDue h clock log → ⊥) × IsMostBehind h clock log address
IsServedBy h log clock (Some (RfmSb address)) = (IsEcsDue h log → ⊥) × IsNothingDue h clock log × IsFirstWanted h log address
IsServedBy h log clock (Some (Act bank row)) = ⊥
IsServedBy h log clock (Some (Rd bank column)) = ⊥
IsServedBy h log clock (Some (Wr bank column)) = ⊥
IsServedBy h log clock (Some (PrePb bank)) = ⊥
IsServedBy h log clock (Some (PreSb address)) = ⊥
IsServedBy h log clock (Some PreAb) = ⊥
IsServedBy h log clock (Some RfmAb) = ⊥
IsServedBy h log clock (Some (Mrw write)) = ⊥
IsServedBy h log clock (Some Nop) = ⊥

-- ---- In parts

-- the command of a refresh
abbrev pub refresh_for : Due → Command
refresh_for Due.All = RefAb
refresh_for (Due.Same address) = RefSb address

-- the refresh that is due at this clock
abbrev pub IsRefreshDue : Header → Log → ℕ → Option Command → Type 0
IsRefreshDue h log clock None = IsNothingDue h clock log
IsRefreshDue h log clock (Some RefAb) = (h.settings.refresh ≡ All) × (IsNothingDue h clock log → ⊥)
IsRefreshDue h log clock (Some (RefSb address)) = (h.settings.refresh ≡ Same) × (IsNothingDue h clock log → ⊥) × IsMostBehind h clock log address
IsRefreshDue h log clock (Some (Act bank row)) = ⊥
IsRefreshDue h log clock (Some (Rd bank column)) = ⊥
IsRefreshDue h log clock (Some (Wr bank column)) = ⊥
IsRefreshDue h log clock (Some (PrePb bank)) = ⊥
IsRefreshDue h log clock (Some (PreSb address)) = ⊥
IsRefreshDue h log clock (Some PreAb) = ⊥
IsRefreshDue h log clock (Some RfmAb) = ⊥
IsRefreshDue h log clock (Some (RfmSb address)) = ⊥
IsRefreshDue h log clock (Some (Mrw write)) = ⊥
IsRefreshDue h log clock (Some Ecs) = ⊥
IsRefreshDue h log clock (Some Nop) = ⊥

-- the RFMsb that is wanted
abbrev pub IsManaged : Header → Log → Option Command → Type 0
IsManaged h log None = is_wanted h RfmAb log ≡ false
IsManaged h log (Some (RfmSb address)) = IsFirstWanted h log address
IsManaged h log (Some (Act bank row)) = ⊥
IsManaged h log (Some (Rd bank column)) = ⊥
IsManaged h log (Some (Wr bank column)) = ⊥
IsManaged h log (Some (PrePb bank)) = ⊥
IsManaged h log (Some (PreSb address)) = ⊥
IsManaged h log (Some PreAb) = ⊥
IsManaged h log (Some RefAb) = ⊥
IsManaged h log (Some (RefSb address)) = ⊥
IsManaged h log (Some RfmAb) = ⊥
IsManaged h log (Some (Mrw write)) = ⊥
IsManaged h log (Some Ecs) = ⊥
IsManaged h log (Some Nop) = ⊥
