-- What the open rows and the activations of a device say of a log.
use Rattle.std.specs.Prelude.{ℕ}
use Rattle.command_words.specs.declared.command.Command.{Command}
use Rattle.speed_bin.specs.declared.header.Header.{Header}
use Rattle.speed_bin.specs.Header.{IsAccepted}
use Rattle.speed_bin.specs.Log.{Log}
use Rattle.bank_state.specs.Standing.{StandsFor as BanksFor}
use Rattle.row_activity.specs.Standing.{StandsFor as ActivityFor}
use Rattle.device_core.specs.Legal.{AllLegal, IsLegal}
use Rattle.device_core.specs.declared.activations.Activations.{Activations}

pub record Keeps (it : Activations) (h : Header) (log : Log) : Type 0 where
  pub accepted : IsAccepted h
  pub legal : AllLegal h log
  pub rows : BanksFor it.rows log
  pub activity : ActivityFor it.activity h log

unfoldable pub StandsFor : Activations → Header → Log → Type 0
StandsFor it h log = Keeps it h log

-- it stands for some log, which the command may follow
abbrev pub MayIssue : Activations → ℕ → Command → Type 0
MayIssue it clock command = ∥ ((h : Header) × (log : Log) × (StandsFor it h log) × IsLegal h clock command log) ∥₁
