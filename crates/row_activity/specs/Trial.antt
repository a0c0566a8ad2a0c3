-- The header of the trial, and its one row, opened and closed.
use Rattle.std.specs.Prelude.{ℕ, List, Option, ◌∷◌}
use Rattle.bank_state.specs.Standing.{StandsFor as BanksFor}
use Rattle.command_words.specs.declared.command.Command.{Command}
use Rattle.command_words.specs.declared.command.Command.TheVariants.{Act, PreAb}
use Rattle.speed_bin.specs.Log.{Log}
use Rattle.speed_bin.specs.Timing.{tiny}
use Rattle.speed_bin.specs.declared.header.Header.{Header}
use Rattle.speed_bin.specs.declared.settings.RefreshMode.TheVariants.{All}
use Rattle.row_activity.specs.Counted.{MayCount}
use Rattle.row_activity.specs.Standing.{StandsFor}
use Rattle.row_activity.specs.declared.activity.Activity.{Activity}

-- the one row of a bank of four groups, with an alert window for two activations
abbrev pub one_row : Header
one_row = record {
  timing = record tiny { nabo = 13 };
  settings = record {
    rows = 1;
    ath = 3;
    eth = 3;
    raaimt = 8;
    raammt = 16;
    refresh = All;
    ecs_every = 0;
  };
  version = record { cycle = 2; groups = 4 };
}

-- an ACT of row 0 of bank 0
abbrev pub opens : Command
opens = Act (record { group = 0; address = 0 }) 0

-- the row is opened and closed
abbrev pub closed : ℕ → ℕ → Log → Log
closed first second log = record { clock = second; command = PreAb } ∷ (record { clock = first; command = opens } ∷ log)

-- both can be counted
pub record MayClose (first second : ℕ) (log : Log) : Type 0 where
  pub opening : MayCount one_row first opens log
  pub closing : MayCount one_row second PreAb (record { clock = first; command = opens } ∷ log)

-- the activity and the open rows stand for the log
pub record Stand (it : Activity) (open_rows : List (Option ℕ)) (log : Log) : Type 0 where
  pub activity : StandsFor it one_row log
  pub rows : BanksFor open_rows log
