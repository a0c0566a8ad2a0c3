-- The clocks of a log, and the least clock of a command.
use Rattle.std.proofs.Common.{◌≡◌, ℕ, ◌≤◌, arith, ◌↔◌, max}
use Rattle.command_words.specs.declared.command.Command.{Command}
use Rattle.speed_bin.specs.Log.{Log}
use Rattle.speed_bin.specs.Rules.{MayFollow}
use Rattle.speed_bin.specs.declared.header.Header.{Header}
use Rattle.requests.specs.Choice.{IsSoonest}

-- the greater of the least clock and `from`
pub soonest_of : (h : Header) (log : Log) (from clock earliest : ℕ) (command : Command) → ((t : ℕ) → (MayFollow h.timing t command log ↔ (earliest ≤ t))) → clock ≡ max earliest from → IsSoonest h log from command clock
soonest_of h log from clock earliest command least e = record {
  follows = (least clock).1 (omega (arith, e));
  not_before = omega (arith, e);
  least = λ other le follows. let a = (least other).0 follows in omega (arith, e, a, le);
}
