-- A precharge of several banks is issued for an open bank that there is: the test of all 32 numbers is that of the header's
-- banks.
use Rattle.std.proofs.Common.{◌≡◌, ℕ, ◌<◌, ◌≤◌, ◌⊎◌, inl, inr, ◌↔◌, Option, Some, None, IsSome, IsTrue, arith}
use Rattle.command_words.specs.Command.{covers}
use Rattle.command_words.specs.Geometry.{IsGroups}
use Rattle.command_words.specs.declared.command.Command.{Command}
use Rattle.speed_bin.specs.Log.{Log, open_at}
use Rattle.speed_bin.specs.Marks.{RowsInRange}
use Rattle.speed_bin.specs.Present.{banks_of}
use Rattle.speed_bin.specs.declared.header.Header.{Header}
use Rattle.speed_bin.proofs.Present.{absent_closed, has_banks}
use Rattle.speed_bin.proofs.Splits.{below_or_not}
use Rattle.requests.specs.Choice.{CoversOpen}

-- the command covers an open bank of so many groups
pub record CoversPresent (groups : ℕ) (command : Command) (log : Log) : Type 0 where
  pub bank : ℕ
  pub present : bank < banks_of groups
  pub covered : IsTrue (covers command bank)
  pub is_open : IsSome (open_at bank log)

at_most_32 : (groups : ℕ) → IsGroups groups → banks_of groups ≤ 32
at_most_32 groups (inl e) = omega (arith, e)
at_most_32 groups (inr e) = omega (arith, e)

never_both : (o : Option ℕ) → IsSome o → o ≡ None → ⊥
never_both None some none = cc
never_both (Some row) some none = cc

pub covers_open_agrees : (h : Header) (command : Command) (log : Log) → IsGroups h.version.groups → RowsInRange h log → CoversOpen command log ↔ CoversPresent h.version.groups command log
covers_open_agrees h command log few inside = (to, from)
  where
    at : (c : CoversOpen command log) → (c.bank < banks_of h.version.groups) ⊎ (banks_of h.version.groups ≤ c.bank) → CoversPresent h.version.groups command log
    at c (inl low) = record { bank = c.bank; present = low; covered = c.covered; is_open = c.is_open }
    at c (inr high) = absurd (never_both (open_at c.bank log) c.is_open (absent_closed h.version.groups c.bank log high (has_banks h log inside)))

    to : CoversOpen command log → CoversPresent h.version.groups command log
    to c = at c (below_or_not c.bank (banks_of h.version.groups))

    from : CoversPresent h.version.groups command log → CoversOpen command log
    from c = let most = at_most_32 h.version.groups few in let low = c.present in record { bank = c.bank; low = omega (arith, most, low); covered = c.covered; is_open = c.is_open }
