-- Each command of the controller keeps all fourteen rules in its rank.
use Rattle.std.proofs.Common.{◌≡◌, ℕ, ◌<◌, ◌≤◌, ◌==◌, ◌||◌, not, true, refl, sym, subst, arith, ◌∷◌, length, Option, Some, None, is_none, is_some, slice_get, nat_le, le-leb, lt-ltb, eq-eqb}
use Rattle.command_words.specs.Command.{bank_number, covers}
use Rattle.command_words.specs.Kinds.{needs_closed}
use Rattle.command_words.specs.declared.command.Command.{Command}
use Rattle.command_words.specs.declared.command.Command.TheVariants.{Act, Rd, Wr, PrePb, PreSb, PreAb, RefAb, RefSb, RfmAb, RfmSb, Mrw, Ecs, Nop}
use Rattle.command_words.specs.declared.command.Mrw.{Mrw as Write}
use Rattle.command_words.specs.declared.place.Bank.{Bank}
use Rattle.deadlines.specs.Standing.{AllInTime}
use Rattle.rank_bus.specs.Service.{IsServedBy}
use Rattle.rank_bus.specs.Standing.{Suits}
use Rattle.speed_bin.proofs.Tests.{all_below_from, joined, or_right}
use Rattle.speed_bin.specs.Alert.{alert}
use Rattle.speed_bin.specs.Below.{all_below}
use Rattle.speed_bin.specs.Header.{IsAccepted}
use Rattle.speed_bin.specs.Log.{Log, open_at, raa}
use Rattle.speed_bin.specs.Registers.{register_writes}
use Rattle.speed_bin.specs.Rules.{MayFollow, broken, is_wanted, is_write, rule_4, rule_5, rule_9, rule_10, rule_11, rule_12, rule_14}
use Rattle.speed_bin.specs.declared.header.Header.{Header}
use Rattle.rank_pair.specs.Under.{AllShut}

-- ---- From what is known of a kind of command

-- what a kind of command keeps by itself, beside the rules of spacing and those of the deadlines
pub record IsKept (h : Header) (clock : ℕ) (c : Command) (own : Log) : Type 0 where
  pub fourth : rule_4 c own ≡ true
  pub fifth : rule_5 c own ≡ true
  pub ninth : rule_9 h c own ≡ true
  pub tenth : rule_10 h c own ≡ true
  pub eleventh : rule_11 h c own ≡ true
  pub twelfth : rule_12 h clock c own ≡ true
  pub fourteenth : rule_14 h c own ≡ true

-- the bus may have it, and no rule is broken
pub record IsFine (h : Header) (clock : ℕ) (c : Command) (own : Log) : Type 0 where
  pub suits : Suits h own clock c
  pub legal : broken h clock c own ≡ None

pub fine : (h : Header) (clock : ℕ) (c : Command) (own : Log) → IsKept h clock c own → MayFollow h.timing clock c own → AllInTime h (record { clock = clock; command = c } ∷ own) → IsFine h clock c own
fine h clock c own k m all = record {
  suits = record { fits = record { fourth = k.fourth; fifth = k.fifth }; allowed = record { refreshes_in_time = all.1; refreshes_evenly = all.2; scrubs_in_step = all.3 }; counted = k.ninth };
  legal = rw (m.rises, m.gaps, m.window, k.fourth, k.fifth, all.1, all.2, all.3, k.ninth, k.tenth, k.eleventh, k.twelfth, all.4, k.fourteenth) refl;
}

begun : (own : Log) → 8 ≤ length own → nat_le 8 (length own) ≡ true
begun own more = le-leb _ _ more

-- where all banks are closed, the command finds those closed that it covers
pub closed_fits : (c : Command) (own : Log) → AllShut own → rule_5 c own ≡ true
closed_fits c own shut = or_right (not (needs_closed c)) (all_below 32 (λ b. not (covers c b) || is_none (open_at b own)))
    (all_below_from 32 (λ b. not (covers c b) || is_none (open_at b own)) (λ b low. or_right (not (covers c b)) (is_none (open_at b own)) (let e = shut b low in rw e refl)))

-- ---- A request

pub act_kept : (h : Header) (clock : ℕ) (bank : Bank) (row : ℕ) (own : Log) → IsAccepted h → open_at (bank_number bank) own ≡ None → raa h (bank_number bank) own < h.settings.raaimt
    → alert h own ≡ None → 8 ≤ length own → IsKept h clock (Act bank row) own
act_kept h clock bank row own ok shut count none more = record {
  fourth = rw shut refl;
  fifth = refl;
  ninth = lt-ltb _ _ (let m = ok.checks.management.1 in omega arith);
  tenth = refl;
  eleventh = refl;
  twelfth = rw none refl;
  fourteenth = begun own more;
}

pub rd_kept : (h : Header) (clock : ℕ) (bank : Bank) (column row : ℕ) (own : Log) → open_at (bank_number bank) own ≡ Some row → 8 ≤ length own → IsKept h clock (Rd bank column) own
rd_kept h clock bank column row own is more = record { fourth = rw is refl; fifth = refl; ninth = refl; tenth = refl; eleventh = refl; twelfth = refl; fourteenth = begun own more }

pub wr_kept : (h : Header) (clock : ℕ) (bank : Bank) (column row : ℕ) (own : Log) → open_at (bank_number bank) own ≡ Some row → 8 ≤ length own → IsKept h clock (Wr bank column) own
wr_kept h clock bank column row own is more = record { fourth = rw is refl; fifth = refl; ninth = refl; tenth = refl; eleventh = refl; twelfth = refl; fourteenth = begun own more }

pub close_kept : (h : Header) (clock : ℕ) (bank : Bank) (own : Log) → 8 ≤ length own → IsKept h clock (PrePb bank) own
close_kept h clock bank own more = record { fourth = refl; fifth = refl; ninth = refl; tenth = refl; eleventh = refl; twelfth = refl; fourteenth = begun own more }

-- ---- The service

-- an RFMab under an alert
pub rfm_kept : (h : Header) (clock : ℕ) (own : Log) → AllShut own → is_some (alert h own) ≡ true → 8 ≤ length own → IsKept h clock RfmAb own
rfm_kept h clock own shut raised more = record {
  fourth = refl;
  fifth = closed_fits RfmAb own shut;
  ninth = refl;
  tenth = refl;
  eleventh = or_right (is_wanted h RfmAb own) (is_some (alert h own)) raised;
  twelfth = refl;
  fourteenth = begun own more;
}

pub named_kept : (h : Header) (now clock : ℕ) (c : Command) (own : Log) → AllShut own → IsServedBy h own now (Some c) → 8 ≤ length own → IsKept h clock c own
named_kept h now clock Ecs own shut k more = record { fourth = refl; fifth = closed_fits Ecs own shut; ninth = refl; tenth = refl; eleventh = refl; twelfth = refl; fourteenth = begun own more }
named_kept h now clock RefAb own shut k more = record { fourth = refl; fifth = closed_fits RefAb own shut; ninth = refl; tenth = refl; eleventh = refl; twelfth = refl; fourteenth = begun own more }
named_kept h now clock (RefSb a) own shut k more = record { fourth = refl; fifth = closed_fits (RefSb a) own shut; ninth = refl; tenth = refl; eleventh = refl; twelfth = refl; fourteenth = begun own more }
named_kept h now clock (RfmSb a) own shut k more = record { fourth = refl; fifth = closed_fits (RfmSb a) own shut; ninth = refl; tenth = k.2.wanted; eleventh = refl; twelfth = refl; fourteenth = begun own more }
named_kept h now clock (Act b r) own shut k more = absurd k
named_kept h now clock (Rd b r) own shut k more = absurd k
named_kept h now clock (Wr b r) own shut k more = absurd k
named_kept h now clock (PrePb b) own shut k more = absurd k
named_kept h now clock (PreSb a) own shut k more = absurd k
named_kept h now clock PreAb own shut k more = absurd k
named_kept h now clock RfmAb own shut k more = absurd k
named_kept h now clock (Mrw w) own shut k more = absurd k
named_kept h now clock Nop own shut k more = absurd k

-- ---- A register write

same_write : (write : Write) → is_write write (Some write) ≡ true
same_write write = joined (write.address == write.address) (write.value == write.value) (eq-eqb write.address write.address refl) (eq-eqb write.value write.value refl)

pub write_kept : (h : Header) (clock : ℕ) (write : Write) (own : Log) → AllShut own → slice_get (register_writes h.settings) (length own) ≡ Some write → IsKept h clock (Mrw write) own
write_kept h clock write own shut due = record {
  fourth = refl;
  fifth = closed_fits (Mrw write) own shut;
  ninth = refl;
  tenth = refl;
  eleventh = refl;
  twelfth = refl;
  fourteenth = subst (λ (o : Option Write). is_write write o ≡ true) (sym due) (same_write write);
}
