-- How far a list reaches with its gaps to a command, by what is kept.
use Rattle.std.proofs.Common.{◌≡◌, ◌∙◌, ℕ, ◌<◌, true, max, if◌then◌else◌, List, slice_index, refl, sym, ap}
use Rattle.command_words.specs.Command.{bank_number, covers}
use Rattle.command_words.specs.Kinds.{is_precharge, needs_closed}
use Rattle.command_words.specs.declared.place.Bank.{Bank}
use Rattle.command_words.specs.declared.command.Command.{Command}
use Rattle.command_words.specs.declared.command.Command.TheVariants.{Act, Rd, Wr, PrePb, PreSb, PreAb, RefAb, RefSb, RfmAb, RfmSb, Mrw, Ecs, Nop}
use Rattle.speed_bin.specs.Gap.{gap}
use Rattle.speed_bin.specs.Log.{Log}
use Rattle.speed_bin.specs.declared.timing.Timing.{Timing}
use Rattle.timing_rules.specs.Blocks.{bus_block, floor_block, act_block, rd_block, wr_block, act_group_block, rd_group_block, wr_group_block, act_bank_block, column_block, pre_block, closed_block, act_gap, rd_gap, wr_gap, pre_gap, over}
use Rattle.timing_rules.specs.Reach.{reach, KeepsTable, most_below}
use Rattle.timing_rules.specs.Scope.{is_within}
use Rattle.timing_rules.specs.declared.scope.Scope.{Scope}
use Rattle.timing_rules.proofs.CoveredBlocks.{closing_is, closed_is}
use Rattle.timing_rules.proofs.NamedBlocks.{act_gap_is, rd_gap_is, wr_gap_is, pre_gap_is}
use Rattle.timing_rules.proofs.Reaches.{splits, splits_4, same_reach, most_reach, same_most}

pub act_reach : (t : Timing) (bank : Bank) (row : ℕ) (log : Log) → bank_number bank < 32 → reach (λ first. gap t first (Act bank row)) log ≡ max (reach (floor_block t) log) (max (reach (act_block t) log) (max (reach (act_group_block t bank.group) log) (reach (act_bank_block t (bank_number bank)) log)))
act_reach t bank row log h =
    same_reach (λ first. gap t first (Act bank row)) (λ first. act_gap t bank first) log (λ first. act_gap_is t bank row first h)
    ∙ splits_4 (floor_block t) (act_block t) (act_group_block t bank.group) (act_bank_block t (bank_number bank)) log

pub rd_reach : (t : Timing) (bank : Bank) (column : ℕ) (log : Log) → bank_number bank < 32 → reach (λ first. gap t first (Rd bank column)) log ≡ max (reach (floor_block t) log) (max (reach (rd_block t) log) (max (reach (rd_group_block t bank.group) log) (reach (column_block t (bank_number bank)) log)))
rd_reach t bank column log h =
    same_reach (λ first. gap t first (Rd bank column)) (λ first. rd_gap t bank first) log (λ first. rd_gap_is t bank column first h)
    ∙ splits_4 (floor_block t) (rd_block t) (rd_group_block t bank.group) (column_block t (bank_number bank)) log

pub wr_reach : (t : Timing) (bank : Bank) (column : ℕ) (log : Log) → bank_number bank < 32 → reach (λ first. gap t first (Wr bank column)) log ≡ max (reach (floor_block t) log) (max (reach (wr_block t) log) (max (reach (wr_group_block t bank.group) log) (reach (column_block t (bank_number bank)) log)))
wr_reach t bank column log h =
    same_reach (λ first. gap t first (Wr bank column)) (λ first. wr_gap t bank first) log (λ first. wr_gap_is t bank column first h)
    ∙ splits_4 (floor_block t) (wr_block t) (wr_group_block t bank.group) (column_block t (bank_number bank)) log

pub pre_reach : (t : Timing) (bank : Bank) (log : Log) → bank_number bank < 32 → reach (λ first. gap t first (PrePb bank)) log ≡ max (reach (floor_block t) log) (reach (pre_block t (bank_number bank)) log)
pre_reach t bank log h =
    same_reach (λ first. gap t first (PrePb bank)) (λ first. pre_gap t bank first) log (λ first. pre_gap_is t bank first h)
    ∙ splits (floor_block t) (pre_block t (bank_number bank)) log

-- the greatest of the entries of a scope is that of the reaches in the banks that the command covers
covered : (table : List ℕ) (block : ℕ → Command → ℕ) (scope : Scope) (second : Command) (log : Log) → KeepsTable table 32 block log → ((b : ℕ) → is_within scope b ≡ covers second b)
    → most_below 32 (λ b. if is_within scope b then slice_index table b else 0) ≡ most_below 32 (λ b. if covers second b then reach (block b) log else 0)
covered table block scope second log keeps same = same_most 32 (λ b. if is_within scope b then slice_index table b else 0) (λ b. if covers second b then reach (block b) log else 0)
    (λ b low. ap (λ x. if x then slice_index table b else 0) (same b) ∙ ap (λ n. if covers second b then n else 0) (keeps.each b low))

-- a gap of the floor and of the banks that the second command covers
over_reach : (t : Timing) (second : Command) (block : ℕ → Command → ℕ) (log : Log) → ((first : Command) → gap t first second ≡ max (floor_block t first) (over second (λ b. block b first)))
    → reach (λ first. gap t first second) log ≡ max (reach (floor_block t) log) (most_below 32 (λ b. if covers second b then reach (block b) log else 0))
over_reach t second block log is =
    same_reach (λ first. gap t first second) (λ first. max (floor_block t first) (over second (λ b. block b first))) log is
    ∙ splits (floor_block t) (λ first. over second (λ b. block b first)) log
    ∙ ap (λ n. max (reach (floor_block t) log) n) (most_reach 32 (covers second) block log)

pub closing_reach : (t : Timing) (second : Command) (scope : Scope) (table : List ℕ) (log : Log) → is_precharge second ≡ true → ((b : ℕ) → is_within scope b ≡ covers second b) → KeepsTable table 32 (pre_block t) log
    → max (reach (floor_block t) log) (most_below 32 (λ b. if is_within scope b then slice_index table b else 0)) ≡ reach (λ first. gap t first second) log
closing_reach t second scope table log kind same keeps =
    ap (λ n. max (reach (floor_block t) log) n) (covered table (pre_block t) scope second log keeps same)
    ∙ sym (over_reach t second (pre_block t) log (closing_is t second kind))

pub closed_reach : (t : Timing) (second : Command) (scope : Scope) (table : List ℕ) (log : Log) → needs_closed second ≡ true → ((b : ℕ) → is_within scope b ≡ covers second b) → KeepsTable table 32 (closed_block t) log
    → max (reach (floor_block t) log) (most_below 32 (λ b. if is_within scope b then slice_index table b else 0)) ≡ reach (λ first. gap t first second) log
closed_reach t second scope table log kind same keeps =
    ap (λ n. max (reach (floor_block t) log) n) (covered table (closed_block t) scope second log keeps same)
    ∙ sym (over_reach t second (closed_block t) log (closed_is t second kind))

nop_gap_is : (t : Timing) (first : Command) → gap t first Nop ≡ bus_block first
nop_gap_is t (Act k r) = refl
nop_gap_is t (Rd k c) = refl
nop_gap_is t (Wr k c) = refl
nop_gap_is t (PrePb k) = refl
nop_gap_is t (PreSb j) = refl
nop_gap_is t PreAb = refl
nop_gap_is t RefAb = refl
nop_gap_is t (RefSb j) = refl
nop_gap_is t RfmAb = refl
nop_gap_is t (RfmSb j) = refl
nop_gap_is t (Mrw v) = refl
nop_gap_is t Ecs = refl
nop_gap_is t Nop = refl

pub nop_reach : (t : Timing) (kept : ℕ) (log : Log) → kept ≡ reach bus_block log → kept ≡ reach (λ first. gap t first Nop) log
nop_reach t kept log e = e ∙ sym (same_reach (λ first. gap t first Nop) bus_block log (nop_gap_is t))

-- one reach of a gap by its four kept clocks
pub four_kept : (floor any group bank a b result f g h k : ℕ) → a ≡ max group bank → b ≡ max any a → result ≡ max floor b → floor ≡ f → any ≡ g → group ≡ h → bank ≡ k
    → result ≡ max f (max g (max h k))
four_kept floor any group bank a b result f g h k ea eb er ef eg eh ek = er ∙ ap (λ n. max floor n) (eb ∙ ap (λ n. max any n) ea) ∙ ap (λ n. max n (max any (max group bank))) ef
    ∙ ap (λ n. max f (max n (max group bank))) eg ∙ ap (λ n. max f (max g (max n bank))) eh ∙ ap (λ n. max f (max g (max h n))) ek
