-- The gap between two commands, by the table of `docs/RULES.md`, and the numbers that are derived from it.
use Rattle.std.specs.Prelude.{ℕ, ◌+◌, ◌-◌, ◌*◌, Bool, true, not, ◌&&◌, ◌||◌, ◌==◌, if◌then◌else◌, List, [], ◌∷◌, max}
use Rattle.command_words.specs.Command.{covers}
use Rattle.command_words.specs.declared.command.Command.{Command}
use Rattle.command_words.specs.declared.command.Command.TheVariants.{Nop}
use Rattle.speed_bin.specs.Below.{any_below}
use Rattle.command_words.specs.Kinds.{is_act, is_rd, is_wr, is_precharge, is_ref_all, is_ref_same, is_rfm_all, is_rfm_same, is_mrw, is_scrub, is_nop, needs_closed, group_of}
use Rattle.speed_bin.specs.declared.timing.Timing.{Timing}

-- a row of the table: whether it applies to two commands, and its clocks
pub record Entry : Type 0 where
  pub applies : Bool
  pub clocks : ℕ

-- the greatest clocks of the rows that apply
abbrev pub greatest : List Entry → ℕ
greatest [] = 0
greatest (entry ∷ entries) = if entry.applies then max entry.clocks (greatest entries) else greatest entries

-- some bank is covered by both
abbrev pub meet : Command → Command → Bool
meet first second = any_below 32 (λ b. covers first b && covers second b)

-- the table, in its order, of two commands of which it is known whether they meet; "same bank" of two commands that name
-- one bank each is that they do
abbrev pub gap_table_where : Bool → Timing → Command → Command → List Entry
gap_table_where together t first second = let same_group = group_of first == group_of second in
    record { applies = is_act first || (is_rd first || (is_wr first || is_mrw first)); clocks = 2 }
    ∷ record { applies = true; clocks = 1 }
    ∷ record { applies = is_act first && is_act second; clocks = t.nrrd_s }
    ∷ record { applies = is_act first && (is_act second && same_group); clocks = t.nrrd_l }
    ∷ record { applies = is_act first && (is_act second && together); clocks = t.nrc }
    ∷ record { applies = is_act first && ((is_rd second || is_wr second) && together); clocks = t.nrcd }
    ∷ record { applies = is_act first && (is_precharge second && together); clocks = t.nras }
    ∷ record { applies = is_rd first && is_rd second; clocks = t.nccd_s }
    ∷ record { applies = is_rd first && (is_rd second && same_group); clocks = t.nccd_l }
    ∷ record { applies = is_wr first && is_wr second; clocks = t.nccd_s }
    ∷ record { applies = is_wr first && (is_wr second && same_group); clocks = t.nccd_l_wr }
    ∷ record { applies = is_rd first && is_wr second; clocks = t.ncl + 10 - t.ncwl }
    ∷ record { applies = is_wr first && is_rd second; clocks = t.ncwl + 8 + t.nwtr_s }
    ∷ record { applies = is_wr first && (is_rd second && same_group); clocks = t.ncwl + 8 + t.nwtr_l }
    ∷ record { applies = is_rd first && (is_precharge second && together); clocks = t.nrtp }
    ∷ record { applies = is_wr first && (is_precharge second && together); clocks = t.ncwl + 8 + t.nwr }
    ∷ record { applies = is_precharge first && ((is_act second || needs_closed second) && together); clocks = t.nrp }
    ∷ record { applies = is_ref_all first && not (is_nop second); clocks = t.nrfc }
    ∷ record { applies = is_ref_same first && (not (is_nop second) && together); clocks = t.nrfcsb }
    ∷ record { applies = is_rfm_all first && not (is_nop second); clocks = t.nrfm }
    ∷ record { applies = is_rfm_same first && (not (is_nop second) && together); clocks = t.nrfmsb }
    ∷ record { applies = is_scrub first && not (is_nop second); clocks = t.necs }
    ∷ record { applies = is_mrw first && not (is_nop second); clocks = t.nmrd }
    ∷ []

abbrev pub gap_table : Timing → Command → Command → List Entry
gap_table t first second = gap_table_where (meet first second) t first second

-- how many clocks the second command stands behind the first, at the least
abbrev pub gap : Timing → Command → Command → ℕ
gap t first second = greatest (gap_table t first second)

-- ---- Derived numbers

-- the greatest clocks of all rows, whether they apply or not
abbrev pub greatest_clocks : List Entry → ℕ
greatest_clocks [] = 0
greatest_clocks (entry ∷ entries) = max entry.clocks (greatest_clocks entries)

-- what a column command blocks of others at the most
unfoldable pub n_col : Timing → ℕ
n_col t = max t.nccd_s (max t.nccd_l (max t.nccd_l_wr (max (t.ncl + 10 - t.ncwl) (max (t.ncwl + 8 + t.nwtr_s) (t.ncwl + 8 + t.nwtr_l)))))

-- what any command blocks of any other at the most: the greatest of nFAW and all clocks of the table, which do not
-- depend on the commands
unfoldable pub n_max : Timing → ℕ
n_max t = max t.nfaw (greatest_clocks (gap_table t Nop Nop))

-- from an ACT to all banks closed, with one column
unfoldable pub n_close : Timing → ℕ
n_close t = t.nrcd + t.nras + t.ncwl + 8 + t.nwr + t.nrtp + t.nrp

-- from the last command before a closing begins to the command for which all banks are closed, at the most: 32 owed
-- columns, the precharge, and what earlier commands still block
unfoldable pub n_tail : Timing → ℕ
n_tail t = n_max t + n_close t + 32 * n_col t
