-- The greatest gaps after each kind of command.
use Rattle.std.proofs.Common.{◌≡◌, ℕ, ◌+◌, ◌-◌, ◌≤◌, Bool, true, false, ◌==◌, arith, cond, max, List, [], ◌∷◌, le_trans}
use Rattle.command_words.specs.declared.command.Command.{Command}
use Rattle.command_words.specs.declared.command.Command.TheVariants.{Rd, Wr, PrePb, PreSb, PreAb, RefAb, RefSb, RfmAb, RfmSb, Mrw, Ecs, Nop}
use Rattle.speed_bin.specs.declared.timing.Timing.{Timing}
use Rattle.speed_bin.specs.Gap.{greatest_clocks, Entry, greatest, meet, gap_table, gap, n_max, n_col, n_close}
use Rattle.command_words.specs.Kinds.{is_precharge, needs_closed, is_ref_all, is_ref_same, is_scrub}
use Rattle.requests.specs.Owed.{is_column}
use Rattle.deadlines.specs.Blocking.{n_pre}

-- ---- All gaps

greatest_within : (entries : List Entry) → greatest entries ≤ greatest_clocks entries
greatest_within [] = omega arith
greatest_within (entry ∷ entries) = go entry.applies (greatest_within entries)
  where
    go : (t : Bool) → greatest entries ≤ greatest_clocks entries → cond t (max entry.clocks (greatest entries)) (greatest entries) ≤ max entry.clocks (greatest_clocks entries)
    go true ih = omega arith
    go false ih = omega arith

pub gap_max : (t : Timing) (c e : Command) → gap t c e ≤ n_max t
unfolding n_max
gap_max t c e = le_trans (greatest_within (gap_table t c e)) (above t.nfaw (greatest_clocks (gap_table t Nop Nop)))
  where
    above : (a b : ℕ) → b ≤ max a b
    above a b = omega arith

pub faw_max : (t : Timing) → t.nfaw ≤ n_max t
unfolding n_max
faw_max t = above t.nfaw (greatest_clocks (gap_table t Nop Nop))
  where
    above : (a b : ℕ) → a ≤ max a b
    above a b = omega arith

-- ---- Between columns

two_entries : (n x y : ℕ) (same : Bool) → 2 ≤ n → x ≤ n → y ≤ n → max 2 (max 1 (max x (cond same (max y 0) 0))) ≤ n
two_entries n x y true a b c = omega arith
two_entries n x y false a b c = omega arith

pub col_parts : (t : Timing) → (2 ≤ n_col t) × (t.nccd_s ≤ n_col t) × (t.nccd_l ≤ n_col t) × (t.nccd_l_wr ≤ n_col t) × (t.ncl + 10 - t.ncwl ≤ n_col t) × (t.ncwl + 8 + t.nwtr_s ≤ n_col t) × (t.ncwl + 8 + t.nwtr_l ≤ n_col t)
unfolding n_col
col_parts t = parts t.nccd_s t.nccd_l t.nccd_l_wr (t.ncl + 10 - t.ncwl) t.ncwl t.nwtr_s t.nwtr_l
  where
    parts : (a b c d w e f : ℕ) → let m = max a (max b (max c (max d (max (w + 8 + e) (w + 8 + f))))) in (2 ≤ m) × (a ≤ m) × (b ≤ m) × (c ≤ m) × (d ≤ m) × (w + 8 + e ≤ m) × (w + 8 + f ≤ m)
    parts a b c d w e f = (omega arith, omega arith, omega arith, omega arith, omega arith, omega arith, omega arith)

pub gap_columns : (t : Timing) (c e : Command) → is_column c ≡ true → is_column e ≡ true → gap t c e ≤ n_col t
gap_columns t (Rd b c) (Rd d e) h k = let p = col_parts t in two_entries (n_col t) t.nccd_s t.nccd_l (b.group == d.group) p.0 p.1 p.2
gap_columns t (Wr b c) (Wr d e) h k = let p = col_parts t in two_entries (n_col t) t.nccd_s t.nccd_l_wr (b.group == d.group) p.0 p.1 p.3
gap_columns t (Rd b c) (Wr d e) h k = let p = col_parts t in two_entries (n_col t) (t.ncl + 10 - t.ncwl) 0 false p.0 p.4 (omega arith)
gap_columns t (Wr b c) (Rd d e) h k = let p = col_parts t in two_entries (n_col t) (t.ncwl + 8 + t.nwtr_s) (t.ncwl + 8 + t.nwtr_l) (b.group == d.group) p.0 p.5 p.6
gap_columns t (Rd b c) e h k = absurd (cc)
gap_columns t (Wr b c) e h k = absurd (cc)
gap_columns t c e h k = absurd (cc)

-- ---- From a column to a precharge, and to what needs closed banks

one_entry : (n x : ℕ) (same : Bool) → 2 ≤ n → x ≤ n → max 2 (max 1 (cond same (max x 0) 0)) ≤ n
one_entry n x true a b = omega arith
one_entry n x false a b = omega arith

pub pre_parts : (t : Timing) → (2 ≤ n_pre t) × (t.nrtp ≤ n_pre t) × (t.ncwl + 8 + t.nwr ≤ n_pre t) × (n_pre t + t.nrp ≤ n_close t)
unfolding n_pre n_close
pre_parts t = (omega arith, omega arith, omega arith, omega arith)

pub gap_column_precharge : (t : Timing) (c e : Command) → is_column c ≡ true → is_precharge e ≡ true → gap t c e ≤ n_pre t
gap_column_precharge t (Rd b c) (PrePb d) h k = let p = pre_parts t in one_entry (n_pre t) t.nrtp (meet (Rd b c) (PrePb d)) p.0 p.1
gap_column_precharge t (Rd b c) (PreSb d) h k = let p = pre_parts t in one_entry (n_pre t) t.nrtp (meet (Rd b c) (PreSb d)) p.0 p.1
gap_column_precharge t (Rd b c) PreAb h k = let p = pre_parts t in one_entry (n_pre t) t.nrtp (meet (Rd b c) PreAb) p.0 p.1
gap_column_precharge t (Wr b c) (PrePb d) h k = let p = pre_parts t in one_entry (n_pre t) (t.ncwl + 8 + t.nwr) (meet (Wr b c) (PrePb d)) p.0 p.2
gap_column_precharge t (Wr b c) (PreSb d) h k = let p = pre_parts t in one_entry (n_pre t) (t.ncwl + 8 + t.nwr) (meet (Wr b c) (PreSb d)) p.0 p.2
gap_column_precharge t (Wr b c) PreAb h k = let p = pre_parts t in one_entry (n_pre t) (t.ncwl + 8 + t.nwr) (meet (Wr b c) PreAb) p.0 p.2
gap_column_precharge t (Rd b c) e h k = absurd (cc)
gap_column_precharge t (Wr b c) e h k = absurd (cc)
gap_column_precharge t c e h k = absurd (cc)

pub gap_column_closed : (t : Timing) (c e : Command) → is_column c ≡ true → needs_closed e ≡ true → gap t c e ≤ 2
gap_column_closed t (Rd b c) RefAb h k = omega arith
gap_column_closed t (Rd b c) (RefSb d) h k = omega arith
gap_column_closed t (Rd b c) RfmAb h k = omega arith
gap_column_closed t (Rd b c) (RfmSb d) h k = omega arith
gap_column_closed t (Rd b c) (Mrw w) h k = omega arith
gap_column_closed t (Rd b c) Ecs h k = omega arith
gap_column_closed t (Wr b c) RefAb h k = omega arith
gap_column_closed t (Wr b c) (RefSb d) h k = omega arith
gap_column_closed t (Wr b c) RfmAb h k = omega arith
gap_column_closed t (Wr b c) (RfmSb d) h k = omega arith
gap_column_closed t (Wr b c) (Mrw w) h k = omega arith
gap_column_closed t (Wr b c) Ecs h k = omega arith
gap_column_closed t (Rd b c) e h k = absurd (cc)
gap_column_closed t (Wr b c) e h k = absurd (cc)
gap_column_closed t c e h k = absurd (cc)

-- ---- From a precharge, a REF or an ECS to anything

upper : (x : ℕ) (same : Bool) → max 1 (cond same (max x 0) 0) ≤ max 1 x
upper x true = omega arith
upper x false = omega arith

pub gap_precharge_any : (t : Timing) (c e : Command) → is_precharge c ≡ true → gap t c e ≤ max 1 t.nrp
gap_precharge_any t (PrePb b) e h = upper t.nrp _
gap_precharge_any t (PreSb b) e h = upper t.nrp _
gap_precharge_any t PreAb e h = upper t.nrp _
gap_precharge_any t c e h = absurd (cc)

pub gap_ref_all : (t : Timing) (c e : Command) → is_ref_all c ≡ true → gap t c e ≤ max 1 t.nrfc
gap_ref_all t RefAb e h = upper t.nrfc _
gap_ref_all t c e h = absurd (cc)

pub gap_ref_same : (t : Timing) (c e : Command) → is_ref_same c ≡ true → gap t c e ≤ max 1 t.nrfcsb
gap_ref_same t (RefSb b) e h = upper t.nrfcsb _
gap_ref_same t c e h = absurd (cc)

pub gap_scrub : (t : Timing) (c e : Command) → is_scrub c ≡ true → gap t c e ≤ max 1 t.necs
gap_scrub t Ecs e h = upper t.necs _
gap_scrub t c e h = absurd (cc)
