-- Row counters (per-row activation counting, PRAC): how often a row was closed since its last mitigation, which row an
-- RFM mitigates, and how often a row was activated since.
use Rattle.std.specs.Prelude.{ℕ, suc, ◌+◌, Bool, false, ◌&&◌, ◌||◌, ◌==◌, nat_lt, nat_le, if◌then◌else◌, List, [], ◌∷◌, length, slice_set, slice_index_or, Option, Some, None, replicate}
use Rattle.std.specs.List.{list_any}
use Rattle.command_words.specs.Kinds.{Effect, Opens, Closes, Manages, Refreshes, Leaves, effect}
use Rattle.speed_bin.specs.Log.{Log, open_at}
use Rattle.speed_bin.specs.declared.header.Header.{Header}

-- how often a row was closed since its last mitigation, and the number of the place that last closed or mitigated it
pub record Counter : Type 0 where
  pub count : ℕ
  pub stamp : ℕ

-- the first comes before the second as the tracked row: it has a greater count, or the same and an older stamp
abbrev pub is_ahead : Counter → Counter → Bool
is_ahead c d = nat_lt d.count c.count || (c.count == d.count && nat_lt c.stamp d.stamp)

-- the tracked row of a bank: the least row that no other is ahead of
abbrev pub tracked : List Counter → ℕ
tracked [] = 0
tracked (c ∷ cs) = if list_any (λ d. is_ahead d c) cs then suc (tracked cs) else 0

abbrev pub count_of : List Counter → ℕ → ℕ
count_of cs row = (slice_index_or cs row (record { count = 0; stamp = 0 })).count

-- the row that an effect mitigates, with the counters before it: an RFM takes the tracked row, if its counter is at
-- least ETH
abbrev pub mitigated : Header → Effect → List Counter → Option ℕ
mitigated h Manages cs = if nat_le h.settings.eth (count_of cs (tracked cs)) then Some (tracked cs) else None
mitigated h (Opens row) cs = None
mitigated h Closes cs = None
mitigated h Refreshes cs = None
mitigated h Leaves cs = None

abbrev pub is_row : Option ℕ → ℕ → Bool
is_row None row = false
is_row (Some r) row = r == row

-- the counters after the place with this number: of the row that it mitigates, and of the row that it closes
abbrev pub after_mitigation : ℕ → Option ℕ → List Counter → List Counter
after_mitigation place None cs = cs
after_mitigation place (Some row) cs = slice_set cs row (record { count = 0; stamp = place })

abbrev pub after_close : ℕ → Option ℕ → List Counter → List Counter
after_close place None cs = cs
after_close place (Some row) cs = slice_set cs row (record { count = count_of cs row + 1; stamp = place })

abbrev pub counters_after : Header → ℕ → Effect → Option ℕ → List Counter → List Counter
counters_after h place Closes opened cs = after_close place opened cs
counters_after h place Manages opened cs = after_mitigation place (mitigated h Manages cs) cs
counters_after h place (Opens row) opened cs = cs
counters_after h place Refreshes opened cs = cs
counters_after h place Leaves opened cs = cs

-- the counters of the bank's rows
abbrev pub counters : Header → ℕ → Log → List Counter
counters h b [] = replicate h.settings.rows (record { count = 0; stamp = 0 })
counters h b (place ∷ log) = counters_after h (suc (length log)) (effect b place.command) (open_at b log) (counters h b log)

-- the counter of a row
abbrev pub cnt : Header → ℕ → ℕ → Log → ℕ
cnt h b row log = count_of (counters h b log) row

-- ---- Activations since mitigation, that of an open row among them

abbrev pub acts_after : Header → ℕ → Effect → List Counter → ℕ → ℕ
acts_after h row (Opens r) cs before = if r == row then suc before else before
acts_after h row Manages cs before = if is_row (mitigated h Manages cs) row then 0 else before
acts_after h row Closes cs before = before
acts_after h row Refreshes cs before = before
acts_after h row Leaves cs before = before

-- how often a row was activated since its last mitigation
abbrev pub acts : Header → ℕ → ℕ → Log → ℕ
acts h b row [] = 0
acts h b row (place ∷ log) = acts_after h row (effect b place.command) (counters h b log) (acts h b row log)
