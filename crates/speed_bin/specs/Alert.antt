-- The alert back-off (ABO) of per-row activation counting: when ALERT_n is raised, and that an RFMab takes it back.
use Rattle.std.specs.Prelude.{ℕ, Bool, true, false, ◌&&◌, nat_le, [], ◌∷◌, Option, Some, None, is_some}
use Rattle.command_words.specs.declared.command.Command.{Command}
use Rattle.speed_bin.specs.Below.{any_below}
use Rattle.command_words.specs.Kinds.{Effect, Opens, Closes, Manages, Refreshes, Leaves, effect, is_rfm_all}
use Rattle.speed_bin.specs.Log.{Log, open_at}
use Rattle.speed_bin.specs.Counters.{cnt}
use Rattle.speed_bin.specs.declared.header.Header.{Header}

-- some row's counter is at least ATH
abbrev pub is_hot : Header → Log → Bool
is_hot h log = any_below 32 (λ b. any_below h.settings.rows (λ row. nat_le h.settings.ath (cnt h b row log)))

-- the effect closes an open row
abbrev pub closes : Effect → Option ℕ → Bool
closes Closes opened = is_some opened
closes (Opens row) opened = false
closes Manages opened = false
closes Refreshes opened = false
closes Leaves opened = false

-- the command closes an open row of some bank
abbrev pub closes_some : Command → Log → Bool
closes_some command log = any_below 32 (λ b. closes (effect b command) (open_at b log))

abbrev pub alert_after : Bool → Bool → ℕ → Option ℕ → Option ℕ
alert_after true raises clock before = None
alert_after false raises clock (Some raised) = Some raised
alert_after false true clock None = Some clock
alert_after false false clock None = None

-- the clock at which the alert was raised, if it is: that of the first place since the last RFMab that closes an open
-- row, and after which some row is hot
abbrev pub alert : Header → Log → Option ℕ
alert h [] = None
alert h (place ∷ log) = alert_after (is_rfm_all place.command) (closes_some place.command log && is_hot h (place ∷ log)) place.clock (alert h log)
