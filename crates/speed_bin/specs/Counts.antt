-- The counts of a report that its log alone decides: the S lines of `docs/FORMATS.md` but for those of the scrub.
use Rattle.std.specs.Prelude.{ℕ, suc, Bool, ◌&&◌, if◌then◌else◌, [], ◌∷◌, count_by, max, is_none, is_some}
use Rattle.command_words.specs.Command.{bank_number}
use Rattle.command_words.specs.declared.command.Command.{Command}
use Rattle.command_words.specs.declared.command.Command.TheVariants.{Act}
use Rattle.command_words.specs.Kinds.{is_act, is_rd, is_wr, is_precharge, is_ref_all, is_ref_same, is_rfm_all, is_rfm_same, is_scrub}
use Rattle.speed_bin.specs.Log.{Log}
use Rattle.speed_bin.specs.Counters.{acts}
use Rattle.speed_bin.specs.Alert.{alert}
use Rattle.speed_bin.specs.declared.header.Header.{Header}

-- how many commands are of a kind
abbrev pub commands : (Command → Bool) → Log → ℕ
commands kind log = count_by (λ place. kind place.command) log

-- how often ALERT_n was raised: at how many places it is raised, and was not before them
abbrev pub alerts : Header → Log → ℕ
alerts h [] = 0
alerts h (place ∷ log) = if is_none (alert h log) && is_some (alert h (place ∷ log)) then suc (alerts h log) else alerts h log

-- the activations of the row that an ACT opens, with this one; 0 of any other command
abbrev pub acts_opened : Header → Command → Log → ℕ
acts_opened h (Act bank row) log = acts h (bank_number bank) row log
acts_opened h _ log = 0

-- the greatest number of activations of a row since its last mitigation, of all banks, rows and places: an ACT alone
-- raises such a number
abbrev pub peak : Header → Log → ℕ
peak h [] = 0
peak h (place ∷ log) = max (acts_opened h place.command (place ∷ log)) (peak h log)

pub record LogCounts : Type 0 where
  pub act : ℕ
  pub rd : ℕ
  pub wr : ℕ
  -- precharges of all three forms
  pub pre : ℕ
  pub refab : ℕ
  pub refsb : ℕ
  pub rfmab : ℕ
  pub rfmsb : ℕ
  pub ecs : ℕ
  pub alert : ℕ
  pub peak : ℕ

abbrev pub log_counts : Header → Log → LogCounts
log_counts h log = record {
  act = commands is_act log;
  rd = commands is_rd log;
  wr = commands is_wr log;
  pre = commands is_precharge log;
  refab = commands is_ref_all log;
  refsb = commands is_ref_same log;
  rfmab = commands is_rfm_all log;
  rfmsb = commands is_rfm_same log;
  ecs = commands is_scrub log;
  alert = alerts h log;
  peak = peak h log;
}
