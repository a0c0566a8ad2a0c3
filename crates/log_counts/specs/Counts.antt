-- What the commands of a log come to so far.
use Rattle.std.specs.Prelude.{ℕ, ◌+◌, ◌<◌, ◌^◌, Bool, true, false, ◌&&◌, not, is_some}
use Rattle.command_words.specs.declared.command.Command.{Command}
use Rattle.speed_bin.specs.Alert.{alert}
use Rattle.speed_bin.specs.Counts.{LogCounts, commands, alerts, peak}
use Rattle.command_words.specs.Kinds.{is_act, is_rd, is_wr, is_precharge, is_ref_all, is_ref_same, is_rfm_all, is_rfm_same, is_scrub}
use Rattle.speed_bin.specs.Log.{Log}
use Rattle.speed_bin.specs.declared.header.Header.{Header}
use Rattle.log_counts.specs.declared.counts.Counts.{Counts}

-- the counts of a log
unfoldable pub counts_of : Header → Log → Counts
counts_of h log = record {
  act = commands is_act log;
  rd = commands is_rd log;
  wr = commands is_wr log;
  pre = commands is_precharge log;
  refab = commands is_ref_all log;
  refsb = commands is_ref_same log;
  rfmab = commands is_rfm_all log;
  rfmsb = commands is_rfm_same log;
  ecs = commands is_scrub log;
  alerts = alerts h log;
  is_raised = is_some (alert h log);
}

-- ---- One command more

abbrev pub one_more : Bool → ℕ → ℕ
one_more true n = n + 1
one_more false n = n

-- the alert is raised after it, or is not
abbrev pub with_alert : Bool → Counts → Counts
with_alert raised counts = record counts { alerts = one_more (raised && not counts.is_raised) counts.alerts; is_raised = raised }

-- it is one of its kind more
abbrev pub with_command : Command → Counts → Counts
with_command command counts = record {
  act = one_more (is_act command) counts.act;
  rd = one_more (is_rd command) counts.rd;
  wr = one_more (is_wr command) counts.wr;
  pre = one_more (is_precharge command) counts.pre;
  refab = one_more (is_ref_all command) counts.refab;
  refsb = one_more (is_ref_same command) counts.refsb;
  rfmab = one_more (is_rfm_all command) counts.rfmab;
  rfmsb = one_more (is_rfm_same command) counts.rfmsb;
  ecs = one_more (is_scrub command) counts.ecs;
  alerts = counts.alerts;
  is_raised = counts.is_raised;
}

-- as few as the commands of a log
pub record AreFew (counts : Counts) : Type 0 where
  pub act : counts.act < 2 ^ 48
  pub rd : counts.rd < 2 ^ 48
  pub wr : counts.wr < 2 ^ 48
  pub pre : counts.pre < 2 ^ 48
  pub refab : counts.refab < 2 ^ 48
  pub refsb : counts.refsb < 2 ^ 48
  pub rfmab : counts.rfmab < 2 ^ 48
  pub rfmsb : counts.rfmsb < 2 ^ 48
  pub ecs : counts.ecs < 2 ^ 48

-- ---- The end

-- with the peak they are those that end a report
abbrev pub with_peak : Counts → ℕ → LogCounts
with_peak counts peak = record {
  act = counts.act;
  rd = counts.rd;
  wr = counts.wr;
  pre = counts.pre;
  refab = counts.refab;
  refsb = counts.refsb;
  rfmab = counts.rfmab;
  rfmsb = counts.rfmsb;
  ecs = counts.ecs;
  alert = counts.alerts;
  peak = peak;
}
