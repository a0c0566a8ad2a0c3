-- What a command keeps that breaks no rule.
use Rattle.std.proofs.Common.{◌≡◌, ℕ, true}
use Rattle.bank_state.specs.Standing.{Fits}
use Rattle.command_words.specs.declared.command.Command.{Command}
use Rattle.refresh_plan.specs.Standing.{IsAllowed}
use Rattle.row_activity.specs.Counted.{MayCount}
use Rattle.speed_bin.proofs.Audits.{all_pass}
use Rattle.speed_bin.specs.Log.{Log}
use Rattle.speed_bin.specs.Rules.{MayFollow, rule_9, rules_at}
use Rattle.speed_bin.specs.declared.header.Header.{Header}
use Rattle.legality.specs.Standing.{MayTake}

pub spaced : (h : Header) (clock : ℕ) (command : Command) (log : Log) → MayTake h clock command log → MayFollow h.timing clock command log
spaced h clock command log may =
    let k = all_pass 1 (rules_at h clock command log) may.fine in
    record { rises = k.0; gaps = k.1.0; window = k.1.1.0 }

pub fits : (h : Header) (clock : ℕ) (command : Command) (log : Log) → MayTake h clock command log → Fits command log
fits h clock command log may =
    let k = all_pass 1 (rules_at h clock command log) may.fine in
    record { fourth = k.1.1.1.0; fifth = k.1.1.1.1.0 }

pub allowed : (h : Header) (clock : ℕ) (command : Command) (log : Log) → MayTake h clock command log → IsAllowed h clock command log
allowed h clock command log may =
    let k = all_pass 1 (rules_at h clock command log) may.fine in
    record { refreshes_in_time = k.1.1.1.1.1.0; refreshes_evenly = k.1.1.1.1.1.1.0; scrubs_in_step = k.1.1.1.1.1.1.1.0 }

pub counted : (h : Header) (clock : ℕ) (command : Command) (log : Log) → MayTake h clock command log → rule_9 h command log ≡ true
counted h clock command log may =
    let k = all_pass 1 (rules_at h clock command log) may.fine in
    k.1.1.1.1.1.1.1.1.0

pub may_count : (h : Header) (clock : ℕ) (command : Command) (log : Log) → MayTake h clock command log → MayCount h clock command log
may_count h clock command log may =
    let k = all_pass 1 (rules_at h clock command log) may.fine in
    record {
      in_time = may.in_time;
      in_range = may.in_range;
      kept = record { in_range = may.inside; first = k.0; second = k.1.0; fourth = k.1.1.1.0; fifth = k.1.1.1.1.0; twelfth = k.1.1.1.1.1.1.1.1.1.1.1.0 };
    }
