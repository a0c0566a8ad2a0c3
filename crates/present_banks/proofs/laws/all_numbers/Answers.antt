use Rattle.present_banks.proofs.AllNumbers.{all_alerts, all_pages, all_rules, all_rules_at_end, all_verdicts, all_verdicts_at_end}
use Rattle.present_banks.proofs.laws.all_numbers.Goals as goal

pub returns : goal.returns
returns c = record {
  at_a_place = all_rules;
  at_the_end = all_rules_at_end;
  verdict = all_verdicts;
  verdict_at_the_end = all_verdicts_at_end;
  alert = all_alerts;
  open_page = all_pages;
}
