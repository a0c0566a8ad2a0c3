use Rattle.std.proofs.Common.{◌≡◌, ◌∙◌, ◌++◌, ◌∷◌, [], List, length, length-append, refl, sym, ap, subst, arith}
use Rattle.speed_bin.specs.Header.{spare}
use Rattle.row_activity.specs.Standing.{StandsFor, BankFor, bank_at}
use Rattle.row_activity.specs.declared.bank_rows.BankRows.{BankRows}
use Rattle.row_activity.proofs.BankLemmas.{pushed, fitted}
use Rattle.row_activity.proofs.activity.Activity.new.Goals as goal

pub new-requires-clause-thresholds : goal.new-requires-clause-thresholds
unfolding spare
new-requires-clause-thresholds c = let t = c.requires.checks.thresholds in let some = c.requires.version.0 in (omega (arith, t.0, some), t.1)

pub loop-preserved : goal.loop-preserved
loop-preserved c =
    let items : c.push.new.self.items ≡ c.loop.banks.items ++ c.in_ok-rows.rows ∷ [] = c.push.ensures.items ∙ fitted c.push.result _ _ c.if-is_err.ensures.value in
    let long = c.loop.invariant.long in
    let appended = length-append c.loop.banks.items (c.in_ok-rows.rows ∷ []) in
    record {
      long = ap (λ (xs : List BankRows). length xs) items ∙ (omega (arith, long, appended));
      fresh = λ b low. subst (λ (xs : List BankRows). BankFor (bank_at xs b) c.args.header.now b []) (sym items)
          (pushed c.loop.banks.items c.in_ok-rows.rows c.args.header.now c.loop.counter long c.loop.invariant.fresh (c.in_ok-rows.ensures c.args.header.now c.loop.counter refl refl) b low);
    }

pub returns : goal.returns
unfolding StandsFor
returns c =
    let end = c.loop-test.false in
    let last = c.loop.auto.counter-end in
    let long = c.loop.invariant.long in
    record {
      accepted = c.requires;
      counted = tt;
      banks = omega (arith, end, last, long);
      counts = λ b low. c.loop.invariant.fresh b (omega (arith, end, low));
      alert = c.new-2.ensures.log c.args.header.now;
      peak = refl;
    }
