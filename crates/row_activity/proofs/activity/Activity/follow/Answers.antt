use Rattle.std.proofs.Common.{◌∙◌, ◌∷◌, ◌<◌, ℕ, length, length-set, refl, sym, ap, subst, arith}
use Rattle.command_words.specs.Command.{bank_number}
use Rattle.command_words.specs.Kinds.{effect}
use Rattle.row_activity.specs.Standing.{StandsFor, MayTouch, BankFor, touch_of}
use Rattle.row_activity.specs.declared.bank_rows.BankRows.{BankRows}
use Rattle.row_activity.proofs.RowLemmas.{all_banks, may_touch, opened_at}
use Rattle.row_activity.proofs.BankLemmas.{element, one_further, set_elsewhere}
use Rattle.row_activity.proofs.activity.Activity.follow.Goals as goal

pub loop-number-init : goal.loop-number-init
loop-number-init c = record {
  alert = refl;
  peak = refl;
  long = all_banks c.args.self.now c.args.open_rows.now c.args.clock c.args.command.now c.requires;
  done = λ h log stands rows here same b low. absurd (omega arith);
  left = λ b low. refl;
}

pub follow-requires : goal.follow-requires
unfolding StandsFor
follow-requires c =
    let long = c.loop-number.invariant.long in
    let test = c.loop-number-test.true in
    let read = element c.loop-number.self.banks.items c.args.self.now.banks.items c.index_mut.result.now c.from.result c.loop-number.number c.from.ensures (omega arith) c.index_mut.ensures.value
    (c.loop-number.invariant.left c.loop-number.number (omega arith)) in
    subst (λ (x : BankRows). MayTouch c.of-touch.result c.open_row-open_row.result x.counts) (sym read)
    (may_touch c.bound.ensures.bounded c.may_change.ensures.close c.may_change.ensures.mitigate (record { close = c.holds_by_some_log.ensures.close; mitigate = c.holds_by_some_log.ensures.mitigate })
    c.args.self.now c.args.open_rows.now c.args.clock c.args.command.now c.loop-number.number c.of-touch.result c.open_row-open_row.result test c.requires
    (λ log stands. opened_at c.args.open_rows.now c.open_row-open_row.result (bank_number c.numbered-bank.result) c.loop-number.number log c.open_row-open_row.ensures c.numbered-bank.ensures stands))

pub loop-number-preserved : goal.loop-number-preserved
unfolding StandsFor
loop-number-preserved c =
    let long = c.loop-number.invariant.long in
    let test = c.loop-number-test.true in
    let inside : c.loop-number.number < length c.loop-number.self.banks.items = omega arith in
    let read = element c.loop-number.self.banks.items c.args.self.now.banks.items c.index_mut.result.now c.from.result c.loop-number.number c.from.ensures inside c.index_mut.ensures.value
    (c.loop-number.invariant.left c.loop-number.number (omega arith)) in
    record {
      alert = c.loop-number.invariant.alert;
      peak = c.loop-number.invariant.peak;
      long = length-set _ _ _ ∙ long;
      done = λ h log stands rows here same b low. rw c.from.ensures (one_further c.loop-number.self.banks.items c.loop-number.number b c.follow.new.self h (record { clock = c.args.clock; command = c.args.command.now } ∷ log) inside
          (c.loop-number.invariant.done h log stands rows here same)
          (c.follow.ensures h c.loop-number.number c.args.clock c.args.command.now log
          (subst (λ (x : BankRows). BankFor x h c.loop-number.number log) (sym read) (stands.counts c.loop-number.number test)) same
          (c.of-touch.ensures ∙ ap (λ (n : ℕ). touch_of (effect n c.args.command.now)) c.numbered-bank.ensures)
          (opened_at c.args.open_rows.now c.open_row-open_row.result (bank_number c.numbered-bank.result) c.loop-number.number log c.open_row-open_row.ensures c.numbered-bank.ensures rows)) low);
      left = λ b high. rw c.from.ensures (set_elsewhere c.loop-number.self.banks.items c.loop-number.number b c.follow.new.self (λ e. absurd (omega (arith, e, high))) ∙ c.loop-number.invariant.left b (omega (arith, high)));
    }
