use Rattle.std.proofs.Common.{ℕ, ◌<◌, ◌∙◌, slice_index, refl, sym, rules}
use Rattle.ondie_ecc.proofs.Laid.{laid-runs}
use Rattle.ondie_ecc.proofs.Lists.{cons_eq}
use Rattle.ondie_ecc.proofs.codeword.lay.Goals as goal

pub returns : goal.returns
returns c =
    let small : (i : ℕ) → slice_index c.args.bytes.now i < 256 = search rules in
    cons_eq c.first_byte.ensures (
    cons_eq (rw (c.seven.ensures.bits, c.run.ensures.bits)) (
    cons_eq c.join.ensures (
    cons_eq (rw (c.seven-2.ensures.bits, c.run-2.ensures.bits)) (
    cons_eq c.join-2.ensures (
    cons_eq c.join-3.ensures (
    cons_eq c.join-4.ensures (
    cons_eq (rw (c.seven-3.ensures.bits, c.run-3.ensures.bits)) (
    cons_eq c.join-5.ensures (
    cons_eq c.join-6.ensures (
    cons_eq c.join-7.ensures (
    cons_eq c.join-8.ensures (
    cons_eq c.join-9.ensures (
    cons_eq c.join-10.ensures (
    cons_eq c.join-11.ensures (
    cons_eq (rw c.run-4.ensures.bits) (refl))))))))))))))))
    ∙ sym (laid-runs c.args.bytes.now c.args.check small)
