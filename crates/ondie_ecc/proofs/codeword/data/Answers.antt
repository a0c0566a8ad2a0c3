use Rattle.std.proofs.Common.{ℕ, ◌<◌, ◌∙◌, slice_index, refl, sym, rules}
use Rattle.ondie_ecc.proofs.Data.{data_of-runs}
use Rattle.ondie_ecc.proofs.Lists.{cons_eq}
use Rattle.ondie_ecc.proofs.codeword.data.Goals as goal

pub returns : goal.returns
returns c =
    let small : (i : ℕ) → slice_index c.args.word.now i < 256 = search rules in
    cons_eq (rw (c.run.ensures.bits, c.run-2.ensures.bits, c.run-3.ensures.bits)) (
    cons_eq c.join.ensures (
    cons_eq c.join-2.ensures (
    cons_eq c.join-3.ensures (
    cons_eq c.join-4.ensures (
    cons_eq c.join-5.ensures (
    cons_eq c.join-6.ensures (
    cons_eq c.join-7.ensures (
    cons_eq c.join-8.ensures (
    cons_eq c.join-9.ensures (
    cons_eq c.join-10.ensures (
    cons_eq c.join-11.ensures (
    cons_eq c.join-12.ensures (
    cons_eq c.join-13.ensures (
    cons_eq c.join-14.ensures (refl)))))))))))))))
    ∙ sym (data_of-runs c.args.word.now small)
