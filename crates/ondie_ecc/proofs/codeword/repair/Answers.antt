use Rattle.std.proofs.Common.{◌≡◌, ℕ, ◌≤◌, ◌<◌, ◌∙◌, ap, sym, arith}
use Rattle.ondie_ecc.specs.Codeword.{data_of, syndrome_of}
use Rattle.ondie_ecc.specs.declared.codeword.Repaired.TheVariants.{Clean, Fixed, Lost}
use Rattle.ondie_ecc.proofs.LawLemmas.{mended-clean, mended-fixed, mended-lost, repaired_of-clean, repaired_of-fixed, repaired_of-lost}
use Rattle.ondie_ecc.proofs.codeword.repair.Goals as goal

pub returns-in-0 : goal.returns-in-0
returns-in-0 c =
    let none : syndrome_of c.args.word.0 ≡ 0 = sym c.syndrome-syndrome.ensures ∙ c.in-0.is in
    let stays = mended-clean c.args.word.0 none in
    record {
      value = ap Clean c.data.ensures ∙ sym (repaired_of-clean c.args.word.0 none);
      mends = (c.data.ensures ∙ ap data_of (sym stays), stays, none);
    }

pub returns-in-1-to-136 : goal.returns-in-1-to-136
returns-in-1-to-136 c =
    let k : ℕ = c.syndrome-syndrome.result in
    let is : syndrome_of c.args.word.0 ≡ k = sym c.syndrome-syndrome.ensures in
    let least : 1 ≤ k = omega arith in
    let near : k ≤ 136 = omega arith in
    let turns = mended-fixed c.args.word.0 k is least near in
    let bytes = c.data-in-1-to-136.ensures ∙ ap data_of c.flip.ensures in
    record {
      value = ap (λ d. Fixed d k) bytes ∙ sym (repaired_of-fixed c.args.word.0 k is least near);
      mends = (bytes ∙ ap data_of (sym turns), turns, is, least, near);
    }

pub returns-in_default : goal.returns-in_default
returns-in_default c =
    let k : ℕ = c.syndrome-syndrome.result in
    let is : syndrome_of c.args.word.0 ≡ k = sym c.syndrome-syndrome.ensures in
    let far : 136 < k = omega arith in
    let stays = mended-lost c.args.word.0 k is far in
    record {
      value = ap (λ d. Lost d k) c.data-in_default.ensures ∙ sym (repaired_of-lost c.args.word.0 k is far);
      mends = (c.data-in_default.ensures ∙ ap data_of (sym stays), stays, is, far);
    }
