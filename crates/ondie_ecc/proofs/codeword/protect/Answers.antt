use Rattle.std.proofs.Common.{◌≡◌, ◌∙◌, ℕ, ◌<◌, length, slice_index, ap, rules}
use Rattle.ondie_ecc.specs.Codeword.{codeword_of, laid, syndrome_of}
use Rattle.ondie_ecc.proofs.Checks.{data_of-codeword, syndrome_of-codeword}
use Rattle.ondie_ecc.proofs.codeword.protect.Goals as goal

value : (c : goal.After-lay) → c.lay.result ≡ codeword_of c.args.bytes
unfolding codeword_of
value c =
    let check : c.syndrome-check.result ≡ syndrome_of (laid c.args.bytes 0) = c.syndrome-check.ensures ∙ ap syndrome_of c.lay-unchecked.ensures in
    c.lay.ensures ∙ ap (laid c.args.bytes) check

pub returns-clause-value : goal.returns-clause-value
returns-clause-value c = value c

pub returns-clause-data : goal.returns-clause-data
returns-clause-data c =
    let small : (i : ℕ) → slice_index c.args.bytes i < 256 = search rules in
    let counted : length c.args.bytes ≡ 16 = search rules in
    rw (value c) (data_of-codeword c.args.bytes (record { counted = counted; small = small }))

pub returns-clause-syndrome : goal.returns-clause-syndrome
returns-clause-syndrome c = rw (value c) (syndrome_of-codeword c.args.bytes)
