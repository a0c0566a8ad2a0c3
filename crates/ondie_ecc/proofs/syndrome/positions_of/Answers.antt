-- The table is held against the definition at each of the 256 bytes, by computing.
use Rattle.std.proofs.Common.{◌≡◌, ℕ, ◌<◌, true, map, get_or, nat_lt, ltb-true, refl, ap, ◌∙◌, arith}
use Rattle.std.specs.List.{range_with_len}
use Rattle.std.proofs.lemmas.List.FromFn.{get_or-map-range_with_len}
use Rattle.ondie_ecc.specs.Codeword.{byte_syndrome_of}
use Rattle.ondie_ecc.specs.declared.syndrome.TheConstants.{POSITIONS}
use Rattle.ondie_ecc.proofs.Below.{at_below}
use Rattle.ondie_ecc.proofs.syndrome.positions_of.Goals as goal

table_is : POSITIONS ≡ map (byte_syndrome_of 1) (range_with_len 0 256)
table_is = refl

read : (b : ℕ) → b < 256 → get_or POSITIONS b 0 ≡ byte_syndrome_of 1 b
read b h =
    ap (λ t. get_or t b 0) table_is ∙ get_or-map-range_with_len (byte_syndrome_of 1) 0 256 b b 0 h (omega arith)

small : (b : ℕ) → b < 256 → nat_lt (byte_syndrome_of 1 b) 32 ≡ true
small = at_below 256 (λ b. nat_lt (byte_syndrome_of 1 b) 32) refl

pub returns-clause-positions : goal.returns-clause-positions
returns-clause-positions c = rw c.from.ensures (read c.args.byte (omega arith))

pub returns-clause-below : goal.returns-clause-below
returns-clause-below c = rw (c.from.ensures, read c.args.byte (omega arith)) (ltb-true _ _ (small c.args.byte (omega arith)))
