-- What a repair answers.
use Rattle.std.specs.Prelude.{ℕ, ◌≡◌, ◌<◌, ◌≤◌, ◌-◌, List, ◌==◌, nat_le, if◌then◌else◌}
use Rattle.ondie_ecc.specs.declared.codeword.Repaired.{Repaired}
use Rattle.ondie_ecc.specs.declared.codeword.Repaired.TheVariants.{Clean, Fixed, Lost}
use Rattle.ondie_ecc.specs.Bits.{turned}
use Rattle.ondie_ecc.specs.Codeword.{data_of, syndrome_of}

-- the word with the bit turned at the position that a syndrome of 1 to 136 names
unfoldable pub mended : List ℕ → List ℕ
mended word =
    if syndrome_of word == 0 then word
    else if nat_le (syndrome_of word) 136 then turned word (syndrome_of word - 1)
    else word

-- clean at syndrome 0, fixed at 1 to 136, lost above
unfoldable pub repaired_of : List ℕ → Repaired
repaired_of word =
    if syndrome_of word == 0 then Clean (data_of word)
    else if nat_le (syndrome_of word) 136 then Fixed (data_of (mended word)) (syndrome_of word)
    else Lost (data_of word) (syndrome_of word)

-- what the answer says of the word: the bytes are those of the mended word, and the syndrome decides
abbrev pub Mends : List ℕ → Repaired → Type 0
Mends word (Clean bytes) = (bytes ≡ data_of (mended word)) × (mended word ≡ word) × (syndrome_of word ≡ 0)
Mends word (Fixed bytes position) =
    (bytes ≡ data_of (mended word)) × (mended word ≡ turned word (position - 1)) × (syndrome_of word ≡ position)
    × (1 ≤ position) × (position ≤ 136)
Mends word (Lost bytes syndrome) =
    (bytes ≡ data_of (mended word)) × (mended word ≡ word) × (syndrome_of word ≡ syndrome) × (136 < syndrome)
