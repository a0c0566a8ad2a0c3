-- What comes next in some bytes, in words of their parts: the lines, and then what has no line feed behind it.
use Rattle.std.specs.Prelude.{ℕ, ◌≡◌, ◌≤◌, true, false, List, [], ◌∷◌, length, Some}
use Rattle.std.specs.declared.option.Option.{Option}
use Rattle.ddr_io.specs.Line.{IsNextLine}
use Rattle.ddr_io.specs.declared.line_reader.Line.TheVariants.{Text, End, TooLong, Unended}
use Rattle.ddr_text.specs.Opening.{is_long, parts_of}

pub record LinesAreParts : Type 0 where
  -- a line is the first part, and the other parts are those of what follows it
  pub line : (bytes rest text : List ℕ) → IsNextLine (Some bytes) (Some rest) text Text
      → (next : List ℕ) × (more : List (List ℕ)) × (parts_of bytes ≡ text ∷ next ∷ more) × (parts_of rest ≡ next ∷ more) × (is_long text ≡ false)
  -- where there is no line feed in the next 512 bytes, the first part is long
  pub too_long : (bytes text : List ℕ) (left : Option (List ℕ)) → IsNextLine (Some bytes) left text TooLong
      → (part : List ℕ) × (more : List (List ℕ)) × (parts_of bytes ≡ part ∷ more) × (is_long part ≡ true)
  -- bytes without their line feed are the one part
  pub unended : (bytes text : List ℕ) (left : Option (List ℕ)) → IsNextLine (Some bytes) left text Unended
      → (parts_of bytes ≡ bytes ∷ []) × (1 ≤ length bytes) × (is_long bytes ≡ false)
  -- no bytes are one part without a byte
  pub at_end : (bytes text : List ℕ) (left : Option (List ℕ)) → IsNextLine (Some bytes) left text End → parts_of bytes ≡ [] ∷ []
