-- The stored words of a subchannel: four for each line, one a device.
use Rattle.std.specs.Prelude.{ℕ, ◌≡◌, ◌≢◌, ◌<◌, ◌+◌, ◌*◌, ◌==◌, ◌++◌, List, [], Some, None, replicate, slice_index_or, slice_range, if◌then◌else◌}
use Rattle.std.specs.declared.option.Option.{Option}
use Rattle.std.specs.Ordering.{nat_cmp}
use Rattle.std.specs.BTreeMap.{get}
use Rattle.command_words.specs.Geometry.{Shape, lines_of}
use Rattle.error_scrub.specs.declared.stored.Stored.{Stored}
use Rattle.error_scrub.specs.declared.stored.Stored.TheVariants.{Bytes, Words}
use Rattle.ondie_ecc.specs.Bits.{turned}
use Rattle.ondie_ecc.specs.Codeword.{codeword_of}
use Rattle.ondie_ecc.specs.Repaired.{mended}
use Rattle.error_scrub.specs.Reading.{data_read, state_of, worse}
use Rattle.error_scrub.specs.declared.cells.Cells.{Cells}
use Rattle.error_scrub.specs.declared.cells.LineRead.{LineRead}

-- the codeword of zeros
unfoldable pub zero_word : List ℕ
zero_word = codeword_of (replicate 16 0)

-- the words of 64 bytes: device d has bytes 16 * d to 16 * d + 15
abbrev pub written : List ℕ → ℕ → List ℕ
written bytes device = codeword_of (slice_range bytes (16 * device) (16 * device + 16))

-- a device's word of what is kept of a line
abbrev pub word_of : Stored → ℕ → List ℕ
word_of (Bytes bytes) device = written bytes device
word_of (Words words) device = (slice_index_or words device (record { 0 = [] })).0

-- the same where something is kept, and else the codeword of zeros
abbrev pub word_in : Option Stored → ℕ → List ℕ
word_in None device = zero_word
word_in (Some kept) device = word_of kept device

-- the stored word of a line and a device
unfoldable pub stored : Cells → ℕ → ℕ → List ℕ
stored cells line device = word_in (get nat_cmp cells.kept line) device

-- the geometry that the cells were made with
unfoldable pub cells_shape : Cells → Shape
cells_shape cells = cells.geometry

-- the words of a line, which is one of theirs, become these, and those of each other line stay
pub record ChangesLine (old new : Cells) (line : ℕ) (words : ℕ → List ℕ) : Type 0 where
  pub inside : line < lines_of (cells_shape old)
  pub shape : cells_shape new ≡ cells_shape old
  pub changed : (device : ℕ) → device < 4 → stored new line device ≡ words device
  pub others : (other device : ℕ) → other ≢ line → stored new other device ≡ stored old other device

-- each stored word stays
pub record IsUnchanged (old new : Cells) : Type 0 where
  pub shape : cells_shape new ≡ cells_shape old
  pub same : (line device : ℕ) → stored new line device ≡ stored old line device

-- the words of a line after one bit of a device is turned
abbrev pub flipped : Cells → ℕ → ℕ → ℕ → ℕ → List ℕ
flipped cells line at bit device = if device == at then turned (stored cells line device) bit else stored cells line device

-- the words of a line after a scrub
abbrev pub scrubbed : Cells → ℕ → ℕ → List ℕ
scrubbed cells line device = mended (stored cells line device)

-- what a reading of a line finds
unfoldable pub line_read : Cells → ℕ → LineRead
line_read cells line = record {
  bytes =
      data_read (stored cells line 0) ++ data_read (stored cells line 1)
      ++ data_read (stored cells line 2) ++ data_read (stored cells line 3);
  state =
      worse (worse (state_of (stored cells line 0)) (state_of (stored cells line 1)))
      (worse (state_of (stored cells line 2)) (state_of (stored cells line 3)));
}

-- what a reading finds of what is kept of a line
abbrev pub read_of : Option Stored → LineRead
read_of kept = record {
  bytes =
      data_read (word_in kept 0) ++ data_read (word_in kept 1) ++ data_read (word_in kept 2) ++ data_read (word_in kept 3);
  state =
      worse (worse (state_of (word_in kept 0)) (state_of (word_in kept 1)))
      (worse (state_of (word_in kept 2)) (state_of (word_in kept 3)));
}
