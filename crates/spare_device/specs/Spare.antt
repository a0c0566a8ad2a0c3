-- Five devices hold a line: four of them a part each, and the fifth the exclusive-or of the four parts. Each holds its bytes as a
-- codeword of its own. One of the five may be dead; what a reading finds then. `docs/FORMATS.md` has the same in words.
use Rattle.std.specs.Prelude.{ℕ, zero, suc, ◌≡◌, ◌*◌, ◌+◌, ◌<◌, ◌==◌, ◌&&◌, ◌++◌, Bool, true, false, List, [], ◌∷◌, slice_range, bit_xor, if◌then◌else◌}
use Rattle.ondie_ecc.specs.Bits.{turned}
use Rattle.ondie_ecc.specs.Codeword.{codeword_of}
use Rattle.ondie_ecc.specs.Repaired.{mended}
use Rattle.ondie_ecc.specs.declared.state.ReadState.{ReadState}
use Rattle.ondie_ecc.specs.declared.state.ReadState.TheVariants.{Clean}
use Rattle.error_scrub.specs.Cells.{zero_word}
use Rattle.error_scrub.specs.Changes.{Change, wrote, turns, scrubs}
use Rattle.error_scrub.specs.Reading.{data_read, state_of, worse}
use Rattle.error_scrub.specs.Tame.{is_tame}
use Rattle.error_scrub.specs.declared.cells.LineRead.{LineRead}

-- ---- What each device holds

-- the exclusive-or of two lists of bytes, place by place
abbrev pub mixed : List ℕ → List ℕ → List ℕ
mixed [] ys = []
mixed (x ∷ xs) [] = []
mixed (x ∷ xs) (y ∷ ys) = bit_xor x y ∷ mixed xs ys

-- the bytes of device d below 4: 16 * d to 16 * d + 15
abbrev pub part_of : List ℕ → ℕ → List ℕ
part_of bytes device = slice_range bytes (16 * device) (16 * device + 16)

-- the exclusive-or of the four parts
abbrev pub spare_of : List ℕ → List ℕ
spare_of bytes = mixed (mixed (part_of bytes 0) (part_of bytes 1)) (mixed (part_of bytes 2) (part_of bytes 3))

-- what a device holds of 64 bytes; device 4 is the spare
abbrev pub held_by : List ℕ → ℕ → List ℕ
held_by bytes device = if device == 4 then spare_of bytes else part_of bytes device

-- the stored word of a line and a device after these changes, of devices that were zero; the newest change stands first
abbrev pub stored_word : List Change → ℕ → ℕ → List ℕ
stored_word [] line device = zero_word
stored_word (wrote at bytes ∷ changes) line device = if line == at then codeword_of (held_by bytes device) else stored_word changes line device
stored_word (turns at of bit ∷ changes) line device =
    if line == at && device == of then turned (stored_word changes line device) bit else stored_word changes line device
stored_word (scrubs at ∷ changes) line device = if line == at then mended (stored_word changes line device) else stored_word changes line device

-- ---- Readings

-- four lists of bytes, mixed
abbrev pub mixed_four : List ℕ → List ℕ → List ℕ → List ℕ → List ℕ
mixed_four a b c d = mixed (mixed a b) (mixed c d)

-- the exclusive-or of what these words hold, but for that of the dead device, which is one of the first four
abbrev pub rebuilt : ℕ → (ℕ → List ℕ) → List ℕ
rebuilt zero part = mixed_four (part 1) (part 2) (part 3) (part 4)
rebuilt (suc zero) part = mixed_four (part 0) (part 2) (part 3) (part 4)
rebuilt (suc (suc zero)) part = mixed_four (part 0) (part 1) (part 3) (part 4)
rebuilt _ part = mixed_four (part 0) (part 1) (part 2) (part 4)

-- the part of a device: its repaired word, or where it is dead what the other three and the spare make
abbrev pub part_read : ℕ → (ℕ → List ℕ) → ℕ → List ℕ
part_read dead word device = if device == dead then rebuilt dead (λ other. data_read (word other)) else data_read (word device)

-- the state of a device's word, which does not count where the device is dead
abbrev pub live : Bool → ReadState → ReadState
live is_dead state = if is_dead then Clean else state

abbrev pub live_state : ℕ → (ℕ → List ℕ) → ℕ → ReadState
live_state dead word device = live (device == dead) (state_of (word device))

-- what a reading finds in five words, one a device, of which one is dead: the data of the line, and the worst state of the live ones
unfoldable pub read_words : ℕ → (ℕ → List ℕ) → LineRead
read_words dead word = record {
  bytes = part_read dead word 0 ++ part_read dead word 1 ++ part_read dead word 2 ++ part_read dead word 3;
  state =
      worse (worse (worse (live_state dead word 0) (live_state dead word 1)) (worse (live_state dead word 2) (live_state dead word 3)))
      (live_state dead word 4);
}

-- what a reading of a line finds after these changes where this device is dead; with device 4 dead, that of the other four alone
abbrev pub spare_reading : ℕ → List Change → ℕ → LineRead
spare_reading dead changes line = read_words dead (stored_word changes line)

-- ---- Few turned bits

-- since the line's last write, or from the start, each live device had at most one turned bit between neighbouring rewrites,
-- and at most one after the last; of the dead one nothing is said
abbrev pub IsTameBut : ℕ → List Change → ℕ → Type 0
IsTameBut dead changes line = (device : ℕ) → device < 5 → (device == dead) ≡ false → is_tame changes line device ≡ true
