-- The stored words that the steps of a device leave, and what its readings and its scrub find in them.
use Rattle.std.specs.Prelude.{ℕ, ◌++◌, Option, Some, None, List, [], ◌∷◌, if◌then◌else◌}
use Rattle.command_words.specs.Command.{bank_number}
use Rattle.command_words.specs.Geometry.{Shape}
use Rattle.command_words.specs.Place.{line_of}
use Rattle.command_words.specs.declared.place.Bank.{Bank}
use Rattle.command_words.specs.declared.geometry.Place.{Place}
use Rattle.command_words.specs.declared.command.Command.{Command}
use Rattle.command_words.specs.declared.command.Command.TheVariants.{Rd, Wr, Ecs}
use Rattle.speed_bin.specs.declared.header.Header.{Header}
use Rattle.command_words.specs.Kinds.{is_scrub}
use Rattle.speed_bin.specs.Log.{Log, open_at, scrubs as scrubs_in}
use Rattle.error_scrub.specs.Changes.{Change, wrote, turns, scrubs, word_after}
use Rattle.error_scrub.specs.Reading.{data_read, state_of, worse}
use Rattle.error_scrub.specs.Scrubbing.{Step as Visit, line_after, counts_of}
use Rattle.error_scrub.specs.declared.cells.LineRead.{LineRead}
use Rattle.error_scrub.specs.declared.scrub.ScrubCounts.{ScrubCounts}
use Rattle.device_core.specs.Steps.{Step, Issues, Flips, log_of}
use Rattle.speed_bin.specs.Header.{shape_of}

-- the place of a bank and a column in the open row of the bank
abbrev pub place_in : Bank → ℕ → Option ℕ → Option Place
place_in bank column (Some row) = Some (record { bank = bank; row = row; column = column })
place_in bank column None = None

-- the line of a bank and a column in the open row of the bank
abbrev pub line_in : Shape → Bank → ℕ → Option ℕ → ℕ
line_in g bank column (Some row) = line_of (record { bank = bank; row = row; column = column }) g
line_in g bank column None = 0

-- the line that a column command after a log is of
abbrev pub line_at : Header → Bank → ℕ → Log → ℕ
line_at h bank column log = line_in (shape_of h) bank column (open_at (bank_number bank) log)

-- what a command after a log does to the stored words: a WR writes the line of its bank, its column and the open row,
-- and an ECS scrubs one line after another
abbrev pub change_of : Header → Command → Option (List ℕ) → Log → Option Change
change_of h (Wr bank column) (Some bytes) log = Some (wrote (line_at h bank column log) bytes)
change_of h (Wr bank column) None log = None
change_of h Ecs bytes log = Some (scrubs (line_after (shape_of h) (scrubs_in log)))
change_of h _ bytes log = None

-- what there is, before a list
abbrev pub also : {A : Type 0} → Option A → List A → List A
also None rest = rest
also (Some first) rest = first ∷ rest

-- the writes, turned bits and scrubs of the steps
abbrev pub changes_of : Header → List Step → List Change
changes_of h [] = []
changes_of h (Issues delivered ∷ steps) = also (change_of h delivered.issued.command delivered.bytes (log_of steps)) (changes_of h steps)
changes_of h (Flips place device bit ∷ steps) = turns (line_of place (shape_of h)) device bit ∷ changes_of h steps

-- the four words of a line after these changes
abbrev pub words_after : List Change → ℕ → Visit
words_after changes line = word_after changes line 0 ∷ word_after changes line 1 ∷ word_after changes line 2 ∷ word_after changes line 3 ∷ []

-- what a reading of a line finds after these changes: the data of its four words once they are mended, and the worst of
-- their states
unfoldable pub reading : List Change → ℕ → LineRead
reading changes line = record {
  bytes =
      data_read (word_after changes line 0) ++ data_read (word_after changes line 1)
      ++ data_read (word_after changes line 2) ++ data_read (word_after changes line 3);
  state =
      worse (worse (state_of (word_after changes line 0)) (state_of (word_after changes line 1)))
      (worse (state_of (word_after changes line 2)) (state_of (word_after changes line 3)));
}

-- what the device answers to a command: to an RD the reading of its line, and else nothing
abbrev pub answer : Header → Command → List Step → Option LineRead
answer h (Rd bank column) steps = Some (reading (changes_of h steps) (line_at h bank column (log_of steps)))
answer h _ steps = None

-- the words that each ECS found, the newest first
abbrev pub visits : Header → List Step → List Visit
visits h [] = []
visits h (Issues delivered ∷ steps) = if is_scrub delivered.issued.command
    then words_after (changes_of h steps) (line_after (shape_of h) (scrubs_in (log_of steps))) ∷ visits h steps
    else visits h steps
visits h (Flips place device bit ∷ steps) = visits h steps

-- the counts of the scrub
abbrev pub scrub_counts : Header → List Step → ScrubCounts
scrub_counts h steps = counts_of (shape_of h) (visits h steps)
