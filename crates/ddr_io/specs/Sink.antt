-- What a write takes.
use Rattle.std.specs.Prelude.{ℕ, ◌≡◌, ◌≤◌, List, ◌++◌, length, take, ⊤}
use Rattle.std.specs.declared.option.Option.{Option}
use Rattle.std.specs.Io.KnownBytes.{Appends, Keeps}
use Rattle.ddr_io.specs.Faults.{one_more_fault}
use Rattle.ddr_io.specs.declared.sink.Put.{Put}
use Rattle.ddr_io.specs.declared.sink.Put.TheVariants.{Took, Failed, NoMemory}

-- a count of bytes is at least 1, and within the piece
abbrev pub TakesAtMost : Put → List ℕ → Type 0
TakesAtMost (Took n) piece = (1 ≤ n) × (n ≤ length piece)
TakesAtMost Failed piece = ⊤
TakesAtMost NoMemory piece = ⊤

-- the first n bytes of the piece were appended, and else nothing
abbrev pub Takes : Option (List ℕ) → Option (List ℕ) → Put → List ℕ → Type 0
Takes old new (Took n) piece = Appends old new (take n piece)
Takes old new Failed piece = Keeps old new
Takes old new NoMemory piece = Keeps old new

-- a failure is counted, and nothing else is
abbrev pub CountsWrite : ℕ → ℕ → Put → Type 0
CountsWrite before after (Took n) = after ≡ before
CountsWrite before after Failed = after ≡ one_more_fault before
CountsWrite before after NoMemory = after ≡ before

-- the whole piece was appended, or there was no memory for it; it never fails
abbrev pub TakesAllOrNone : List ℕ → List ℕ → Put → List ℕ → Type 0
TakesAllOrNone old new (Took n) piece = (n ≡ length piece) × (new ≡ old ++ piece)
TakesAllOrNone old new Failed piece = ⊥
TakesAllOrNone old new NoMemory piece = new ≡ old

-- some prefix of the piece was appended
abbrev pub AppendsPrefix : Option (List ℕ) → Option (List ℕ) → List ℕ → Type 0
AppendsPrefix old new piece = (n : ℕ) × (n ≤ length piece) × Appends old new (take n piece)

-- the whole piece was appended, or else a prefix of it
abbrev pub TakesWhole : Option (List ℕ) → Option (List ℕ) → Put → List ℕ → Type 0
TakesWhole old new (Took n) piece = (n ≡ length piece) × Appends old new piece
TakesWhole old new Failed piece = AppendsPrefix old new piece
TakesWhole old new NoMemory piece = AppendsPrefix old new piece
