-- What a read gives.
use Rattle.std.specs.Prelude.{ℕ, ◌≡◌, ◌≤◌, List, [], ◌∷◌, length, take, min, ⊤}
use Rattle.std.specs.declared.option.Option.{Option}
use Rattle.std.specs.Io.KnownBytes.{Consumes, Keeps, IsAtEnd}
use Rattle.ddr_io.specs.Faults.{one_more_fault}
use Rattle.ddr_io.specs.declared.source.Got.{Got}
use Rattle.ddr_io.specs.declared.source.Got.TheVariants.{Bytes, End, Failed}

-- a count of bytes is at least 1, and within the buffer
abbrev pub GivesAtMost : Got → List ℕ → Type 0
GivesAtMost (Bytes n) buf = (1 ≤ n) × (n ≤ length buf)
GivesAtMost End buf = ⊤
GivesAtMost Failed buf = ⊤

-- the first n bytes left went into the buffer; none is left at the end; a failure takes none
abbrev pub Gives : Option (List ℕ) → Option (List ℕ) → Got → List ℕ → Type 0
Gives old new (Bytes n) buf = Consumes old new (take n buf)
Gives old new End buf = IsAtEnd old × Keeps old new
Gives old new Failed buf = Keeps old new

-- a failure is counted, and nothing else is
abbrev pub CountsRead : ℕ → ℕ → Got → Type 0
CountsRead before after (Bytes n) = after ≡ before
CountsRead before after End = after ≡ before
CountsRead before after Failed = after ≡ one_more_fault before

-- the answer of a read that gives as many of these bytes as have room
abbrev pub got_of : List ℕ → ℕ → Got
got_of [] room = End
got_of (b ∷ bytes) room = Bytes (min (length (b ∷ bytes)) room)
