-- The next line of some bytes.
use Rattle.std.specs.Prelude.{ℕ, ◌≡◌, ◌≢◌, ◌≤◌, ◌<◌, List, [], ◌∷◌, ◌++◌, length, take, slice_index, All, Contains, Some, None, ⊤}
use Rattle.std.specs.declared.option.Option.{Option}
use Rattle.std.specs.Io.KnownBytes.{Consumes, Keeps, IsAtEnd, prepend_known}
use Rattle.ddr_io.specs.declared.line_reader.Line.{Line}
use Rattle.ddr_io.specs.declared.line_reader.Line.TheVariants.{Text, End, TooLong, Unended, Failed}

-- the byte of a line feed
abbrev pub line_feed : ℕ
line_feed = 10

-- some byte is a line feed
abbrev pub HasFeed : List ℕ → Type 0
HasFeed xs = Contains xs line_feed

-- no byte is a line feed
abbrev pub HasNoFeed : List ℕ → Type 0
HasNoFeed xs = All (λ x. x ≢ line_feed) xs

-- the first line feed stands at this place
abbrev pub IsFeedAt : List ℕ → ℕ → Type 0
IsFeedAt xs at = (at < length xs) × (slice_index xs at ≡ line_feed) × HasNoFeed (take at xs)

-- the next bytes of a reader: those that it holds, and then those that its source has left
abbrev pub next_bytes : List ℕ → Option (List ℕ) → Option (List ℕ)
next_bytes held left = prepend_known held left

-- what a reader without a line feed took from its source: bytes that leave it without one, and then what one read gave, into the 4096 bytes of its room
unfoldable pub TakesToFeed : List ℕ → Option (List ℕ) → Option (List ℕ) → Type 0
TakesToFeed held left rest = (earlier : List ℕ) × (last : List ℕ) × HasNoFeed (held ++ earlier) × (length last ≤ 4096) × Consumes left rest (earlier ++ last)

-- the next 512 bytes hold no line feed
abbrev pub IsTooLong : Option (List ℕ) → Type 0
IsTooLong None = ⊤
IsTooLong (Some xs) = (512 ≤ length xs) × HasNoFeed (take 512 xs)

-- at least one and at most 511 bytes are left, none of them a line feed
abbrev pub IsUnended : Option (List ℕ) → Type 0
IsUnended None = ⊤
IsUnended (Some xs) = (1 ≤ length xs) × (length xs < 512) × HasNoFeed xs

-- an answer, by the next bytes before and after it: only a line takes bytes
abbrev pub IsNextLine : Option (List ℕ) → Option (List ℕ) → List ℕ → Line → Type 0
IsNextLine old new line Text = (length line < 512) × HasNoFeed line × Consumes old new (line ++ line_feed ∷ [])
IsNextLine old new line End = IsAtEnd old × Keeps old new
IsNextLine old new line TooLong = IsTooLong old × Keeps old new
IsNextLine old new line Unended = IsUnended old × Keeps old new
IsNextLine old new line Failed = Keeps old new

-- where no line came from a source that told its bytes: the 512 bytes of a line that is too long are held, and at the end the source has none left
abbrev pub StopsAt : Option (List ℕ) → List ℕ → Option (List ℕ) → Line → Type 0
StopsAt None held rest answer = ⊤
StopsAt (Some bytes) held rest Text = ⊤
StopsAt (Some bytes) held rest End = IsAtEnd rest
StopsAt (Some bytes) held rest TooLong = 512 ≤ length held
StopsAt (Some bytes) held rest Unended = IsAtEnd rest
StopsAt (Some bytes) held rest Failed = ⊤
