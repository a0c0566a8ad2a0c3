-- How a trace is read: what is found, by the bytes before and after it.
use Rattle.std.specs.Prelude.{ℕ, ⊤, ◌≡◌, ◌+◌, ◌<◌, ◌≤◌, List, [], ◌∷◌, ◌++◌, length, sum, IfSome, Some, None}
use Rattle.std.specs.declared.option.Option.{Option}
use Rattle.command_words.specs.Geometry.{Shape}
use Rattle.std.specs.Io.KnownBytes.{Keeps}
use Rattle.ddr_io.specs.Line.{HasNoFeed}
use Rattle.ddr_io.specs.declared.line_reader.Line.{Line}
use Rattle.ddr_io.specs.declared.line_reader.Line.TheVariants.{Text}
use Rattle.ddr_text.specs.Opening.{parts_of}
use Rattle.ddr_text.specs.declared.lines.TraceLine.{TraceLine}
use Rattle.ddr_text.specs.declared.lines.TraceLine.TheVariants.{Read, Write, Flip, Idle}
use Rattle.ondie_ecc.specs.Bits.{IsBytes}
use Rattle.reports.specs.Barriers.{idle_clocks}
use Rattle.reports.specs.Delivered.{IsInside}
use Rattle.trace_replay.specs.Job.{MOST, clocks_of, trace_from, trace_of, ended, refused_behind}
use Rattle.trace_replay.specs.declared.replay_state.Ahead.{Ahead}
use Rattle.trace_replay.specs.declared.replay_state.Ahead.TheVariants.{Unknown, NextLine, Passes, End as EndAhead, Refused as RefusedAhead}
use Rattle.trace_replay.specs.declared.trace_lines.Next.{Next}
use Rattle.trace_replay.specs.declared.trace_lines.Next.TheVariants.{Found, End, Refused}
use Rattle.trace_replay.specs.declared.trace_lines.Tally.{Tally}

-- what these lines come to
pub record IsTally (tally : Tally) (trace : List TraceLine) : Type 0 where
  pub lines : length trace ≡ tally.lines
  pub clocks : sum (idle_clocks trace) ≡ tally.clocks

-- From the one bytes to the others these lines were read, behind these: whatever follows the bytes that were taken makes the
-- same trace behind the longer list.
abbrev pub Continues : Shape → List TraceLine → Option (List ℕ) → List TraceLine → Option (List ℕ) → Type 0
Continues g trace None longer new = ⊤
Continues g trace (Some bytes) longer None = ⊥
Continues g trace (Some bytes) longer (Some rest) =
    (taken : List ℕ) × (bytes ≡ taken ++ rest) × ((more : List ℕ) → trace_from g trace (parts_of (taken ++ more)) ≡ trace_from g longer (parts_of more))

-- no known byte is left, and the trace ends
abbrev pub Ends : Shape → List TraceLine → Option (List ℕ) → Option (List ℕ) → Type 0
Ends g trace None new = ⊤
Ends g trace (Some bytes) new = (trace_from g trace (parts_of bytes) ≡ ended trace) × (new ≡ Some [])

-- the bytes of a line are bytes
abbrev pub HasBytes : TraceLine → Type 0
HasBytes (Write line bytes) = IsBytes 64 bytes
HasBytes (Read line) = ⊤
HasBytes (Flip line device bit) = ⊤
HasBytes (Idle clocks) = ⊤

-- the line may stand behind the others
pub record IsMore (g : Shape) (tally : Tally) (line : TraceLine) : Type 0 where
  pub inside : IsInside g line
  pub few : tally.lines < MOST
  pub idle : tally.clocks + clocks_of line ≤ 4294967296

-- what comes next behind some lines of a trace
abbrev pub IsNext : Shape → List TraceLine → Option (List ℕ) → Option (List ℕ) → Next → Type 0
IsNext g trace old new (Found line) = Continues g trace old (trace ++ line ∷ []) new
IsNext g trace old new End = Ends g trace old new
IsNext g trace old new (Refused reason) = IfSome old (λ bytes. trace_from g trace (parts_of bytes) ≡ refused_behind trace reason)

-- a line that was found may stand there
abbrev pub MayStand : Shape → Tally → Next → Type 0
MayStand g tally (Found line) = IsMore g tally line
MayStand g tally End = ⊤
MayStand g tally (Refused reason) = ⊤

-- behind a line the reader goes on
abbrev pub GoesOn : Line → Next → Type 0
GoesOn last (Found line) = last ≡ Text
GoesOn last End = ⊤
GoesOn last (Refused reason) = ⊤

-- ---- From the start

-- the lines of the trace so far were read, and the line ahead
abbrev pub IsRead : Shape → List TraceLine → Ahead → Option (List ℕ) → Option (List ℕ) → Type 0
IsRead g trace Unknown start left = Continues g [] start trace left
IsRead g trace (NextLine line) start left = Continues g [] start (trace ++ line ∷ []) left
IsRead g trace (Passes clocks) start left = Continues g [] start (trace ++ Idle clocks ∷ []) left
IsRead g trace EndAhead start left = IfSome start (λ bytes. (trace_of g bytes ≡ ended trace) × (left ≡ Some []))
IsRead g trace (RefusedAhead reason) start left = IfSome start (λ bytes. trace_of g bytes ≡ refused_behind trace reason)

-- these lines are the first ones of the trace
abbrev pub IsFront : Shape → List TraceLine → Option (List ℕ) → Type 0
IsFront g trace start = IfSome start (λ bytes. (more : List TraceLine) × ((trace_of g bytes).lines ≡ trace ++ more))

-- these lines are those that lie whole in the bytes that were taken, where these are left
abbrev pub IsTakenBy : Shape → List TraceLine → Option (List ℕ) → Option (List ℕ) → Type 0
IsTakenBy g trace None left = ⊤
IsTakenBy g trace (Some bytes) None = ⊥
IsTakenBy g trace (Some bytes) (Some left) = (taken : List ℕ) × (bytes ≡ taken ++ left) × ((trace_of g taken).lines ≡ trace)

-- nothing was taken of the known bytes, and of those that are held none is a line feed
abbrev pub IsUnread : List ℕ → Option (List ℕ) → Option (List ℕ) → Type 0
IsUnread held old new = HasNoFeed held × Keeps old new
