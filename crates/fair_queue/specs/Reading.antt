-- How the lines of ports are read, one after another.
use Rattle.std.specs.Prelude.{ℕ, ◌≡◌, ◌≤◌, ◌<◌, ◌+◌, ◌++◌, ⊤, length, Bool, true, false, List, [], drop, Option, Some, None}
use Rattle.std.specs.Io.KnownBytes.{Consumes}
use Rattle.ddr_io.specs.Line.{next_bytes}
use Rattle.ddr_io.specs.Reading.{Reading}
use Rattle.ddr_io.specs.declared.line_reader.Line.{Line}
use Rattle.ddr_io.specs.declared.line_reader.Line.TheVariants.{Text}
use Rattle.ddr_text.specs.Opening.{parts_of}
use Rattle.fair_queue.specs.Arrivals.{Arrival, Input, with_line, input_from}
use Rattle.fair_queue.specs.Machine.{Queued, has_room, filled, in_queues}
use Rattle.fair_queue.specs.declared.port_lines.Ahead.{Ahead}
use Rattle.fair_queue.specs.declared.port_lines.Ahead.TheVariants.{Unknown, Waits, Bad, End}

-- what a contract sees of a reader of ports' lines: its reader of lines, the number of the next line that it reads, and
-- what it knows of the line ahead
pub record Place : Type 0 where
  pub reader : Reading
  pub number : ℕ
  pub ahead : Ahead

-- the input that is left, by what is ahead and the bytes behind it
abbrev pub left_behind : Ahead → List ℕ → Input → Input
left_behind Unknown line rest = rest
left_behind (Waits port) line rest = with_line (Some (record { port = port; rest = drop 2 line })) rest
left_behind Bad line rest = record { lines = []; is_bad = true }
left_behind End line rest = record { lines = []; is_bad = false }

abbrev pub left_in : Place → List ℕ → Input
left_in it bytes = left_behind it.ahead it.reader.line (input_from it.number (parts_of bytes))

-- a line waits
abbrev pub waiting : Ahead → ℕ
waiting Unknown = 0
waiting (Waits port) = 1
waiting Bad = 0
waiting End = 0

-- ---- The bytes that were read

-- of the bytes that a reader of lines holds, those that are not read: behind a bad line it reads no more, and all that it holds count as read
abbrev pub held_in : Ahead → List ℕ → List ℕ
held_in Unknown held = held
held_in (Waits port) held = held
held_in Bad held = []
held_in End held = held

-- the bytes that are not read: such that the reader holds, and then those that its source has left
abbrev pub unread : Place → Option (List ℕ) → Option (List ℕ)
unread it left = next_bytes (held_in it.ahead it.reader.held) left

-- these bytes may follow: none where the input has ended, or no known byte is left
abbrev pub MayFollow : Ahead → Option (List ℕ) → List ℕ → Type 0
MayFollow ahead left more = (ahead ≡ End → more ≡ []) × (left ≡ Some [] → more ≡ [])

-- Some bytes were read, none behind the end of the input. This holds of those that were left before and of those that are
-- left then, whatever these are, also where the source does not tell its bytes.
pub record Advances (old new : Ahead) (before after : Option (List ℕ)) (Holds : List ℕ → List ℕ → Type 0) : Type 0 where
  pub taken : List ℕ
  pub took : Consumes before after taken
  pub over : old ≡ End → (taken ≡ []) × (new ≡ End)
  pub holds : (more : List ℕ) → MayFollow new after more → Holds (taken ++ more) more

-- what is left stays, but for what was read
abbrev pub IsSame : Place → Place → Option (List ℕ) → Option (List ℕ) → Type 0
IsSame old new before after = Advances old.ahead new.ahead before after (λ bytes rest. left_in old bytes ≡ left_in new rest)

-- where no more lines come, no byte is left
abbrev pub EndsWith : Ahead → Option (List ℕ) → Type 0
EndsWith Unknown left = ⊤
EndsWith (Waits port) left = ⊤
EndsWith Bad left = ⊤
EndsWith End left = left ≡ Some []

-- the same, where the bytes at first are known
abbrev pub EndsAt : Option (List ℕ) → Ahead → Option (List ℕ) → Type 0
EndsAt None ahead left = ⊤
EndsAt (Some bytes) ahead left = EndsWith ahead left

-- what is ahead is known
abbrev pub IsKnown : Ahead → Type 0
IsKnown Unknown = ⊥
IsKnown (Waits port) = ⊤
IsKnown Bad = ⊤
IsKnown End = ⊤

-- the queues were filled from what is left
abbrev pub FillsFrom : Queued → Place → Queued → Place → List ℕ → List ℕ → Type 0
FillsFrom old it new later bytes rest =
    (filled old (left_in it bytes).lines ≡ record { queued = new; left = (left_in later rest).lines }) × ((left_in it bytes).is_bad ≡ (left_in later rest).is_bad)

abbrev pub Fills : Queued → Place → Option (List ℕ) → Queued → Place → Option (List ℕ) → Type 0
Fills old it before new later after = Advances it.ahead later.ahead before after (FillsFrom old it new later)

-- filling stops at a line whose queue is full, or at the end of the input
abbrev pub IsStopped : Queued → Ahead → Type 0
IsStopped queued Unknown = ⊥
IsStopped queued (Waits port) = has_room queued port ≡ false
IsStopped queued Bad = ⊤
IsStopped queued End = ⊤

-- a line that waits is of a port, and has its digit and its space
abbrev pub IsFramed : Ahead → List ℕ → Type 0
IsFramed Unknown line = ⊤
IsFramed (Waits port) line = (port < 4) × (2 ≤ length line) × (length line < 512)
IsFramed Bad line = ⊤
IsFramed End line = ⊤

-- the reader goes on, while more lines may come
abbrev pub MayGoOn : Ahead → Line → Type 0
MayGoOn Unknown last = last ≡ Text
MayGoOn (Waits port) last = last ≡ Text
MayGoOn Bad last = ⊤
MayGoOn End last = ⊤

abbrev pub with_ahead : Place → Ahead → Place
with_ahead it ahead = record { reader = it.reader; number = it.number; ahead = ahead }

-- a line that is judged so waits, or is bad
abbrev pub Frames : Option Arrival → Place → Place → Type 0
Frames None old new = new ≡ record { reader = old.reader; number = old.number; ahead = Bad }
Frames (Some arrival) old new = (new ≡ record { reader = old.reader; number = old.number + 1; ahead = Waits arrival.port }) × (arrival.rest ≡ drop 2 old.reader.line)

-- the port of the line that waits
abbrev pub port_in : Ahead → Option ℕ
port_in Unknown = None
port_in (Waits port) = Some port
port_in Bad = None
port_in End = None

abbrev pub IsWaiting : Ahead → Type 0
IsWaiting Unknown = ⊥
IsWaiting (Waits port) = ⊤
IsWaiting Bad = ⊥
IsWaiting End = ⊥

abbrev pub is_bad : Ahead → Bool
is_bad Unknown = false
is_bad (Waits port) = false
is_bad Bad = true
is_bad End = false

-- filling goes on from here as it would have at first
abbrev pub ContinuesFrom : Queued → Place → Queued → Place → List ℕ → List ℕ → Type 0
ContinuesFrom old it new later bytes rest =
    (filled old (left_in it bytes).lines ≡ filled new (left_in later rest).lines) × ((left_in it bytes).is_bad ≡ (left_in later rest).is_bad)

abbrev pub Continues : Queued → Place → Option (List ℕ) → Queued → Place → Option (List ℕ) → Type 0
Continues old it before new later after = Advances it.ahead later.ahead before after (ContinuesFrom old it new later)

-- every line that was read waits, or joined a queue
abbrev pub IsSteady : Queued → Place → Queued → Place → Type 0
IsSteady old it new later = later.number + (waiting it.ahead + in_queues old) ≡ it.number + (waiting later.ahead + in_queues new)

-- there are four queues, and the next search begins where it did
pub record AreKept (old new : Queued) : Type 0 where
  pub four : length new.queues ≡ 4
  pub turn : new.turn ≡ old.turn
