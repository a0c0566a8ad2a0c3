-- The lines of four ports, as they stand behind the opening of a job. `docs/FORMATS.md` has the same in words.
use Rattle.std.specs.Prelude.{ℕ, suc, ⊤, ◌<◌, ◌-◌, ◌==◌, ◌&&◌, ◌||◌, nat_le, nat_lt, Bool, true, false, if◌then◌else◌, Option, Some, None, List, [], ◌∷◌}
use Rattle.ddr_text.specs.Opening.{is_long, parts_of}

-- a merge reads at most so many lines
abbrev pub MOST : ℕ
MOST = 1048576

-- a line of a port, without its digit and its space
pub record Arrival : Type 0 where
  pub port : ℕ
  pub rest : List ℕ

abbrev pub is_port : ℕ → Bool
is_port digit = nat_le 48 digit && nat_le digit 51

-- a digit 0 to 3, a space, and a rest
abbrev pub arrival_of : List ℕ → Option Arrival
arrival_of [] = None
arrival_of (digit ∷ []) = None
arrival_of (digit ∷ space ∷ rest) = if is_port digit && space == 32 then Some (record { port = digit - 48; rest = rest }) else None

-- the line with this number, unless it is bad: one too many, too long, or not of a port
unfoldable pub framed : ℕ → List ℕ → Option Arrival
framed number text = if nat_lt MOST number || is_long text then None else arrival_of text

-- the lines of an input up to its end, or up to the first bad one
pub record Input : Type 0 where
  pub lines : List Arrival
  pub is_bad : Bool

abbrev pub with_line : Option Arrival → Input → Input
with_line None rest = record { lines = []; is_bad = true }
with_line (Some arrival) rest = record { lines = arrival ∷ rest.lines; is_bad = rest.is_bad }

-- a last line without its line feed is bad
abbrev pub at_end : List ℕ → Input
at_end [] = record { lines = []; is_bad = false }
at_end (byte ∷ bytes) = record { lines = []; is_bad = true }

-- the input in these parts, of which the first has this number
abbrev pub input_from : ℕ → List (List ℕ) → Input
input_from number [] = record { lines = []; is_bad = false }
input_from number (rest ∷ []) = at_end rest
input_from number (text ∷ next ∷ parts) = with_line (framed number text) (input_from (suc number) (next ∷ parts))

-- the input in the bytes behind an opening
abbrev pub input_of : List ℕ → Input
input_of bytes = input_from 1 (parts_of bytes)

-- each line is of one of the four ports
abbrev pub AreInside : List Arrival → Type 0
AreInside [] = ⊤
AreInside (arrival ∷ arrivals) = (arrival.port < 4) × AreInside arrivals
