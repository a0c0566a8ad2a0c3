-- What a log reads and writes, and that it does so in the order of a trace.
use Rattle.std.specs.Prelude.{ℕ, ◌≡◌, ◌==◌, true, Option, None, option_map, List, [], ◌∷◌, ◌++◌, map, reverse, filter}
use Rattle.command_words.specs.Command.{bank_number}
use Rattle.command_words.specs.Geometry.{Shape}
use Rattle.command_words.specs.Place.{line_of}
use Rattle.command_words.specs.declared.place.Bank.{Bank}
use Rattle.command_words.specs.declared.command.Command.{Command}
use Rattle.command_words.specs.declared.command.Command.TheVariants.{Rd, Wr}
use Rattle.command_words.specs.Kinds.{is_rd, is_wr}
use Rattle.speed_bin.specs.Log.{Log, open_at}
use Rattle.ddr_text.specs.declared.lines.TraceLine.{TraceLine}
use Rattle.requests.specs.declared.request.Kind.{Kind}
use Rattle.requests.specs.declared.request.Kind.TheVariants.{Read as Reads, Write as Writes}
use Rattle.device_core.specs.Stored.{also}
use Rattle.reports.specs.Requests.{Request, requests}
use Rattle.reports.specs.Runs.{Served}

-- the line in the open row of a bank, at this column
abbrev pub line_in : Shape → Bank → ℕ → Option ℕ → Option ℕ
line_in g bank column opened = option_map (λ row. line_of (record { bank = bank; row = row; column = column }) g) opened

-- the line of an RD or WR after a log; None for other commands, and where the bank is closed
abbrev pub line_at : Shape → Command → Log → Option ℕ
line_at g (Rd bank column) log = line_in g bank column (open_at (bank_number bank) log)
line_at g (Wr bank column) log = line_in g bank column (open_at (bank_number bank) log)
line_at g _ log = None

-- whether an RD or WR reads or writes
abbrev pub kind_of : Command → Kind
kind_of (Wr bank column) = Writes
kind_of _ = Reads

-- a line, and whether it is read or written
pub record Access : Type 0 where
  pub line : ℕ
  pub kind : Kind

abbrev pub access_of : Request → Access
access_of r = record { line = r.line; kind = r.kind }

-- what a command after a log reads or writes
abbrev pub access_at : Shape → Command → Log → Option Access
access_at g command log = option_map (λ line. record { line = line; kind = kind_of command }) (line_at g command log)

-- what a log reads and writes, the newest first
abbrev pub accesses : Shape → Log → List Access
accesses g [] = []
accesses g (place ∷ log) = also (access_at g place.command log) (accesses g log)

-- those of a line
abbrev pub of_line : ℕ → List Access → List Access
of_line line accessed = filter (λ a. a.line == line) accessed

-- an RD for a reading, a WR for a writing
abbrev pub IsColumn : Kind → Command → Type 0
IsColumn Reads command = is_rd command ≡ true
IsColumn Writes command = is_wr command ≡ true

-- The command reads or writes, after this log, exactly what its request asks for; one with no request does neither.
abbrev pub IsOf : Shape → Served → Log → Type 0
IsOf g s log = access_at g s.issued.command log ≡ option_map access_of s.request

-- For each line the list of its RDs and WRs in the log, in order, is the list of its R and W lines in the trace, in order.
abbrev pub InOrder : Shape → List TraceLine → Log → Type 0
InOrder g trace log = (line : ℕ) → reverse (of_line line (accesses g log)) ≡ of_line line (map access_of (requests trace))

-- For each line the list of its RDs and WRs in the log begins the list of its R and W lines in the trace.
abbrev pub BeginsInOrder : Shape → List TraceLine → Log → Type 0
BeginsInOrder g trace log = (line : ℕ) → (rest : List Access) × (reverse (of_line line (accesses g log)) ++ rest ≡ of_line line (map access_of (requests trace)))
