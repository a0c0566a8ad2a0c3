-- What a trace asks for. Its lines are numbered from 1, and its requests are its R and W lines, each known by its number.
use Rattle.std.specs.Prelude.{ℕ, suc, Bool, true, false, ◌==◌, List, [], ◌∷◌, ◌++◌, filter}
use Rattle.requests.specs.declared.request.Kind.{Kind}
use Rattle.requests.specs.declared.request.Kind.TheVariants.{Read as Reads, Write as Writes}
use Rattle.ddr_text.specs.declared.lines.TraceLine.{TraceLine}
use Rattle.ddr_text.specs.declared.lines.TraceLine.TheVariants.{Read, Write, Flip, Idle}

-- a request: its number, the line of 64 bytes that it is of, and whether it reads or writes it
pub record Request : Type 0 where
  pub number : ℕ
  pub line : ℕ
  pub kind : Kind

-- the request that the trace line with this number is, if it is one
abbrev pub request_of : ℕ → TraceLine → List Request
request_of n (Read line) = record { number = n; line = line; kind = Reads } ∷ []
request_of n (Write line bytes) = record { number = n; line = line; kind = Writes } ∷ []
request_of n (Flip line device bit) = []
request_of n (Idle clocks) = []

-- those of these trace lines, numbered from n
abbrev pub requests_from : ℕ → List TraceLine → List Request
requests_from n [] = []
requests_from n (line ∷ trace) = request_of n line ++ requests_from (suc n) trace

abbrev pub requests : List TraceLine → List Request
requests trace = requests_from 1 trace

-- those of a line
abbrev pub on : ℕ → List Request → List Request
on line rs = filter (λ r. r.line == line) rs

abbrev pub is_reading : Kind → Bool
is_reading Reads = true
is_reading Writes = false

-- those that read
abbrev pub reads : List Request → List Request
reads rs = filter (λ r. is_reading r.kind) rs

-- ---- F lines

-- the number of a trace line that is an F line
abbrev pub flip_of : ℕ → TraceLine → List ℕ
flip_of n (Flip line device bit) = n ∷ []
flip_of n (Read line) = []
flip_of n (Write line bytes) = []
flip_of n (Idle clocks) = []

abbrev pub flips_from : ℕ → List TraceLine → List ℕ
flips_from n [] = []
flips_from n (line ∷ trace) = flip_of n line ++ flips_from (suc n) trace

abbrev pub flips : List TraceLine → List ℕ
flips trace = flips_from 1 trace
