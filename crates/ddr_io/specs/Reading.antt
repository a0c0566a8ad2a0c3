-- What a contract sees of a reader of lines.
use Rattle.std.specs.Prelude.{ℕ, ◌≡◌, ◌++◌, ◌≤◌, List, [], length}
use Rattle.std.specs.declared.option.Option.{Option}
use Rattle.std.specs.Io.KnownBytes.{Consumes, Keeps, IsAtEnd}
use Rattle.ddr_io.specs.declared.line_reader.Line.{Line}
use Rattle.ddr_io.specs.declared.source.Got.{Got}
use Rattle.ddr_io.specs.declared.source.Got.TheVariants.{Bytes, End, Failed}

-- the bytes that are held, the line of the last answer, and that answer (`Text` where there is none yet)
pub record Reading : Type 0 where
  pub held : List ℕ
  pub line : List ℕ
  pub last : Line

-- a read put its bytes behind those that are held
abbrev pub Added : Reading → Reading → Option (List ℕ) → Option (List ℕ) → Got → Type 0
Added old new left rest (Bytes n) = (bs : List ℕ) × (new.held ≡ old.held ++ bs) × (1 ≤ length bs) × (length bs ≤ 4096) × Consumes left rest bs
Added old new left rest End = (new.held ≡ old.held) × IsAtEnd left × Keeps left rest
Added old new left rest Failed = (new.held ≡ old.held) × Keeps left rest

-- the same, and the line is gone
pub record Fills (old new : Reading) (left rest : Option (List ℕ)) (got : Got) : Type 0 where
  pub line : new.line ≡ []
  pub last : new.last ≡ old.last
  pub bytes : Added old new left rest got
