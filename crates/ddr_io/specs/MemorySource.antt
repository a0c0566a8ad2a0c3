-- What a source over bytes in memory gives, a few bytes a read, with faults at listed calls.
use Rattle.std.specs.Prelude.{ℕ, List, min, cond}
use Rattle.ddr_io.specs.Source.{got_of}
use Rattle.ddr_io.specs.Calls.{Calling, next_fails}
use Rattle.ddr_io.specs.declared.source.Got.{Got}
use Rattle.ddr_io.specs.declared.source.Got.TheVariants.{Failed}

-- the bytes that are left, how many one read gives at most, and its calls of `read`
pub record Giving : Type 0 where
  pub left : List ℕ
  pub step : ℕ
  pub calls : Calling

-- the answer of the next read, into so many bytes of room
abbrev pub next_got : Giving → ℕ → Got
next_got source room = cond (next_fails source.calls) Failed (got_of source.left (min source.step room))

-- the most that the next read gives, into so many bytes of room
abbrev pub next_room : Giving → ℕ → ℕ
next_room source room = cond (next_fails source.calls) 0 (min source.step room)
