-- What a source over a reader holds.
use Rattle.std.specs.Prelude.{ℕ}
use Rattle.ddr_io.specs.declared.real_source.RealSource.{RealSource}

-- the reader
abbrev pub reader_of : {R : Type 0} → RealSource R → R
reader_of s = s.reader

-- how often it has failed
abbrev pub read_faults : {R : Type 0} → RealSource R → ℕ
read_faults s = s.faults
