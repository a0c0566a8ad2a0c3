-- What a sink into a writer holds.
use Rattle.std.specs.Prelude.{ℕ}
use Rattle.ddr_io.specs.declared.real_sink.RealSink.{RealSink}

-- the writer
abbrev pub writer_of : {W : Type 0} → RealSink W → W
writer_of s = s.writer

-- how often it has failed
abbrev pub write_faults : {W : Type 0} → RealSink W → ℕ
write_faults s = s.faults
