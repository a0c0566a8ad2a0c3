-- Logs in which one row of bank 0 climbs as high as it can: many rows are lifted together, each RFMab takes one of them,
-- and the last one left is row 0.
use Rattle.std.specs.Prelude.{ℕ, suc, ◌+◌, ◌-◌, ◌*◌, ◌≡◌, List, [], ◌∷◌, length, None}
use Rattle.command_words.specs.declared.command.Command.TheVariants.{Act, PrePb, RfmAb, Mrw}
use Rattle.command_words.specs.declared.command.Mrw.{Mrw as Write}
use Rattle.speed_bin.specs.Counters.{acts}
use Rattle.speed_bin.specs.Header.{IsAccepted, bound}
use Rattle.speed_bin.specs.Log.{Issued, Log, last_clock}
use Rattle.speed_bin.specs.Marks.{RowsInRange}
use Rattle.speed_bin.specs.Registers.{register_writes}
use Rattle.speed_bin.specs.Rules.{verdict_at_end}
use Rattle.speed_bin.specs.Timing.{tiny}
use Rattle.speed_bin.specs.declared.header.Header.{Header}
use Rattle.speed_bin.specs.declared.settings.RefreshMode.TheVariants.{All}
use Rattle.speed_bin.specs.declared.timing.Timing.{Timing}

-- ---- Headers

-- the header of a cycle and a number of rows: the bin `tiny` with the longest alert window and the least ATH that the
-- cycle allows, and with management far away
abbrev pub header : ℕ → ℕ → Header
header cycle rows = record {
  timing = record tiny { nabo = tiny.nrp + (cycle - 1) * tiny.nrc - 1 };
  settings = record { rows = rows; ath = suc cycle; eth = suc cycle; raaimt = 255; raammt = 1023; refresh = All; ecs_every = 0 };
  version = record { cycle = cycle; groups = 8 };
}

-- ---- Logs

abbrev act : ℕ → ℕ → Issued
act clock row = record { clock = clock; command = Act (record { group = 0; address = 0 }) row }

abbrev pre : ℕ → Issued
pre clock = record { clock = clock; command = PrePb (record { group = 0; address = 0 }) }

abbrev rfm_all : ℕ → Issued
rfm_all clock = record { clock = clock; command = RfmAb }

-- register writes from this clock on
abbrev written : Timing → ℕ → List Write → Log → Log
written t clock [] log = log
written t clock (write ∷ writes) log = written t (clock + t.nmrd) writes (record { clock = clock; command = Mrw write } ∷ log)

-- from this clock on an ACT of each row in turn, each closed, as fast as one bank goes
abbrev pub turns : Timing → ℕ → List ℕ → Log → Log
turns t clock [] log = log
turns t clock (row ∷ rows) log = turns t (clock + t.nrc) rows (pre (clock + t.nras) ∷ act clock row ∷ log)

-- from this clock on rounds of such turns, with an RFMab behind each
abbrev pub rounds : Timing → ℕ → List (List ℕ) → Log → Log
rounds t clock [] log = log
rounds t clock (rows ∷ later) log =
    let managed = clock + length rows * t.nrc in
    rounds t (managed + t.nrfm) later (rfm_all managed ∷ turns t clock rows log)

-- the log of the header's register writes and these rounds
abbrev pub climb : Header → List (List ℕ) → Log
climb h each = rounds h.timing (8 * h.timing.nmrd) each (written h.timing 0 (register_writes h.settings) [])

-- the log without its last place
abbrev pub before_last : Log → Log
before_last [] = []
before_last (place ∷ log) = log

-- ---- What is said of them

-- The log is one of the header, which is accepted. No rule fails at any of its places, nor at an end one clock behind
-- the last of them. And before its last place row 0 of bank 0 has exactly as many activations since its last mitigation
-- as the bound allows.
pub record ReachesBound (h : Header) (log : Log) : Type 0 where
  pub accepted : IsAccepted h
  pub inside : RowsInRange h log
  pub fine : verdict_at_end h (suc (last_clock log)) log ≡ None
  pub reached : acts h 0 0 (before_last log) ≡ bound h
