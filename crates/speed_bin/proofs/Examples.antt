-- Short forms for logs that are written out and computed: places in order of time, after a header's register writes.
use Rattle.std.specs.Prelude.{ℕ, ◌+◌, List, [], ◌∷◌}
use Rattle.command_words.specs.declared.command.Command.TheVariants.{Act, Rd, Wr, PrePb, PreAb, RfmAb, RfmSb, Mrw}
use Rattle.command_words.specs.declared.command.Mrw.{Mrw as Write}
use Rattle.speed_bin.specs.Log.{Issued, Log}
use Rattle.speed_bin.specs.Registers.{register_writes}
use Rattle.speed_bin.specs.Timing.{tiny}
use Rattle.speed_bin.specs.declared.settings.RefreshMode.TheVariants.{All}
use Rattle.speed_bin.specs.Version.{plain}
use Rattle.speed_bin.specs.declared.header.Header.{Header}

-- a header of the bin `tiny`, by rows, ATH, ETH, RAAIMT and RAAMMT
abbrev pub tiny_header : ℕ → ℕ → ℕ → ℕ → ℕ → Header
tiny_header rows ath eth raaimt raammt = record {
  timing = tiny;
  settings = record {
    rows = rows;
    ath = ath;
    eth = eth;
    raaimt = raaimt;
    raammt = raammt;
    refresh = All;
    ecs_every = 0;
  };
  version = plain;
}

-- one command of bank address 0 in a group, or of all banks
abbrev pub act : ℕ → ℕ → ℕ → Issued
act clock group row = record { clock = clock; command = Act (record { group = group; address = 0 }) row }

abbrev pub rd : ℕ → ℕ → Issued
rd clock group = record { clock = clock; command = Rd (record { group = group; address = 0 }) 0 }

abbrev pub wr : ℕ → ℕ → Issued
wr clock group = record { clock = clock; command = Wr (record { group = group; address = 0 }) 0 }

abbrev pub pre : ℕ → ℕ → Issued
pre clock group = record { clock = clock; command = PrePb (record { group = group; address = 0 }) }

abbrev pub pre_all : ℕ → Issued
pre_all clock = record { clock = clock; command = PreAb }

abbrev pub rfm_all : ℕ → Issued
rfm_all clock = record { clock = clock; command = RfmAb }

abbrev pub rfm_same : ℕ → ℕ → Issued
rfm_same clock address = record { clock = clock; command = RfmSb address }

-- an ACT of each row in turn, 10 clocks apart, each closed 6 clocks later
abbrev pub opened_and_closed : ℕ → ℕ → List ℕ → List Issued
opened_and_closed clock group [] = []
opened_and_closed clock group (row ∷ rows) = act clock group row ∷ pre (clock + 6) group ∷ opened_and_closed (clock + 10) group rows

abbrev pub then : Log → List Issued → Log
then log [] = log
then log (place ∷ places) = then (place ∷ log) places

abbrev pub written : ℕ → ℕ → List Write → Log → Log
written clock step [] log = log
written clock step (write ∷ writes) log = written (clock + step) step writes (record { clock = clock; command = Mrw write } ∷ log)

-- the log of the header's eight register writes, at the clocks 0, 4 .. 28 of `tiny`
abbrev pub after_writes : Header → Log
after_writes h = written 0 h.timing.nmrd (register_writes h.settings) []

-- the log of those and of the places, which stand in order of time
abbrev pub log_of : Header → List Issued → Log
log_of h places = then (after_writes h) places
