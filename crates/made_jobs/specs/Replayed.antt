-- What a reader finds in a made job.
use Rattle.std.specs.Prelude.{ℕ, ◌≡◌, ◌<◌, List, length, Ok, ⊤}
use Rattle.command_words.specs.Geometry.{Shape}
use Rattle.ddr_io.specs.Line.{HasNoFeed}
use Rattle.ddr_text.specs.Grammar.{trace_line_of}
use Rattle.ddr_text.specs.declared.lines.TraceLine.{TraceLine}
use Rattle.ddr_text.specs.declared.lines.TraceLine.TheVariants.{Read, Write, Flip, Idle}
use Rattle.speed_bin.specs.Timing.{prac_4800}
use Rattle.speed_bin.specs.Version.{plain}
use Rattle.speed_bin.specs.declared.header.Header.{Header}
use Rattle.speed_bin.specs.declared.settings.RefreshMode.TheVariants.{All as AllBanks}
use Rattle.made_jobs.specs.TraceText.{trace_text}

-- what the header states
unfoldable pub made_header : Header
made_header = record {
  timing = prac_4800;
  settings = record { rows = 65536; ath = 64; eth = 32; raaimt = 32; raammt = 64; refresh = AllBanks; ecs_every = 8 };
  version = plain;
}

-- the subchannel's shape
abbrev pub made_shape : Shape
made_shape = record { rows = 65536; groups = 8 }

-- a reader of lines takes the text
abbrev pub IsShortText : List ℕ → Type 0
IsShortText text = (length text < 512) × HasNoFeed text

-- the line is a read or a write
abbrev pub IsRequest : TraceLine → Type 0
IsRequest (Read line) = ⊤
IsRequest (Write line bytes) = ⊤
IsRequest (Flip line device bit) = ⊥
IsRequest (Idle clocks) = ⊥

-- the line's text is read as the line
pub record IsReadBack (line : TraceLine) : Type 0 where
  pub request : IsRequest line
  pub text : IsShortText (trace_text line)
  pub reads : trace_line_of made_shape (trace_text line) ≡ Ok line
