-- A made job: a fixed header, and requests that are drawn from a seed. `docs/FORMATS.md` has the same in words.
use Rattle.std.specs.Prelude.{ℕ, zero, suc, ◌+◌, ◌*◌, ◌/◌, ◌%◌, ◌==◌, nat_lt, if◌then◌else◌, List, [], ◌∷◌, ◌++◌, codes}
use Rattle.std.specs.Int.{w32, to_le_bytes}
use Rattle.std.specs.List.{flat_map}
use Rattle.rand_core.specs.Steps.{word_bytes}
use Rattle.rand_pcg.specs.Lcg.{Lcg, started, increment_of}
use Rattle.rand_pcg.specs.Pcg.{pcg32, multiplier_64}
use Rattle.ddr_text.specs.Opening.{with_feed}
use Rattle.ddr_text.specs.declared.lines.TraceLine.{TraceLine}
use Rattle.ddr_text.specs.declared.lines.TraceLine.TheVariants.{Read, Write}
use Rattle.made_jobs.specs.TraceText.{spelled_line}

-- ---- The header

-- its lines
unfoldable pub header_lines : List (List ℕ)
header_lines =
    codes "format = 1"
    ∷ codes "bin = \"4800-prac\""
    ∷ codes "rows = 65536"
    ∷ codes "ath = 64"
    ∷ codes "eth = 32"
    ∷ codes "raaimt = 32"
    ∷ codes "raammt = 64"
    ∷ codes "refresh = \"all\""
    ∷ codes "ecs_every = 8"
    ∷ []

-- its text
unfoldable pub header_text : List ℕ
header_text = flat_map with_feed header_lines

-- the bytes before the trace
unfoldable pub opening : List ℕ
opening = header_text ++ with_feed (codes "---")

-- ---- The requests

-- the lines of that header's subchannel
abbrev pub line_count : ℕ
line_count = 134217728

-- where the drawing stands: the generator, and the line of the request before
pub record Drawing : Type 0 where
  pub words : Lcg
  pub previous : ℕ

-- where it begins: the generator of the seed on stream 54, and line 0
unfoldable pub start : ℕ → Drawing
start seed = record { words = started 64 multiplier_64 seed (increment_of 64 54); previous = 0 }

-- The line of a request whose first word is w, and the generator behind it: by floor(w / 4) mod 16 a drawn line, the line
-- behind the one before, or one of eight lines far apart.
unfoldable pub chosen_line : ℕ → Drawing → ℕ × Lcg
chosen_line w d =
    if nat_lt (w / 4 % 16) 4 then ((pcg32 d.words).0 % line_count, (pcg32 d.words).1)
    else if nat_lt (w / 4 % 16) 12 then ((d.previous + 1) % line_count, d.words)
    else (2048 * (w / 64 % 8), d.words)

-- the bytes of the next 16 words, each with its least byte first, and the generator behind them
unfoldable pub drawn_bytes : Lcg → List ℕ × Lcg
drawn_bytes words = word_bytes (to_le_bytes w32) pcg32 16 words

-- the request whose first word is w, of the chosen line: a write where w mod 4 is 0, and else a read
unfoldable pub request_of : ℕ → ℕ × Lcg → TraceLine × Drawing
request_of w (line, words) =
    if w % 4 == 0 then (Write line (drawn_bytes words).0, record { words = (drawn_bytes words).1; previous = line })
    else (Read line, record { words = words; previous = line })

-- the next request, and where the drawing stands behind it
unfoldable pub drawn : Drawing → TraceLine × Drawing
drawn d =
    let (w, words) = pcg32 d.words in
    request_of w (chosen_line w (record { words = words; previous = d.previous }))

-- so many requests, drawn from here
unfoldable pub drawn_trace : ℕ → Drawing → List TraceLine
drawn_trace zero d = []
drawn_trace (suc n) d = (drawn d).0 ∷ drawn_trace n (drawn d).1

-- ---- The job

-- the trace of a made job
unfoldable pub made_trace : ℕ → ℕ → List TraceLine
made_trace seed requests = drawn_trace requests (start seed)

-- its bytes
unfoldable pub made : ℕ → ℕ → List ℕ
made seed requests = opening ++ flat_map spelled_line (made_trace seed requests)
