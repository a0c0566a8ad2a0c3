-- Which runs of a trace are right.
use Rattle.std.specs.Prelude.{ℕ, ◌≡◌, ◌+◌, ◌*◌, ◌/◌, ◌^◌, ◌<◌, ◌≤◌, nat_lt, true, IsTrue, ⊤, Some, None, IfSome, List, [], ◌∷◌, length, reverse, slice_get, sum}
use Rattle.std.specs.List.{list_all}
use Rattle.speed_bin.specs.Counters.{acts}
use Rattle.speed_bin.specs.Counts.{commands}
use Rattle.speed_bin.specs.Gap.{n_max}
use Rattle.speed_bin.specs.Header.{bound, shape_of}
use Rattle.command_words.specs.Kinds.{is_act}
use Rattle.speed_bin.specs.Log.{Log}
use Rattle.speed_bin.specs.Page.{keeps_page}
use Rattle.speed_bin.specs.Rules.{broken, broken_at_end}
use Rattle.speed_bin.specs.declared.header.Header.{Header}
use Rattle.ddr_text.specs.Ranges.{IsCommandOf}
use Rattle.ddr_text.specs.declared.lines.TraceLine.{TraceLine}
use Rattle.reports.specs.Requests.{requests, flips}
use Rattle.reports.specs.Runs.{Served, Step, Issues, Flips, Run, log_of, served, flipped, held, Serves, IsNext}
use Rattle.reports.specs.Accesses.{IsOf}
use Rattle.reports.specs.Barriers.{idle_clocks, IsIdled}
use Rattle.reports.specs.Window.{KeepsWindow}

-- The command is one of the subchannel and breaks none of the fourteen rules after the log. An RD or WR serves the
-- request that comes next on its line and is of that line and kind; another command serves none.
pub record IsSoundPlace (h : Header) (trace : List TraceLine) (run : Run) (s : Served) : Type 0 where
  pub in_time : s.issued.clock < 2 ^ 48
  pub in_range : IsCommandOf (shape_of h) s.issued.command
  pub rules : broken h s.issued.clock s.issued.command (log_of run) ≡ None
  pub is_of : IsOf (shape_of h) s (log_of run)
  pub is_next : IfSome s.request (λ r. IsNext (requests trace) run r)

-- the F line is the next one, and exactly the requests before it are served
pub record IsSoundFlip (trace : List TraceLine) (run : Run) (number : ℕ) : Type 0 where
  pub is_next : slice_get (flips trace) (length (flipped run)) ≡ Some number
  pub none_later : IsTrue (list_all (λ r. nat_lt r.number number) (served run))
  pub all_earlier : IsTrue (list_all (λ r. nat_lt number r.number) (held (requests trace) run))

abbrev pub IsSoundStep : Header → List TraceLine → Run → Step → Type 0
IsSoundStep h trace run (Issues s) = IsSoundPlace h trace run s
IsSoundStep h trace run (Flips number) = IsSoundFlip trace run number

-- Each step was right when it was made.
abbrev pub Sound : Header → List TraceLine → Run → Type 0
Sound h trace [] = ⊤
Sound h trace (step ∷ run) = IsSoundStep h trace run step × Sound h trace run

-- How long the run is: no more ACTs than requests, and its end and its commands within bounds that the requests and the
-- I lines of the trace set.
pub record IsShort (h : Header) (trace : List TraceLine) (run : Run) (clock : ℕ) : Type 0 where
  pub activations : commands is_act (log_of run) ≤ length (requests trace)
  pub end : clock ≤ 2 * (sum (idle_clocks trace) + 8 * n_max h.timing * (length (requests trace) + 3))
  pub commands : length (log_of run) ≤ 28 + 5 * length (requests trace) + 5 * (clock / h.timing.nrefi)

-- A finished run: it is sound, every request of the trace is served and every F line carried out, it waited at the I
-- lines, kept the open page and the window, and ends at this clock.
pub record IsRun (h : Header) (trace : List TraceLine) (run : Run) (clock : ℕ) : Type 0 where
  pub sound : Sound h trace run
  pub serves : Serves (requests trace) run []
  pub flips : reverse (flipped run) ≡ flips trace
  pub ends : broken_at_end h clock (log_of run) ≡ None
  pub idled : IsIdled trace run clock
  pub page : keeps_page (log_of run) ≡ true
  pub window : KeepsWindow h trace run
  pub short : IsShort h trace run clock

-- ---- Activations

-- no row of any bank has more activations since its last mitigation than ATH + h + A - 1, where A is the header's cycle and h
-- the greatest number with A^h <= R * (A - 1)^h, for R rows
abbrev pub IsBounded : Header → Log → Type 0
IsBounded h log = (b row : ℕ) → b < 32 → row < h.settings.rows → acts h b row log ≤ bound h

-- that holds up to each place of the log
abbrev pub AllBounded : Header → Log → Type 0
AllBounded h [] = IsBounded h []
AllBounded h (place ∷ log) = IsBounded h (place ∷ log) × AllBounded h log
