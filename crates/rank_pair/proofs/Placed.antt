-- The place of a line that is asked for, and a pair that stands for a longer trace.
use Rattle.std.proofs.Common.{◌≡◌, ◌∙◌, ℕ, ◌+◌, ◌*◌, ◌<◌, inl, inr, refl, sym, ap, subst, arith, List, [], ◌∷◌, ◌++◌}
use Rattle.std.proofs.Math.Nat.{mod-lt}
use Rattle.command_words.specs.Command.{bank_number}
use Rattle.command_words.specs.Geometry.{IsGroups, Shape, lines_of}
use Rattle.command_words.specs.Place.{IsInside, place_of}
use Rattle.ddr_text.specs.Ranges.{IsBankOf}
use Rattle.ddr_text.specs.declared.lines.TraceLine.{TraceLine}
use Rattle.ddr_text.specs.declared.lines.TraceLine.TheVariants.{Read, Write, Flip, Idle}
use Rattle.device_core.specs.Standing.{StandsFor as DeviceFor}
use Rattle.device_core.specs.Steps.{Step as DeviceStep}
use Rattle.rank_bus.specs.declared.rank.Rank.{Rank}
use Rattle.rank_bus.specs.declared.rank.Rank.TheVariants.{Zero, One}
use Rattle.requests.specs.declared.request.Kind.TheVariants.{Read as Reads, Write as Writes}
use Rattle.reports.proofs.Device.{turned-bit}
use Rattle.reports.proofs.Longer.{device_steps-longer}
use Rattle.reports.specs.Delivered.{IsInside as IsLineInside, device_steps}
use Rattle.reports.specs.Requests.{Request, request_of}
use Rattle.reports.specs.Sound.{Sound}
use Rattle.speed_bin.specs.Header.{IsAccepted, shape_of}
use Rattle.speed_bin.specs.declared.header.Header.{Header}
use Rattle.pair_reports.specs.Lines.{line_for, only}
use Rattle.pair_reports.specs.Runs.{PairRun, run_of}
use Rattle.pair_reports.specs.declared.rank_line.RankLine.{RankLine}
use Rattle.rank_pair.specs.Pairs.{StandsFor, request_for}
use Rattle.rank_pair.specs.RankEnds.{EndStandsFor}
use Rattle.rank_pair.specs.declared.pair.LineAccess.{LineAccess}
use Rattle.rank_pair.specs.declared.pair.Pair.{Pair}
use Rattle.rank_pair.specs.declared.rank_end.RankEnd.{RankEnd}
use Rattle.rank_pair.proofs.Traces.{only_more}

-- ---- A place

-- the line that is asked for is one of the subchannel
pub line_below : (g : Shape) (n : ℕ) (line : TraceLine) (access : LineAccess) → request_of n line ≡ request_for access ∷ [] → IsLineInside g line → access.line < lines_of g
line_below g n (Read line) access asks inside =
    let same : record { number = n; line = line; kind = Reads } ≡ request_for access = cc in
    subst (λ (x : ℕ). x < lines_of g) (ap (λ (r : Request). r.line) same) inside
line_below g n (Write line bytes) access asks inside =
    let same : record { number = n; line = line; kind = Writes } ≡ request_for access = cc in
    subst (λ (x : ℕ). x < lines_of g) (ap (λ (r : Request). r.line) same) inside.0
line_below g n (Flip line device bit) access asks inside = absurd cc
line_below g n (Idle clocks) access asks inside = absurd cc

pub place_inside : (h : Header) (line : ℕ) → IsAccepted h → line < lines_of (shape_of h) → IsInside (place_of line (shape_of h)) (shape_of h)
place_inside h line accepted low = (turned-bit h (Flip line 0 0 ∷ []) 1 line 0 0 accepted ((low, omega arith, omega arith), tt) refl).inside

some_of : (k : ℕ) → IsGroups k → 0 < k
some_of k (inl e) = omega (arith, e)
some_of k (inr e) = omega (arith, e)

pub bank_of : (h : Header) (line : ℕ) → IsAccepted h → line < lines_of (shape_of h) → IsBankOf (shape_of h) (place_of line (shape_of h)).bank
bank_of h line accepted low = record { group = (place_inside h line accepted low).group; address = mod-lt _ (omega arith) }

bank_below : (groups group address : ℕ) → IsGroups groups → group < groups → address < 4 → group * 4 + address < 32
bank_below groups group address (inl e) low few = omega (arith, e, low, few)
bank_below groups group address (inr e) low few = omega (arith, e, low, few)

pub low_bank : (h : Header) (line : ℕ) → IsAccepted h → line < lines_of (shape_of h) → bank_number (place_of line (shape_of h)).bank < 32
low_bank h line accepted low =
    let b = bank_of h line accepted low in
    bank_below h.version.groups (place_of line (shape_of h)).bank.group (place_of line (shape_of h)).bank.address accepted.version.2 b.group b.address

pub column_below : (line : ℕ) (g : Shape) → (place_of line g).column < 64
column_below line g = mod-lt _ (omega arith)

-- ---- A longer trace

steps_more : (h : Header) (front : List RankLine) (it : RankLine) (rank : Rank) (run : PairRun) → Sound h (only rank front) (run_of rank run)
    → device_steps h (only rank (front ++ it ∷ [])) (run_of rank run) ≡ device_steps h (only rank front) (run_of rank run)
steps_more h front it rank run sound =
    ap (λ (t : List TraceLine). device_steps h t (run_of rank run)) (only_more rank front it) ∙ device_steps-longer h (only rank front) (line_for rank it ∷ []) (run_of rank run) sound

end_more : (e : RankEnd) (h : Header) (front : List RankLine) (it : RankLine) (rank : Rank) (run : PairRun) → Sound h (only rank front) (run_of rank run)
    → EndStandsFor e h (only rank front) (run_of rank run) → EndStandsFor e h (only rank (front ++ it ∷ [])) (run_of rank run)
end_more e h front it rank run sound s = record {
  device = subst (λ (steps : List DeviceStep). DeviceFor e.device h steps) (sym (steps_more h front it rank run sound)) s.device;
  counts = s.counts;
  last = s.last;
}

pub stands_more : (p : Pair) (h : Header) (front : List RankLine) (it : RankLine) (run : PairRun) → ((r : Rank) → Sound h (only r front) (run_of r run)) → StandsFor p h front run → StandsFor p h (front ++ it ∷ []) run
stands_more p h front it run sound s = record {
  bus = s.bus;
  zero = end_more p.zero h front it Zero run (sound Zero) s.zero;
  one = end_more p.one h front it One run (sound One) s.one;
  geometry = s.geometry;
}
