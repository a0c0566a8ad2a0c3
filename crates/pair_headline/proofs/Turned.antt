-- The F lines of each rank turn the bits of its own F lines in the trace.
use Rattle.std.proofs.Common.{◌≡◌, ◌∙◌, ℕ, suc, ◌+◌, ◌-◌, refl, sym, ap, subst, arith, true, Option, Some, None, List, [], ◌∷◌, ◌++◌, reverse, slice_get, append-nil, if◌then◌else◌}
use Rattle.std.specs.List.{flat_map}
use Rattle.std.proofs.lemmas.Grind.{flat_map-append}
use Rattle.device_core.specs.Stored.{also}
use Rattle.speed_bin.specs.Log.{last_clock}
use Rattle.speed_bin.specs.declared.header.Header.{Header}
use Rattle.ddr_text.specs.declared.lines.TraceLine.{TraceLine}
use Rattle.ddr_text.specs.declared.lines.TraceLine.TheVariants.{Read, Write, Flip, Idle}
use Rattle.rank_bus.specs.Buses.{is_same, other}
use Rattle.rank_bus.specs.declared.rank.Rank.{Rank}
use Rattle.rank_bus.specs.declared.rank.Rank.TheVariants.{Zero, One}
use Rattle.reports.proofs.Bits.{turned-answers, turned-append}
use Rattle.reports.specs.Barriers.{Bit, bits_of, turned_bits}
use Rattle.reports.specs.Report.{flip_lines, latest, report}
use Rattle.reports.specs.Requests.{Request, reads, request_of, requests}
use Rattle.reports.specs.Runs.{Issues, Flips, Run, Step, held, log_of, ready}
use Rattle.reports.specs.Sound.{IsSoundStep}
use Rattle.pair_reports.proofs.Grown.{AllSound, fewer_steps, own_step}
use Rattle.pair_reports.specs.Lines.{deed_of, deeds, deeds_from, line_for, lines_of, only}
use Rattle.pair_reports.specs.Runs.{PairRun, deed, done, number_of, run_of}
use Rattle.pair_reports.specs.declared.rank_line.RankLine.{RankLine}
use Rattle.pair_headline.proofs.Deeds.{AsksAt, flips_at}
use Rattle.pair_headline.proofs.Pairs.{asks_of, reverse-also}

-- the bit of a trace line, as this rank has it; and those of the lines with these numbers
abbrev bits_in : Rank → Option RankLine → List Bit
bits_in rank None = []
bits_in rank (Some it) = bits_of (line_for rank it ∷ [])

abbrev bits_at : Rank → List RankLine → List ℕ → List Bit
bits_at rank trace numbers = flat_map (λ number. bits_in rank (slice_get trace (number - 1))) numbers

one_bit : (rank : Rank) (trace : List RankLine) (number : ℕ) (o : Option RankLine) → slice_get trace (number - 1) ≡ o → bits_at rank trace (number ∷ []) ≡ bits_in rank o
one_bit rank trace number o is = append-nil (bits_in rank (slice_get trace (number - 1))) ∙ ap (bits_in rank) is

-- ---- A step

no_bit : (rank owner : Rank) (n : ℕ) (line : TraceLine) (r : Request) → request_of n line ≡ r ∷ [] → bits_in rank (Some (record { rank = owner; line = line })) ≡ []
no_bit Zero Zero n (Read line) r is = refl
no_bit Zero Zero n (Write line bytes) r is = refl
no_bit Zero Zero n (Flip line device bit) r is = absurd cc
no_bit Zero Zero n (Idle clocks) r is = absurd cc
no_bit Zero One n line r is = refl
no_bit One Zero n line r is = refl
no_bit One One n (Read line) r is = refl
no_bit One One n (Write line bytes) r is = refl
no_bit One One n (Flip line device bit) r is = absurd cc
no_bit One One n (Idle clocks) r is = absurd cc

none_asked : (rank owner : Rank) (trace : List RankLine) (o : Option Request) → ((r : Request) → o ≡ Some r → AsksAt owner trace r) → bits_at rank trace (also (number_of o) []) ≡ []
none_asked rank owner trace None a = refl
none_asked rank owner trace (Some r) a =
    let it = a r refl in
    one_bit rank trace r.number (Some (record { rank = owner; line = it.line })) it.there ∙ no_bit rank owner r.number it.line r it.is

own_bit : (rank : Rank) (line device bit : ℕ) → bits_in rank (Some (record { rank = rank; line = Flip line device bit })) ≡ record { line = line; device = device; bit = bit } ∷ []
own_bit Zero line device bit = refl
own_bit One line device bit = refl

other_bit : (owner : Rank) (line device bit : ℕ) → bits_in (other owner) (Some (record { rank = owner; line = Flip line device bit })) ≡ []
other_bit Zero line device bit = refl
other_bit One line device bit = refl

-- what a step of the rank turns
turned_own : (h : Header) (trace : List RankLine) (run : Run) (rank : Rank) (step : Step) → IsSoundStep h (only rank trace) run step
    → turned_bits (latest h (only rank trace) run step) ≡ bits_at rank trace (also (deed step) [])
turned_own h trace run rank (Issues s) sound =
    let own = only rank trace in
    turned-answers h own (Issues s ∷ run) (reads (ready (held (requests own) run) (Issues s ∷ run)))
    ∙ sym (none_asked rank rank trace s.request (asks_of h rank trace run s sound))
turned_own h trace run rank (Flips number) sound =
    let f = flips_at rank trace _ number sound.is_next in
    ap (λ o. turned_bits (flip_lines (last_clock (log_of run)) o)) f.own
    ∙ sym (one_bit rank trace number (Some (record { rank = rank; line = Flip f.line f.device f.bit })) f.there ∙ own_bit rank f.line f.device f.bit)

-- a step of the other rank turns no bit of this one
turned_other : (h : Header) (trace : List RankLine) (run : Run) (owner : Rank) (step : Step) → IsSoundStep h (only owner trace) run step → bits_at (other owner) trace (also (deed step) []) ≡ []
turned_other h trace run owner (Issues s) sound = none_asked (other owner) owner trace s.request (asks_of h owner trace run s sound)
turned_other h trace run owner (Flips number) sound =
    let f = flips_at owner trace _ number sound.is_next in
    one_bit (other owner) trace number (Some (record { rank = owner; line = Flip f.line f.device f.bit })) f.there ∙ other_bit owner f.line f.device f.bit

-- ---- A run

more_bits : (h : Header) (trace : List RankLine) (rank owner : Rank) (step : Step) (own mine : Run) (numbers : List ℕ) → (is_same rank owner ≡ true → own ≡ mine) → IsSoundStep h (only owner trace) own step
    → turned_bits (report h (only rank trace) mine) ≡ bits_at rank trace (reverse numbers)
    → turned_bits (report h (only rank trace) (if is_same rank owner then step ∷ mine else mine)) ≡ bits_at rank trace (reverse numbers) ++ bits_at rank trace (also (deed step) [])
more_bits h trace Zero Zero step own mine numbers same sound so_far =
    turned-append (report h (only Zero trace) mine) (latest h (only Zero trace) mine step)
    ∙ ap (λ l. l ++ turned_bits (latest h (only Zero trace) mine step)) so_far
    ∙ ap (λ l. bits_at Zero trace (reverse numbers) ++ l) (turned_own h trace mine Zero step (subst (λ r. IsSoundStep h (only Zero trace) r step) (same refl) sound))
more_bits h trace Zero One step own mine numbers same sound so_far =
    so_far ∙ sym (append-nil (bits_at Zero trace (reverse numbers))) ∙ ap (λ l. bits_at Zero trace (reverse numbers) ++ l) (sym (turned_other h trace own One step sound))
more_bits h trace One Zero step own mine numbers same sound so_far =
    so_far ∙ sym (append-nil (bits_at One trace (reverse numbers))) ∙ ap (λ l. bits_at One trace (reverse numbers) ++ l) (sym (turned_other h trace own Zero step sound))
more_bits h trace One One step own mine numbers same sound so_far =
    turned-append (report h (only One trace) mine) (latest h (only One trace) mine step)
    ∙ ap (λ l. l ++ turned_bits (latest h (only One trace) mine step)) so_far
    ∙ ap (λ l. bits_at One trace (reverse numbers) ++ l) (turned_own h trace mine One step (subst (λ r. IsSoundStep h (only One trace) r step) (same refl) sound))

same_run : (rank owner : Rank) (run : PairRun) → is_same rank owner ≡ true → run_of owner run ≡ run_of rank run
same_run Zero Zero run is = refl
same_run Zero One run is = absurd cc
same_run One Zero run is = absurd cc
same_run One One run is = refl

turned_run : (h : Header) (trace : List RankLine) (run : PairRun) (rank : Rank) → AllSound h trace run → turned_bits (report h (only rank trace) (run_of rank run)) ≡ bits_at rank trace (reverse (done run))
turned_run h trace [] rank sound = refl
turned_run h trace (it ∷ run) rank sound =
    let own = own_step h trace it.rank it.step run sound in
    more_bits h trace rank it.rank it.step (run_of it.rank run) (run_of rank run) (done run) (same_run rank it.rank run) own.0 (turned_run h trace run rank (fewer_steps h trace it.rank it.step run sound))
    ∙ sym (flat_map-append (λ number. bits_in rank (slice_get trace (number - 1))) (reverse (done run)) (also (deed it.step) []))
    ∙ ap (bits_at rank trace) (sym (reverse-also (deed it.step) (done run)))

-- ---- A trace

bits_front : (line : TraceLine) (trace : List TraceLine) → bits_of (line ∷ []) ++ bits_of trace ≡ bits_of (line ∷ trace)
bits_front (Read line) trace = refl
bits_front (Write line bytes) trace = refl
bits_front (Flip line device bit) trace = refl
bits_front (Idle clocks) trace = refl

idle_front : (rank owner : Rank) (clocks : ℕ) (trace : List TraceLine) → bits_of trace ≡ bits_of ((if is_same rank owner then Idle clocks else Idle 0) ∷ trace)
idle_front Zero Zero clocks trace = refl
idle_front Zero One clocks trace = refl
idle_front One Zero clocks trace = refl
idle_front One One clocks trace = refl

one_line : (rank : Rank) (whole : List RankLine) (number : ℕ) (owner : Rank) (line : TraceLine) (trace : List TraceLine) → slice_get whole (number - 1) ≡ Some (record { rank = owner; line = line })
    → bits_at rank whole (deed_of number line) ++ bits_of trace ≡ bits_of (line_for rank (record { rank = owner; line = line }) ∷ trace)
one_line rank whole number owner (Read line) trace is =
    ap (λ l. l ++ bits_of trace) (one_bit rank whole number (Some (record { rank = owner; line = Read line })) is) ∙ bits_front (line_for rank (record { rank = owner; line = Read line })) trace
one_line rank whole number owner (Write line bytes) trace is =
    ap (λ l. l ++ bits_of trace) (one_bit rank whole number (Some (record { rank = owner; line = Write line bytes })) is) ∙ bits_front (line_for rank (record { rank = owner; line = Write line bytes })) trace
one_line rank whole number owner (Flip line device bit) trace is =
    ap (λ l. l ++ bits_of trace) (one_bit rank whole number (Some (record { rank = owner; line = Flip line device bit })) is) ∙ bits_front (line_for rank (record { rank = owner; line = Flip line device bit })) trace
one_line rank whole number owner (Idle clocks) trace is = idle_front rank owner clocks trace

all_lines : (rank : Rank) (whole : List RankLine) (n : ℕ) (trace : List RankLine) → ((j : ℕ) → slice_get whole (n + j) ≡ slice_get trace j) → bits_at rank whole (deeds_from (suc n) (lines_of trace)) ≡ bits_of (only rank trace)
all_lines rank whole n [] k = refl
all_lines rank whole n (it ∷ trace) k =
    flat_map-append (λ number. bits_in rank (slice_get whole (number - 1))) (deed_of (suc n) it.line) (deeds_from (suc (suc n)) (lines_of trace))
    ∙ ap (λ l. bits_at rank whole (deed_of (suc n) it.line) ++ l) (all_lines rank whole (suc n) trace (λ j. ap (slice_get whole) (omega arith) ∙ k (suc j)))
    ∙ one_line rank whole (suc n) it.rank it.line (only rank trace) (ap (slice_get whole) (omega arith) ∙ k 0)

pub turns_all : (h : Header) (trace : List RankLine) (run : PairRun) (rank : Rank) → AllSound h trace run → reverse (done run) ≡ deeds (lines_of trace) → turned_bits (report h (only rank trace) (run_of rank run)) ≡ bits_of (only rank trace)
turns_all h trace run rank sound order =
    turned_run h trace run rank sound ∙ ap (bits_at rank trace) order ∙ all_lines rank trace 0 trace (λ j. ap (slice_get trace) (omega arith))
