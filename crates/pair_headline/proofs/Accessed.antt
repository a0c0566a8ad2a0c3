-- What the bus reads and writes is what the run serves, and so what the trace asks for.
use Rattle.std.proofs.Common.{◌≡◌, ◌∙◌, ℕ, suc, refl, sym, ap, Option, Some, None, List, [], ◌∷◌, ◌++◌, map, reverse, append-nil}
use Rattle.std.specs.Prelude.{option_map}
use Rattle.std.proofs.lemmas.List.{map-append, reverse-append}
use Rattle.device_core.specs.Stored.{also}
use Rattle.speed_bin.specs.Header.{shape_of}
use Rattle.speed_bin.specs.declared.header.Header.{Header}
use Rattle.ddr_text.specs.declared.lines.TraceLine.{TraceLine}
use Rattle.ddr_text.specs.declared.lines.TraceLine.TheVariants.{Read, Write, Flip, Idle}
use Rattle.rank_bus.specs.declared.rank.Rank.{Rank}
use Rattle.reports.specs.Accesses.{access_at, access_of}
use Rattle.reports.specs.Requests.{Request, request_of}
use Rattle.reports.specs.Runs.{Issues, Flips, Step}
use Rattle.reports.specs.Sound.{IsSoundStep}
use Rattle.pair_reports.proofs.Grown.{AllSound, fewer_steps, own_step}
use Rattle.pair_reports.proofs.Parts.{part_is_log}
use Rattle.pair_reports.specs.Lines.{deeds, lines_of, only}
use Rattle.pair_reports.specs.Runs.{PairRun, bus_of, done, place_of, run_of}
use Rattle.pair_reports.specs.Shown.{RankAccess, asked_from, asked_of, pair_accesses, pair_asked, with_rank}
use Rattle.pair_reports.specs.declared.rank_line.RankLine.{RankLine}
use Rattle.pair_headline.proofs.Pairs.{RankRequest, begins_all, of_requests, pair_with, pairs_from, request_in, served_pairs}

abbrev what_of : RankRequest → RankAccess
what_of p = record { rank = p.rank; access = access_of p.request }

one_served : (rank : Rank) (o : Option Request) (ps : List RankRequest) → also (with_rank rank (option_map access_of o)) (map what_of ps) ≡ map what_of (also (pair_with rank o) ps)
one_served rank None ps = refl
one_served rank (Some r) ps = refl

one_step : (h : Header) (trace : List RankLine) (run : PairRun) (rank : Rank) (step : Step) → IsSoundStep h (only rank trace) (run_of rank run) step → pair_accesses (shape_of h) (bus_of run) ≡ map what_of (served_pairs run)
    → pair_accesses (shape_of h) (also (place_of rank step) (bus_of run)) ≡ map what_of (also (pair_with rank (request_in step)) (served_pairs run))
one_step h trace run rank (Issues s) sound same =
    ap (λ log. also (with_rank rank (access_at (shape_of h) s.issued.command log)) (pair_accesses (shape_of h) (bus_of run))) (part_is_log rank run)
    ∙ ap (λ o. also (with_rank rank o) (pair_accesses (shape_of h) (bus_of run))) sound.is_of
    ∙ ap (also (with_rank rank (option_map access_of s.request))) same
    ∙ one_served rank s.request (served_pairs run)
one_step h trace run rank (Flips number) sound same = same

accessed : (h : Header) (trace : List RankLine) (run : PairRun) → AllSound h trace run → pair_accesses (shape_of h) (bus_of run) ≡ map what_of (served_pairs run)
accessed h trace [] sound = refl
accessed h trace (it ∷ run) sound =
    one_step h trace run it.rank it.step (own_step h trace it.rank it.step run sound).0 (accessed h trace run (fewer_steps h trace it.rank it.step run sound))

map-reverse : (ps : List RankRequest) → reverse (map what_of ps) ≡ map what_of (reverse ps)
map-reverse [] = refl
map-reverse (p ∷ ps) =
    reverse-append (what_of p ∷ []) (map what_of ps)
    ∙ ap (λ l. l ++ what_of p ∷ []) (map-reverse ps)
    ∙ sym (map-append what_of (reverse ps) (p ∷ []))
    ∙ ap (map what_of) (sym (reverse-append (p ∷ []) ps))

asked_line : (n : ℕ) (rank : Rank) (line : TraceLine) (ps : List RankRequest) (rest : List RankAccess) → rest ≡ map what_of ps → asked_of rank (request_of n line) ++ rest ≡ map what_of (of_requests rank (request_of n line) ++ ps)
asked_line n rank (Read line) ps rest same = ap (λ l. asked_of rank (request_of n (Read line)) ++ l) same
asked_line n rank (Write line bytes) ps rest same = ap (λ l. asked_of rank (request_of n (Write line bytes)) ++ l) same
asked_line n rank (Flip line device bit) ps rest same = same
asked_line n rank (Idle clocks) ps rest same = same

asked_lines : (n : ℕ) (trace : List RankLine) → asked_from n trace ≡ map what_of (pairs_from n trace)
asked_lines n [] = refl
asked_lines n (it ∷ trace) = asked_line n it.rank it.line (pairs_from (suc n) trace) (asked_from (suc n) trace) (asked_lines (suc n) trace)

pub in_order : (h : Header) (trace : List RankLine) (run : PairRun) → AllSound h trace run → reverse (done run) ≡ deeds (lines_of trace) → reverse (pair_accesses (shape_of h) (bus_of run)) ≡ pair_asked trace
in_order h trace run sound order =
    ap reverse (accessed h trace run sound)
    ∙ map-reverse (served_pairs run)
    ∙ ap (map what_of) (sym (append-nil (reverse (served_pairs run))) ∙ begins_all h trace run [] sound (append-nil (reverse (done run)) ∙ order))
    ∙ sym (asked_lines 1 trace)
