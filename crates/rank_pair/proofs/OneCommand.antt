-- A command is issued, given to the device of its rank, and its lines are written.
use Rattle.std.proofs.Common.{◌≡◌, ◌∙◌, ℕ, ◌+◌, ◌-◌, ap, arith, refl, sym, subst, true, Option, Some, None, List, ◌∷◌, slice_get}
use Rattle.command_words.specs.Kinds.{is_wr}
use Rattle.command_words.specs.declared.command.Command.{Command}
use Rattle.command_words.specs.declared.command.Command.TheVariants.{Act, Rd, Wr, PrePb, PreSb, PreAb, RefAb, RefSb, RfmAb, RfmSb, Mrw, Ecs, Nop}
use Rattle.ddr_text.specs.declared.lines.ReportLine.TheVariants.{Issued as IssuedLine}
use Rattle.ddr_text.specs.declared.lines.TraceLine.{TraceLine}
use Rattle.device_core.specs.Steps.{Step as DeviceStep}
use Rattle.device_core.specs.Stored.{answer}
use Rattle.error_scrub.specs.declared.cells.LineRead.{LineRead}
use Rattle.requests.specs.declared.request.Kind.TheVariants.{Read as Reads, Write as Writes}
use Rattle.reports.specs.Accesses.{IsColumn}
use Rattle.reports.specs.Delivered.{bytes_for, bytes_in, device_steps}
use Rattle.reports.specs.Readings.{reading_of}
use Rattle.reports.specs.Report.{latest}
use Rattle.reports.specs.Requests.{Request}
use Rattle.reports.specs.Runs.{Issues, Run, Served}
use Rattle.reports.specs.Sound.{IsSoundPlace, Sound}
use Rattle.reports.proofs.Through.{latest-none, latest-through}
use Rattle.speed_bin.specs.declared.header.Header.{Header}
use Rattle.rank_bus.specs.Held.{Held as Bus}
use Rattle.rank_bus.specs.Standing.{StandsFor as BusFor, now_of}
use Rattle.rank_bus.specs.declared.rank.Rank.{Rank}
use Rattle.rank_bus.specs.declared.rank.Rank.TheVariants.{Zero, One}
use Rattle.pair_reports.specs.Lines.{only}
use Rattle.pair_reports.specs.Report.{latest_of, of_rank}
use Rattle.pair_reports.specs.Runs.{PairRun, bus_of, run_of}
use Rattle.pair_reports.specs.declared.rank_line.RankLine.{RankLine}
use Rattle.rank_pair.specs.Pairs.{IsAsked, IsIssuable, IsNextClock, KeepsRest, StandsFor, bytes_with, end_in, issues, lines_for, request_for, requested, value_lines}
use Rattle.rank_pair.specs.RankEnds.{EndStandsFor, MayTake, served}
use Rattle.rank_pair.specs.declared.pair.LineAccess.{LineAccess}
use Rattle.rank_pair.specs.declared.pair.Pair.{Pair}
use Rattle.rank_pair.specs.declared.rank_end.RankEnd.{RankEnd}

-- ---- The end of a rank

-- a new bus changes no end
abbrev pub with_bus : Pair → Bus → Pair
with_bus p bus = record p { bus = bus }

pub end_kept : (rank : Rank) (p : Pair) (bus : Bus) → end_in rank (with_bus p bus) ≡ end_in rank p
end_kept Zero p bus = refl
end_kept One p bus = refl

end_stands : (rank : Rank) (p : Pair) (h : Header) (trace : List RankLine) (run : PairRun) → StandsFor p h trace run → EndStandsFor (end_in rank p) h (only rank trace) (run_of rank run)
end_stands Zero p h trace run stands = stands.zero
end_stands One p h trace run stands = stands.one

-- ---- What it is given

bytes_asked : (trace : List TraceLine) (run : Run) (access : Option LineAccess) → IsAsked trace run access → bytes_for trace (requested access) ≡ bytes_with access
bytes_asked trace run None asked = refl
bytes_asked trace run (Some it) asked =
    ap (λ (n : ℕ). bytes_in (slice_get trace n)) (less_one it.number asked.before asked.numbered) ∙ ap bytes_in asked.there ∙ asked.brings
  where
    less_one : (number before : ℕ) → number ≡ before + 1 → number - 1 ≡ before
    less_one number before e = omega (arith, e)

pub may_take : (p : Pair) (bus : Bus) (h : Header) (trace : List RankLine) (run : PairRun) (rank : Rank) (clock : ℕ) (command : Command) (access : Option LineAccess) (bytes : Option (List ℕ))
    → IsIssuable p h trace run rank command access → IsNextClock p h run rank command clock → bytes ≡ bytes_with access
    → MayTake (end_in rank (with_bus p bus)) h (only rank trace) (run_of rank run) clock command (requested access) bytes
may_take p bus h trace run rank clock command access bytes k at same = record {
  accepted = k.accepted;
  stands = subst (λ (e : RankEnd). EndStandsFor e h (only rank trace) (run_of rank run)) (sym (end_kept rank p bus)) (end_stands rank p h trace run k.stands);
  sound = k.right clock at;
  bytes_are = bytes_asked (only rank trace) (run_of rank run) access k.asked ∙ sym same;
  few = k.few;
}

-- ---- What it stands for then

pub issued_stands : (p q : Pair) (bus : Bus) (h : Header) (trace : List RankLine) (run : PairRun) (rank : Rank) (clock : ℕ) (command : Command) (access : Option LineAccess)
    → StandsFor p h trace run → KeepsRest rank (with_bus p bus) q → BusFor bus h (record { rank = rank; clock = clock; command = command } ∷ bus_of run)
    → EndStandsFor (end_in rank q) h (only rank trace) (Issues (served clock command (requested access)) ∷ run_of rank run) → StandsFor q h trace (issues rank clock command access ∷ run)
issued_stands p q bus h trace run Zero clock command access stands rest on_bus own = record {
  bus = subst (λ (b : Bus). BusFor b h (record { rank = Zero; clock = clock; command = command } ∷ bus_of run)) (sym rest.bus) on_bus;
  zero = own;
  one = subst (λ (e : RankEnd). EndStandsFor e h (only One trace) (run_of One run)) (sym rest.rest) stands.one;
  geometry = rest.geometry ∙ stands.geometry;
}
issued_stands p q bus h trace run One clock command access stands rest on_bus own = record {
  bus = subst (λ (b : Bus). BusFor b h (record { rank = One; clock = clock; command = command } ∷ bus_of run)) (sym rest.bus) on_bus;
  zero = subst (λ (e : RankEnd). EndStandsFor e h (only Zero trace) (run_of Zero run)) (sym rest.rest) stands.zero;
  one = own;
  geometry = rest.geometry ∙ stands.geometry;
}

pub now_kept : (p q : Pair) (bus : Bus) (rank : Rank) (clock : ℕ) → KeepsRest rank (with_bus p bus) q → now_of bus ≡ clock + 1 → now_of q.bus ≡ clock + 1
now_kept p q bus rank clock rest is = ap now_of rest.bus ∙ is

-- ---- What it shows

-- what a device answers to an RD that serves a read
abbrev pub AnswersReads : Type 0
AnswersReads = (h : Header) (trace : List TraceLine) (run : Run) (s : Served) (r : Request) → Sound h trace (Issues s ∷ run) → s.request ≡ Some r → r.kind ≡ Reads
    → answer h s.issued.command (device_steps h trace run) ≡ Some (reading_of h trace (Issues s ∷ run) r)

-- a request is served by its column
abbrev pub ServesByColumns : Type 0
ServesByColumns = (h : Header) (trace : List TraceLine) (run : Run) (s : Served) (r : Request) → IsSoundPlace h trace run s → s.request ≡ Some r → IsColumn r.kind s.issued.command

wr_finds_nothing : (h : Header) (command : Command) (steps : List DeviceStep) → is_wr command ≡ true → answer h command steps ≡ None
wr_finds_nothing h (Act bank row) steps is = refl
wr_finds_nothing h (Rd bank column) steps is = absurd cc
wr_finds_nothing h (Wr bank column) steps is = refl
wr_finds_nothing h (PrePb bank) steps is = refl
wr_finds_nothing h (PreSb address) steps is = refl
wr_finds_nothing h PreAb steps is = refl
wr_finds_nothing h RefAb steps is = refl
wr_finds_nothing h (RefSb address) steps is = refl
wr_finds_nothing h RfmAb steps is = refl
wr_finds_nothing h (RfmSb address) steps is = refl
wr_finds_nothing h (Mrw write) steps is = refl
wr_finds_nothing h Ecs steps is = refl
wr_finds_nothing h Nop steps is = refl

-- the lines of an access, by what it brings
shows_access : AnswersReads → ServesByColumns → (h : Header) (trace : List TraceLine) (run : Run) (clock : ℕ) (command : Command) (number line : ℕ) (bytes : Option (List ℕ)) (read : Option LineRead)
    → Sound h trace run → IsSoundPlace h trace run (served clock command (Some (request_for (record { number = number; line = line; bytes = bytes }))))
    → IsAsked trace run (Some (record { number = number; line = line; bytes = bytes }))
    → read ≡ answer h command (device_steps h trace run)
    → latest h trace run (Issues (served clock command (Some (request_for (record { number = number; line = line; bytes = bytes }))))) ≡ IssuedLine clock command ∷ value_lines (Some (record { number = number; line = line; bytes = bytes })) read
shows_access reads columns h trace run clock command number line None read sound place asked is =
    let r : Request = record { number = number; line = line; kind = Reads } in
    let s : Served = served clock command (Some r) in
    latest-through h trace asked.before number run s asked.line r asked.through asked.there asked.numbered asked.asks refl
    ∙ ap (λ (found : Option LineRead). IssuedLine clock command ∷ value_lines (Some (record { number = number; line = line; bytes = None })) found)
    (sym (is ∙ reads h trace run s r (place, sound) refl refl))
shows_access reads columns h trace run clock command number line (Some bytes) read sound place asked is =
    let r : Request = record { number = number; line = line; kind = Writes } in
    let s : Served = served clock command (Some r) in
    latest-through h trace asked.before number run s asked.line r asked.through asked.there asked.numbered asked.asks refl
    ∙ ap (λ (found : Option LineRead). IssuedLine clock command ∷ value_lines (Some (record { number = number; line = line; bytes = Some bytes })) found)
    (sym (is ∙ wr_finds_nothing h command (device_steps h trace run) (columns h trace run s r place refl)))

shows_step : AnswersReads → ServesByColumns → (h : Header) (trace : List TraceLine) (run : Run) (clock : ℕ) (command : Command) (access : Option LineAccess) (read : Option LineRead)
    → Sound h trace run → IsSoundPlace h trace run (served clock command (requested access)) → IsAsked trace run access → read ≡ answer h command (device_steps h trace run)
    → latest h trace run (Issues (served clock command (requested access))) ≡ IssuedLine clock command ∷ value_lines access read
shows_step reads columns h trace run clock command None read sound place asked is = latest-none h trace run (served clock command None) refl
shows_step reads columns h trace run clock command (Some it) read sound place asked is =
    shows_access reads columns h trace run clock command it.number it.line it.bytes read sound place asked is

pub shows : AnswersReads → ServesByColumns → (p : Pair) (h : Header) (trace : List RankLine) (run : PairRun) (rank : Rank) (clock : ℕ) (command : Command) (access : Option LineAccess) (read : Option LineRead)
    → IsIssuable p h trace run rank command access → IsNextClock p h run rank command clock → read ≡ answer h command (device_steps h (only rank trace) (run_of rank run))
    → lines_for rank clock command access read ≡ latest_of h trace run (issues rank clock command access)
shows reads columns p h trace run rank clock command access read k at is =
    ap (of_rank rank) (sym (shows_step reads columns h (only rank trace) (run_of rank run) clock command access read (k.sound rank) (k.right clock at) k.asked is))
