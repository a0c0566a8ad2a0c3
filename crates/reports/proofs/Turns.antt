-- What each turn of a replay keeps.
use Rattle.std.proofs.Common.{◌*◌, nat_lt, ◌≡◌, ℕ, ◌+◌, ◌-◌, ◌<◌, ◌≤◌, ◌⊎◌, inl, inr, ◌&&◌, Bool, true, false, Option, Some, None, List, [], ◌∷◌, ◌++◌, map, length, take, drop, slice_get, refl, sym, ap, ◌∙◌, subst, arith, append_assoc}
use Rattle.command_words.specs.declared.place.Bank.{Bank}
use Rattle.command_words.specs.Command.{bank_number}
use Rattle.speed_bin.specs.Marks.{is_bank}
use Rattle.std.specs.Prelude.{IsTrue, IfSome, nat_lt}
use Rattle.std.specs.List.{list_all}
use Rattle.std.proofs.lemmas.Bool.{lt-ltb, ltb-true}
use Rattle.std.proofs.lemmas.List.{take-append-drop, map-append}
use Rattle.command_words.specs.declared.command.Command.{Command}
use Rattle.command_words.specs.declared.command.Command.TheVariants.{Act, Rd, Wr, PrePb, PreSb, PreAb, RefAb, RefSb, RfmAb, RfmSb, Mrw, Ecs, Nop}
use Rattle.speed_bin.specs.Log.{Log}
use Rattle.speed_bin.specs.declared.header.Header.{Header}
use Rattle.device_core.specs.Legal.{IsLegal}
use Rattle.requests.specs.Choice.{IsChosen}
use Rattle.requests.specs.Order.{IsServing}
use Rattle.requests.specs.Queue.{Step as NumberedStep, waiting, span, AreKnown, IsFull}
use Rattle.speed_bin.specs.Header.{shape_of}
use Rattle.requests.specs.Window.{window as window_of}
use Rattle.requests.specs.declared.request.Request.{Request as Asked}
use Rattle.ddr_text.specs.Ranges.{IsCommandOf}
use Rattle.ddr_text.specs.declared.lines.TraceLine.{TraceLine}
use Rattle.ddr_text.specs.declared.lines.TraceLine.TheVariants.{Read, Write, Flip, Idle}
use Rattle.reports.specs.Requests.{Request, request_of, requests_from, requests}
use Rattle.reports.specs.Runs.{Run, log_of, IsNext, held}
use Rattle.reports.specs.Barriers.{Serving, servings, with_serving}
use Rattle.reports.specs.Offered.{asked, offered, rank_of, ranked, controller_steps}
use Rattle.reports.specs.Sound.{IsSoundPlace, Sound}
use Rattle.speed_bin.proofs.Tests.{both}
use Rattle.reports.specs.Window.{up_to_barrier, reach, window, IsAskedFor}
use Rattle.reports.specs.Underway.{Ahead, Unknown, Next, Ended, MayFollow, IsStopped, IsIssued, IsUnderway, issue}
use Rattle.reports.proofs.Ready.{held-past}
use Rattle.reports.proofs.Offered.{IsPromised, promised}
use Rattle.reports.proofs.Underway.{rank-longer, steps-longer, waits-none, lengths, two-parts, whole, still-done, behind-done, apart-place, waited-place, and-both}
use Rattle.reports.proofs.Window.{QueueIsWindow, asked-for, asks-none, reaches}

-- ---- A command is issued

own-group : (h : Header) (bank : Bank) → is_bank h bank ≡ true → bank.group < h.version.groups
own-group h bank here = let low = ltb-true (bank_number bank) (h.version.groups * 4) here in omega (arith, low)

within-legal : (h : Header) (clock : ℕ) (command : Command) (log : Log) → IsLegal h clock command log → IsCommandOf (shape_of h) command
within-legal h clock (Act bank row) log l =
    let p = both (nat_lt row h.settings.rows) (is_bank h bank) l.row in
    (record { group = own-group h bank p.1; address = l.in_range.0.address }, ltb-true row h.settings.rows p.0)
within-legal h clock (Rd bank column) log l = (record { group = own-group h bank l.row; address = l.in_range.0.address }, l.in_range.1)
within-legal h clock (Wr bank column) log l = (record { group = own-group h bank l.row; address = l.in_range.0.address }, l.in_range.1)
within-legal h clock (PrePb bank) log l = record { group = own-group h bank l.row; address = l.in_range.address }
within-legal h clock (PreSb address) log l = l.in_range
within-legal h clock PreAb log l = tt
within-legal h clock RefAb log l = tt
within-legal h clock (RefSb address) log l = l.in_range
within-legal h clock RfmAb log l = tt
within-legal h clock (RfmSb address) log l = l.in_range
within-legal h clock (Mrw write) log l = l.in_range
within-legal h clock Ecs log l = tt
within-legal h clock Nop log l = tt

sound-place : (h : Header) (trace : List TraceLine) (run : Run) (clock : ℕ) (command : Command) (id : Option ℕ) → IsLegal h clock command (log_of run) → IsPromised h trace run command id
    → IsSoundPlace h trace run (record { issued = record { clock = clock; command = command }; request = ranked trace id })
sound-place h trace run clock command id legal p = record {
  in_time = legal.in_time;
  in_range = within-legal h clock command (log_of run) legal;
  rules = legal.rules;
  is_of = p.is_of;
  is_next = p.is_next;
}

-- no further request stands before the next barrier
stopped-line : (m : ℕ) (line : TraceLine) (more : List TraceLine) → request_of 0 line ≡ [] → up_to_barrier m (line ∷ more) ≡ []
stopped-line m (Read line) more e = cc
stopped-line m (Write line bytes) more e = cc
stopped-line m (Flip line device bit) more e = refl
stopped-line m (Idle clocks) more e = refl

stopped : (m : ℕ) (ahead : Ahead) (more : List TraceLine) → IsStopped ahead → MayFollow ahead more → up_to_barrier m more ≡ []
stopped m Unknown more s f = absurd s
stopped m (Next line) [] s f = absurd f
stopped m (Next line) (first ∷ more) s f = ap (λ l. up_to_barrier m (l ∷ more)) f ∙ stopped-line m line more s
stopped m Ended [] s f = refl
stopped m Ended (first ∷ more) s f = absurd f

full-or : (m : ℕ) (ahead : Ahead) (more : List TraceLine) (P : Type 0) → P ⊎ IsStopped ahead → MayFollow ahead more → P ⊎ (map asked (up_to_barrier m more) ≡ [])
full-or m ahead more P (inl p) f = inl p
full-or m ahead more P (inr s) f = inr (ap (map asked) (stopped m ahead more s f))

window-same : QueueIsWindow → (h : Header) (trace : List TraceLine) (run : Run) (steps : List NumberedStep) (offers later : List Asked) → controller_steps trace run ≡ steps → map asked (reach trace run) ≡ offers ++ later → AreKnown offers steps
    → length (waiting h offers steps) ≤ 32 → span (length offers) (waiting h offers steps) ≤ 64 → IsFull (length offers) (waiting h offers steps) ⊎ (later ≡ []) → waiting h offers steps ≡ window h trace run
window-same law h trace run steps offers later e reach_is known few within full =
    law h offers later steps known few within full
    ∙ ap (λ l. window_of h l steps) (sym reach_is)
    ∙ ap (window_of h (map asked (reach trace run))) (sym e)

window-place : QueueIsWindow → (h : Header) (trace : List TraceLine) (n now : ℕ) (run : Run) (ahead : Ahead) (clock : ℕ) (command : Command) (id : Option ℕ) (more : List TraceLine) (left : List Request)
    → IsUnderway h trace n now run ahead → IsIssued h trace run ahead now clock command id → rank_of (trace ++ more) (ranked trace id) ≡ id → MayFollow ahead more
    → held (requests_from (1 + n) (drop n trace)) run ≡ left
    → IsAskedFor h (trace ++ more) run (record { issued = record { clock = clock; command = command }; request = ranked trace id })
window-place law h trace n now run ahead clock command id more [] u i rank_is follows e =
    let none : held (requests trace) run ≡ [] = ap (λ l. held l run) (two-parts trace n u.within) ∙ held-past (requests (take n trace)) (requests_from (1 + n) (drop n trace)) run (whole (requests (take n trace)) run u.done) ∙ e in
    let empty : waiting h (offered trace) (controller_steps trace run) ≡ [] = waits-none h trace run u.sound none in
    asked-for h (trace ++ more) run (record { issued = record { clock = clock; command = command }; request = ranked trace id }) (window h (trace ++ more) run) id refl rank_is
    (asks-none h (window h (trace ++ more) run) (log_of run) clock command id (subst (λ ws. IsChosen h ws (log_of run) clock command id) empty i.chosen))
window-place law h trace n now run ahead clock command id more (first ∷ later) u i rank_is follows e =
    let m : ℕ = 1 + length (take n trace) + length (drop n trace) in
    let parts : trace ++ more ≡ take n trace ++ (drop n trace ++ more) = ap (λ l. l ++ more) (sym (take-append-drop n trace)) ∙ append_assoc (take n trace) (drop n trace) more in
    let here : held (requests_from (1 + length (take n trace)) (drop n trace)) run ≡ first ∷ later = ap (λ k. held (requests_from k (drop n trace)) run) (omega (arith, lengths trace n u.within)) ∙ e in
    let far : reach (trace ++ more) run ≡ requests trace ++ up_to_barrier m more
    = reaches (trace ++ more) (take n trace) (drop n trace) more run first later parts u.block u.done here
    ∙ ap (λ k. (requests (take n trace) ++ requests_from k (drop n trace)) ++ up_to_barrier m more) (omega (arith, lengths trace n u.within))
    ∙ ap (λ l. l ++ up_to_barrier m more) (sym (two-parts trace n u.within)) in
    let reach_is : map asked (reach (trace ++ more) run) ≡ offered trace ++ map asked (up_to_barrier m more) = ap (map asked) far ∙ map-append asked (requests trace) (up_to_barrier m more) in
    asked-for h (trace ++ more) run (record { issued = record { clock = clock; command = command }; request = ranked trace id }) (waiting h (offered trace) (controller_steps trace run)) id
    (window-same law h (trace ++ more) run (controller_steps trace run) (offered trace) (map asked (up_to_barrier m more)) (steps-longer h trace more run u.sound) reach_is i.known i.few i.within (full-or m ahead more _ i.filled follows))
    rank_is i.chosen

late-number : (h : Header) (trace : List TraceLine) (n now clock : ℕ) (run : Run) (id : Option ℕ) → Sound h trace run → n ≤ length trace → held (requests (take n trace)) run ≡ [] → IfSome (ranked trace id) (λ r. IsNext (requests trace) run r)
    → IfSome id (λ number. now ≤ clock) → IfSome (ranked trace id) (λ r. (n < r.number) × (now ≤ clock))
late-number h trace n now clock run None sound le done next late = tt
late-number h trace n now clock run (Some k) sound le done next late = go (slice_get (requests trace) (k - 1)) next
  where
    go : (o : Option Request) → IfSome o (λ r. IsNext (requests trace) run r) → IfSome o (λ r. (n < r.number) × (now ≤ clock))
    go None next = tt
    go (Some r) next = (behind-done h trace n run r sound le done next, late)

past-one : (now later : ℕ) (b : Serving) (x : Bool) (rest : Bool) (P : Type 0) → now ≤ later → nat_lt b.clock now ≡ x → IsTrue (x && rest) → (IsTrue (nat_lt b.clock later) → IsTrue rest → P) → P
past-one now later b true rest P le e h f = let k : b.clock < now = ltb-true b.clock now e in f (lt-ltb b.clock later (omega (arith, k, le))) h
past-one now later b false rest P le e h f = cc

past-all : (now later : ℕ) (all : List Serving) → now ≤ later → IsTrue (list_all (λ s. nat_lt s.clock now) all) → IsTrue (list_all (λ s. nat_lt s.clock later) all)
past-all now later [] le e = refl
past-all now later (b ∷ all) le e =
    past-one now later b (nat_lt b.clock now) (list_all (λ s. nat_lt s.clock now) all) (IsTrue (list_all (λ s. nat_lt s.clock later) (b ∷ all))) le refl e
    (λ k h. and-both (nat_lt b.clock later) (list_all (λ s. nat_lt s.clock later) all) k (past-all now later all le h))

past-place : (now later clock : ℕ) (all : List Serving) (o : Option Request) → now ≤ later → clock < later → IsTrue (list_all (λ s. nat_lt s.clock now) all) → IsTrue (list_all (λ s. nat_lt s.clock later) (with_serving o clock all))
past-place now later clock all None le low e = past-all now later all le e
past-place now later clock all (Some r) le low e =
    and-both (nat_lt clock later) (list_all (λ s. nat_lt s.clock later) all) (lt-ltb clock later low) (past-all now later all le e)

pub issues : QueueIsWindow → (h : Header) (trace : List TraceLine) (n now later : ℕ) (run : Run) (ahead : Ahead) (clock : ℕ) (command : Command) (id : Option ℕ)
    → IsUnderway h trace n now run ahead → IsIssued h trace run ahead now clock command id → now ≤ later → clock < later → IsUnderway h trace n later (issue trace clock command id ∷ run) ahead
issues law h trace n now later run ahead clock command id u i le low =
    let p = promised h trace run command id u.sound i.serving in
    let behind = late-number h trace n now clock run id u.sound u.within u.done p.is_next i.late in
    record {
      sound = (sound-place h trace run clock command id i.legal p, u.sound);
      within = u.within;
      block = u.block;
      done = still-done (requests (take n trace)) (issue trace clock command id) run u.done;
      flips = u.flips;
      window = λ more follows. (
        window-place law h trace n now run ahead clock command id more (held (requests_from (1 + n) (drop n trace)) run) u i (rank-longer trace more run (ranked trace id) p.is_next ∙ p.is_rank) follows refl,
        u.window more follows,
      );
      apart = apart-place trace n now clock (servings run) (ranked trace id) u.within u.block behind u.waited u.apart;
      past = past-place now later clock (servings run) (ranked trace id) le low u.past;
      waited = waited-place trace n now later clock (servings run) (ranked trace id) u.within le behind u.waited;
      idle = omega (arith, u.idle, le);
    }

pub issued-steps : (h : Header) (trace : List TraceLine) (run : Run) (clock : ℕ) (command : Command) (id : Option ℕ) → Sound h trace run → IsServing h (offered trace) (controller_steps trace run) command id
    → controller_steps trace (issue trace clock command id ∷ run) ≡ record { issued = record { clock = clock; command = command }; id = id } ∷ controller_steps trace run
issued-steps h trace run clock command id sound serving =
    ap (λ k. record { issued = record { clock = clock; command = command }; id = k } ∷ controller_steps trace run) (promised h trace run command id sound serving).is_rank
