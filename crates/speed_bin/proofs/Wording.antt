-- The recursions on a log equal what their wording says of its places: the open row, refreshes and scrubs, rolling
-- counts, the alert, and the verdict. Counters and activations stand in `CounterWording`.
use Rattle.std.proofs.Common.{◌≡◌, ◌<◌, arith, slice_get, ◌∙◌, ℕ, zero, suc, ◌+◌, ◌-◌, ◌/◌, Bool, true, false, ◌&&◌, ◌||◌, not, ◌==◌, if◌then◌else◌, refl, sym, Option, Some, None, cond, List, [], ◌∷◌, length, filter, find, filter_map, take_while}
use Rattle.std.specs.List.{cons_option}
use Rattle.std.proofs.lemmas.List.Sums.{take_while-cons, length-filter}
use Rattle.command_words.specs.Command.{bank_number, covers}
use Rattle.command_words.specs.declared.command.Command.{Command}
use Rattle.command_words.specs.declared.command.Command.TheVariants.{Act, Rd, Wr, PrePb, PreSb, PreAb, RefAb, RefSb, RfmAb, RfmSb, Mrw, Ecs, Nop}
use Rattle.speed_bin.specs.declared.header.Header.{Header}
use Rattle.command_words.specs.Kinds.{Effect, Opens, Closes, Manages, Refreshes, Leaves, effect, is_act, is_precharge, is_rfm_all, refreshes, is_scrub}
use Rattle.speed_bin.specs.Log.{Issued, Log, open_at, open_after, refs, scrubs, raa, raa_after}
use Rattle.speed_bin.specs.Alert.{alert, alert_after, closes_some, is_hot}
use Rattle.speed_bin.specs.Rules.{verdict, verdict_after, broken, first_failing}

-- ---- Places

-- a place, and the log before it
pub record Spot : Type 0 where
  pub place : Issued
  pub before : Log

-- all places of a log, newest first
abbrev pub spots : Log → List Spot
spots [] = []
spots (place ∷ log) = record { place = place; before = log } ∷ spots log

-- the places after the last one that passes the test
abbrev pub since : (Spot → Bool) → Log → List Spot
since stops log = take_while (λ spot. not (stops spot)) (spots log)

-- the number of a place, counted from 1
abbrev pub number : Spot → ℕ
number spot = suc (length spot.before)

-- the last entry of a list that stands newest first
abbrev pub older : {X : Type 0} → X → Option X → X
older x None = x
older x (Some y) = y

abbrev pub oldest : {X : Type 0} → List X → Option X
oldest [] = None
oldest (x ∷ xs) = Some (older x (oldest xs))

-- ---- A command acts on the banks that it covers, by its kind

abbrev pub kind : Command → Effect
kind (Act bank row) = Opens row
kind (Rd bank column) = Leaves
kind (Wr bank column) = Leaves
kind (PrePb bank) = Closes
kind (PreSb address) = Closes
kind PreAb = Closes
kind RefAb = Refreshes
kind (RefSb address) = Refreshes
kind RfmAb = Manages
kind (RfmSb address) = Manages
kind (Mrw write) = Leaves
kind Ecs = Leaves
kind Nop = Leaves

same_both : (t : Bool) (e : Effect) → cond t e e ≡ e
same_both true e = refl
same_both false e = refl

pub effect_of_kind : (b : ℕ) (c : Command) → effect b c ≡ (if covers c b then kind c else Leaves)
effect_of_kind b (Rd bank column) = sym (same_both (bank_number bank == b) Leaves)
effect_of_kind b (Wr bank column) = sym (same_both (bank_number bank == b) Leaves)
effect_of_kind b (Act bank row) = refl
effect_of_kind b (PrePb bank) = refl
effect_of_kind b (PreSb address) = refl
effect_of_kind b PreAb = refl
effect_of_kind b RefAb = refl
effect_of_kind b (RefSb address) = refl
effect_of_kind b RfmAb = refl
effect_of_kind b (RfmSb address) = refl
effect_of_kind b (Mrw write) = refl
effect_of_kind b Ecs = refl
effect_of_kind b Nop = refl

-- ---- The open row is that of the last place that is an ACT of the bank or a precharge that covers it

abbrev pub row_of : Command → Option ℕ
row_of (Act bank row) = Some row
row_of _ = None

-- an ACT of the bank, or a precharge that covers it
abbrev pub touches : ℕ → Issued → Bool
touches b place = (is_act place.command || is_precharge place.command) && covers place.command b

abbrev pub row_of_place : Option Issued → Option ℕ
row_of_place None = None
row_of_place (Some place) = row_of place.command

open_step : (b : ℕ) (c : Command) (before : Option ℕ) → open_after (effect b c) before ≡ (if (is_act c || is_precharge c) && covers c b then row_of c else before)
open_step b c before = rw (effect_of_kind b c) (by_kind c (covers c b))
  where
    by_kind : (c : Command) (t : Bool) → open_after (cond t (kind c) Leaves) before ≡ cond ((is_act c || is_precharge c) && t) (row_of c) before
    by_kind (Act bank row) true = refl
    by_kind (Act bank row) false = refl
    by_kind (PrePb bank) true = refl
    by_kind (PrePb bank) false = refl
    by_kind (PreSb address) true = refl
    by_kind (PreSb address) false = refl
    by_kind PreAb true = refl
    by_kind PreAb false = refl
    by_kind (Rd bank column) true = refl
    by_kind (Rd bank column) false = refl
    by_kind (Wr bank column) true = refl
    by_kind (Wr bank column) false = refl
    by_kind RefAb true = refl
    by_kind RefAb false = refl
    by_kind (RefSb address) true = refl
    by_kind (RefSb address) false = refl
    by_kind RfmAb true = refl
    by_kind RfmAb false = refl
    by_kind (RfmSb address) true = refl
    by_kind (RfmSb address) false = refl
    by_kind (Mrw write) true = refl
    by_kind (Mrw write) false = refl
    by_kind Ecs true = refl
    by_kind Ecs false = refl
    by_kind Nop true = refl
    by_kind Nop false = refl

pub open_row_of_last : (b : ℕ) (log : Log) → open_at b log ≡ row_of_place (find (λ place. touches b place) log)
open_row_of_last b [] = refl
open_row_of_last b (place ∷ log) = open_step b place.command (open_at b log) ∙ go (touches b place) (open_row_of_last b log)
  where
    go : (t : Bool) → open_at b log ≡ row_of_place (find (λ p. touches b p) log) → cond t (row_of place.command) (open_at b log) ≡ row_of_place (cond t (Some place) (find (λ p. touches b p) log))
    go true ih = refl
    go false ih = ih

-- ---- Refreshes and scrubs are numbers of places

pub refs_are_places : (address : ℕ) (log : Log) → refs address log ≡ length (filter (λ place. refreshes address place.command) log)
refs_are_places address log = sym (length-filter (λ place. refreshes address place.command) log)

pub scrubs_are_places : (log : Log) → scrubs log ≡ length (filter (λ place. is_scrub place.command) log)
scrubs_are_places log = sym (length-filter (λ place. is_scrub place.command) log)

-- ---- The rolling count: what a command of each kind does to it, in a bank that it covers and in another

abbrev pub count_after : Header → Command → ℕ → ℕ
count_after h (Act bank row) before = before + 1
count_after h RfmAb before = before - h.settings.raaimt
count_after h (RfmSb address) before = before - h.settings.raaimt
count_after h RefAb before = before - h.settings.raaimt / 2
count_after h (RefSb address) before = before - h.settings.raaimt / 2
count_after h _ before = before

pub rolling_count_step : (h : Header) (b : ℕ) (place : Issued) (log : Log) → raa h b (place ∷ log) ≡ (if covers place.command b then count_after h place.command (raa h b log) else raa h b log)
rolling_count_step h b place log = rw (effect_of_kind b place.command) (go (covers place.command b))
  where
    by_kind : (c : Command) (n : ℕ) → raa_after h (kind c) n ≡ count_after h c n
    by_kind (Act bank row) n = refl
    by_kind (Rd bank column) n = refl
    by_kind (Wr bank column) n = refl
    by_kind (PrePb bank) n = refl
    by_kind (PreSb address) n = refl
    by_kind PreAb n = refl
    by_kind RefAb n = refl
    by_kind (RefSb address) n = refl
    by_kind RfmAb n = refl
    by_kind (RfmSb address) n = refl
    by_kind (Mrw write) n = refl
    by_kind Ecs n = refl
    by_kind Nop n = refl

    go : (t : Bool) → raa_after h (cond t (kind place.command) Leaves) (raa h b log) ≡ cond t (count_after h place.command (raa h b log)) (raa h b log)
    go true = by_kind place.command (raa h b log)
    go false = refl

-- ---- The alert is raised by the first place after the last RFMab that closes an open row, and after which some row's
-- counter is at least ATH

abbrev pub raises : Header → Spot → Bool
raises h spot = closes_some spot.place.command spot.before && is_hot h (spot.place ∷ spot.before)

abbrev pub clock_of : Option Spot → Option ℕ
clock_of None = None
clock_of (Some spot) = Some spot.place.clock

pub alert_of_first : (h : Header) (log : Log) → alert h log ≡ clock_of (oldest (filter (λ spot. raises h spot) (since (λ spot. is_rfm_all spot.place.command) log)))
alert_of_first h [] = refl
alert_of_first h (place ∷ log) =
    let here : Spot = record { place = place; before = log } in
    rw (take_while-cons (λ (spot : Spot). not (is_rfm_all spot.place.command)) here (spots log), alert_of_first h log)
    (go here (is_rfm_all place.command) (since (λ spot. is_rfm_all spot.place.command) log))
  where
    earliest : (here : Spot) (raised : Bool) (rest : List Spot) → alert_after false raised here.place.clock (clock_of (oldest rest)) ≡ clock_of (oldest (cond raised (here ∷ rest) rest))
    earliest here true rest = with_it (oldest rest)
      where
        with_it : (o : Option Spot) → alert_after false true here.place.clock (clock_of o) ≡ clock_of (Some (older here o))
        with_it None = refl
        with_it (Some spot) = refl
    earliest here false rest = without (oldest rest)
      where
        without : (o : Option Spot) → alert_after false false here.place.clock (clock_of o) ≡ clock_of o
        without None = refl
        without (Some spot) = refl

    go : (here : Spot) (all : Bool) (rest : List Spot) → alert_after all (raises h here) here.place.clock (clock_of (oldest (filter (λ spot. raises h spot) rest))) ≡ clock_of (oldest (filter (λ spot. raises h spot) (cond (not all) (here ∷ rest) [])))
    go here true rest = refl
    go here false rest = earliest here (raises h here) (filter (λ spot. raises h spot) rest)

-- ---- The verdict is the first place at which a rule fails, and the least rule that fails there

-- the number and the least rule of a place at which a rule fails
abbrev pub numbered : ℕ → Option ℕ → Option (ℕ × ℕ)
numbered place None = None
numbered place (Some rule) = Some (place, rule)

abbrev pub breach : Header → Spot → Option (ℕ × ℕ)
breach h spot = numbered (number spot) (broken h spot.place.clock spot.place.command spot.before)

pub verdict_of_first : (h : Header) (log : Log) → verdict h log ≡ oldest (filter_map (λ spot. breach h spot) (spots log))
verdict_of_first h [] = refl
verdict_of_first h (place ∷ log) = rw (verdict_of_first h log) (go (broken h place.clock place.command log) (filter_map (λ spot. breach h spot) (spots log)))
  where
    go : (fails : Option ℕ) (rest : List (ℕ × ℕ)) → verdict_after (oldest rest) (suc (length log)) fails ≡ oldest (cons_option (numbered (suc (length log)) fails) rest)
    go None [] = refl
    go None (x ∷ xs) = refl
    go (Some rule) [] = refl
    go (Some rule) (x ∷ xs) = refl

-- the number of a test that fails, with all before it holding; the tests are numbered from n
pub failing_is_least : (n m : ℕ) (tests : List Bool) → first_failing n tests ≡ Some m → (i : ℕ) × (m ≡ n + i) × (slice_get tests i ≡ Some false) × ((j : ℕ) → j < i → slice_get tests j ≡ Some true)
failing_is_least n m [] h = absurd (cc)
failing_is_least n m (false ∷ tests) h = (0, (let e : n ≡ m = cc in omega arith), refl, (λ j low. absurd (omega arith)))
failing_is_least n m (true ∷ tests) h =
    let p = failing_is_least (suc n) m tests h in
    (suc p.0, (let e = p.1 in omega arith), p.2, (λ j low. before p.0 p.3 j low))
  where
    before : (i : ℕ) → ((j : ℕ) → j < i → slice_get tests j ≡ Some true) → (j : ℕ) → j < suc i → slice_get (true ∷ tests) j ≡ Some true
    before i hold zero low = refl
    before i hold (suc j) low = hold j (omega arith)

pub none_failing : (n : ℕ) (tests : List Bool) → first_failing n tests ≡ None → (i : ℕ) → i < length tests → slice_get tests i ≡ Some true
none_failing n [] h i low = absurd (omega arith)
none_failing n (false ∷ tests) h i low = absurd (cc)
none_failing n (true ∷ tests) h zero low = refl
none_failing n (true ∷ tests) h (suc i) low = none_failing (suc n) tests h i (omega arith)
