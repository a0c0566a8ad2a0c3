-- Banks that there are not: nothing ever opens them, and no test of all 32 numbers depends on them.
use Rattle.std.proofs.Common.{◌≡◌, ◌∙◌, ℕ, zero, suc, ◌+◌, ◌%◌, ◌<◌, ◌≤◌, ◌⊎◌, Bool, true, false, ◌&&◌, ◌||◌, not, ◌==◌, nat_le, nat_lt, cond, refl, sym, ap, arith, inl, inr, subst, Option, Some, None, is_none, List, [], ◌∷◌, length, slice_set, ltb-true, ne_eqb, eq-eqb, eqb-true, zero-add}
use Rattle.command_words.specs.Command.{bank_number, is_at, covers}
use Rattle.command_words.specs.declared.place.Bank.{Bank}
use Rattle.command_words.specs.declared.command.Command.{Command}
use Rattle.command_words.specs.declared.command.Command.TheVariants.{Act, Rd, Wr, PrePb, PreSb, PreAb, RefAb, RefSb, RfmAb, RfmSb, Mrw, Ecs, Nop}
use Rattle.speed_bin.specs.declared.header.Header.{Header}
use Rattle.speed_bin.specs.Below.{all_below, any_below}
use Rattle.command_words.specs.Kinds.{Effect, Opens, Closes, Manages, Refreshes, Leaves, effect, is_scrub, needs_closed}
use Rattle.speed_bin.specs.Log.{Issued, Log, open_after, open_at, raa, raa_after}
use Rattle.speed_bin.specs.Counters.{Counter, count_of, counters, counters_after, after_mitigation, mitigated, cnt, acts, acts_after, is_row}
use Rattle.speed_bin.specs.Alert.{closes, closes_some, is_hot}
use Rattle.speed_bin.specs.Gap.{meet}
use Rattle.speed_bin.specs.Marks.{RowsInRange, opens_inside}
use Rattle.speed_bin.specs.Page.{keeps_page, last_row, last_row_after, reopens}
use Rattle.speed_bin.specs.Rules.{rule_5, is_wanted, all_closed}
use Rattle.speed_bin.specs.Present.{banks_of, has_bank, HasBanks}
use Rattle.speed_bin.proofs.Tests.{both, joined, or_right, same_tests, any_below_at, any_below_none, any_below_some}
use Rattle.speed_bin.proofs.Splits.{below_or_not}
use Rattle.speed_bin.proofs.Rows.{unused_counts}
use Rattle.std.proofs.lemmas.Bool.Decides.{nat_tests}

-- ---- Tests of more numbers than there are banks

-- those from m on fail, so they find nothing
pub any_upto : (m k : ℕ) (test : ℕ → Bool) → ((b : ℕ) → m ≤ b → test b ≡ false) → any_below (k + m) test ≡ any_below m test
unfolding any_below
any_upto m zero test h = rw zero-add refl
any_upto m (suc k) test h = let e = h (k + m) (omega arith) in let n : suc k + m ≡ suc (k + m) = omega arith in rw (n, e) (any_upto m k test h)

-- those from m on hold, so they refuse nothing
pub all_upto : (m k : ℕ) (test : ℕ → Bool) → ((b : ℕ) → m ≤ b → test b ≡ true) → all_below (k + m) test ≡ all_below m test
unfolding all_below
all_upto m zero test h = rw zero-add refl
all_upto m (suc k) test h = let e = h (k + m) (omega arith) in let n : suc k + m ≡ suc (k + m) = omega arith in rw (n, e) (all_upto m k test h)

-- ---- What a bank that there is not is like

-- an effect that opens nothing
abbrev OpensNothing : Effect → Type 0
OpensNothing e = (row : ℕ) → e ≡ Opens row → ⊥

other_bank : (groups b : ℕ) (bank : Bank) → banks_of groups ≤ b → nat_lt (bank_number bank) (banks_of groups) ≡ true → (bank_number bank == b) ≡ false
other_bank groups b bank high low = let k = ltb-true (bank_number bank) (banks_of groups) low in ne_eqb (bank_number bank) b (λ same. absurd (omega (arith, k, high, same)))

opens_nothing : (groups b : ℕ) (command : Command) → banks_of groups ≤ b → has_bank groups command ≡ true → OpensNothing (effect b command)
opens_nothing groups b (Act bank row) high low = let e = other_bank groups b bank high low in λ r k. let q : Leaves ≡ Opens r = rw e at k in cc
opens_nothing groups b (PrePb bank) high low = λ r k. closes_or (bank_number bank == b) r k
  where
    closes_or : (t : Bool) (r : ℕ) → cond t Closes Leaves ≡ Opens r → ⊥
    closes_or true r k = cc
    closes_or false r k = cc
opens_nothing groups b (PreSb address) high low = λ r k. closes_or (is_at address b) r k
  where
    closes_or : (t : Bool) (r : ℕ) → cond t Closes Leaves ≡ Opens r → ⊥
    closes_or true r k = cc
    closes_or false r k = cc
opens_nothing groups b (RfmSb address) high low = λ r k. manages_or (is_at address b) r k
  where
    manages_or : (t : Bool) (r : ℕ) → cond t Manages Leaves ≡ Opens r → ⊥
    manages_or true r k = cc
    manages_or false r k = cc
opens_nothing groups b (RefSb address) high low = λ r k. refreshes_or (is_at address b) r k
  where
    refreshes_or : (t : Bool) (r : ℕ) → cond t Refreshes Leaves ≡ Opens r → ⊥
    refreshes_or true r k = cc
    refreshes_or false r k = cc
opens_nothing groups b PreAb high low = λ r k. cc
opens_nothing groups b RfmAb high low = λ r k. cc
opens_nothing groups b RefAb high low = λ r k. cc
opens_nothing groups b (Rd bank column) high low = λ r k. cc
opens_nothing groups b (Wr bank column) high low = λ r k. cc
opens_nothing groups b (Mrw write) high low = λ r k. cc
opens_nothing groups b Ecs high low = λ r k. cc
opens_nothing groups b Nop high low = λ r k. cc

-- it is closed
stays_closed : (e : Effect) → OpensNothing e → open_after e None ≡ None
stays_closed (Opens row) h = absurd (h row refl)
stays_closed Closes h = refl
stays_closed Manages h = refl
stays_closed Refreshes h = refl
stays_closed Leaves h = refl

pub absent_closed : (groups b : ℕ) (log : Log) → banks_of groups ≤ b → HasBanks groups log → open_at b log ≡ None
absent_closed groups b [] high has = refl
absent_closed groups b (place ∷ log) high has =
    ap (open_after (effect b place.command)) (absent_closed groups b log high has.0)
    ∙ stays_closed (effect b place.command) (opens_nothing groups b place.command high has.1)

-- it has no rolling count
stays_calm : (h : Header) (e : Effect) → OpensNothing e → raa_after h e 0 ≡ 0
stays_calm h (Opens row) none = absurd (none row refl)
stays_calm h Closes none = refl
stays_calm h Manages none = omega arith
stays_calm h Refreshes none = omega arith
stays_calm h Leaves none = refl

pub absent_raa : (h : Header) (groups b : ℕ) (log : Log) → banks_of groups ≤ b → HasBanks groups log → raa h b log ≡ 0
absent_raa h groups b [] high has = refl
absent_raa h groups b (place ∷ log) high has =
    ap (raa_after h (effect b place.command)) (absent_raa h groups b log high has.0)
    ∙ stays_calm h (effect b place.command) (opens_nothing groups b place.command high has.1)

-- its rows have no activations
stays_unused : (h : Header) (row : ℕ) (e : Effect) (cs : List Counter) → OpensNothing e → acts_after h row e cs 0 ≡ 0
stays_unused h row (Opens r) cs none = absurd (none r refl)
stays_unused h row Closes cs none = refl
stays_unused h row Manages cs none = same (is_row (mitigated h Manages cs) row)
  where
    same : (t : Bool) → ◌≡◌ {A = ℕ} (cond t 0 0) 0
    same true = refl
    same false = refl
stays_unused h row Refreshes cs none = refl
stays_unused h row Leaves cs none = refl

pub absent_acts : (h : Header) (groups b row : ℕ) (log : Log) → banks_of groups ≤ b → HasBanks groups log → acts h b row log ≡ 0
absent_acts h groups b row [] high has = refl
absent_acts h groups b row (place ∷ log) high has =
    ap (acts_after h row (effect b place.command) (counters h b log)) (absent_acts h groups b row log high has.0)
    ∙ stays_unused h row (effect b place.command) (counters h b log) (opens_nothing groups b place.command high has.1)

-- no row of it has a counter
abbrev AllZero : List Counter → Type 0
AllZero cs = (row : ℕ) → count_of cs row ≡ 0

zero_set : (cs : List Counter) (row r : ℕ) (c : Counter) → c.count ≡ 0 → AllZero cs → count_of (slice_set cs row c) r ≡ 0
zero_set [] row r c none zeros = zeros r
zero_set (x ∷ cs) zero zero c none zeros = none
zero_set (x ∷ cs) zero (suc r) c none zeros = zeros (suc r)
zero_set (x ∷ cs) (suc row) zero c none zeros = zeros zero
zero_set (x ∷ cs) (suc row) (suc r) c none zeros = zero_set cs row r c none (λ i. zeros (suc i))

stays_zero : (h : Header) (place : ℕ) (e : Effect) (cs : List Counter) → AllZero cs → AllZero (counters_after h place e None cs)
stays_zero h place (Opens row) cs zeros = zeros
stays_zero h place Closes cs zeros = zeros
stays_zero h place Manages cs zeros = go (mitigated h Manages cs)
  where
    go : (o : Option ℕ) → AllZero (after_mitigation place o cs)
    go None = zeros
    go (Some row) = λ r. zero_set cs row r (record { count = 0; stamp = place }) refl zeros
stays_zero h place Refreshes cs zeros = zeros
stays_zero h place Leaves cs zeros = zeros

pub absent_counts : (h : Header) (groups b : ℕ) (log : Log) → banks_of groups ≤ b → HasBanks groups log → (row : ℕ) → cnt h b row log ≡ 0
absent_counts h groups b [] high has = unused_counts h.settings.rows
absent_counts h groups b (place ∷ log) high has =
    rw (absent_closed groups b log high has.0) (stays_zero h (suc (length log)) (effect b place.command) (counters h b log) (absent_counts h groups b log high has.0))

-- ---- All 32 numbers, and the banks that there are

-- so many numbers are of no bank
abbrev pub Absent : ℕ → ℕ → Type 0
Absent groups k = k + banks_of groups ≡ 32

any_agrees : (groups k : ℕ) (test : ℕ → Bool) → Absent groups k → ((b : ℕ) → banks_of groups ≤ b → test b ≡ false) → any_below 32 test ≡ any_below (banks_of groups) test
any_agrees groups k test is none = subst (λ (n : ℕ). any_below n test ≡ any_below (banks_of groups) test) is (any_upto (banks_of groups) k test none)

all_agrees : (groups k : ℕ) (test : ℕ → Bool) → Absent groups k → ((b : ℕ) → banks_of groups ≤ b → test b ≡ true) → all_below 32 test ≡ all_below (banks_of groups) test
all_agrees groups k test is each = subst (λ (n : ℕ). all_below n test ≡ all_below (banks_of groups) test) is (all_upto (banks_of groups) k test each)

pub all_closed_agrees : (groups k : ℕ) (log : Log) → Absent groups k → HasBanks groups log → all_closed log ≡ all_below (banks_of groups) (λ b. is_none (open_at b log))
all_closed_agrees groups k log is has = all_agrees groups k (λ b. is_none (open_at b log)) is (λ b high. ap is_none_row (absent_closed groups b log high has))
  where
    is_none_row : Option ℕ → Bool
    is_none_row o = is_none o

pub rule_5_agrees : (groups k : ℕ) (command : Command) (log : Log) → Absent groups k → HasBanks groups log
    → rule_5 command log ≡ (not (needs_closed command) || all_below (banks_of groups) (λ b. not (covers command b) || is_none (open_at b log)))
rule_5_agrees groups k command log is has =
    ap (λ (t : Bool). not (needs_closed command) || t)
    (all_agrees groups k (λ b. not (covers command b) || is_none (open_at b log)) is
    (λ b high. or_right (not (covers command b)) (is_none (open_at b log)) (let shut = absent_closed groups b log high has in rw shut refl)))

closes_none : (e : Effect) → closes e None ≡ false
closes_none (Opens row) = refl
closes_none Closes = refl
closes_none Manages = refl
closes_none Refreshes = refl
closes_none Leaves = refl

pub closes_some_agrees : (groups k : ℕ) (command : Command) (log : Log) → Absent groups k → HasBanks groups log
    → closes_some command log ≡ any_below (banks_of groups) (λ b. closes (effect b command) (open_at b log))
closes_some_agrees groups k command log is has =
    any_agrees groups k (λ b. closes (effect b command) (open_at b log)) is
    (λ b high. ap (closes (effect b command)) (absent_closed groups b log high has) ∙ closes_none (effect b command))

none_reached : (n : ℕ) → 1 ≤ n → nat_le n 0 ≡ false
none_reached n some = grind (arith, nat_tests)

pub is_hot_agrees : (h : Header) (groups k : ℕ) (log : Log) → 1 ≤ h.settings.ath → Absent groups k → HasBanks groups log
    → is_hot h log ≡ any_below (banks_of groups) (λ b. any_below h.settings.rows (λ row. nat_le h.settings.ath (cnt h b row log)))
is_hot_agrees h groups k log some is has =
    any_agrees groups k (λ b. any_below h.settings.rows (λ row. nat_le h.settings.ath (cnt h b row log))) is
    (λ b high. any_below_none h.settings.rows (λ row. nat_le h.settings.ath (cnt h b row log))
    (λ row low. ap (nat_le h.settings.ath) (absent_counts h groups b log high has row) ∙ none_reached h.settings.ath some))

and_false : (x y : Bool) → y ≡ false → (x && y) ≡ false
and_false true y h = h
and_false false y h = refl

pub is_wanted_agrees : (h : Header) (groups k : ℕ) (command : Command) (log : Log) → 1 ≤ h.settings.raaimt → Absent groups k → HasBanks groups log
    → is_wanted h command log ≡ any_below (banks_of groups) (λ b. covers command b && nat_le h.settings.raaimt (raa h b log))
is_wanted_agrees h groups k command log some is has =
    any_agrees groups k (λ b. covers command b && nat_le h.settings.raaimt (raa h b log)) is
    (λ b high. and_false (covers command b) (nat_le h.settings.raaimt (raa h b log)) (ap (nat_le h.settings.raaimt) (absent_raa h groups b log high has) ∙ none_reached h.settings.raaimt some))

-- ---- Commands that meet

same_address : (i address : ℕ) → is_at address i ≡ true → is_at address (i % 4) ≡ true
same_address i address own = let e : i % 4 ≡ address = eqb-true _ _ own in eq-eqb (i % 4 % 4) address (omega (arith, e))

-- what covers a number of no bank covers the bank with its address in group 0
covers_below : (groups i : ℕ) (command : Command) → banks_of groups ≤ i → has_bank groups command ≡ true → covers command i ≡ true → covers command (i % 4) ≡ true
covers_below groups i (Act bank row) high low own = let other = other_bank groups i bank high low in absurd (cc)
covers_below groups i (Rd bank column) high low own = let other = other_bank groups i bank high low in absurd (cc)
covers_below groups i (Wr bank column) high low own = let other = other_bank groups i bank high low in absurd (cc)
covers_below groups i (PrePb bank) high low own = let other = other_bank groups i bank high low in absurd (cc)
covers_below groups i (PreSb address) high low own = same_address i address own
covers_below groups i PreAb high low own = refl
covers_below groups i RefAb high low own = refl
covers_below groups i (RefSb address) high low own = same_address i address own
covers_below groups i RfmAb high low own = refl
covers_below groups i (RfmSb address) high low own = same_address i address own
covers_below groups i (Mrw write) high low own = refl
covers_below groups i Ecs high low own = refl
covers_below groups i Nop high low own = own

pub meet_agrees : (groups k : ℕ) (first second : Command) → 1 ≤ groups → Absent groups k → has_bank groups first ≡ true → has_bank groups second ≡ true
    → meet first second ≡ any_below (banks_of groups) (λ b. covers first b && covers second b)
meet_agrees groups k first second some is one two = same_tests (meet first second) (any_below (banks_of groups) (λ b. covers first b && covers second b)) down up
  where
    test : ℕ → Bool
    test b = covers first b && covers second b

    up : any_below (banks_of groups) (λ b. covers first b && covers second b) ≡ true → meet first second ≡ true
    up h = let w = any_below_some (banks_of groups) (λ b. covers first b && covers second b) h in
        any_below_at 32 (λ b. covers first b && covers second b) w.0 (let low = w.1 in omega (arith, low, is)) w.2

    at : (i : ℕ) → (covers first i && covers second i) ≡ true → (i < banks_of groups) ⊎ (banks_of groups ≤ i) → any_below (banks_of groups) (λ b. covers first b && covers second b) ≡ true
    at i own (inl low) = any_below_at (banks_of groups) (λ b. covers first b && covers second b) i low own
    at i own (inr high) =
        let p = both (covers first i) (covers second i) own in
        any_below_at (banks_of groups) (λ b. covers first b && covers second b) (i % 4) (omega (arith, some))
        (joined (covers first (i % 4)) (covers second (i % 4)) (covers_below groups i first high one p.0) (covers_below groups i second high two p.1))

    down : meet first second ≡ true → any_below (banks_of groups) (λ b. covers first b && covers second b) ≡ true
    down h = let w = any_below_some 32 (λ b. covers first b && covers second b) h in at w.0 w.2 (below_or_not w.0 (banks_of groups))

-- ---- Open page

stays_unopened : (e : Effect) (scrub : Bool) → OpensNothing e → last_row_after e scrub None ≡ None
stays_unopened (Opens row) scrub none = absurd (none row refl)
stays_unopened Closes scrub none = refl
stays_unopened Manages scrub none = refl
stays_unopened Refreshes scrub none = refl
stays_unopened Leaves true none = refl
stays_unopened Leaves false none = refl

pub absent_page : (groups b : ℕ) (log : Log) → banks_of groups ≤ b → HasBanks groups log → last_row b log ≡ None
absent_page groups b [] high has = refl
absent_page groups b (place ∷ log) high has =
    ap (last_row_after (effect b place.command) (is_scrub place.command)) (absent_page groups b log high has.0)
    ∙ stays_unopened (effect b place.command) (is_scrub place.command) (opens_nothing groups b place.command high has.1)

reopens_none : (e : Effect) → not (reopens e None) ≡ true
reopens_none (Opens row) = refl
reopens_none Closes = refl
reopens_none Manages = refl
reopens_none Refreshes = refl
reopens_none Leaves = refl

-- open page at one place
pub keeps_page_agrees : (groups k : ℕ) (place : Issued) (log : Log) → Absent groups k → HasBanks groups log
    → keeps_page (place ∷ log) ≡ (keeps_page log && all_below (banks_of groups) (λ b. not (reopens (effect b place.command) (last_row b log))))
keeps_page_agrees groups k place log is has =
    ap (λ (t : Bool). keeps_page log && t)
    (all_agrees groups k (λ b. not (reopens (effect b place.command) (last_row b log))) is
    (λ b high. ap (λ (o : Option ℕ). not (reopens (effect b place.command) o)) (absent_page groups b log high has) ∙ reopens_none (effect b place.command)))

-- ---- Logs within the header's ranges

-- such a log names only banks that there are
pub has_banks : (h : Header) (log : Log) → RowsInRange h log → HasBanks h.version.groups log
has_banks h [] inside = tt
has_banks h (place ∷ log) inside = (has_banks h log inside.0, (both (opens_inside h place.command) (has_bank h.version.groups place.command) inside.1).1)
