-- The bound on activations, over every log.
use Rattle.std.proofs.Common.{◌≡◌, ◌∙◌, ℕ, suc, ◌+◌, ◌*◌, ◌^◌, ◌<◌, ◌≤◌, ◌⊎◌, Bool, true, false, ◌&&◌, ◌==◌, nat_le, nat_lt, refl, sym, ap, arith, inl, inr, subst, Option, Some, None, cond, List, [], ◌∷◌, length, ltb-true, ltb-false, le-leb, eq-eqb, ne_eqb}
use Rattle.std.proofs.lemmas.List.{length-replicate}
use Rattle.speed_bin.specs.declared.header.Header.{Header}
use Rattle.speed_bin.specs.Below.{any_below}
use Rattle.command_words.specs.Kinds.{Effect, Opens, Closes, Manages, Refreshes, Leaves, effect, is_rfm_all}
use Rattle.speed_bin.specs.Log.{Issued, Log, open_after, open_at}
use Rattle.speed_bin.specs.Counters.{Counter, count_of, tracked, counters, is_row, acts, acts_after, cnt}
use Rattle.speed_bin.specs.Alert.{is_hot, closes_some, alert_after, alert}
use Rattle.speed_bin.specs.Height.{height_of}
use Rattle.speed_bin.specs.Header.{IsAccepted, bound, spare}
use Rattle.speed_bin.proofs.Checks.{BoundChecks, bound_checks}
use Rattle.speed_bin.specs.Marks.{opens_one, acts_since_mark, is_mark, is_calm, Keeps}
use Rattle.speed_bin.proofs.Tests.{or_left, or_right, joined, true_or_false, any_below_at, all_below_at, all_below_fails}
use Rattle.speed_bin.proofs.Effects.{opens_act, rfm_all_manages, act_closes_no_bank, closes_bank, rule_4_opens, rule_5_manages, rule_12_opens, in_range_opens}
use Rattle.speed_bin.proofs.Rows.{unused_counts, Sound, sound_step, tracked_greatest, tracked_inside, one_if_open}
use Rattle.speed_bin.proofs.Cycles.{SpacedActs, Follows, paced_at_mark, paced_step, alert_before}
use Rattle.speed_bin.proofs.Weighing.{Sizes, Weighs, calm, one_more, mitigation, more_since, at_mark}
use Rattle.speed_bin.specs.Weights.{weights_of, steps_of}
use Rattle.speed_bin.proofs.Heights.{height_greatest}

-- ---- Activations and counters

pub sound_log : (h : Header) (b : ℕ) (log : Log) → b < 32 → 0 < h.settings.rows → Keeps h log → Sound h.settings.rows (open_at b log) (counters h b log) (λ row. acts h b row log)
sound_log h b [] low some keeps = record {
  long = length-replicate _ _;
  inside = λ row e. absurd (cc);
  agree = λ row. let e = unused_counts h.settings.rows row in omega arith;
}
sound_log h b (place ∷ log) low some keeps =
    let here = keeps.1 in
    sound_step h (suc (length log)) (effect b place.command) (open_at b log) (counters h b log) (λ row. acts h b row log) some
    (λ r e. (in_range_opens h b r place.command e here.in_range, rule_4_opens b r place.command log e here.fourth))
    (λ e. rule_5_manages b place.command log low e here.fifth)
    (sound_log h b log low some keeps.0)

-- ---- Marks

calm_rows : (h : Header) (b : ℕ) (log : Log) → is_calm h b log ≡ true → (row : ℕ) → row < h.settings.rows → acts h b row log < h.settings.ath
calm_rows h b log calm row inside = ltb-true _ _ (all_below_at h.settings.rows (λ r. nat_lt (acts h b r log) h.settings.ath) row calm inside)

hot_row : (h : Header) (b : ℕ) (log : Log) → is_calm h b log ≡ false → (row : ℕ) × (row < h.settings.rows) × (h.settings.ath ≤ acts h b row log)
hot_row h b log k =
    let p = all_below_fails h.settings.rows (λ r. nat_lt (acts h b r log) h.settings.ath) k in
    (p.0, p.1, ltb-false _ _ p.2)

since_at_mark : (h : Header) (b : ℕ) (place : Issued) (log : Log) → is_mark h b (place ∷ log) ≡ true → acts_since_mark h b (place ∷ log) ≡ 0
since_at_mark h b place log e = rw e refl

since_later : (h : Header) (b : ℕ) (place : Issued) (log : Log) → is_rfm_all place.command ≡ false → is_calm h b (place ∷ log) ≡ false → acts_since_mark h b (place ∷ log) ≡ opens_one (effect b place.command) (acts_since_mark h b log)
since_later h b place log e f = rw (e, f) refl

alert_later : (h : Header) (place : Issued) (log : Log) → is_rfm_all place.command ≡ false → alert h (place ∷ log) ≡ alert_after false (closes_some place.command log && is_hot h (place ∷ log)) place.clock (alert h log)
alert_later h place log e = rw e refl

hot_from : (h : Header) (b row : ℕ) (log : Log) → b < 32 → row < h.settings.rows → h.settings.ath ≤ cnt h b row log → is_hot h log ≡ true
hot_from h b row log low inside hot = any_below_at 32 (λ i. any_below h.settings.rows (λ r. nat_le h.settings.ath (cnt h i r log))) b low (any_below_at h.settings.rows (λ r. nat_le h.settings.ath (cnt h b r log)) row inside (le-leb _ _ hot))

and_false : (x y : Bool) → x ≡ false → (x && y) ≡ false
and_false true y h = cc
and_false false y h = refl

some_row : (o : Option ℕ) → (o ≡ None → ⊥) → (r : ℕ) × (o ≡ Some r)
some_row None h = absurd (h refl)
some_row (Some r) h = (r, refl)

-- ---- Step 1: after a mark and before the next one, at most four ACTs of a bank stand

follows : (h : Header) (b : ℕ) (place : Issued) (log : Log) → BoundChecks h → b < 32 → Keeps h (place ∷ log) → is_calm h b (place ∷ log) ≡ false → Follows h b (spare h) place log (effect b place.command) (open_at b log) (alert h log) (closes_some place.command log && is_hot h (place ∷ log))
follows h b place log ok low keeps k = record {
  bank = low;
  checks = ok.first_check;
  window = ok.window;
  is = refl;
  second = keeps.1.second;
  closed = λ r e. rule_4_opens b r place.command log e keeps.1.fourth;
  in_window = λ r a e raised. rule_12_opens h a place.clock place.command log (opens_act b r place.command e).0 raised keeps.1.twelfth;
  older = λ a t c raised follow. alert_before h a t c log raised follow;
  act_raises_none = λ r e. and_false _ _ (act_closes_no_bank place.command log (opens_act b r place.command e).0);
  close_raises = λ e some. raise e (some_row (open_at b log) some);
}
  where
    raise : effect b place.command ≡ Closes → (r : ℕ) × (open_at b log ≡ Some r) → (closes_some place.command log && is_hot h (place ∷ log)) ≡ true
    raise e p =
        let hot = hot_row h b (place ∷ log) k in
        let sound = sound_log h b (place ∷ log) low ok.some_row keeps in
        let shut : open_at b (place ∷ log) ≡ None = ap (λ (x : Effect). open_after x (open_at b log)) e in
        let agree : acts h b hot.0 (place ∷ log) ≡ cnt h b hot.0 (place ∷ log) + 0 = sound.agree hot.0 ∙ ap (λ (o : Option ℕ). cnt h b hot.0 (place ∷ log) + one_if_open o hot.0) shut in
        let enough : h.settings.ath ≤ cnt h b hot.0 (place ∷ log) = let q = hot.2 in omega arith in
        joined _ _ (closes_bank b p.0 place.command log low e p.1) (hot_from h b hot.0 (place ∷ log) low hot.1 enough)

pub paced_log : (h : Header) (b : ℕ) (log : Log) → BoundChecks h → b < 32 → Keeps h log → SpacedActs h b (spare h) log (acts_since_mark h b log) (open_at b log) (alert h log)
paced_log h b [] ok low keeps = paced_at_mark h b (spare h) [] None None
paced_log h b (place ∷ log) ok low keeps = go (true_or_false (is_calm h b (place ∷ log))) (true_or_false (is_rfm_all place.command)) (paced_log h b log ok low keeps.0)
  where
    Goal : ℕ → Option ℕ → Type 0
    Goal n raised = SpacedActs h b (spare h) (place ∷ log) n (open_at b (place ∷ log)) raised

    marked : is_mark h b (place ∷ log) ≡ true → SpacedActs h b (spare h) (place ∷ log) (acts_since_mark h b (place ∷ log)) (open_at b (place ∷ log)) (alert h (place ∷ log))
    marked e = subst (λ (n : ℕ). SpacedActs h b (spare h) (place ∷ log) n (open_at b (place ∷ log)) (alert h (place ∷ log))) (sym (since_at_mark h b place log e)) (paced_at_mark h b (spare h) (place ∷ log) _ _)

    go : (is_calm h b (place ∷ log) ≡ true) ⊎ (is_calm h b (place ∷ log) ≡ false) → (is_rfm_all place.command ≡ true) ⊎ (is_rfm_all place.command ≡ false) → SpacedActs h b (spare h) log (acts_since_mark h b log) (open_at b log) (alert h log) → SpacedActs h b (spare h) (place ∷ log) (acts_since_mark h b (place ∷ log)) (open_at b (place ∷ log)) (alert h (place ∷ log))
    go (inl calm) all ih = marked (or_right _ _ calm)
    go (inr hot) (inl all) ih = marked (or_left _ _ all)
    go (inr hot) (inr other) ih =
        let f = follows h b place log ok low keeps hot in
        let step = paced_step h b (spare h) place log (effect b place.command) (acts_since_mark h b log) (open_at b log) (alert h log) _ f ih in
        subst (λ (n : ℕ). SpacedActs h b (spare h) (place ∷ log) n (open_at b (place ∷ log)) (alert h (place ∷ log))) (sym (since_later h b place log other hot))
        (subst (λ (raised : Option ℕ). SpacedActs h b (spare h) (place ∷ log) (opens_one (effect b place.command) (acts_since_mark h b log)) (open_at b (place ∷ log)) raised) (sym (alert_later h place log other)) step)

pub few_since_mark : (h : Header) (b : ℕ) (log : Log) → BoundChecks h → b < 32 → Keeps h log → acts_since_mark h b log ≤ suc (spare h)
few_since_mark h b log ok low keeps = (paced_log h b log ok low keeps).few

-- ---- Step 2: the weights of a bank at its marks

abbrev pub sizes_of : (h : Header) → BoundChecks h → Sizes
sizes_of h ok = record {
  d = spare h;
  ath = h.settings.ath;
  rows = h.settings.rows;
  reach = height_of (spare h) h.settings.rows;
  some = ok.some_spare;
  room = ok.above_cycle;
  height = λ y e. height_greatest (spare h) h.settings.rows y ok.few_spare ok.few_rows e;
}

-- a row with at least ATH activations after an effect
abbrev pub HotAfter : Header → Effect → List Counter → (ℕ → ℕ) → Type 0
HotAfter h e cs f = (row : ℕ) × (row < h.settings.rows) × (h.settings.ath ≤ acts_after h row e cs (f row))

weighs_opens : (h : Header) (ok : BoundChecks h) (r : ℕ) (cs : List Counter) (f : ℕ → ℕ) (n : ℕ) → r < h.settings.rows → suc n ≤ suc (spare h) → Weighs (sizes_of h ok) f n → Weighs (sizes_of h ok) (λ row. acts_after h row (Opens r) cs (f row)) (suc n)
weighs_opens h ok r cs f n inside few w = one_more (sizes_of h ok) f (λ row. cond (r == row) (suc (f row)) (f row)) n r inside (rw (eq-eqb r r refl) refl) (λ i low other. let e : (r == i) ≡ false = ne_eqb r i (λ k. other (sym k)) in rw e refl) few w

weighs_managed : (h : Header) (ok : BoundChecks h) (cs : List Counter) (f : ℕ → ℕ) (n : ℕ) → Sound h.settings.rows None cs f → n ≤ suc (spare h) → HotAfter h Manages cs f → Weighs (sizes_of h ok) f n → Weighs (sizes_of h ok) (λ row. acts_after h row Manages cs (f row)) 0
weighs_managed h ok cs f n sound few hot w = go (nat_le h.settings.eth (count_of cs (tracked cs))) refl hot.2
  where
    inside : tracked cs < h.settings.rows
    inside = let long = sound.long in let some = ok.some_row in let i = tracked_inside cs (omega arith) in omega arith

    hot_before : (t : Bool) → h.settings.ath ≤ cond (is_row (cond t (Some (tracked cs)) None) hot.0) 0 (f hot.0) → h.settings.ath ≤ f hot.0
    hot_before false k = k
    hot_before true k = at (tracked cs == hot.0) k
      where
        at : (x : Bool) → h.settings.ath ≤ cond x 0 (f hot.0) → h.settings.ath ≤ f hot.0
        at true q = let big = ok.above_cycle in absurd (omega arith)
        at false q = q

    greatest : (row : ℕ) → f row ≤ f (tracked cs)
    greatest row = let a = sound.agree row in let c = sound.agree (tracked cs) in let g = tracked_greatest cs row in omega arith

    go : (t : Bool) → nat_le h.settings.eth (count_of cs (tracked cs)) ≡ t → h.settings.ath ≤ cond (is_row (cond t (Some (tracked cs)) None) hot.0) 0 (f hot.0) → Weighs (sizes_of h ok) (λ row. cond (is_row (cond t (Some (tracked cs)) None) row) 0 (f row)) 0
    go false e k =
        let a = hot_before false k in
        let g = greatest hot.0 in
        let c = sound.agree (tracked cs) in
        let early = ok.early in
        let up : nat_le h.settings.eth (count_of cs (tracked cs)) ≡ true = le-leb _ _ (omega arith) in
        absurd (cc)
    go true e k =
        let a = hot_before true k in
        let g = greatest hot.0 in
        mitigation (sizes_of h ok) f (λ row. cond (tracked cs == row) 0 (f row)) n (tracked cs) inside (omega arith) (λ row low. greatest row) (rw (eq-eqb (tracked cs) (tracked cs) refl) refl) (λ i low other. let x : (tracked cs == i) ≡ false = ne_eqb (tracked cs) i (λ q. other (sym q)) in rw x refl) few w

-- a step after which some row is at ATH or above
weighs_step : (h : Header) (ok : BoundChecks h) (e : Effect) (opened : Option ℕ) (cs : List Counter) (f : ℕ → ℕ) (n : ℕ) → Sound h.settings.rows opened cs f → ((r : ℕ) → e ≡ Opens r → r < h.settings.rows) → (e ≡ Manages → opened ≡ None) → n ≤ suc (spare h) → opens_one e n ≤ suc (spare h) → HotAfter h e cs f → Weighs (sizes_of h ok) f n → Weighs (sizes_of h ok) (λ row. acts_after h row e cs (f row)) (opens_one e n)
weighs_step h ok (Opens r) opened cs f n sound legal closed few after hot w = weighs_opens h ok r cs f n (legal r refl) after w
weighs_step h ok Closes opened cs f n sound legal closed few after hot w = w
weighs_step h ok Manages opened cs f n sound legal closed few after hot w = more_since (sizes_of h ok) _ n (weighs_managed h ok cs f n (rw (closed refl) at sound) few hot w)
weighs_step h ok Refreshes opened cs f n sound legal closed few after hot w = w
weighs_step h ok Leaves opened cs f n sound legal closed few after hot w = w

weighs_rfm_all : (h : Header) (ok : BoundChecks h) (e : Effect) (opened : Option ℕ) (cs : List Counter) (f : ℕ → ℕ) (n : ℕ) → e ≡ Manages → Sound h.settings.rows opened cs f → (e ≡ Manages → opened ≡ None) → n ≤ suc (spare h) → HotAfter h e cs f → Weighs (sizes_of h ok) f n → Weighs (sizes_of h ok) (λ row. acts_after h row e cs (f row)) 0
weighs_rfm_all h ok Manages opened cs f n is sound closed few hot w = weighs_managed h ok cs f n (rw (closed refl) at sound) few hot w
weighs_rfm_all h ok (Opens r) opened cs f n is sound closed few hot w = absurd (cc)
weighs_rfm_all h ok Closes opened cs f n is sound closed few hot w = absurd (cc)
weighs_rfm_all h ok Refreshes opened cs f n is sound closed few hot w = absurd (cc)
weighs_rfm_all h ok Leaves opened cs f n is sound closed few hot w = absurd (cc)

none_used : (h : Header) (ok : BoundChecks h) → Weighs (sizes_of h ok) (λ row. 0) 0
none_used h ok = calm (sizes_of h ok) (λ row. 0) (λ row inside. let big = ok.above_cycle in omega arith)

pub weighs_log : (h : Header) (b : ℕ) (log : Log) (ok : BoundChecks h) → b < 32 → Keeps h log → Weighs (sizes_of h ok) (λ row. acts h b row log) (acts_since_mark h b log)
weighs_log h b [] ok low keeps = none_used h ok
weighs_log h b (place ∷ log) ok low keeps = go (true_or_false (is_calm h b (place ∷ log))) (true_or_false (is_rfm_all place.command)) (weighs_log h b log ok low keeps.0)
  where
    few : acts_since_mark h b log ≤ suc (spare h)
    few = few_since_mark h b log ok low keeps.0

    sound : Sound h.settings.rows (open_at b log) (counters h b log) (λ row. acts h b row log)
    sound = sound_log h b log low ok.some_row keeps.0

    shut : effect b place.command ≡ Manages → open_at b log ≡ None
    shut e = rule_5_manages b place.command log low e keeps.1.fifth

    go : (is_calm h b (place ∷ log) ≡ true) ⊎ (is_calm h b (place ∷ log) ≡ false) → (is_rfm_all place.command ≡ true) ⊎ (is_rfm_all place.command ≡ false) → Weighs (sizes_of h ok) (λ row. acts h b row log) (acts_since_mark h b log) → Weighs (sizes_of h ok) (λ row. acts h b row (place ∷ log)) (acts_since_mark h b (place ∷ log))
    go (inl quiet) all ih = subst (λ (n : ℕ). Weighs (sizes_of h ok) (λ row. acts h b row (place ∷ log)) n) (sym (since_at_mark h b place log (or_right _ _ quiet))) (calm (sizes_of h ok) (λ row. acts h b row (place ∷ log)) (calm_rows h b (place ∷ log) quiet))
    go (inr hot) (inl all) ih = subst (λ (n : ℕ). Weighs (sizes_of h ok) (λ row. acts h b row (place ∷ log)) n) (sym (since_at_mark h b place log (or_left _ _ all))) (weighs_rfm_all h ok (effect b place.command) (open_at b log) (counters h b log) (λ row. acts h b row log) (acts_since_mark h b log) (rfm_all_manages b place.command all) sound shut few (hot_row h b (place ∷ log) hot) ih)
    go (inr hot) (inr other) ih =
        let same = since_later h b place log other hot in
        let after = few_since_mark h b (place ∷ log) ok low keeps in
        subst (λ (n : ℕ). Weighs (sizes_of h ok) (λ row. acts h b row (place ∷ log)) n) (sym same) (weighs_step h ok (effect b place.command) (open_at b log) (counters h b log) (λ row. acts h b row log) (acts_since_mark h b log) sound (λ r e. in_range_opens h b r place.command e keeps.1.in_range) shut few (subst (λ (n : ℕ). n ≤ suc (spare h)) same after) (hot_row h b (place ∷ log) hot) ih)

since_of_mark : (h : Header) (b : ℕ) (log : Log) → is_mark h b log ≡ true → acts_since_mark h b log ≡ 0
since_of_mark h b [] e = refl
since_of_mark h b (place ∷ log) e = since_at_mark h b place log e

pub light_at_marks : (h : Header) (b : ℕ) (log : Log) → BoundChecks h → b < 32 → Keeps h log → is_mark h b log ≡ true → weights_of h b log ≤ suc (spare h) * h.settings.rows * (spare h) ^ steps_of h
light_at_marks h b log ok low keeps e =
    let w = subst (λ (n : ℕ). Weighs (sizes_of h ok) (λ row. acts h b row log) n) (since_of_mark h b log e) (weighs_log h b log ok low keeps) in
    let light : weights_of h b log ≤ h.settings.rows * (suc (spare h) * (spare h) ^ steps_of h) = at_mark (sizes_of h ok) (λ row. acts h b row log) w in
    omega arith

-- ---- Step 3: the bound

acts_bounded : (h : Header) (b row : ℕ) (log : Log) → BoundChecks h → b < 32 → row < h.settings.rows → Keeps h log → acts h b row log ≤ bound h
acts_bounded h b row log ok low inside keeps =
    let near = (weighs_log h b log ok low keeps).near row inside in
    let few = few_since_mark h b log ok low keeps in
    omega arith

-- ---- The three of an accepted header

pub cycle_activations_lem : (h : Header) (b : ℕ) (log : Log) → IsAccepted h → b < 32 → Keeps h log → acts_since_mark h b log ≤ h.version.cycle
unfolding spare
cycle_activations_lem h b log ok low keeps =
    let few = few_since_mark h b log (bound_checks h ok) low keeps in
    let least = ok.version.0 in
    omega (arith, few, least)

pub weights_at_marks_lem : (h : Header) (b : ℕ) (log : Log) → IsAccepted h → b < 32 → Keeps h log → is_mark h b log ≡ true → weights_of h b log ≤ suc (spare h) * h.settings.rows * spare h ^ steps_of h
weights_at_marks_lem h b log ok low keeps e = light_at_marks h b log (bound_checks h ok) low keeps e

pub bound_lem : (h : Header) (b row : ℕ) (log : Log) → IsAccepted h → b < 32 → row < h.settings.rows → Keeps h log → acts h b row log ≤ bound h
bound_lem h b row log ok low inside keeps = acts_bounded h b row log (bound_checks h ok) low inside keeps
