-- A row's counter is at most the ACTs of the log, so few ACTs raise no alert.
use Rattle.std.proofs.Common.{◌≡◌, ◌∙◌, ℕ, zero, suc, ◌+◌, ◌<◌, ◌≤◌, ◌&&◌, ◌==◌, Bool, true, false, Option, Some, None, List, [], ◌∷◌, length, replicate, slice_set, refl, sym, ap, subst, arith, cond, nat_le, rules, eq-eqb}
use Rattle.std.proofs.lemmas.List.Recursion.{is_count_by}
use Rattle.command_words.specs.Command.{bank_number, is_at}
use Rattle.command_words.specs.declared.command.Command.{Command}
use Rattle.command_words.specs.declared.command.Command.TheVariants.{Act, Rd, Wr, PrePb, PreSb, PreAb, RefAb, RefSb, RfmAb, RfmSb, Mrw, Ecs, Nop}
use Rattle.speed_bin.specs.Alert.{alert, alert_after, closes_some, is_hot}
use Rattle.speed_bin.specs.Below.{any_below}
use Rattle.speed_bin.specs.Counters.{Counter, cnt, count_of, counters, counters_after, after_close, after_mitigation, mitigated}
use Rattle.speed_bin.specs.Counts.{commands}
use Rattle.command_words.specs.Kinds.{Effect, Opens, Closes, Manages, Refreshes, Leaves, effect, is_act, is_rfm_all}
use Rattle.speed_bin.specs.Log.{Issued, Log, open_at, open_after}
use Rattle.speed_bin.specs.declared.header.Header.{Header}

none_counted : (n row : ℕ) → count_of (replicate n (record { count = 0; stamp = 0 })) row ≡ 0
none_counted zero row = refl
none_counted (suc n) zero = refl
none_counted (suc n) (suc row) = none_counted n row

-- a counter that is set is the one that is set, or as it was
set_at_most : (cs : List Counter) (r row : ℕ) (c : Counter) (n : ℕ) → count_of cs row ≤ n → (r ≡ row → c.count ≤ n) → count_of (slice_set cs r c) row ≤ n
set_at_most [] r row c n before own = before
set_at_most (d ∷ cs) zero zero c n before own = own refl
set_at_most (d ∷ cs) zero (suc row) c n before own = before
set_at_most (d ∷ cs) (suc r) zero c n before own = before
set_at_most (d ∷ cs) (suc r) (suc row) c n before own = set_at_most cs r row c n before (λ e. own (ap (λ k. suc k) e))

-- 1 where the row is open
abbrev open_row : Option ℕ → ℕ → ℕ
open_row None row = 0
open_row (Some r) row = cond (r == row) 1 0

at_most_one : (o : Option ℕ) (row : ℕ) → open_row o row ≤ 1
at_most_one None row = omega arith
at_most_one (Some r) row = go (r == row)
  where
    go : (t : Bool) → cond t 1 0 ≤ 1
    go true = omega arith
    go false = omega arith

-- a command that opens a row is an ACT
abbrev is_opening : Effect → Bool
is_opening (Opens row) = true
is_opening Closes = false
is_opening Manages = false
is_opening Refreshes = false
is_opening Leaves = false

never_opens : (t : Bool) (e : Effect) → is_opening e ≡ false → is_opening (cond t e Leaves) ≡ false
never_opens true e h = h
never_opens false e h = refl

opening_is_act : (b : ℕ) (command : Command) → is_act command ≡ false → is_opening (effect b command) ≡ false
opening_is_act b (Act bank row) h = cc
opening_is_act b (Rd bank column) h = refl
opening_is_act b (Wr bank column) h = refl
opening_is_act b (PrePb bank) h = never_opens (bank_number bank == b) Closes refl
opening_is_act b (PreSb address) h = never_opens (is_at address b) Closes refl
opening_is_act b PreAb h = refl
opening_is_act b RefAb h = refl
opening_is_act b (RefSb address) h = never_opens (is_at address b) Refreshes refl
opening_is_act b RfmAb h = refl
opening_is_act b (RfmSb address) h = never_opens (is_at address b) Manages refl
opening_is_act b (Mrw write) h = refl
opening_is_act b Ecs h = refl
opening_is_act b Nop h = refl

-- what a command does to a row's counter and its open row together
closed_count : (place : ℕ) (o : Option ℕ) (cs : List Counter) (row n : ℕ) → count_of cs row + open_row o row ≤ n → count_of (after_close place o cs) row ≤ n
closed_count place None cs row n h = omega (arith, h)
closed_count place (Some r) cs row n h = go (r == row) refl h
  where
    go : (t : Bool) → (r == row) ≡ t → count_of cs row + cond t 1 0 ≤ n → count_of (slice_set cs r (record { count = count_of cs r + 1; stamp = place })) row ≤ n
    go true e k = set_at_most cs r row (record { count = count_of cs r + 1; stamp = place }) n (omega (arith, k)) (λ same. subst (λ i. count_of cs i + 1 ≤ n) (sym same) k)
    go false e k = set_at_most cs r row (record { count = count_of cs r + 1; stamp = place }) n (omega (arith, k)) (λ same. absurd (let f : (r == row) ≡ true = eq-eqb r row same in cc))

mitigated_count : (place : ℕ) (o : Option ℕ) (cs : List Counter) (row n : ℕ) → count_of cs row ≤ n → count_of (after_mitigation place o cs) row ≤ n
mitigated_count place None cs row n h = h
mitigated_count place (Some r) cs row n h = set_at_most cs r row (record { count = 0; stamp = place }) n h (λ same. omega arith)

effect_count : (h : Header) (place : ℕ) (e : Effect) (o : Option ℕ) (cs : List Counter) (row n m : ℕ) → count_of cs row + open_row o row ≤ n → n ≤ m → (is_opening e ≡ true → n + 1 ≤ m) → count_of (counters_after h place e o cs) row + open_row (open_after e o) row ≤ m
effect_count h place (Opens r) o cs row n m k le more = let a = more refl in let b = at_most_one (Some r) row in omega (arith, k, a, b)
effect_count h place Closes o cs row n m k le more = let a = closed_count place o cs row n k in omega (arith, a, le)
effect_count h place Manages o cs row n m k le more = let a = mitigated_count place (mitigated h Manages cs) cs row (count_of cs row) (omega arith) in omega (arith, a, k, le)
effect_count h place Refreshes o cs row n m k le more = omega (arith, k, le)
effect_count h place Leaves o cs row n m k le more = omega (arith, k, le)

-- the ACTs of a log, place by place
abbrev acts_in : Log → ℕ
acts_in [] = 0
acts_in (place ∷ log) = cond (is_act place.command) (1 + acts_in log) (acts_in log)

acts_are : (log : Log) → acts_in log ≡ commands is_act log
acts_are log = is_count_by acts_in (λ place. is_act place.command) refl (λ place rest. refl) log

pub counted : (h : Header) (b row : ℕ) (log : Log) → cnt h b row log + open_row (open_at b log) row ≤ acts_in log
counted h b row [] = let e = none_counted h.settings.rows row in omega (arith, e)
counted h b row (place ∷ log) = go (is_act place.command) refl (counted h b row log)
  where
    go : (t : Bool) → is_act place.command ≡ t → cnt h b row log + open_row (open_at b log) row ≤ acts_in log → count_of (counters_after h (suc (length log)) (effect b place.command) (open_at b log) (counters h b log)) row + open_row (open_after (effect b place.command) (open_at b log)) row ≤ cond (is_act place.command) (1 + acts_in log) (acts_in log)
    go true e k = let f : cond (is_act place.command) (1 + acts_in log) (acts_in log) ≡ 1 + acts_in log = rw e refl in let a = effect_count h (suc (length log)) (effect b place.command) (open_at b log) (counters h b log) row (acts_in log) (1 + acts_in log) k (omega arith) (λ x. omega arith) in omega (arith, a, f)
    go false e k = let f : cond (is_act place.command) (1 + acts_in log) (acts_in log) ≡ acts_in log = rw e refl in let a = effect_count h (suc (length log)) (effect b place.command) (open_at b log) (counters h b log) row (acts_in log) (acts_in log) k (omega arith) (λ x. absurd (let y = opening_is_act b place.command e in cc)) in omega (arith, a, f)

any_none : (n : ℕ) (f : ℕ → Bool) → ((i : ℕ) → f i ≡ false) → any_below n f ≡ false
unfolding any_below
any_none zero f h = refl
any_none (suc n) f h = let e = h n in rw e (any_none n f h)

below_threshold : (ath n : ℕ) → n < ath → nat_le ath n ≡ false
below_threshold ath n low = search rules

never_hot : (h : Header) (log : Log) → acts_in log < h.settings.ath → is_hot h log ≡ false
never_hot h log few = any_none 32 (λ b. any_below h.settings.rows (λ row. nat_le h.settings.ath (cnt h b row log))) (λ b. any_none h.settings.rows (λ row. nat_le h.settings.ath (cnt h b row log)) (λ row. below_threshold h.settings.ath (cnt h b row log) (let a = counted h b row log in omega (arith, a, few))))

still_calm : (all some hot : Bool) (clock : ℕ) → hot ≡ false → alert_after all (some && hot) clock None ≡ None
still_calm true some hot clock e = refl
still_calm false true true clock e = cc
still_calm false true false clock e = refl
still_calm false false hot clock e = refl

fewer_before : (place : Issued) (log : Log) → acts_in log ≤ acts_in (place ∷ log)
fewer_before place log = go (is_act place.command) refl
  where
    go : (t : Bool) → is_act place.command ≡ t → acts_in log ≤ cond (is_act place.command) (1 + acts_in log) (acts_in log)
    go true e = let f : cond (is_act place.command) (1 + acts_in log) (acts_in log) ≡ 1 + acts_in log = rw e refl in omega (arith, f)
    go false e = let f : cond (is_act place.command) (1 + acts_in log) (acts_in log) ≡ acts_in log = rw e refl in omega (arith, f)

few_calm : (h : Header) (log : Log) → acts_in log < h.settings.ath → alert h log ≡ None
few_calm h [] few = refl
few_calm h (place ∷ log) few =
    let le = fewer_before place log in
    let e = few_calm h log (omega (arith, le, few)) in
    ap (λ (o : Option ℕ). alert_after (is_rfm_all place.command) (closes_some place.command log && is_hot h (place ∷ log)) place.clock o) e ∙ still_calm (is_rfm_all place.command) (closes_some place.command log) (is_hot h (place ∷ log)) place.clock (never_hot h (place ∷ log) few)

pub never_raised : (h : Header) (log : Log) → commands is_act log < h.settings.ath → alert h log ≡ None
never_raised h log few = let e = acts_are log in few_calm h log (omega (arith, e, few))
