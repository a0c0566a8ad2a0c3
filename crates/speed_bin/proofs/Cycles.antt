-- How many ACTs of a bank may follow one of its marks.
use Rattle.std.proofs.Common.{◌≡◌, ◌≢◌, ℕ, zero, suc, ◌+◌, ◌*◌, ◌<◌, ◌≤◌, ◌⊎◌, Bool, true, false, refl, arith, inl, inr, Option, Some, None, [], ◌∷◌}
use Rattle.command_words.specs.declared.command.Command.{Command}
use Rattle.speed_bin.specs.declared.header.Header.{Header}
use Rattle.command_words.specs.Kinds.{Effect, Opens, Closes, Manages, Refreshes, Leaves, effect}
use Rattle.speed_bin.specs.Log.{Issued, Log, open_after}
use Rattle.speed_bin.specs.Alert.{alert_after, alert}
use Rattle.speed_bin.specs.Rules.{rule_2}
use Rattle.speed_bin.specs.Marks.{opens_one}
use Rattle.speed_bin.proofs.Effects.{opens_act, closes_precharge, meet_at, gap_some, gap_acts, gap_precharge, rule_2_head, rule_2_tail}
use Rattle.speed_bin.proofs.Splits.{same_or_not}

-- ---- The alert is older than what follows

alert_from : (x y : Bool) (clock a : ℕ) (before : Option ℕ) → alert_after x y clock before ≡ Some a → (before ≡ Some a) ⊎ (a ≡ clock)
alert_from true y clock a before h = absurd (cc)
alert_from false y clock a (Some raised) h = inl h
alert_from false true clock a None h = inr (cc)
alert_from false false clock a None h = absurd (cc)

pub alert_before : (h : Header) (a t : ℕ) (c : Command) (log : Log) → alert h log ≡ Some a → rule_2 h.timing t c log ≡ true → a < t
alert_before h a t c [] raised k = absurd (cc)
alert_before h a t c (place ∷ log) raised k = go (alert_from _ _ _ a (alert h log) raised) (alert_before h a t c log)
  where
    go : (alert h log ≡ Some a) ⊎ (a ≡ place.clock) → (alert h log ≡ Some a → rule_2 h.timing t c log ≡ true → a < t) → a < t
    go (inl e) ih = ih e (rule_2_tail h t c place log k)
    go (inr e) ih =
        let head = rule_2_head h t c place log k in
        let some = gap_some h.timing place.command c in
        omega arith

-- ---- Two commands for one bank

after_act : (h : Header) (b r s t : ℕ) (c : Command) (place : Issued) (log : Log) → b < 32 → effect b place.command ≡ Opens s → effect b c ≡ Opens r → rule_2 h.timing t c (place ∷ log) ≡ true → place.clock + h.timing.nrc ≤ t
after_act h b r s t c place log low e f k =
    let p = opens_act b s place.command e in
    let q = opens_act b r c f in
    let g = gap_acts h.timing place.command c p.0 q.0 (meet_at b place.command c low p.1 q.1) in
    let head = rule_2_head h t c place log k in
    omega arith

after_precharge : (h : Header) (b r t : ℕ) (c : Command) (place : Issued) (log : Log) → b < 32 → effect b place.command ≡ Closes → effect b c ≡ Opens r → rule_2 h.timing t c (place ∷ log) ≡ true → place.clock + h.timing.nrp ≤ t
after_precharge h b r t c place log low e f k =
    let p = closes_precharge b place.command e in
    let q = opens_act b r c f in
    let g = gap_precharge h.timing place.command c p.0 q.0 (meet_at b place.command c low p.1 q.1) in
    let head = rule_2_head h t c place log k in
    omega arith

-- ---- The pace of a bank's ACTs since its last mark, n being their number

-- a cycle has suc d activations
pub record SpacedActs (h : Header) (b d : ℕ) (log : Log) (n : ℕ) (opened raised : Option ℕ) : Type 0 where
  pub few : n ≤ suc d
  -- while no alert is raised there is at most one, and its row is still open
  pub quiet : raised ≡ None → (n ≡ 0) ⊎ ((n ≡ 1) × (opened ≡ None → ⊥))
  -- while it is raised the next one comes no earlier than this
  pub paced : (a m t r : ℕ) (c : Command) → raised ≡ Some a → n ≡ suc m → (1 ≤ m) ⊎ (opened ≡ None) → effect b c ≡ Opens r → rule_2 h.timing t c log ≡ true → a + h.timing.nrp + m * h.timing.nrc ≤ t

pub paced_at_mark : (h : Header) (b d : ℕ) (log : Log) (opened raised : Option ℕ) → SpacedActs h b d log 0 opened raised
paced_at_mark h b d log opened raised = record {
  few = omega arith;
  quiet = λ e. inl refl;
  paced = λ a m t r c e n. absurd (cc);
}

-- what is known where a place follows a log
pub record Follows (h : Header) (b d : ℕ) (place : Issued) (log : Log) (e : Effect) (opened raised : Option ℕ) (raises : Bool) : Type 0 where
  pub bank : b < 32
  pub checks : h.timing.nrp ≤ h.timing.nrc
  pub window : h.timing.nabo < h.timing.nrp + d * h.timing.nrc
  pub is : effect b place.command ≡ e
  pub second : rule_2 h.timing place.clock place.command log ≡ true
  pub closed : (r : ℕ) → e ≡ Opens r → opened ≡ None
  pub in_window : (r a : ℕ) → e ≡ Opens r → raised ≡ Some a → place.clock ≤ a + h.timing.nabo
  pub older : (a t : ℕ) (c : Command) → raised ≡ Some a → rule_2 h.timing t c log ≡ true → a < t
  pub act_raises_none : (r : ℕ) → e ≡ Opens r → raises ≡ false
  pub close_raises : e ≡ Closes → (opened ≡ None → ⊥) → raises ≡ true

step_opens : (h : Header) (b d : ℕ) (place : Issued) (log : Log) (r n : ℕ) (opened raised : Option ℕ) (raises : Bool) → Follows h b d place log (Opens r) opened raised raises → SpacedActs h b d log n opened raised → SpacedActs h b d (place ∷ log) (suc n) (Some r) (alert_after false raises place.clock raised)
step_opens h b d place log r n opened None raises f p = record {
  few = go (p.quiet refl);
  quiet = λ e. inr (one (p.quiet refl), λ none. cc);
  paced = λ a m t s c e. absurd (no_alert a e);
}
  where
    go : (n ≡ 0) ⊎ ((n ≡ 1) × (opened ≡ None → ⊥)) → suc n ≤ suc d
    go (inl e) = omega arith
    go (inr q) = absurd (q.1 (f.closed r refl))

    one : (n ≡ 0) ⊎ ((n ≡ 1) × (opened ≡ None → ⊥)) → suc n ≡ 1
    one (inl e) = omega arith
    one (inr q) = absurd (q.1 (f.closed r refl))

    no_alert : (a : ℕ) → alert_after false raises place.clock None ≡ Some a → ⊥
    no_alert a e =
        let none : raises ≡ false = f.act_raises_none r refl in
        let k : None ≡ Some a = rw none at e in
        cc
step_opens h b d place log r n opened (Some raised) raises f p = record {
  few = go (same_or_not n (suc d));
  quiet = λ e. absurd (cc);
  paced = λ a m t s c e k sep own follow. later a m t s c (cc) (omega arith) own follow;
}
  where
    go : (n ≡ suc d) ⊎ (n ≢ suc d) → suc n ≤ suc d
    go (inl e) =
        let at = p.paced raised d place.clock r place.command refl e (inr (f.closed r refl)) f.is f.second in
        let until = f.in_window r raised refl refl in
        let w = f.window in
        omega arith
    go (inr other) = let few = p.few in omega arith

    later : (a m t s : ℕ) (c : Command) → raised ≡ a → n ≡ m → effect b c ≡ Opens s → rule_2 h.timing t c (place ∷ log) ≡ true → a + h.timing.nrp + m * h.timing.nrc ≤ t
    later a zero t s c same k own follow =
        let old = f.older raised place.clock place.command refl f.second in
        let next = after_act h b s r t c place log f.bank f.is own follow in
        let chk = f.checks in
        omega arith
    later a (suc m) t s c same k own follow =
        let at = p.paced raised m place.clock r place.command refl k (inr (f.closed r refl)) f.is f.second in
        let next = after_act h b s r t c place log f.bank f.is own follow in
        omega arith

step_closes : (h : Header) (b d : ℕ) (place : Issued) (log : Log) (n : ℕ) (opened raised : Option ℕ) (raises : Bool) → Follows h b d place log Closes opened raised raises → SpacedActs h b d log n opened raised → SpacedActs h b d (place ∷ log) n None (alert_after false raises place.clock raised)
step_closes h b d place log n opened None raises f p = record {
  few = p.few;
  quiet = λ e. inl (go e (p.quiet refl));
  paced = λ a m t s c e k sep own follow. later a m t s c (alert_from false raises place.clock a None e) k (p.quiet refl) own follow;
}
  where
    go : alert_after false raises place.clock None ≡ None → (n ≡ 0) ⊎ ((n ≡ 1) × (opened ≡ None → ⊥)) → n ≡ 0
    go e (inl z) = z
    go e (inr q) =
        let up : raises ≡ true = f.close_raises refl q.1 in
        let k : Some place.clock ≡ None = rw up at e in
        absurd (cc)

    later : (a m t s : ℕ) (c : Command) → (None ≡ Some a) ⊎ (a ≡ place.clock) → n ≡ suc m → (n ≡ 0) ⊎ ((n ≡ 1) × (opened ≡ None → ⊥)) → effect b c ≡ Opens s → rule_2 h.timing t c (place ∷ log) ≡ true → a + h.timing.nrp + m * h.timing.nrc ≤ t
    later a m t s c (inl e) k q own follow = absurd (cc)
    later a m t s c (inr e) k (inl z) own follow = absurd (omega arith)
    later a m t s c (inr e) k (inr q) own follow =
        let next = after_precharge h b s t c place log f.bank f.is own follow in
        let none : m ≡ 0 = let q0 = q.0 in omega arith in
        rw none (omega arith)
step_closes h b d place log n opened (Some raised) raises f p = record {
  few = p.few;
  quiet = λ e. absurd (cc);
  paced = λ a m t s c e k sep own follow. later a m t s c (cc) k own follow;
}
  where
    later : (a m t s : ℕ) (c : Command) → raised ≡ a → n ≡ suc m → effect b c ≡ Opens s → rule_2 h.timing t c (place ∷ log) ≡ true → a + h.timing.nrp + m * h.timing.nrc ≤ t
    later a zero t s c same k own follow =
        let old = f.older raised place.clock place.command refl f.second in
        let next = after_precharge h b s t c place log f.bank f.is own follow in
        omega arith
    later a (suc m) t s c same k own follow =
        let at = p.paced raised (suc m) t s c refl k (inl (omega arith)) own (rule_2_tail h t c place log follow) in
        omega arith

-- any other effect leaves the bank's row and the number as they are
step_others : (h : Header) (b d : ℕ) (place : Issued) (log : Log) (e : Effect) (n : ℕ) (opened raised : Option ℕ) (raises : Bool) → Follows h b d place log e opened raised raises → SpacedActs h b d log n opened raised → SpacedActs h b d (place ∷ log) n opened (alert_after false raises place.clock raised)
step_others h b d place log e n opened None raises f p = record {
  few = p.few;
  quiet = λ k. p.quiet refl;
  paced = λ a m t s c k size sep own follow. absurd (never m size sep (p.quiet refl));
}
  where
    never : (m : ℕ) → n ≡ suc m → (1 ≤ m) ⊎ (opened ≡ None) → (n ≡ 0) ⊎ ((n ≡ 1) × (opened ≡ None → ⊥)) → ⊥
    never m size sep (inl z) = omega arith
    never m size (inl more) (inr q) = let q0 = q.0 in omega arith
    never m size (inr none) (inr q) = q.1 none
step_others h b d place log e n opened (Some raised) raises f p = record {
  few = p.few;
  quiet = λ k. absurd (cc);
  paced = λ a m t s c k size sep own follow. p.paced a m t s c k size sep own (rule_2_tail h t c place log follow);
}

pub paced_step : (h : Header) (b d : ℕ) (place : Issued) (log : Log) (e : Effect) (n : ℕ) (opened raised : Option ℕ) (raises : Bool) → Follows h b d place log e opened raised raises → SpacedActs h b d log n opened raised → SpacedActs h b d (place ∷ log) (opens_one e n) (open_after e opened) (alert_after false raises place.clock raised)
paced_step h b d place log (Opens r) n opened raised raises f p = step_opens h b d place log r n opened raised raises f p
paced_step h b d place log Closes n opened raised raises f p = step_closes h b d place log n opened raised raises f p
paced_step h b d place log Manages n opened raised raises f p = step_others h b d place log Manages n opened raised raises f p
paced_step h b d place log Refreshes n opened raised raises f p = step_others h b d place log Refreshes n opened raised raises f p
paced_step h b d place log Leaves n opened raised raises f p = step_others h b d place log Leaves n opened raised raises f p
