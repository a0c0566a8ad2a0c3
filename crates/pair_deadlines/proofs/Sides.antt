-- What is kept of the log of each rank, after one more command.
use Rattle.std.proofs.Common.{◌≡◌, ◌∙◌, ℕ, zero, suc, ◌+◌, ◌*◌, ◌/◌, ◌≤◌, ◌<◌, Bool, true, false, not, ◌&&◌, ◌||◌, ◌==◌, ◌⊎◌, inl, inr, refl, sym, ap, arith, cond, [], ◌∷◌, Option, Some, None, eq-eqb, ne_eqb, le-leb, nat_le}
use Rattle.std.proofs.lemmas.Nat.{div_below, le-div}
use Rattle.std.proofs.Math.Nat.{mul-le-mul_right, div-le_self}
use Rattle.command_words.specs.declared.command.Command.{Command}
use Rattle.command_words.specs.declared.command.Command.TheVariants.{RefAb, RefSb, Ecs}
use Rattle.speed_bin.specs.declared.header.Header.{Header}
use Rattle.speed_bin.specs.declared.settings.RefreshMode.TheVariants.{All, Same}
use Rattle.speed_bin.specs.Log.{Issued, Log, refs, scrubs}
use Rattle.speed_bin.specs.Alert.{alert}
use Rattle.command_words.specs.Kinds.{refreshes, is_scrub}
use Rattle.speed_bin.specs.Gap.{n_max, n_tail}
use Rattle.speed_bin.specs.Rules.{is_on_time, rule_6, rule_7, rule_8, rule_13, until, after}
use Rattle.speed_bin.specs.Below.{all_below}
use Rattle.speed_bin.proofs.Tests.{joined, all_below_from}
use Rattle.deadlines.specs.Rounds.{next_due, ecs_due, Rounds}
use Rattle.deadlines.specs.Standing.{AllInTime}
use Rattle.deadlines.proofs.Rounds.{is_plain, refs_step, next_due_is, refs_plain, scrubs_plain, refs_scrub, scrubs_scrub}
use Rattle.deadlines.proofs.Refreshing.{same_refs, rounds_same, ecs_true, ecs_false, quotient_next}
use Rattle.deadlines.proofs.Keeping.{least_refs}
use Rattle.pair_deadlines.specs.Before.{AllBefore}
use Rattle.pair_deadlines.specs.Budget.{Fast}
use Rattle.pair_deadlines.specs.Standing.{RankKeeps}
use Rattle.pair_deadlines.proofs.Sharing.{before_more}

-- ---- Rules 6 and 7

on_time : (h : Header) (clock i m : ℕ) (log : Log) → 0 < h.timing.nrefi → i < 4 → Rounds log → refs 0 log * h.timing.nrefi ≤ clock → m ≤ refs 3 log → clock < (m + 5) * h.timing.nrefi → is_on_time h clock i log ≡ true
on_time h clock i m log some low r early more soon =
    let b = least_refs log i r low in
    let above = b.0 in
    let below = b.1 in
    let q : clock / h.timing.nrefi < m + 5 = div_below clock h.timing.nrefi (m + 5) some soon in
    let p : refs 0 log ≤ clock / h.timing.nrefi = le-div (refs 0 log) clock h.timing.nrefi some early in
    joined _ _ (le-leb (clock / h.timing.nrefi) (refs i log + 4) (omega arith)) (le-leb (refs i log) (clock / h.timing.nrefi + 4) (omega arith))

refs_grow : (a : ℕ) (place : Issued) (log : Log) → refs a log ≤ refs a (place ∷ log)
refs_grow a place log = let s = refs_step a place log in omega arith

pub rule_6_at : (h : Header) (place : Issued) (log : Log) → 0 < h.timing.nrefi → Rounds (place ∷ log) → refs 0 (place ∷ log) * h.timing.nrefi ≤ place.clock → place.clock < next_due h log + 3 * h.timing.nrefi → rule_6 h place.clock place.command log ≡ true
rule_6_at h place log some r early soon = all_below_from 4 (λ i. is_on_time h place.clock i (place ∷ log)) (λ i low.
    on_time h place.clock i (refs 3 log) (place ∷ log) some low r early (refs_grow 3 place log) (let d = next_due_is h log in omega arith))

pub end_at : (h : Header) (clock : ℕ) (log : Log) → 0 < h.timing.nrefi → Rounds log → refs 0 log * h.timing.nrefi ≤ clock → clock < next_due h log + 3 * h.timing.nrefi → all_below 4 (λ i. is_on_time h clock i log) ≡ true
end_at h clock log some r early soon = all_below_from 4 (λ i. is_on_time h clock i log) (λ i low.
    on_time h clock i (refs 3 log) log some low r early (omega arith) (let d = next_due_is h log in omega arith))

same_refs_at : (a t : ℕ) (place : Issued) (log : Log) → refs a (record { clock = t; command = place.command } ∷ log) ≡ refs a (place ∷ log)
same_refs_at a t place log = refs_step a (record { clock = t; command = place.command }) log ∙ sym (refs_step a place log)

pub rule_7_at : (place : Issued) (log : Log) → Rounds (place ∷ log) → rule_7 place.command log ≡ true
rule_7_at place log r = all_below_from 4 (λ a. all_below 4 (λ b. nat_le (refs a (record { clock = 0; command = place.command } ∷ log)) (refs b (record { clock = 0; command = place.command } ∷ log) + 1))) (λ a low.
    all_below_from 4 (λ b. nat_le (refs a (record { clock = 0; command = place.command } ∷ log)) (refs b (record { clock = 0; command = place.command } ∷ log) + 1)) (λ b under. one a b low under))
  where
    one : (a b : ℕ) → a < 4 → b < 4 → nat_le (refs a (record { clock = 0; command = place.command } ∷ log)) (refs b (record { clock = 0; command = place.command } ∷ log) + 1) ≡ true
    one a b low under =
        let x = same_refs_at a 0 place log in
        let y = same_refs_at b 0 place log in
        let p = (least_refs (place ∷ log) a r low).1 in
        let q = (least_refs (place ∷ log) b r under).0 in
        let w = r.whole in
        le-leb _ _ (omega arith)

-- ---- Rule 8

-- an ECS is issued where it is due, and a refresh where none is
pub record InStep (h : Header) (place : Issued) (log : Log) : Type 0 where
  pub on_due : is_scrub place.command ≡ true → ecs_due h log ≡ true
  pub not_due : refreshes 0 place.command ≡ true → ecs_due h log ≡ false

no_scrub : (c : Command) → is_plain c ≡ true → is_scrub c ≡ true → ⊥
unfolding is_plain
no_scrub Ecs p k = absurd (cc)
no_scrub c p k = absurd (cc)

no_refresh : (c : Command) → is_plain c ≡ true → refreshes 0 c ≡ true → ⊥
unfolding is_plain
no_refresh RefAb p k = absurd (cc)
no_refresh (RefSb a) p k = absurd (cc)
no_refresh c p k = absurd (cc)

pub plain_in_step : (h : Header) (place : Issued) (log : Log) → is_plain place.command ≡ true → InStep h place log
plain_in_step h place log plain = record {
  on_due = λ k. absurd (no_scrub place.command plain k);
  not_due = λ k. absurd (no_refresh place.command plain k);
}

positive : (n : ℕ) → (n == 0) ≡ false → 1 ≤ n
positive zero e = absurd (cc)
positive (suc n) e = omega arith

pub rule_8_at : (h : Header) (place : Issued) (log : Log) → (1 ≤ h.settings.ecs_every → scrubs log ≤ refs 0 log / h.settings.ecs_every) → InStep h place log → rule_8 h place.command log ≡ true
rule_8_at h place log scrubbed s = go (h.settings.ecs_every == 0) refl (is_scrub place.command) refl (refreshes 0 place.command) refl
  where
    go : (x : Bool) → (h.settings.ecs_every == 0) ≡ x → (y : Bool) → is_scrub place.command ≡ y → (z : Bool) → refreshes 0 place.command ≡ z → cond x (not y) ((not y || nat_le (suc (scrubs log)) (refs 0 log / h.settings.ecs_every)) && (not z || (scrubs log == refs 0 log / h.settings.ecs_every))) ≡ true
    go true e true f z g = let d = (ecs_true h log (s.on_due f)).0 in let k : (h.settings.ecs_every == 0) ≡ false = ne_eqb h.settings.ecs_every 0 (λ k. omega arith) in absurd (cc)
    go true e false f z g = refl
    go false e y f z g = joined _ _ (first y f) (second z g)
      where
        some : 1 ≤ h.settings.ecs_every
        some = positive h.settings.ecs_every e

        first : (y : Bool) → is_scrub place.command ≡ y → (not y || nat_le (suc (scrubs log)) (refs 0 log / h.settings.ecs_every)) ≡ true
        first true f = let d = (ecs_true h log (s.on_due f)).1 in le-leb _ _ (omega arith)
        first false f = refl

        second : (z : Bool) → refreshes 0 place.command ≡ z → (not z || (scrubs log == refs 0 log / h.settings.ecs_every)) ≡ true
        second true g =
            let a = ecs_false h log (s.not_due g) some in
            let b = scrubbed some in
            eq-eqb _ _ (omega arith)
        second false g = refl

-- ---- Rule 13

pub rule_13_calm : (h : Header) (clock : ℕ) (log : Log) → alert h log ≡ None → rule_13 h clock log ≡ true
rule_13_calm h clock log none = rw none refl

pub rule_13_soon : (h : Header) (clock a : ℕ) (log : Log) → alert h log ≡ Some a → clock ≤ a + n_max h.timing → rule_13 h clock log ≡ true
unfolding n_tail
rule_13_soon h clock a log raised soon = rw raised (le-leb _ _ (omega arith))

-- ---- A side after one more command, and later

pub side_later : (h : Header) (log : Log) (now later : ℕ) → now ≤ later → RankKeeps h log now → RankKeeps h log later
side_later h log now later more s = record {
  before = before_more now later log more s.before;
  rounds = s.rounds;
  not_early = (let e = s.not_early in omega arith);
  scrubbed = s.scrubbed;
  scrubs_soon = s.scrubs_soon;
  alike = s.alike;
  meets = s.meets;
}

-- what each command gives
pub record Fits (h : Header) (place : Issued) (log : Log) (now : ℕ) : Type 0 where
  pub side : RankKeeps h log now
  pub some : 0 < h.timing.nrefi
  pub later : now ≤ place.clock
  pub soon : place.clock < next_due h log + 3 * h.timing.nrefi
  pub thirteenth : rule_13 h place.clock log ≡ true

pub side_plain : (h : Header) (place : Issued) (log : Log) (now : ℕ) → Fits h place log now → is_plain place.command ≡ true → RankKeeps h (place ∷ log) (place.clock + 1)
side_plain h place log now f plain =
    let l = f.later in
    let e = f.side.not_early in
    record {
      before = (omega arith, before_more now (place.clock + 1) log (omega arith) f.side.before);
      rounds = rounds;
      not_early = (let k = early in omega arith);
      scrubbed = λ some. (let s = scrubs_plain place log plain in let k = f.side.scrubbed some in omega (arith, quotient));
      scrubs_soon = λ some. (let s = scrubs_plain place log plain in let k = f.side.scrubs_soon some in omega (arith, quotient));
      alike = λ all. (refs_plain 0 place log plain ∙ f.side.alike all ∙ sym (refs_plain 3 place log plain));
      meets = (f.side.meets, rule_6_at h place log f.some rounds early f.soon, rule_7_at place log rounds, rule_8_at h place log f.side.scrubbed (plain_in_step h place log plain), f.thirteenth);
    }
  where
    rounds : Rounds (place ∷ log)
    rounds = rounds_same h place log (same_refs h place log (λ i. refs_plain i place log plain)) f.side.rounds

    quotient : refs 0 (place ∷ log) / h.settings.ecs_every ≡ refs 0 log / h.settings.ecs_every
    quotient = ap (λ (n : ℕ). n / h.settings.ecs_every) (refs_plain 0 place log plain)

    early : refs 0 (place ∷ log) * h.timing.nrefi ≤ place.clock
    early =
        let a = f.side.not_early in
        let b = f.later in
        let e : refs 0 (place ∷ log) * h.timing.nrefi ≡ refs 0 log * h.timing.nrefi = ap (λ (n : ℕ). n * h.timing.nrefi) (refs_plain 0 place log plain) in
        omega arith

pub side_scrub : (h : Header) (place : Issued) (log : Log) (now : ℕ) → Fits h place log now → place.command ≡ Ecs → ecs_due h log ≡ true → RankKeeps h (place ∷ log) (place.clock + 1)
side_scrub h place log now f is due =
    let l = f.later in
    record {
      before = (omega arith, before_more now (place.clock + 1) log (omega arith) f.side.before);
      rounds = rounds;
      not_early = (let k = early in omega arith);
      scrubbed = λ some. (let s = scrubs_scrub place log is in let d = (ecs_true h log due).1 in omega (arith, quotient));
      scrubs_soon = λ some. (let s = scrubs_scrub place log is in let k = f.side.scrubs_soon some in omega (arith, quotient));
      alike = λ all. (refs_scrub 0 place log is ∙ f.side.alike all ∙ sym (refs_scrub 3 place log is));
      meets = (f.side.meets, rule_6_at h place log f.some rounds early f.soon, rule_7_at place log rounds, rule_8_at h place log f.side.scrubbed in_step, f.thirteenth);
    }
  where
    rounds : Rounds (place ∷ log)
    rounds = rounds_same h place log (same_refs h place log (λ i. refs_scrub i place log is)) f.side.rounds

    in_step : InStep h place log
    in_step = record { on_due = λ k. due; not_due = λ k. let x : refreshes 0 Ecs ≡ true = rw is at k in absurd (cc) }

    quotient : refs 0 (place ∷ log) / h.settings.ecs_every ≡ refs 0 log / h.settings.ecs_every
    quotient = ap (λ (n : ℕ). n / h.settings.ecs_every) (refs_scrub 0 place log is)

    early : refs 0 (place ∷ log) * h.timing.nrefi ≤ place.clock
    early =
        let a = f.side.not_early in
        let b = f.later in
        let e : refs 0 (place ∷ log) * h.timing.nrefi ≡ refs 0 log * h.timing.nrefi = ap (λ (n : ℕ). n * h.timing.nrefi) (refs_scrub 0 place log is) in
        omega arith

-- a refresh that is due while no ECS is
pub side_refresh : (h : Header) (place : Issued) (log : Log) (now : ℕ) → Fits h place log now → is_scrub place.command ≡ false → ecs_due h log ≡ false → next_due h log ≤ now
    → Rounds (place ∷ log) → refs 0 (place ∷ log) ≡ suc (refs 3 log) → scrubs (place ∷ log) ≡ scrubs log
    → (refs 0 (place ∷ log) ≡ refs 0 log) ⊎ (refs 0 (place ∷ log) ≡ suc (refs 0 log)) → (h.settings.refresh ≡ All → refs 0 (place ∷ log) ≡ refs 3 (place ∷ log)) → RankKeeps h (place ∷ log) (place.clock + 1)
side_refresh h place log now f other none due rounds whole same first alike =
    let l = f.later in
    record {
      before = (omega arith, before_more now (place.clock + 1) log (omega arith) f.side.before);
      rounds = rounds;
      not_early = (let k = early in omega arith);
      scrubbed = λ some. scrubbed first some (f.side.scrubbed some);
      scrubs_soon = λ some. soon first some (ecs_false h log none some);
      alike = alike;
      meets = (f.side.meets, rule_6_at h place log f.some rounds early f.soon, rule_7_at place log rounds, rule_8_at h place log f.side.scrubbed in_step, f.thirteenth);
    }
  where
    in_step : InStep h place log
    in_step = record { on_due = λ k. absurd (cc); not_due = λ k. none }

    early : refs 0 (place ∷ log) * h.timing.nrefi ≤ place.clock
    early =
        let d = next_due_is h log in
        let l = f.later in
        let e : refs 0 (place ∷ log) * h.timing.nrefi ≡ suc (refs 3 log) * h.timing.nrefi = ap (λ (n : ℕ). n * h.timing.nrefi) whole in
        omega arith

    scrubbed : (refs 0 (place ∷ log) ≡ refs 0 log) ⊎ (refs 0 (place ∷ log) ≡ suc (refs 0 log)) → 1 ≤ h.settings.ecs_every → scrubs log ≤ refs 0 log / h.settings.ecs_every → scrubs (place ∷ log) ≤ refs 0 (place ∷ log) / h.settings.ecs_every
    scrubbed (inl e) some k = let q : refs 0 (place ∷ log) / h.settings.ecs_every ≡ refs 0 log / h.settings.ecs_every = ap (λ (n : ℕ). n / h.settings.ecs_every) e in omega arith
    scrubbed (inr e) some k =
        let q : refs 0 (place ∷ log) / h.settings.ecs_every ≡ suc (refs 0 log) / h.settings.ecs_every = ap (λ (n : ℕ). n / h.settings.ecs_every) e in
        let m = (quotient_next h.settings.ecs_every (refs 0 log) some).0 in
        omega arith

    soon : (refs 0 (place ∷ log) ≡ refs 0 log) ⊎ (refs 0 (place ∷ log) ≡ suc (refs 0 log)) → 1 ≤ h.settings.ecs_every → refs 0 log / h.settings.ecs_every ≤ scrubs log → refs 0 (place ∷ log) / h.settings.ecs_every ≤ suc (scrubs (place ∷ log))
    soon (inl e) some k = let q : refs 0 (place ∷ log) / h.settings.ecs_every ≡ refs 0 log / h.settings.ecs_every = ap (λ (n : ℕ). n / h.settings.ecs_every) e in omega arith
    soon (inr e) some k =
        let q : refs 0 (place ∷ log) / h.settings.ecs_every ≡ suc (refs 0 log) / h.settings.ecs_every = ap (λ (n : ℕ). n / h.settings.ecs_every) e in
        let m = (quotient_next h.settings.ecs_every (refs 0 log) some).1 in
        omega arith
