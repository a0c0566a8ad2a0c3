-- The counts of a log with one command more, and that no count is above the length of the log.
use Rattle.std.proofs.Common.{◌≡◌, ◌+◌, ◌<◌, ◌≤◌, ◌^◌, ℕ, suc, Bool, true, false, ◌&&◌, not, if◌then◌else◌, cond, is_none, is_some, Option, Some, None, [], ◌∷◌, length, refl, ap, arith}
use Rattle.std.proofs.lemmas.List.Recursion.{is_count_by}
use Rattle.std.proofs.lemmas.List.Sums.{count_by-le-length}
use Rattle.command_words.specs.declared.command.Command.{Command}
use Rattle.speed_bin.specs.Alert.{alert}
use Rattle.speed_bin.specs.Counts.{commands, alerts}
use Rattle.command_words.specs.Kinds.{is_act, is_rd, is_wr, is_precharge, is_ref_all, is_ref_same, is_rfm_all, is_rfm_same, is_scrub}
use Rattle.speed_bin.specs.Log.{Issued, Log}
use Rattle.speed_bin.specs.declared.header.Header.{Header}
use Rattle.log_counts.specs.Counts.{counts_of, one_more, with_alert, with_command, AreFew}
use Rattle.log_counts.specs.declared.counts.Counts.{Counts}

-- ---- One command more

-- the commands of a kind, place by place
abbrev of_kind : (Command → Bool) → Log → ℕ
of_kind kind [] = 0
of_kind kind (place ∷ log) = cond (kind place.command) (1 + of_kind kind log) (of_kind kind log)

kind_is : (kind : Command → Bool) (log : Log) → of_kind kind log ≡ commands kind log
kind_is kind log = is_count_by (of_kind kind) (λ place. kind place.command) refl (λ place rest. refl) log

pub commands-more : (kind : Command → Bool) (place : Issued) (log : Log) → commands kind (place ∷ log) ≡ one_more (kind place.command) (commands kind log)
commands-more kind place log = go (kind place.command) refl
  where
    go : (t : Bool) → kind place.command ≡ t → commands kind (place ∷ log) ≡ one_more t (commands kind log)
    go true e =
        let a = kind_is kind (place ∷ log) in
        let b = kind_is kind log in
        let f : of_kind kind (place ∷ log) ≡ 1 + of_kind kind log = rw e refl in
        omega (arith, a, b, f)
    go false e =
        let a = kind_is kind (place ∷ log) in
        let b = kind_is kind log in
        let f : of_kind kind (place ∷ log) ≡ of_kind kind log = rw e refl in
        omega (arith, a, b, f)

raised-more : (before after : Option ℕ) (n m : ℕ) → m ≡ (if is_none before && is_some after then suc n else n) → m ≡ one_more (is_some after && not (is_some before)) n
raised-more None None n m e = e
raised-more None (Some x) n m e = omega (arith, e)
raised-more (Some y) None n m e = e
raised-more (Some y) (Some x) n m e = e

pub alerts-more : (h : Header) (place : Issued) (log : Log) → alerts h (place ∷ log) ≡ one_more (is_some (alert h (place ∷ log)) && not (is_some (alert h log))) (alerts h log)
alerts-more h place log = raised-more (alert h log) (alert h (place ∷ log)) (alerts h log) (alerts h (place ∷ log)) refl

pub counts-more : (h : Header) (place : Issued) (log : Log) → counts_of h (place ∷ log) ≡ with_command place.command (with_alert (is_some (alert h (place ∷ log))) (counts_of h log))
unfolding counts_of
counts-more h place log =
    let act = commands-more is_act place log in
    let rd = commands-more is_rd place log in
    let wr = commands-more is_wr place log in
    let pre = commands-more is_precharge place log in
    let refab = commands-more is_ref_all place log in
    let refsb = commands-more is_ref_same place log in
    let rfmab = commands-more is_rfm_all place log in
    let rfmsb = commands-more is_rfm_same place log in
    let ecs = commands-more is_scrub place log in
    let raised = alerts-more h place log in
    cc

-- ---- How many

alerts-few : (h : Header) (log : Log) → alerts h log ≤ length log
alerts-few h [] = omega arith
alerts-few h (place ∷ log) = go _ (alerts-more h place log) (alerts-few h log)
  where
    go : (t : Bool) → alerts h (place ∷ log) ≡ one_more t (alerts h log) → alerts h log ≤ length log → alerts h (place ∷ log) ≤ length (place ∷ log)
    go true e k = omega (arith, e, k)
    go false e k = omega (arith, e, k)

pub alerts-below : (h : Header) (counts : Counts) (log : Log) → counts ≡ counts_of h log → length log < 2 ^ 48 → counts.alerts < 2 ^ 48
unfolding counts_of
alerts-below h counts log e low =
    let k = alerts-few h log in
    let f : counts.alerts ≡ alerts h log = ap (λ (c : Counts). c.alerts) e in
    omega (arith, low, k, f)

kind-below : (kind : Command → Bool) (log : Log) (n : ℕ) → n ≡ commands kind log → length log < 2 ^ 48 → n < 2 ^ 48
kind-below kind log n e low = let k = count_by-le-length (λ (place : Issued). kind place.command) log in omega (arith, e, k, low)

pub few-kinds : (h : Header) (counts : Counts) (log : Log) → counts ≡ counts_of h log → length log < 2 ^ 48 → AreFew counts
unfolding counts_of
few-kinds h counts log e low = record {
  act = kind-below is_act log counts.act (ap (λ (c : Counts). c.act) e) low;
  rd = kind-below is_rd log counts.rd (ap (λ (c : Counts). c.rd) e) low;
  wr = kind-below is_wr log counts.wr (ap (λ (c : Counts). c.wr) e) low;
  pre = kind-below is_precharge log counts.pre (ap (λ (c : Counts). c.pre) e) low;
  refab = kind-below is_ref_all log counts.refab (ap (λ (c : Counts). c.refab) e) low;
  refsb = kind-below is_ref_same log counts.refsb (ap (λ (c : Counts). c.refsb) e) low;
  rfmab = kind-below is_rfm_all log counts.rfmab (ap (λ (c : Counts). c.rfmab) e) low;
  rfmsb = kind-below is_rfm_same log counts.rfmsb (ap (λ (c : Counts). c.rfmsb) e) low;
  ecs = kind-below is_scrub log counts.ecs (ap (λ (c : Counts). c.ecs) e) low;
}

pub few-still : (raised : Bool) (counts : Counts) → AreFew counts → AreFew (with_alert raised counts)
few-still raised counts few = record {
  act = few.act;
  rd = few.rd;
  wr = few.wr;
  pre = few.pre;
  refab = few.refab;
  refsb = few.refsb;
  rfmab = few.rfmab;
  rfmsb = few.rfmsb;
  ecs = few.ecs;
}
