-- The bounds in numbers: clocks stay small, and so does the number of places.
use Rattle.std.proofs.Common.{◌≡◌, ℕ, ◌+◌, ◌-◌, ◌*◌, ◌/◌, ◌≤◌, ◌<◌, ◌^◌, ◌⊎◌, inl, inr, ap, arith, List, length, Option}
use Rattle.std.proofs.Math.Nat.{mul-le-mul_left, div-mul-le_self}
use Rattle.command_words.specs.declared.command.Command.{Command}
use Rattle.speed_bin.specs.Gap.{n_max}
use Rattle.speed_bin.specs.Header.{IsAccepted}
use Rattle.speed_bin.specs.Log.{Log, last_clock}
use Rattle.speed_bin.specs.declared.header.Header.{Header}
use Rattle.requests.specs.Choice.{IsSoonest}
use Rattle.deadlines.specs.Standing.{Keeps}
use Rattle.deadlines.specs.declared.task.Task.{Task}
use Rattle.deadlines.proofs.Moves.{Slack}
use Rattle.deadlines.proofs.Following.{up_last, may_from}
use Rattle.deadlines.proofs.Stages.{some_max}
use Rattle.deadlines.proofs.Rounds.{slack_tasks, per_task_is}
use Rattle.deadlines.proofs.Wholes.{slack_of, opened, bound_end, bound_target, bound_places}

-- ---- nMax against the refresh interval

pub max_by_interval : (h : Header) → Slack h → 13 * n_max h.timing ≤ 2 * h.timing.nrefi
max_by_interval h slack =
    let a = slack_tasks h slack in
    let b = per_task_is h in
    omega arith

pub max_small : (h : Header) → IsAccepted h → n_max h.timing < 2 ^ 14
max_small h ok =
    let a = max_by_interval h (slack_of h ok) in
    let b = ok.timing.nrefi.1 in
    omega arith

-- an interval has at least 20 clocks
long_interval : (h : Header) → Slack h → 20 ≤ h.timing.nrefi
long_interval h slack =
    let a = slack.sixth in
    let b = slack.some_nrp in
    let c = slack.some_nrfcsb in
    let d = slack.some_necs in
    omega arith

-- ---- Clocks

small_end : (m n idle y : ℕ) → m < 2 ^ 14 → n ≤ 1048576 → idle ≤ 4294967296 → y ≤ 2 * (idle + 8 * m * (n + 3)) → y < 2 ^ 40
small_end m n idle y a b c d =
    let p : 8 * m * (n + 3) ≤ 8 * m * 1048579 = mul-le-mul_left (8 * m) (omega arith) in
    omega arith

pub now_small : (h : Header) (log : Log) (task : Option Task) (now until idle : ℕ) (waiting : List ℕ) (n : ℕ) → IsAccepted h → Keeps h log task now until idle waiting n → n ≤ 1048576 → idle ≤ 4294967296 → now < 2 ^ 40
now_small h log task now until idle waiting n ok keeps few short =
    small_end (n_max h.timing) n idle now (max_small h ok) few short (bound_end h log task now until idle waiting n ok keeps)

pub target_small : (h : Header) (log : Log) (task : Option Task) (now until idle : ℕ) (waiting : List ℕ) (n : ℕ) → IsAccepted h → Keeps h log task now until idle waiting n → n ≤ 1048576 → idle ≤ 4294967296 → until < 2 ^ 40
target_small h log task now until idle waiting n ok keeps few short =
    small_end (n_max h.timing) n idle until (max_small h ok) few short (bound_target h log task now until idle waiting n ok keeps)

-- ---- Places

-- the intervals that passed: an interval has 20 clocks, and takes 13 halves of nMax
few_intervals : (m n idle y k q : ℕ) → 13 * m ≤ 2 * k → 20 ≤ k → q * k ≤ y → y ≤ 2 * (idle + 8 * m * (n + 3)) → 130 * q ≤ 13 * idle + 320 * (n + 3)
few_intervals m n idle y k q a b c d = go (cases (13 * q) (32 * (n + 3)))
  where
    cases : (u v : ℕ) → (u ≤ v) ⊎ ((w : ℕ) × (u ≡ v + w))
    cases u v = split (either u v)
      where
        either : (u v : ℕ) → (u ≤ v) ⊎ (v ≤ u)
        either u v = grind arith

        split : (u ≤ v) ⊎ (v ≤ u) → (u ≤ v) ⊎ ((w : ℕ) × (u ≡ v + w))
        split (inl low) = inl low
        split (inr more) = inr (u - v, omega arith)

    -- thirteen times the end, by the interval
    most : 13 * (q * k) ≤ 26 * idle + 32 * (n + 3) * k
    most =
        let e : 16 * (n + 3) * (13 * m) ≤ 16 * (n + 3) * (2 * k) = mul-le-mul_left (16 * (n + 3)) a in
        omega arith

    go : (13 * q ≤ 32 * (n + 3)) ⊎ ((w : ℕ) × (13 * q ≡ 32 * (n + 3) + w)) → 130 * q ≤ 13 * idle + 320 * (n + 3)
    go (inl low) = omega arith
    go (inr p) = by p.0 p.1
      where
        by : (w : ℕ) → 13 * q ≡ 32 * (n + 3) + w → 130 * q ≤ 13 * idle + 320 * (n + 3)
        by w e =
            let left : 13 * q * k ≡ (32 * (n + 3) + w) * k = ap (λ (u : ℕ). u * k) e in
            let rest : w * k ≤ 26 * idle = omega (arith, most) in
            let twenty : w * 20 ≤ w * k = mul-le-mul_left w b in
            omega arith

small_places : (n idle q places : ℕ) → n ≤ 1048576 → idle ≤ 4294967296 → 130 * q ≤ 13 * idle + 320 * (n + 3) → places ≤ 28 + 5 * n + 5 * q → places < 2200000000
small_places n idle q places a b c d = omega arith

pub places_small : (h : Header) (log : Log) (task : Option Task) (now until idle : ℕ) (waiting : List ℕ) (n : ℕ) → IsAccepted h → Keeps h log task now until idle waiting n → n ≤ 1048576 → idle ≤ 4294967296 → length log < 2200000000
places_small h log task now until idle waiting n ok keeps few short =
    let slack = slack_of h ok in
    small_places n idle (now / h.timing.nrefi) (length log) few short
    (few_intervals (n_max h.timing) n idle now h.timing.nrefi (now / h.timing.nrefi) (max_by_interval h slack) (long_interval h slack) (div-mul-le_self now h.timing.nrefi) (bound_end h log task now until idle waiting n ok keeps))
    (bound_places h log task now until idle waiting n ok keeps)

-- ---- Commands come soon

pub last_by_now : (h : Header) (log : Log) (task : Option Task) (now until idle : ℕ) (waiting : List ℕ) (n : ℕ) → Keeps h log task now until idle waiting n → last_clock log ≤ now
last_by_now h log task now until idle waiting n keeps = (opened h log task now until idle waiting n keeps).stands.backoff.early

pub comes_soon : (h : Header) (log : Log) (task : Option Task) (now until idle : ℕ) (waiting : List ℕ) (n : ℕ) → IsAccepted h → Keeps h log task now until idle waiting n → (start clock : ℕ) (command : Command) → now ≤ start → IsSoonest h log start command clock → clock ≤ start + n_max h.timing
comes_soon h log task now until idle waiting n ok keeps start clock command more at =
    let b = (opened h log task now until idle waiting n keeps).stands.backoff in
    let early = b.early in
    let some = some_max h.timing in
    at.least (start + n_max h.timing) (omega arith) (may_from h (last_clock log) (start + n_max h.timing) command log (up_last log b.rises) (omega arith) (omega arith))
