-- The greatest number of activations, over so many banks.
use Rattle.std.proofs.Common.{◌≡◌, ◌⊎◌, inl, inr, ℕ, zero, suc, ◌<◌, ◌≤◌, refl, ap, arith, [], ◌∷◌, max, ltb-true}
use Rattle.std.specs.Prelude.{IsTrue}
use Rattle.command_words.specs.Command.{bank_number}
use Rattle.command_words.specs.declared.command.Command.{Command}
use Rattle.command_words.specs.declared.command.Command.TheVariants.{Act, Rd, Wr, PrePb, PreSb, PreAb, RefAb, RefSb, RfmAb, RfmSb, Mrw, Ecs, Nop}
use Rattle.speed_bin.specs.Counters.{acts}
use Rattle.speed_bin.specs.Counts.{acts_opened, peak}
use Rattle.speed_bin.specs.Log.{Log}
use Rattle.speed_bin.specs.Marks.{RowsInRange, stays_inside, opens_inside}
use Rattle.speed_bin.specs.Present.{has_bank}
use Rattle.speed_bin.specs.declared.header.Header.{Header}
use Rattle.speed_bin.proofs.CounterWording.{peak_above}
use Rattle.speed_bin.proofs.Tests.{both}
use Rattle.present_banks.specs.Over.{banks_of_header, greatest_below, peak_over}

-- each value is at most the greatest
at_most_greatest : (n i : ℕ) (value : ℕ → ℕ) → i < n → value i ≤ greatest_below n value
unfolding greatest_below
at_most_greatest zero i value low = omega (arith, low)
at_most_greatest (suc n) i value low = go (last_or_before i n low) (at_most_greatest n i value)
  where
    last_or_before : (i n : ℕ) → i < suc n → (i < n) ⊎ (i ≡ n)
    last_or_before i n low = grind arith

    go : (i < n) ⊎ (i ≡ n) → (i < n → value i ≤ greatest_below n value) → value i ≤ max (value n) (greatest_below n value)
    go (inl low) ih = let below = ih low in omega (arith, below)
    go (inr same) ih = let e : value i ≡ value n = ap value same in omega (arith, e)

-- the greatest is at most what each value is at most
greatest_at_most : (n most : ℕ) (value : ℕ → ℕ) → ((i : ℕ) → value i ≤ most) → greatest_below n value ≤ most
unfolding greatest_below
greatest_at_most zero most value each = omega arith
greatest_at_most (suc n) most value each = let here = each n in let rest = greatest_at_most n most value each in omega (arith, here, rest)

-- the greatest of all rows of so many banks
abbrev of_all : ℕ → Header → Log → ℕ
of_all n h log = greatest_below n (λ b. greatest_below h.settings.rows (λ row. acts h b row log))

-- an ACT in range opens a row of one of so many banks
opened_at_most : (n : ℕ) (h : Header) (command : Command) (log : Log) → banks_of_header h ≤ n → IsTrue (stays_inside h command) → acts_opened h command log ≤ of_all n h log
opened_at_most n h (Act bank row) log few inside =
    let p = both (opens_inside h (Act bank row)) (has_bank h.version.groups (Act bank row)) inside in
    let in_row = at_most_greatest h.settings.rows row (λ r. acts h (bank_number bank) r log) (ltb-true row h.settings.rows p.0) in
    let own = ltb-true (bank_number bank) (banks_of_header h) p.1 in
    let in_bank = at_most_greatest n (bank_number bank) (λ b. greatest_below h.settings.rows (λ r. acts h b r log)) (omega (arith, own, few)) in
    omega (arith, in_row, in_bank)
opened_at_most n h (Rd bank column) log few inside = omega arith
opened_at_most n h (Wr bank column) log few inside = omega arith
opened_at_most n h (PrePb bank) log few inside = omega arith
opened_at_most n h (PreSb address) log few inside = omega arith
opened_at_most n h PreAb log few inside = omega arith
opened_at_most n h RefAb log few inside = omega arith
opened_at_most n h (RefSb address) log few inside = omega arith
opened_at_most n h RfmAb log few inside = omega arith
opened_at_most n h (RfmSb address) log few inside = omega arith
opened_at_most n h (Mrw write) log few inside = omega arith
opened_at_most n h Ecs log few inside = omega arith
opened_at_most n h Nop log few inside = omega arith

between : (here all most over : ℕ) → here ≤ all → all ≤ max here most → most ≡ over → max here most ≡ max all over
between here all most over low high same = omega (arith, low, high, same)

-- over any number of banks that has at least the header's
pub peak_agrees : (n : ℕ) (h : Header) (log : Log) → banks_of_header h ≤ n → RowsInRange h log → peak h log ≡ peak_over n h log
peak_agrees n h [] few inside = refl
peak_agrees n h (place ∷ log) few inside =
    between (acts_opened h place.command (place ∷ log)) (of_all n h (place ∷ log)) (peak h log) (peak_over n h log)
    (opened_at_most n h place.command (place ∷ log) few inside.1)
    (greatest_at_most n (peak h (place ∷ log)) (λ b. greatest_below h.settings.rows (λ row. acts h b row (place ∷ log)))
    (λ b. greatest_at_most h.settings.rows (peak h (place ∷ log)) (λ row. acts h b row (place ∷ log)) (λ row. peak_above h b row zero (place ∷ log))))
    (peak_agrees n h log few inside.0)
