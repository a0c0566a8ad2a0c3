-- The counters of one bank, one place later.
use Rattle.std.proofs.Common.{◌≡◌, ◌∙◌, ℕ, suc, ◌+◌, ◌<◌, ◌≤◌, ◌⊎◌, Bool, true, false, cond, nat_le, refl, sym, ap, subst, arith, inl, inr, Option, None, List, [], ◌∷◌, length, replicate, ◌++◌, ◌||◌, ◌==◌, ◌≢◌, slice_set, get_or, Result, Ok, Err, is_ok, is_err, get_or-set_same, get_or-set_other}
use Rattle.std.proofs.Math.Seq.{get_or-append_seam}
use Rattle.std.proofs.Math.ListN.{get_or-append}
use Rattle.std.proofs.lemmas.List.{get_or_default}
use Rattle.command_words.specs.Command.{bank_number, is_at}
use Rattle.command_words.specs.declared.command.Command.{Command}
use Rattle.command_words.specs.declared.command.Command.TheVariants.{Act, Rd, Wr, PrePb, PreSb, PreAb, RefAb, RefSb, RfmAb, RfmSb, Mrw, Ecs, Nop}
use Rattle.speed_bin.specs.declared.header.Header.{Header}
use Rattle.command_words.specs.Kinds.{Effect, Opens, Closes, Manages, Refreshes, Leaves, effect, is_precharge, is_rfm_all, is_rfm_same, is_mrw}
use Rattle.speed_bin.specs.Log.{Log, open_at}
use Rattle.speed_bin.specs.Counters.{Counter, counters, counters_after, count_of, tracked}
use Rattle.speed_bin.proofs.Rows.{unused, unused_counts}
use Rattle.speed_bin.proofs.Splits.{last_or_below}
use Rattle.speed_bin.proofs.Tests.{or_false}
use Rattle.row_counts.specs.Held.{Held, no_rows}
use Rattle.row_counts.specs.Standing.{StandsFor as CountsFor}
use Rattle.row_activity.specs.Standing.{BankFor, bank_at, greatest_count, touch_of}
use Rattle.row_activity.specs.declared.bank_rows.BankRows.{BankRows}
use Rattle.row_activity.specs.declared.bank_rows.Touch.TheVariants.{Counts, Mitigates, Spares}

-- the law that a place which leaves a bank's counters leaves what stands for them
abbrev pub Stays : Type 0
Stays = (it : Held) (h : Header) (b clock : ℕ) (command : Command) (log : Log) → CountsFor it h b log → counters h b (record { clock = clock; command = command } ∷ log) ≡ counters h b log → CountsFor it h b (record { clock = clock; command = command } ∷ log)

pub counts_closes : (e : Effect) → Counts ≡ touch_of e → e ≡ Closes
counts_closes Closes k = refl
counts_closes (Opens row) k = absurd (cc)
counts_closes Manages k = absurd (cc)
counts_closes Refreshes k = absurd (cc)
counts_closes Leaves k = absurd (cc)

pub mitigates_manages : (e : Effect) → Mitigates ≡ touch_of e → e ≡ Manages
mitigates_manages Manages k = refl
mitigates_manages (Opens row) k = absurd (cc)
mitigates_manages Closes k = absurd (cc)
mitigates_manages Refreshes k = absurd (cc)
mitigates_manages Leaves k = absurd (cc)

spared : (h : Header) (n : ℕ) (e : Effect) (opened : Option ℕ) (cs : List Counter) → Spares ≡ touch_of e → counters_after h n e opened cs ≡ cs
spared h n (Opens row) opened cs k = refl
spared h n Refreshes opened cs k = refl
spared h n Leaves opened cs k = refl
spared h n Closes opened cs k = absurd (cc)
spared h n Manages opened cs k = absurd (cc)

closes_nothing : (h : Header) (n : ℕ) (e : Effect) (opened : Option ℕ) (cs : List Counter) → Counts ≡ touch_of e → None ≡ opened → counters_after h n e opened cs ≡ cs
closes_nothing h n e opened cs k none = rw (counts_closes e k, ← none) refl

-- the same counters, so the same greatest one
later : (stays : Stays) (it : BankRows) (h : Header) (b clock : ℕ) (command : Command) (log : Log) → BankFor it h b log → counters h b (record { clock = clock; command = command } ∷ log) ≡ counters h b log → BankFor it h b (record { clock = clock; command = command } ∷ log)
later stays it h b clock command log stands same = record {
  counts = stays it.counts h b clock command log stands.counts same;
  is_hot = stands.is_hot ∙ ap (λ (cs : List Counter). nat_le h.settings.ath (count_of cs (tracked cs))) (sym same);
}

pub later_spared : (stays : Stays) (it : BankRows) (h : Header) (b clock : ℕ) (command : Command) (log : Log) → BankFor it h b log → Spares ≡ touch_of (effect b command) → BankFor it h b (record { clock = clock; command = command } ∷ log)
later_spared stays it h b clock command log stands touch = later stays it h b clock command log stands (spared h (suc (length log)) (effect b command) (open_at b log) (counters h b log) touch)

pub later_closed : (stays : Stays) (it : BankRows) (h : Header) (b clock : ℕ) (command : Command) (log : Log) → BankFor it h b log → Counts ≡ touch_of (effect b command) → None ≡ open_at b log → BankFor it h b (record { clock = clock; command = command } ∷ log)
later_closed stays it h b clock command log stands touch none = later stays it h b clock command log stands (closes_nothing h (suc (length log)) (effect b command) (open_at b log) (counters h b log) touch none)

-- an RFM that finds no counter of ETH or more
pub later_below : (stays : Stays) (it : BankRows) (h : Header) (b clock : ℕ) (command : Command) (log : Log) → BankFor it h b log → effect b command ≡ Manages → nat_le h.settings.eth (greatest_count h b log) ≡ false → BankFor it h b (record { clock = clock; command = command } ∷ log)
later_below stays it h b clock command log stands manages below = later stays it h b clock command log stands (rw (manages, below) refl)

-- no counter of a fresh bank is hot
pub fresh_is_cold : (rows ath : ℕ) → 5 ≤ ath → false ≡ nat_le ath (count_of (replicate rows unused) (tracked (replicate rows unused)))
fresh_is_cold rows ath some = let none = unused_counts rows (tracked (replicate rows unused)) in rw none (cold ath some)
  where
    cold : (n : ℕ) → 5 ≤ n → false ≡ nat_le n 0
    cold n k = grind arith

-- ---- Which commands touch which banks

pub precharge_alone : (c : Command) → is_precharge c ≡ true → is_rfm_all c ≡ false
precharge_alone (PrePb bank) e = refl
precharge_alone (PreSb address) e = refl
precharge_alone PreAb e = refl
precharge_alone _ e = absurd (cc)

pub is_the_rfm_all : (c : Command) → is_rfm_all c ≡ true → c ≡ RfmAb
is_the_rfm_all RfmAb e = refl
is_the_rfm_all _ e = absurd (cc)

pub rfm_is_no_precharge : (c : Command) → (is_rfm_all c || is_rfm_same c) ≡ true → is_precharge c ≡ false
rfm_is_no_precharge RfmAb e = refl
rfm_is_no_precharge (RfmSb address) e = refl
rfm_is_no_precharge _ e = absurd (cc)

-- a command that is neither a precharge nor an RFM
pub others_spare : (b : ℕ) (c : Command) → is_precharge c ≡ false → (is_rfm_all c || is_rfm_same c) ≡ false → Spares ≡ touch_of (effect b c)
others_spare b (Act bank row) e f = go (bank_number bank == b)
  where
    go : (t : Bool) → Spares ≡ touch_of (cond t (Opens row) Leaves)
    go true = refl
    go false = refl
others_spare b (RefSb address) e f = go (is_at address b)
  where
    go : (t : Bool) → Spares ≡ touch_of (cond t Refreshes Leaves)
    go true = refl
    go false = refl
others_spare b RefAb e f = refl
others_spare b (Rd bank column) e f = refl
others_spare b (Wr bank column) e f = refl
others_spare b (Mrw write) e f = refl
others_spare b Ecs e f = refl
others_spare b Nop e f = refl
others_spare b (PrePb bank) e f = absurd (cc)
others_spare b (PreSb address) e f = absurd (cc)
others_spare b PreAb e f = absurd (cc)
others_spare b RfmAb e f = absurd (cc)
others_spare b (RfmSb address) e f = absurd (cc)

pub mrw_alone : (c : Command) → is_mrw c ≡ true → (is_precharge c ≡ false) × ((is_rfm_all c || is_rfm_same c) ≡ false)
mrw_alone (Mrw write) e = (refl, refl)
mrw_alone _ e = absurd (cc)

pub no_rfm_all : (c : Command) → (is_rfm_all c || is_rfm_same c) ≡ false → is_rfm_all c ≡ false
no_rfm_all c e = (or_false (is_rfm_all c) (is_rfm_same c) e).0

-- ---- Lists of banks

pub pushed : (banks : List BankRows) (new : BankRows) (h : Header) (n : ℕ) → length banks ≡ n → ((b : ℕ) → b < n → BankFor (bank_at banks b) h b []) → BankFor new h n [] → (b : ℕ) → b < n + 1 → BankFor (bank_at (banks ++ new ∷ []) b) h b []
pushed banks new h n long each here b low = go (last_or_below b n (omega arith))
  where
    go : (b ≡ n) ⊎ (b < n) → BankFor (bank_at (banks ++ new ∷ []) b) h b []
    go (inl e) =
        let at : bank_at (banks ++ new ∷ []) (length banks) ≡ new = get_or-append_seam banks new [] (record { counts = no_rows; is_hot = false }) in
        let own : b ≡ length banks = omega arith in
        subst (λ (i : ℕ). BankFor (bank_at (banks ++ new ∷ []) i) h i []) (sym own) (subst (λ (x : BankRows). BankFor x h (length banks) []) (sym at) (subst (λ (i : ℕ). BankFor new h i []) (sym long) here))
    go (inr below) =
        let at : bank_at (banks ++ new ∷ []) b ≡ bank_at banks b = get_or-append banks (new ∷ []) (record { counts = no_rows; is_hot = false }) b (omega arith) in
        subst (λ (x : BankRows). BankFor x h b []) (sym at) (each b below)

-- a push that did not fail
pub fitted : {T E : Type 0} (r : Result T E) (longer same : List BankRows) → false ≡ is_err r → cond (is_ok r) longer same ≡ longer
fitted (Ok x) longer same e = refl
fitted (Err x) longer same e = absurd (cc)

pub set_here : (banks : List BankRows) (n : ℕ) (new : BankRows) → n < length banks → bank_at (slice_set banks n new) n ≡ new
set_here banks n new low = get_or-set_same banks n new (record { counts = no_rows; is_hot = false }) low

pub set_elsewhere : (banks : List BankRows) (n b : ℕ) (new : BankRows) → b ≢ n → bank_at (slice_set banks n new) b ≡ bank_at banks b
set_elsewhere banks n b new apart = get_or-set_other banks n b new (record { counts = no_rows; is_hot = false }) apart

-- an element that was read at a place
pub element : (xs ys : List BankRows) (x : BankRows) (i n : ℕ) → i ≡ n → n < length xs → x ≡ get_or xs i x → bank_at xs n ≡ bank_at ys n → x ≡ bank_at ys n
element xs ys x i n is low read same = read ∙ ap (λ (k : ℕ). get_or xs k x) is ∙ get_or_default xs n x (record { counts = no_rows; is_hot = false }) low ∙ same

-- a bank more that follows
pub one_further : (banks : List BankRows) (n b : ℕ) (new : BankRows) (h : Header) (log : Log) → n < length banks → ((i : ℕ) → i < n → BankFor (bank_at banks i) h i log) → BankFor new h n log → b < n + 1 → BankFor (bank_at (slice_set banks n new) b) h b log
one_further banks n b new h log inside done here low = go (last_or_below b n (omega arith))
  where
    go : (b ≡ n) ⊎ (b < n) → BankFor (bank_at (slice_set banks n new) b) h b log
    go (inl e) = subst (λ (i : ℕ). BankFor (bank_at (slice_set banks n new) i) h i log) (sym e) (subst (λ (x : BankRows). BankFor x h n log) (sym (set_here banks n new inside)) here)
    go (inr below) =
        let apart : b ≢ n = λ e. absurd (omega (arith, e, below)) in
        subst (λ (x : BankRows). BankFor x h b log) (sym (set_elsewhere banks n b new apart)) (done b below)

pub must_be : (t : Bool) → (t ≡ false → ⊥) → t ≡ true
must_be true k = refl
must_be false k = absurd (k refl)

pub precharge_is_no_mrw : (c : Command) → is_precharge c ≡ true → is_mrw c ≡ false
precharge_is_no_mrw (Mrw write) e = absurd (cc)
precharge_is_no_mrw _ e = refl

pub rfm_is_no_mrw : (c : Command) → (is_rfm_all c || is_rfm_same c) ≡ true → is_mrw c ≡ false
rfm_is_no_mrw (Mrw write) e = absurd (cc)
rfm_is_no_mrw _ e = refl
