-- An owed bank keeps its promise: a request waits that hits its row.
use Rattle.std.proofs.Common.{◌≡◌, ◌∙◌, ℕ, ◌<◌, ◌⊎◌, inl, inr, ◌==◌, ◌&&◌, Bool, true, false, cond, Option, Some, None, List, ◌∷◌, ◌++◌, slice_get, refl, sym, ap, subst, eq-eqb, eqb-true}
use Rattle.std.specs.List.{remove}
use Rattle.command_words.specs.Command.{bank_number, covers}
use Rattle.command_words.specs.declared.place.Bank.{Bank}
use Rattle.command_words.specs.declared.command.Command.{Command}
use Rattle.command_words.specs.declared.command.Command.TheVariants.{Act, Rd, Wr}
use Rattle.command_words.specs.Kinds.{Effect, Opens, Closes, Manages, Refreshes, Leaves, effect, is_act}
use Rattle.speed_bin.specs.Log.{Log, open_at, open_after}
use Rattle.speed_bin.proofs.Effects.{opens_act}
use Rattle.requests.specs.declared.waiting.Waiting.{Waiting}
use Rattle.requests.specs.Queue.{hits, in_bank, oldest}
use Rattle.speed_bin.specs.Counters.{is_row}
use Rattle.requests.specs.Choice.{IsOldestRow}
use Rattle.requests.specs.Owed.{is_column, owed, owed_after, Promise, Promised, SparesOwed}
use Rattle.requests.proofs.Oldest.{oldest-more, oldest-remove, oldest-other, holds}

-- the command is a column of the bank
abbrev pub IsColumnOf : Command → Bank → Type 0
IsColumnOf command bank = (column : ℕ) × ((command ≡ Rd bank column) ⊎ (command ≡ Wr bank column))

-- ---- An offer

pub promised-offer : (ws vs : List Waiting) (log : Log) → Promised ws log → Promised (ws ++ vs) log
promised-offer ws vs log h b low e = let k = h b low e in record { row = k.row; is_open = k.is_open; request = k.request; waits = oldest-more (hits b (Some k.row)) ws vs k.request k.waits }

-- ---- An ACT for the oldest request of its bank

pub act_owed : (bank : Bank) (row b : ℕ) (before : Bool) → owed_after (effect b (Act bank row)) (is_column (Act bank row) && covers (Act bank row) b) before ≡ cond (bank_number bank == b) true before
act_owed bank row b before = go (bank_number bank == b)
  where
    go : (t : Bool) → owed_after (cond t (Opens row) Leaves) false before ≡ cond t true before
    go true = refl
    go false = refl

pub promised-act : (ws : List Waiting) (log : Log) (bank : Bank) (row clock : ℕ) → Promised ws log → IsOldestRow ws (bank_number bank) row → Promised ws (record { clock = clock; command = Act bank row } ∷ log)
promised-act ws log bank row clock h chosen b low e = go (bank_number bank == b) refl (sym (act_owed bank row b (owed b log)) ∙ e)
  where
    go : (t : Bool) → (bank_number bank == b) ≡ t → cond (bank_number bank == b) true (owed b log) ≡ true → Promise b ws (record { clock = clock; command = Act bank row } ∷ log)
    go true p f =
        let n : bank_number bank ≡ b = eqb-true _ _ p in
        let o : oldest (in_bank b) ws ≡ Some chosen.request = subst (λ m. oldest (in_bank m) ws ≡ Some chosen.request) n chosen.oldest_of in
        let i = holds (in_bank b) ws chosen.request o in
        let r : (row == chosen.request.place.row) ≡ true = eq-eqb _ _ (sym chosen.row_is) in
        let s = oldest-other (in_bank b) (hits b (Some row)) ws chosen.request o (ap (λ t. t && (row == chosen.request.place.row)) i ∙ r) in
        record { row = row; is_open = ap (λ t. open_after (cond t (Opens row) Leaves) (open_at b log)) p; request = s.request; waits = s.found }
    go false p f =
        let k = h b low (sym (ap (λ t. cond t true (owed b log)) p) ∙ f) in
        record { row = k.row; is_open = ap (λ t. open_after (cond t (Opens row) Leaves) (open_at b log)) p ∙ k.is_open; request = k.request; waits = k.waits }

-- ---- A column of a request of its bank

pub column_owed : (command : Command) (bank : Bank) (b : ℕ) (before : Bool) → IsColumnOf command bank → owed_after (effect b command) (is_column command && covers command b) before ≡ cond (bank_number bank == b) false before
column_owed command bank b before (column, inl e) = ap (λ c. owed_after (effect b c) (is_column c && covers c b) before) e
column_owed command bank b before (column, inr e) = ap (λ c. owed_after (effect b c) (is_column c && covers c b) before) e

pub column_open : (command : Command) (bank : Bank) (b : ℕ) (before : Option ℕ) → IsColumnOf command bank → open_after (effect b command) before ≡ before
column_open command bank b before (column, inl e) = ap (λ c. open_after (effect b c) before) e
column_open command bank b before (column, inr e) = ap (λ c. open_after (effect b c) before) e

pub promised-column : (ws : List Waiting) (log : Log) (bank : Bank) (command : Command) (clock at : ℕ) (w : Waiting) → Promised ws log → IsColumnOf command bank → slice_get ws at ≡ Some w → bank_number w.place.bank ≡ bank_number bank → Promised (remove ws at) (record { clock = clock; command = command } ∷ log)
promised-column ws log bank command clock at w h is here same b low e = go (bank_number bank == b) refl (sym (column_owed command bank b (owed b log) is) ∙ e)
  where
    go : (t : Bool) → (bank_number bank == b) ≡ t → cond (bank_number bank == b) false (owed b log) ≡ true → Promise b (remove ws at) (record { clock = clock; command = command } ∷ log)
    go true p f = let g = sym (ap (λ t. cond t false (owed b log)) p) ∙ f in cc
    go false p f =
        let k = h b low (sym (ap (λ t. cond t false (owed b log)) p) ∙ f) in
        let other : in_bank b w ≡ false = ap (λ n. n == b) same ∙ p in
        record {
          row = k.row;
          is_open = column_open command bank b (open_at b log) is ∙ k.is_open;
          request = k.request;
          waits = oldest-remove (hits b (Some k.row)) ws at k.request w here (ap (λ t. t && is_row (Some k.row) w.place.row) other) k.waits;
        }

-- ---- Every other command

-- it opens nothing
pub opens_nothing : (b r : ℕ) (command : Command) → is_act command ≡ false → effect b command ≡ Opens r → ⊥
opens_nothing b r command no_act e = let k = (opens_act b r command e).0 in let m : true ≡ false = sym k ∙ no_act in cc

-- it leaves the owed banks, where it closes none of them
pub owed-other : (b : ℕ) (command : Command) (before : Bool) → is_act command ≡ false → is_column command ≡ false → (effect b command ≡ Closes → before ≡ false) → owed_after (effect b command) (is_column command && covers command b) before ≡ before
owed-other b command before no_act no_column spares =
    ap (λ t. owed_after (effect b command) (t && covers command b) before) no_column
    ∙ go (effect b command) (λ r. opens_nothing b r command no_act) spares
  where
    go : (e : Effect) → ((r : ℕ) → e ≡ Opens r → ⊥) → (e ≡ Closes → before ≡ false) → owed_after e false before ≡ before
    go (Opens r) f g = absurd (f r refl)
    go Closes f g = sym (g refl)
    go Manages f g = refl
    go Refreshes f g = refl
    go Leaves f g = refl

stays_open : (e : Effect) (row : ℕ) → ((r : ℕ) → e ≡ Opens r → ⊥) → (e ≡ Closes → ⊥) → open_after e (Some row) ≡ Some row
stays_open (Opens r) row f g = absurd (f r refl)
stays_open Closes row f g = absurd (g refl)
stays_open Manages row f g = refl
stays_open Refreshes row f g = refl
stays_open Leaves row f g = refl

pub promised-other : (ws : List Waiting) (log : Log) (command : Command) (clock : ℕ) → Promised ws log → is_act command ≡ false → is_column command ≡ false → SparesOwed command log → Promised ws (record { clock = clock; command = command } ∷ log)
promised-other ws log command clock h no_act no_column spares b low e =
    let f : owed b log ≡ true = sym (owed-other b command (owed b log) no_act no_column (spares b low)) ∙ e in
    let k = h b low f in
    let kept : effect b command ≡ Closes → ⊥ = λ c. (let n : owed b log ≡ false = spares b low c in let m : true ≡ false = sym f ∙ n in cc) in
    record { row = k.row; is_open = ap (λ o. open_after (effect b command) o) k.is_open ∙ stays_open (effect b command) k.row (λ r. opens_nothing b r command no_act) kept; request = k.request; waits = k.waits }

-- ---- Which banks are not owed

not_true : (t : Bool) → (t ≡ true → ⊥) → t ≡ false
not_true true f = absurd (f refl)
not_true false f = refl

pub closed_not_owed : (ws : List Waiting) (log : Log) (b : ℕ) → b < 32 → Promised ws log → open_at b log ≡ None → owed b log ≡ false
closed_not_owed ws log b low h closed = not_true (owed b log) (λ e. let k = h b low e in let m : None ≡ Some k.row = sym closed ∙ k.is_open in cc)

-- where nothing hits
pub missed_not_owed : (ws : List Waiting) (log : Log) (b : ℕ) → b < 32 → Promised ws log → oldest (hits b (open_at b log)) ws ≡ None → owed b log ≡ false
missed_not_owed ws log b low h none = not_true (owed b log) (λ e.
    let k = h b low e in
    let f : oldest (hits b (Some k.row)) ws ≡ None = subst (λ (o : Option ℕ). oldest (hits b o) ws ≡ None) k.is_open none in
    let m : None ≡ Some k.request = sym f ∙ k.waits in cc)
