-- What it takes to stand for a longer log.
use Rattle.std.proofs.Common.{◌≡◌, ◌≢◌, ◌∙◌, ℕ, zero, suc, ◌<◌, ◌⊎◌, ◌==◌, true, false, cond, List, [], ◌∷◌, Option, Some, None, length, replicate, set, get_or-set_same, get_or-set_other, length-set, eq-eqb, ne_eqb, refl, sym, ap, inl, inr, arith}
use Rattle.command_words.specs.Command.{bank_number}
use Rattle.command_words.specs.declared.place.Bank.{Bank}
use Rattle.command_words.specs.declared.command.Command.{Command}
use Rattle.command_words.specs.declared.command.Command.TheVariants.{Act, PrePb, PreAb}
use Rattle.command_words.specs.Kinds.{effect, Opens, Closes, Leaves}
use Rattle.speed_bin.specs.Log.{Log, open_after}
use Rattle.bank_state.specs.Rows.{row_of}
use Rattle.bank_state.specs.Standing.{StandsFor, Fits}

pub none_at : (n b : ℕ) → row_of (replicate n None) b ≡ None
none_at zero b = refl
none_at (suc n) zero = refl
none_at (suc n) (suc b) = none_at n b

pub stands_at_first : StandsFor (replicate 32 None) []
unfolding StandsFor
stands_at_first = record { banks = refl; open_rows = λ b low. none_at 32 b; fitted = tt }

-- the rows after a command are those before it, by its effect on each bank
pub stands_after : (old new : List (Option ℕ)) (command : Command) → length new ≡ length old → ((b : ℕ) → b < 32 → length old ≡ 32 → row_of new b ≡ open_after (effect b command) (row_of old b)) → (clock : ℕ) (log : Log) → StandsFor old log → Fits command log → StandsFor new (record { clock = clock; command = command } ∷ log)
unfolding StandsFor
stands_after old new command same step clock log stands fits = record {
  banks = same ∙ stands.banks;
  open_rows = λ b low. step b low stands.banks ∙ ap (λ (o : Option ℕ). open_after (effect b command) o) (stands.open_rows b low);
  fitted = (stands.fitted, fits);
}

same_or_not : (a b : ℕ) → (a ≡ b) ⊎ (a ≢ b)
same_or_not a b = grind arith

pub stands_act : (old new : List (Option ℕ)) (bank : Bank) (row : ℕ) → new ≡ set old (bank_number bank) (Some row) → (clock : ℕ) (log : Log) → StandsFor old log → Fits (Act bank row) log → StandsFor new (record { clock = clock; command = Act bank row } ∷ log)
stands_act old new bank row is = stands_after old new (Act bank row) (rw is (length-set _ _ _)) (λ b low long. go long b low (same_or_not (bank_number bank) b))
  where
    go : length old ≡ 32 → (b : ℕ) → b < 32 → (bank_number bank ≡ b) ⊎ (bank_number bank ≢ b) → row_of new b ≡ open_after (cond (bank_number bank == b) (Opens row) Leaves) (row_of old b)
    go long b low (inl e) =
        let t : (bank_number bank == b) ≡ true = eq-eqb _ _ e in
        rw (t, is, e) (get_or-set_same old b (Some row) None (omega arith))
    go long b low (inr other) =
        let t : (bank_number bank == b) ≡ false = ne_eqb _ _ other in
        rw (t, is) (get_or-set_other old (bank_number bank) b (Some row) None (λ e. other (sym e)))

pub stands_close : (old new : List (Option ℕ)) (bank : Bank) → new ≡ set old (bank_number bank) None → (clock : ℕ) (log : Log) → StandsFor old log → Fits (PrePb bank) log → StandsFor new (record { clock = clock; command = PrePb bank } ∷ log)
stands_close old new bank is = stands_after old new (PrePb bank) (rw is (length-set _ _ _)) (λ b low long. go long b low (same_or_not (bank_number bank) b))
  where
    go : length old ≡ 32 → (b : ℕ) → b < 32 → (bank_number bank ≡ b) ⊎ (bank_number bank ≢ b) → row_of new b ≡ open_after (cond (bank_number bank == b) Closes Leaves) (row_of old b)
    go long b low (inl e) =
        let t : (bank_number bank == b) ≡ true = eq-eqb _ _ e in
        rw (t, is, e) (get_or-set_same old b None None (omega arith))
    go long b low (inr other) =
        let t : (bank_number bank == b) ≡ false = ne_eqb _ _ other in
        rw (t, is) (get_or-set_other old (bank_number bank) b None None (λ e. other (sym e)))

pub stands_close_all : (old new : List (Option ℕ)) → new ≡ replicate 32 None → (clock : ℕ) (log : Log) → StandsFor old log → Fits PreAb log → StandsFor new (record { clock = clock; command = PreAb } ∷ log)
unfolding StandsFor
stands_close_all old new is clock log stands fits = stands_after old new PreAb (rw (is, stands.banks) refl) (λ b low long. rw is (none_at 32 b)) clock log stands fits
