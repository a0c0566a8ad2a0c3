-- The registers of a device after so many places of a legal log.
use Rattle.std.proofs.Common.{◌≡◌, ◌∙◌, ℕ, zero, suc, ◌<◌, ◌≤◌, true, false, ◌==◌, refl, sym, ap, arith, Option, Some, None, List, [], ◌∷◌, length, take, fold, slice_get, eqb-true, leb-true, Ok, All, get_or, inl, inr, ◌⊎◌, subst}
use Rattle.std.proofs.lemmas.Option.{slice_get_cases}
use Rattle.command_words.specs.declared.command.Command.{Command}
use Rattle.command_words.specs.declared.command.Command.TheVariants.{Mrw}
use Rattle.command_words.specs.declared.command.Mrw.{Mrw as Write}
use Rattle.speed_bin.specs.declared.header.Header.{Header}
use Rattle.speed_bin.specs.declared.settings.Settings.{Settings}
use Rattle.command_words.specs.Kinds.{is_mrw}
use Rattle.speed_bin.specs.Log.{Log}
use Rattle.speed_bin.specs.Registers.{register_writes}
use Rattle.speed_bin.specs.Rules.{rule_14, is_write}
use Rattle.speed_bin.proofs.Tests.{both}
use Rattle.speed_bin.specs.Header.{IsAccepted, IsSettings}
use Rattle.mode_registers.specs.Held.{unwritten, written, settings_in}
use Rattle.mode_registers.specs.Outcome.{outcome}
use Rattle.device_core.specs.Legal.{IsLegal}
use Rattle.device_core.specs.Told.{told}
use Rattle.device_core.proofs.Rules.{rule_14_holds}

-- one write more, of eight in any list of eight
one_more : {A B : Type 0} (f : B → A → B) (b : B) (ws : List A) (n : ℕ) (w : A) → slice_get ws n ≡ Some w → fold f b (take (suc n) ws) ≡ f (fold f b (take n ws)) w
one_more f b [] zero w h = absurd (cc)
one_more f b [] (suc n) w h = absurd (cc)
one_more f b (x ∷ ws) zero w h = let e : x ≡ w = cc in ap (f b) e
one_more f b (x ∷ ws) (suc n) w h = one_more f (f b x) ws n w h

all_taken : {A : Type 0} (ws : List A) (n : ℕ) → length ws ≤ n → take n ws ≡ ws
all_taken [] zero h = refl
all_taken [] (suc n) h = refl
all_taken (x ∷ ws) zero h = absurd (omega arith)
all_taken (x ∷ ws) (suc n) h = ap (λ (l : List _). x ∷ l) (all_taken ws n (omega arith))

same_write : (write : Write) (due : Option Write) → is_write write due ≡ true → due ≡ Some write
same_write write None h = absurd (cc)
same_write write (Some due) h =
    let p = both (write.address == due.address) (write.value == due.value) h in
    let a = eqb-true write.address due.address p.0 in
    let v = eqb-true write.value due.value p.1 in
    ap (λ (n : ℕ). Some (record { address = n; value = due.value })) (sym a) ∙ ap (λ (n : ℕ). Some (record { address = write.address; value = n })) (sym v)

all_at : {A : Type 0} (P : A → Type 0) (ws : List A) (n : ℕ) (w : A) → All P ws → slice_get ws n ≡ Some w → P w
all_at P ws n w all is = go (slice_get_cases ws n).1
  where
    go : ((x : _) × (n < length ws) × (slice_get ws n ≡ Some x) × (get_or ws n x ≡ x)) ⊎ ((length ws ≤ n) × (slice_get ws n ≡ None)) → P w
    go (inl p) = let same : p.0 ≡ w = cc in subst P (p.3 ∙ same) (all n p.0 p.1)
    go (inr p) = let none = p.1 in absurd (cc)

-- ---- The registers

abbrev pub Accepts : Type 0
Accepts = (s : Settings) → IsSettings s → 8 ≤ s.raaimt → All (λ (write : Write). outcome write ≡ Ok tt) (register_writes s)

abbrev pub GivesBack : Type 0
GivesBack = (s : Settings) → IsSettings s → settings_in (fold written unwritten (register_writes s)) ≡ Some s

due : (h : Header) (write : Write) (log : Log) → rule_14 h (Mrw write) log ≡ true → slice_get (register_writes h.settings) (length log) ≡ Some write
due h write log holds = same_write write (slice_get (register_writes h.settings) (length log)) holds

pub accepted_write : (law : Accepts) (h : Header) (clock : ℕ) (write : Write) (log : Log) → IsAccepted h → IsLegal h clock (Mrw write) log → outcome write ≡ Ok tt
accepted_write law h clock write log accepted legal = all_at (λ (w : Write). outcome w ≡ Ok tt) (register_writes h.settings) (length log) write (law h.settings accepted.settings accepted.checks.management.0) (due h write log (rule_14_holds h clock (Mrw write) log legal))

-- a register write is the next one
pub told_write : (h : Header) (clock : ℕ) (write : Write) (log : Log) → IsLegal h clock (Mrw write) log → told h (suc (length log)) ≡ written (told h (length log)) write
told_write h clock write log legal = one_more written unwritten (register_writes h.settings) (length log) write (due h write log (rule_14_holds h clock (Mrw write) log legal))

-- any other command has all of them before it
all_told : (h : Header) (clock : ℕ) (command : Command) (log : Log) → is_mrw command ≡ false → IsLegal h clock command log → 8 ≤ length log
all_told h clock command log other legal = go command other (rule_14_holds h clock command log legal)
  where
    go : (c : Command) → is_mrw c ≡ false → rule_14 h c log ≡ true → 8 ≤ length log
    go (Mrw write) e k = absurd (cc)
    go _ e k = leb-true _ _ k

pub told_else : (h : Header) (clock : ℕ) (command : Command) (log : Log) → is_mrw command ≡ false → IsLegal h clock command log → told h (suc (length log)) ≡ told h (length log)
told_else h clock command log other legal =
    let many = all_told h clock command log other legal in
    ap (λ (ws : List Write). fold written unwritten ws) (all_taken (register_writes h.settings) (suc (length log)) (omega arith) ∙ sym (all_taken (register_writes h.settings) (length log) many))

-- so the registers give the header's settings back
pub settings_told : (law : GivesBack) (h : Header) (clock : ℕ) (command : Command) (log : Log) → IsAccepted h → is_mrw command ≡ false → IsLegal h clock command log → settings_in (told h (suc (length log))) ≡ Some h.settings
settings_told law h clock command log accepted other legal =
    let many = all_told h clock command log other legal in
    ap (λ (ws : List Write). settings_in (fold written unwritten ws)) (all_taken (register_writes h.settings) (suc (length log)) (omega arith)) ∙ law h.settings accepted.settings

pub no_write : (c : Command) → ((write : Write) → c ≡ Mrw write → ⊥) → is_mrw c ≡ false
no_write (Mrw write) k = absurd (k write refl)
no_write _ k = refl
