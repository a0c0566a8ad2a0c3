-- Two sets of banks have one in common exactly where the test of each bank finds one.
use Rattle.std.proofs.Common.{◌≡◌, ◌∙◌, ℕ, ◌<◌, ◌%◌, Bool, true, ◌&&◌, refl, sym, arith, subst}
use Rattle.std.proofs.lemmas.Bool.{eqb-true, eq-eqb}
use Rattle.command_words.specs.Command.{is_at, covers}
use Rattle.command_words.specs.declared.command.Command.{Command}
use Rattle.speed_bin.specs.Gap.{meet}
use Rattle.speed_bin.proofs.Tests.{both, joined, same_tests, any_below_at, any_below_some}
use Rattle.timing_rules.specs.declared.scope.Scope.{Scope}
use Rattle.timing_rules.specs.declared.scope.Scope.TheVariants.{Bank, Address, All, Nothing}
use Rattle.timing_rules.specs.Scope.{is_within, overlap_of, IsScope}

within_both : Scope → Scope → ℕ → Bool
within_both first second b = is_within first b && is_within second b

-- a bank in both shows that they overlap
overlap_from : (first second : Scope) (b : ℕ) → IsScope first → IsScope second → is_within first b ≡ true → is_within second b ≡ true → overlap_of first second ≡ true
overlap_from (Bank own) (Bank other) b h k e f = eq-eqb own other (eqb-true own b e ∙ sym (eqb-true other b f))
overlap_from (Bank own) (Address other) b h k e f = subst (λ n. is_at other n ≡ true) (sym (eqb-true own b e)) f
overlap_from (Bank own) All b h k e f = refl
overlap_from (Bank own) Nothing b h k e f = f
overlap_from (Address own) (Bank other) b h k e f = subst (λ n. is_at own n ≡ true) (sym (eqb-true other b f)) e
overlap_from (Address own) (Address other) b h k e f = eq-eqb own other (sym (eqb-true (b % 4) own e) ∙ eqb-true (b % 4) other f)
overlap_from (Address own) All b h k e f = refl
overlap_from (Address own) Nothing b h k e f = f
overlap_from All (Bank other) b h k e f = refl
overlap_from All (Address other) b h k e f = refl
overlap_from All All b h k e f = refl
overlap_from All Nothing b h k e f = f
overlap_from Nothing second b h k e f = e

at_itself : (a : ℕ) → a < 4 → is_at a a ≡ true
at_itself a h = eq-eqb (a % 4) a (omega arith)

abbrev Common : Scope → Scope → Type 0
Common first second = (b : ℕ) × (b < 32) × (is_within first b ≡ true) × (is_within second b ≡ true)

-- where they overlap there is a bank in both
overlap_at : (first second : Scope) → IsScope first → IsScope second → overlap_of first second ≡ true → Common first second
overlap_at (Bank own) (Bank other) h k e = (own, h, eq-eqb own own refl, eq-eqb other own (sym (eqb-true own other e)))
overlap_at (Bank own) (Address other) h k e = (own, h, eq-eqb own own refl, e)
overlap_at (Bank own) All h k e = (own, h, eq-eqb own own refl, refl)
overlap_at (Bank own) Nothing h k e = absurd cc
overlap_at (Address own) (Bank other) h k e = (other, k, e, eq-eqb other other refl)
overlap_at (Address own) (Address other) h k e = (own, omega arith, at_itself own h, subst (λ n. is_at n own ≡ true) (eqb-true own other e) (at_itself own h))
overlap_at (Address own) All h k e = (own, omega arith, at_itself own h, refl)
overlap_at (Address own) Nothing h k e = absurd cc
overlap_at All (Bank other) h k e = (other, k, refl, eq-eqb other other refl)
overlap_at All (Address other) h k e = (other, omega arith, refl, at_itself other k)
overlap_at All All h k e = (0, omega arith, refl, refl)
overlap_at All Nothing h k e = absurd cc
overlap_at Nothing second h k e = absurd cc

-- two commands meet exactly where their scopes overlap
pub meet_by_scopes : (first second : Command) (s r : Scope) → IsScope s → IsScope r → ((b : ℕ) → is_within s b ≡ covers first b) → ((b : ℕ) → is_within r b ≡ covers second b) → overlap_of s r ≡ meet first second
meet_by_scopes first second s r hs hr es er = same_tests (overlap_of s r) (meet first second)
    (λ e. let w : Common s r = overlap_at s r hs hr e in
    any_below_at 32 (λ b. covers first b && covers second b) w.0 w.1 (joined (covers first w.0) (covers second w.0) (sym (es w.0) ∙ w.2) (sym (er w.0) ∙ w.3)))
    (λ e. let w = any_below_some 32 (λ b. covers first b && covers second b) e in
    let p = both (covers first w.0) (covers second w.0) w.2 in
    overlap_from s r w.0 hs hr (es w.0 ∙ p.0) (er w.0 ∙ p.1))
