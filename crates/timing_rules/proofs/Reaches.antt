-- Reaches: of the greater of two blocks, of the greatest over banks, of one command more, and against rule 2.
use Rattle.std.proofs.Common.{◌≡◌, ◌∙◌, ◌↔◌, ℕ, zero, suc, ◌+◌, ◌<◌, ◌≤◌, ◌==◌, Bool, true, false, nat_le, max, if◌then◌else◌, List, [], ◌∷◌, length, slice_index, replicate, IsTrue, refl, ap, subst, arith}
use Rattle.std.specs.List.{list_all}
use Rattle.std.proofs.lemmas.Bool.{leb-true, le-leb, eqb-true, eqb-false}
use Rattle.std.proofs.lemmas.List.{length-replicate}
use Rattle.command_words.specs.declared.command.Command.{Command}
use Rattle.speed_bin.specs.Log.{Log, Issued}
use Rattle.speed_bin.proofs.Tests.{both, joined}
use Rattle.timing_rules.specs.Reach.{blocked_until, reach, KeepsTable, most_below}

-- ---- The greater of two blocks

four : (c a b m n : ℕ) → max (blocked_until c (max a b)) (max m n) ≡ max (max (blocked_until c a) m) (max (blocked_until c b) n)
four c a b m n = go (a == 0) refl (b == 0) refl (max a b == 0) refl
  where
    go : (x : Bool) → (a == 0) ≡ x → (y : Bool) → (b == 0) ≡ y → (z : Bool) → (max a b == 0) ≡ z → max (if z then 0 else c + max a b) (max m n) ≡ max (max (if x then 0 else c + a) m) (max (if y then 0 else c + b) n)
    go true ea true eb true ez = omega arith
    go true ea true eb false ez = let za = eqb-true a 0 ea in let zb = eqb-true b 0 eb in let zz = eqb-false (max a b) 0 ez in absurd (zz (omega arith))
    go true ea false eb true ez = let zz = eqb-true (max a b) 0 ez in let zb = eqb-false b 0 eb in absurd (zb (omega arith))
    go true ea false eb false ez = let za = eqb-true a 0 ea in omega arith
    go false ea true eb true ez = let zz = eqb-true (max a b) 0 ez in let za = eqb-false a 0 ea in absurd (za (omega arith))
    go false ea true eb false ez = let zb = eqb-true b 0 eb in omega arith
    go false ea false eb true ez = let zz = eqb-true (max a b) 0 ez in let za = eqb-false a 0 ea in absurd (za (omega arith))
    go false ea false eb false ez = omega arith

pub splits : (f g : Command → ℕ) (log : Log) → reach (λ c. max (f c) (g c)) log ≡ max (reach f log) (reach g log)
splits f g [] = refl
splits f g (place ∷ log) =
    ap (λ n. max (blocked_until place.clock (max (f place.command) (g place.command))) n) (splits f g log)
    ∙ four place.clock (f place.command) (g place.command) (reach f log) (reach g log)

pub splits_4 : (f g h k : Command → ℕ) (log : Log) → reach (λ c. max (f c) (max (g c) (max (h c) (k c)))) log ≡ max (reach f log) (max (reach g log) (max (reach h log) (reach k log)))
splits_4 f g h k log =
    splits f (λ c. max (g c) (max (h c) (k c))) log
    ∙ ap (λ n. max (reach f log) n) (splits g (λ c. max (h c) (k c)) log ∙ ap (λ n. max (reach g log) n) (splits h k log))

pub same_reach : (f g : Command → ℕ) (log : Log) → ((c : Command) → f c ≡ g c) → reach f log ≡ reach g log
same_reach f g [] e = refl
same_reach f g (place ∷ log) e =
    ap (λ n. max (blocked_until place.clock n) (reach f log)) (e place.command)
    ∙ ap (λ n. max (blocked_until place.clock (g place.command)) n) (same_reach f g log e)

-- ---- The greatest over banks

zero_max : (m : ℕ) → max 0 m ≡ m
zero_max m = omega arith

none_blocked : (log : Log) → reach (λ c. 0) log ≡ 0
none_blocked [] = refl
none_blocked (place ∷ log) = zero_max (reach (λ c. 0) log) ∙ none_blocked log

within_reach : (q : Bool) (f : Command → ℕ) (log : Log) → reach (λ c. if q then f c else 0) log ≡ (if q then reach f log else 0)
within_reach true f log = refl
within_reach false f log = none_blocked log

pub most_reach : (n : ℕ) (q : ℕ → Bool) (f : ℕ → Command → ℕ) (log : Log) → reach (λ c. most_below n (λ b. if q b then f b c else 0)) log ≡ most_below n (λ b. if q b then reach (f b) log else 0)
unfolding most_below
most_reach zero q f log = none_blocked log
most_reach (suc n) q f log =
    splits (λ c. if q n then f n c else 0) (λ c. most_below n (λ b. if q b then f b c else 0)) log
    ∙ ap (λ m. max m (reach (λ c. most_below n (λ b. if q b then f b c else 0)) log)) (within_reach (q n) (f n) log)
    ∙ ap (λ m. max (if q n then reach (f n) log else 0) m) (most_reach n q f log)

pub same_most : (n : ℕ) (f g : ℕ → ℕ) → ((b : ℕ) → b < n → f b ≡ g b) → most_below n f ≡ most_below n g
unfolding most_below
same_most zero f g e = refl
same_most (suc n) f g e = ap (λ m. max m (most_below n f)) (e n (omega arith)) ∙ ap (λ m. max (g n) m) (same_most n f g (λ b low. e b (omega (arith, low))))

pub most_none : (f : ℕ → ℕ) → 0 ≡ most_below 0 f
unfolding most_below
most_none f = refl

pub most_more : (n : ℕ) (f : ℕ → ℕ) → most_below (n + 1) f ≡ max (f n) (most_below n f)
unfolding most_below
most_more n f = subst (λ m. most_below m f ≡ max (f n) (most_below n f)) (one_more n) refl
  where
    one_more : (n : ℕ) → suc n ≡ n + 1
    one_more n = omega arith

-- ---- One command more

pub more : (block : Command → ℕ) (clock span old new : ℕ) (command : Command) (log : Log) → new ≡ max (blocked_until clock span) old → span ≡ block command → old ≡ reach block log
    → new ≡ reach block (record { clock = clock; command = command } ∷ log)
more block clock span old new command log e same before =
    e ∙ ap (λ n. max (blocked_until clock n) old) same ∙ ap (λ n. max (blocked_until clock (block command)) n) before

pub table_more : (block : ℕ → Command → ℕ) (count clock : ℕ) (spans : ℕ → ℕ) (old new : List ℕ) (command : Command) (log : Log) → length new ≡ count
    → ((i : ℕ) → i < count → slice_index new i ≡ max (blocked_until clock (spans i)) (slice_index old i))
    → ((i : ℕ) → spans i ≡ block i command)
    → KeepsTable old count block log
    → KeepsTable new count block (record { clock = clock; command = command } ∷ log)
table_more block count clock spans old new command log long e same keeps = record {
  length = long;
  each = λ i low. more (block i) clock (spans i) (slice_index old i) (slice_index new i) command log (e i low) (same i) (keeps.each i low);
}

none_at : (n i : ℕ) → slice_index (replicate n 0) i ≡ 0
none_at zero i = refl
none_at (suc n) zero = refl
none_at (suc n) (suc i) = none_at n i

pub none_kept : (count : ℕ) (block : ℕ → Command → ℕ) → KeepsTable (replicate count 0) count block []
none_kept count block = record {
  length = length-replicate count 0;
  each = λ i low. none_at count i;
}

-- ---- Rule 2

blocked_some : (c n : ℕ) → 1 ≤ n → blocked_until c n ≡ c + n
blocked_some c n h = go (n == 0) refl
  where
    go : (x : Bool) → (n == 0) ≡ x → (if x then 0 else c + n) ≡ c + n
    go true e = let z = eqb-true n 0 e in absurd (omega arith)
    go false e = refl

forth : (f : Command → ℕ) (clock : ℕ) (log : Log) → ((c : Command) → 1 ≤ f c) → IsTrue (list_all (λ (place : Issued). nat_le (place.clock + f place.command) clock) log) → reach f log ≤ clock
forth f clock [] some h = omega arith
forth f clock (place ∷ log) some h =
    let k = both (nat_le (place.clock + f place.command) clock) (list_all (λ (p : Issued). nat_le (p.clock + f p.command) clock) log) h in
    let here : place.clock + f place.command ≤ clock = leb-true (place.clock + f place.command) clock k.0 in
    let rest = forth f clock log some k.1 in
    let e = blocked_some place.clock (f place.command) (some place.command) in
    omega arith

back : (f : Command → ℕ) (clock : ℕ) (log : Log) → ((c : Command) → 1 ≤ f c) → reach f log ≤ clock → IsTrue (list_all (λ (place : Issued). nat_le (place.clock + f place.command) clock) log)
back f clock [] some h = refl
back f clock (place ∷ log) some h =
    let e = blocked_some place.clock (f place.command) (some place.command) in
    joined (nat_le (place.clock + f place.command) clock) (list_all (λ (p : Issued). nat_le (p.clock + f p.command) clock) log)
    (le-leb (place.clock + f place.command) clock (omega arith)) (back f clock log some (omega arith))

-- gaps of at least 1 are kept to each place exactly from the reach on
pub decides : (f : Command → ℕ) (clock : ℕ) (log : Log) → ((c : Command) → 1 ≤ f c) → IsTrue (list_all (λ (place : Issued). nat_le (place.clock + f place.command) clock) log) ↔ (reach f log ≤ clock)
decides f clock log some = (forth f clock log some, back f clock log some)
