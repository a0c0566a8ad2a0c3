-- The next bytes of a reader of lines, and the line feeds among them.
use Rattle.std.proofs.Common.{◌≡◌, ℕ, ◌+◌, ◌-◌, ◌<◌, ◌≤◌, ◌⊎◌, inl, inr, List, length, take, drop, min, sym, ap, ◌∙◌, subst, arith, length-append, length-take, take-add, slice_range, ◌≢◌, Option, Some, None}
use Rattle.std.proofs.lemmas.Grind.{common_steps}
use Rattle.std.proofs.lemmas.List.{take-append-le, take-take, take_all}
use Rattle.std.proofs.lemmas.List.Elements.{All-append}
use Rattle.std.specs.Io.KnownBytes.{Keeps, prepend_known}
use Rattle.ddr_io.specs.Line.{IsTooLong, IsFeedAt, HasNoFeed}

-- what is held has no line feed in 512 bytes
pub IsTooLong-held : (a b : Option (List ℕ)) (held : List ℕ) → Keeps a (prepend_known held b) → 512 ≤ length held → HasNoFeed (take 512 held) → IsTooLong a
IsTooLong-held None b held kept long clean = tt
IsTooLong-held (Some xs) None held kept long clean = absurd kept
IsTooLong-held (Some xs) (Some ys) held kept long clean = (
  omega (arith, ap length kept, length-append held ys),
  subst HasNoFeed (sym (take-append-le 512 held ys long) ∙ ap (take 512) kept) clean,
)

-- one of two numbers is less, or not
pub less_or_not : (a b : ℕ) → (a < b) ⊎ (b ≤ a)
less_or_not a b = grind arith

-- no more than all of a list is taken
pub take-min : (n m : ℕ) (xs : List ℕ) → m ≡ min (length xs) n → take m xs ≡ take n xs
take-min n m xs least = go (less_or_not (length xs) n)
  where
    go : (length xs < n) ⊎ (n ≤ length xs) → take m xs ≡ take n xs
    go (inl short) = take_all m xs (omega (arith, least)) ∙ sym (take_all n xs (omega arith))
    go (inr long) = let is : m ≡ n = omega (arith, least) in ap (λ k. take k xs) is

-- a front with no line feed, whose first bytes were searched before
pub HasNoFeed-joined : (xs : List ℕ) (clean m : ℕ) → clean ≤ m → HasNoFeed (take clean xs) → HasNoFeed (slice_range xs clean m) → HasNoFeed (take m xs)
HasNoFeed-joined xs clean m within searched rest =
    let is : clean + (m - clean) ≡ m = omega arith in
    subst HasNoFeed (sym (take-add clean (m - clean) xs) ∙ ap (λ k. take k xs) is) (All-append (λ x. x ≢ 10) (take clean xs) (slice_range xs clean m) searched rest)

-- the first line feed behind bytes that were searched before
pub IsFeedAt-later : (xs : List ℕ) (clean m at : ℕ) → clean ≤ m → HasNoFeed (take clean xs) → IsFeedAt (slice_range xs clean m) at → IsFeedAt xs (clean + at)
IsFeedAt-later xs clean m at within searched found =
    let below : at < length (slice_range xs clean m) = found.0 in
    let inside : at ≤ m - clean = omega (arith, length-take (m - clean) (drop clean xs)) in
    let front = subst HasNoFeed (take-take at (m - clean) (drop clean xs) inside) found.2 in (
      grind (arith, common_steps),
      grind (arith, common_steps, found.1),
      subst HasNoFeed (sym (take-add clean at xs)) (All-append (λ x. x ≢ 10) (take clean xs) (take at (drop clean xs)) searched front),
    )
