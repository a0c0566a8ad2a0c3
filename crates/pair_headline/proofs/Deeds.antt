-- The trace line that a step does: its rank is that of the step.
use Rattle.std.proofs.Common.{◌≡◌, ◌∙◌, ℕ, zero, suc, ◌+◌, ◌-◌, refl, sym, ap, arith, Some, List, [], ◌∷◌, slice_get, if◌then◌else◌}
use Rattle.ddr_text.specs.declared.lines.TraceLine.{TraceLine}
use Rattle.ddr_text.specs.declared.lines.TraceLine.TheVariants.{Read, Write, Flip, Idle}
use Rattle.rank_bus.specs.Buses.{is_same}
use Rattle.rank_bus.specs.declared.rank.Rank.{Rank}
use Rattle.rank_bus.specs.declared.rank.Rank.TheVariants.{Zero, One}
use Rattle.reports.specs.Requests.{Request, flips, flips_from, request_of, requests}
use Rattle.reports.specs.Runs.{IsNext, Run}
use Rattle.reports.proofs.Found.{is_at}
use Rattle.pair_reports.specs.Lines.{line_for, only}
use Rattle.pair_reports.specs.declared.rank_line.RankLine.{RankLine}

-- a line of one rank's trace is one of both, as that rank has it
record HasLine (rank : Rank) (trace : List RankLine) (i : ℕ) (t : TraceLine) : Type 0 where
  it : RankLine
  there : slice_get trace i ≡ Some it
  as_own : line_for rank it ≡ t

has_line : (rank : Rank) (trace : List RankLine) (i : ℕ) (t : TraceLine) → slice_get (only rank trace) i ≡ Some t → HasLine rank trace i t
has_line rank [] i t e = absurd cc
has_line rank (it ∷ trace) zero t e = record { it = it; there = refl; as_own = cc }
has_line rank (it ∷ trace) (suc i) t e =
    let more = has_line rank trace i t e in
    record { it = more.it; there = more.there; as_own = more.as_own }

-- one that is no I line is a line of the rank
record IsOwn (rank : Rank) (it : RankLine) (t : TraceLine) : Type 0 where
  is : it ≡ record { rank = rank; line = t }

is_own : (rank owner : Rank) (line t : TraceLine) → (if is_same rank owner then line else Idle 0) ≡ t → (t ≡ Idle 0 → ⊥) → IsOwn rank (record { rank = owner; line = line }) t
is_own Zero Zero line t e idles = record { is = ap (λ (x : TraceLine). record { rank = Zero; line = x }) e }
is_own Zero One line t e idles = absurd (idles (sym e))
is_own One Zero line t e idles = absurd (idles (sym e))
is_own One One line t e idles = record { is = ap (λ (x : TraceLine). record { rank = One; line = x }) e }

own_there : (rank : Rank) (trace : List RankLine) (i : ℕ) (t : TraceLine) → slice_get (only rank trace) i ≡ Some t → (t ≡ Idle 0 → ⊥) → slice_get trace i ≡ Some (record { rank = rank; line = t })
own_there rank trace i t e idles =
    let found = has_line rank trace i t e in
    found.there ∙ ap Some (is_own rank found.it.rank found.it.line t found.as_own idles).is

-- ---- Requests

-- the request is that of a line of the rank
pub record AsksAt (rank : Rank) (trace : List RankLine) (r : Request) : Type 0 where
  pub line : TraceLine
  pub there : slice_get trace (r.number - 1) ≡ Some (record { rank = rank; line = line })
  pub is : request_of r.number line ≡ r ∷ []

no_idle : (n : ℕ) (t : TraceLine) (r : Request) → request_of n t ≡ r ∷ [] → t ≡ Idle 0 → ⊥
no_idle n t r is idle = let none : [] ≡ r ∷ [] = sym (ap (request_of n) idle) ∙ is in cc

pub asks_at : (rank : Rank) (trace : List RankLine) (run : Run) (r : Request) → IsNext (requests (only rank trace)) run r → AsksAt rank trace r
asks_at rank trace run r next =
    let f = is_at 1 (only rank trace) next.earlier next.later r next.is_offered in
    let place : r.number - 1 ≡ f.place = omega (arith, f.number) in
    record {
      line = f.line;
      there = ap (λ i. slice_get trace i) place ∙ own_there rank trace f.place f.line f.there (no_idle r.number f.line r f.is);
      is = f.is;
    }

-- ---- F lines

-- the number is that of an F line of the rank
pub record FlipsAt (rank : Rank) (trace : List RankLine) (number : ℕ) : Type 0 where
  pub line : ℕ
  pub device : ℕ
  pub bit : ℕ
  pub own : slice_get (only rank trace) (number - 1) ≡ Some (Flip line device bit)
  pub there : slice_get trace (number - 1) ≡ Some (record { rank = rank; line = Flip line device bit })

record IsFlipAt (n : ℕ) (trace : List TraceLine) (number : ℕ) : Type 0 where
  place : ℕ
  numbered : number ≡ n + place
  line : ℕ
  device : ℕ
  bit : ℕ
  there : slice_get trace place ≡ Some (Flip line device bit)

past : (n : ℕ) (t : TraceLine) (trace : List TraceLine) (number : ℕ) → IsFlipAt (suc n) trace number → IsFlipAt n (t ∷ trace) number
past n t trace number f = record {
  place = suc f.place;
  numbered = omega (arith, f.numbered);
  line = f.line;
  device = f.device;
  bit = f.bit;
  there = f.there;
}

flip_at : (n : ℕ) (trace : List TraceLine) (j number : ℕ) → slice_get (flips_from n trace) j ≡ Some number → IsFlipAt n trace number
flip_at n [] j number e = absurd cc
flip_at n (Flip line device bit ∷ trace) zero number e = let same : n ≡ number = cc in record { place = 0; numbered = omega (arith, same); line = line; device = device; bit = bit; there = refl }
flip_at n (Flip line device bit ∷ trace) (suc j) number e = past n (Flip line device bit) trace number (flip_at (suc n) trace j number e)
flip_at n (Read line ∷ trace) j number e = past n (Read line) trace number (flip_at (suc n) trace j number e)
flip_at n (Write line bytes ∷ trace) j number e = past n (Write line bytes) trace number (flip_at (suc n) trace j number e)
flip_at n (Idle clocks ∷ trace) j number e = past n (Idle clocks) trace number (flip_at (suc n) trace j number e)

pub flips_at : (rank : Rank) (trace : List RankLine) (j number : ℕ) → slice_get (flips (only rank trace)) j ≡ Some number → FlipsAt rank trace number
flips_at rank trace j number e =
    let f = flip_at 1 (only rank trace) j number e in
    let place : number - 1 ≡ f.place = omega (arith, f.numbered) in
    let own : slice_get (only rank trace) (number - 1) ≡ Some (Flip f.line f.device f.bit) = ap (λ i. slice_get (only rank trace) i) place ∙ f.there in
    record {
      line = f.line;
      device = f.device;
      bit = f.bit;
      own = own;
      there = own_there rank trace (number - 1) (Flip f.line f.device f.bit) own (λ idle. cc);
    }
