-- The gap to an ACT, an RD, a WR and a PREpb as the greatest of the blocks behind each first command.
use Rattle.std.proofs.Common.{◌≡◌, ◌∙◌, ℕ, zero, suc, ◌+◌, ◌-◌, ◌<◌, ◌⊎◌, inl, inr, Bool, true, false, ◌&&◌, ◌||◌, ◌==◌, max, if◌then◌else◌, refl, ap, subst, arith}
use Rattle.std.proofs.lemmas.Bool.{eqb-true, eq-eqb}
use Rattle.command_words.specs.Command.{bank_number, covers}
use Rattle.command_words.specs.declared.place.Bank.{Bank}
use Rattle.command_words.specs.declared.command.Command.{Command}
use Rattle.command_words.specs.declared.command.Command.TheVariants.{Act, Rd, Wr, PrePb, PreSb, PreAb, RefAb, RefSb, RfmAb, RfmSb, Mrw, Ecs, Nop}
use Rattle.speed_bin.specs.Below.{any_below}
use Rattle.speed_bin.specs.Gap.{gap, meet}
use Rattle.speed_bin.specs.declared.timing.Timing.{Timing}
use Rattle.timing_rules.specs.Blocks.{rd_gap, wr_gap, act_gap, pre_gap}

same_or_below : (i n : ℕ) → i < suc n → (i ≡ n) ⊎ (i < n)
same_or_below i n h = grind arith

self_eq : (i : ℕ) → (i == i) ≡ true
self_eq i = eq-eqb i i refl

and_true : (x : Bool) → (x && true) ≡ x
and_true true = refl
and_true false = refl

and_false : (x : Bool) → (x && false) ≡ false
and_false true = refl
and_false false = refl

or_false : (x : Bool) → (x || false) ≡ x
or_false true = refl
or_false false = refl

apart : (i n : ℕ) → n < i → (i == n) ≡ false
apart i n h = go (i == n) refl
  where
    go : (x : Bool) → (i == n) ≡ x → (i == n) ≡ false
    go true e = let z = eqb-true i n e in absurd (omega arith)
    go false e = e

apart_below : (i n : ℕ) → i < n → (i == n) ≡ false
apart_below i n h = go (i == n) refl
  where
    go : (x : Bool) → (i == n) ≡ x → (i == n) ≡ false
    go true e = let z = eqb-true i n e in absurd (omega arith)
    go false e = e

none : (n : ℕ) (test : ℕ → Bool) (i : ℕ) → n < suc i → any_below n (λ b. test b && (i == b)) ≡ false
unfolding any_below
none zero test i h = refl
none (suc n) test i h =
    ap (λ x. (test n && x) || any_below n (λ b. test b && (i == b))) (apart i n (omega arith))
    ∙ ap (λ x. x || any_below n (λ b. test b && (i == b))) (and_false (test n))
    ∙ none n test i (omega arith)

one : (n : ℕ) (test : ℕ → Bool) (i : ℕ) → i < n → any_below n (λ b. test b && (i == b)) ≡ test i
unfolding any_below
one zero test i h = absurd (omega arith)
one (suc n) test i h = go (same_or_below i n h) (one n test i)
  where
    go : (i ≡ n) ⊎ (i < n) → (i < n → any_below n (λ b. test b && (i == b)) ≡ test i) → ((test n && (i == n)) || any_below n (λ b. test b && (i == b))) ≡ test i
    go (inl e) ih =
        subst (λ m. ((test m && (i == m)) || any_below n (λ b. test b && (i == b))) ≡ test i) e
        (ap (λ x. (test i && x) || any_below n (λ b. test b && (i == b))) (self_eq i)
        ∙ ap (λ x. x || any_below n (λ b. test b && (i == b))) (and_true (test i))
        ∙ ap (λ x. test i || x) (none n test i (omega arith))
        ∙ or_false (test i))
    go (inr below) ih =
        ap (λ x. (test n && x) || any_below n (λ b. test b && (i == b))) (apart_below i n below)
        ∙ ap (λ x. x || any_below n (λ b. test b && (i == b))) (and_false (test n))
        ∙ ih below

meets : (first : Command) (bank : Bank) (column : ℕ) → bank_number bank < 32 → meet first (Rd bank column) ≡ covers first (bank_number bank)
meets first bank column h = one 32 (covers first) (bank_number bank) h

act_case : (m c : Bool) (n : ℕ) → m ≡ c → max 2 (max 1 (if m then max n 0 else 0)) ≡ max (max 2 0) (max 0 (max 0 (if c then n else 0)))
act_case true true n e = omega arith
act_case true false n e = absurd cc
act_case false true n e = absurd cc
act_case false false n e = omega arith

same_case : (m c : Bool) (n : ℕ) → m ≡ c → max 1 (if m then max n 0 else 0) ≡ max (max 1 0) (max 0 (max 0 (if c then n else 0)))
same_case true true n e = omega arith
same_case true false n e = absurd cc
same_case false true n e = absurd cc
same_case false false n e = omega arith

column_case : (s : Bool) (a n : ℕ) → max 2 (max 1 (max a (if s then max n 0 else 0))) ≡ max (max 2 0) (max a (max (if s then n else 0) 0))
column_case true a n = omega arith
column_case false a n = omega arith

busy_case : (n : ℕ) → max 1 (max n 0) ≡ max (max 1 n) (max 0 (max 0 0))
busy_case n = omega arith

wide_case : (n : ℕ) → max 2 (max 1 (max n 0)) ≡ max (max 2 n) (max 0 (max 0 0))
wide_case n = omega arith

pub rd_gap_is : (t : Timing) (bank : Bank) (column : ℕ) (first : Command) → bank_number bank < 32 → gap t first (Rd bank column) ≡ rd_gap t bank first
rd_gap_is t bank column (Act b row) h = act_case (meet (Act b row) (Rd bank column)) (bank_number b == bank_number bank) t.nrcd (meets (Act b row) bank column h)
rd_gap_is t bank column (Rd b c) h = column_case (b.group == bank.group) t.nccd_s t.nccd_l
rd_gap_is t bank column (Wr b c) h = column_case (b.group == bank.group) (t.ncwl + 8 + t.nwtr_s) (t.ncwl + 8 + t.nwtr_l)
rd_gap_is t bank column (PrePb b) h = refl
rd_gap_is t bank column (PreSb a) h = refl
rd_gap_is t bank column PreAb h = refl
rd_gap_is t bank column RefAb h = busy_case t.nrfc
rd_gap_is t bank column (RefSb a) h = same_case (meet (RefSb a) (Rd bank column)) (covers (RefSb a) (bank_number bank)) t.nrfcsb (meets (RefSb a) bank column h)
rd_gap_is t bank column RfmAb h = busy_case t.nrfm
rd_gap_is t bank column (RfmSb a) h = same_case (meet (RfmSb a) (Rd bank column)) (covers (RfmSb a) (bank_number bank)) t.nrfmsb (meets (RfmSb a) bank column h)
rd_gap_is t bank column (Mrw w) h = wide_case t.nmrd
rd_gap_is t bank column Ecs h = busy_case t.necs
rd_gap_is t bank column Nop h = refl

-- ---- WR

turn_case : (n : ℕ) → max 2 (max 1 (max n 0)) ≡ max (max 2 0) (max n (max 0 0))
turn_case n = omega arith

pub wr_gap_is : (t : Timing) (bank : Bank) (column : ℕ) (first : Command) → bank_number bank < 32 → gap t first (Wr bank column) ≡ wr_gap t bank first
wr_gap_is t bank column (Act b row) h = act_case (meet (Act b row) (Wr bank column)) (bank_number b == bank_number bank) t.nrcd (one 32 (covers (Act b row)) (bank_number bank) h)
wr_gap_is t bank column (Rd b c) h = turn_case (t.ncl + 10 - t.ncwl)
wr_gap_is t bank column (Wr b c) h = column_case (b.group == bank.group) t.nccd_s t.nccd_l_wr
wr_gap_is t bank column (PrePb b) h = refl
wr_gap_is t bank column (PreSb a) h = refl
wr_gap_is t bank column PreAb h = refl
wr_gap_is t bank column RefAb h = busy_case t.nrfc
wr_gap_is t bank column (RefSb a) h = same_case (meet (RefSb a) (Wr bank column)) (covers (RefSb a) (bank_number bank)) t.nrfcsb (one 32 (covers (RefSb a)) (bank_number bank) h)
wr_gap_is t bank column RfmAb h = busy_case t.nrfm
wr_gap_is t bank column (RfmSb a) h = same_case (meet (RfmSb a) (Wr bank column)) (covers (RfmSb a) (bank_number bank)) t.nrfmsb (one 32 (covers (RfmSb a)) (bank_number bank) h)
wr_gap_is t bank column (Mrw w) h = wide_case t.nmrd
wr_gap_is t bank column Ecs h = busy_case t.necs
wr_gap_is t bank column Nop h = refl

-- ---- ACT

acts_case : (s m c : Bool) (a l n : ℕ) → m ≡ c → max 2 (max 1 (max a (if s then max l (if m then max n 0 else 0) else if m then max n 0 else 0))) ≡ max (max 2 0) (max a (max (if s then l else 0) (if c then n else 0)))
acts_case true true true a l n e = omega arith
acts_case true true false a l n e = absurd cc
acts_case true false true a l n e = absurd cc
acts_case true false false a l n e = omega arith
acts_case false true true a l n e = omega arith
acts_case false true false a l n e = absurd cc
acts_case false false true a l n e = absurd cc
acts_case false false false a l n e = omega arith

all_case : (m : Bool) (n : ℕ) → m ≡ true → max 1 (if m then max n 0 else 0) ≡ max (max 1 0) (max 0 (max 0 n))
all_case true n e = omega arith
all_case false n e = absurd cc

pub act_gap_is : (t : Timing) (bank : Bank) (row : ℕ) (first : Command) → bank_number bank < 32 → gap t first (Act bank row) ≡ act_gap t bank first
act_gap_is t bank row (Act b r) h = acts_case (b.group == bank.group) (meet (Act b r) (Act bank row)) (bank_number b == bank_number bank) t.nrrd_s t.nrrd_l t.nrc (one 32 (covers (Act b r)) (bank_number bank) h)
act_gap_is t bank row (Rd b c) h = refl
act_gap_is t bank row (Wr b c) h = refl
act_gap_is t bank row (PrePb b) h = same_case (meet (PrePb b) (Act bank row)) (bank_number b == bank_number bank) t.nrp (one 32 (covers (PrePb b)) (bank_number bank) h)
act_gap_is t bank row (PreSb a) h = same_case (meet (PreSb a) (Act bank row)) (covers (PreSb a) (bank_number bank)) t.nrp (one 32 (covers (PreSb a)) (bank_number bank) h)
act_gap_is t bank row PreAb h = all_case (meet PreAb (Act bank row)) t.nrp (one 32 (covers PreAb) (bank_number bank) h)
act_gap_is t bank row RefAb h = busy_case t.nrfc
act_gap_is t bank row (RefSb a) h = same_case (meet (RefSb a) (Act bank row)) (covers (RefSb a) (bank_number bank)) t.nrfcsb (one 32 (covers (RefSb a)) (bank_number bank) h)
act_gap_is t bank row RfmAb h = busy_case t.nrfm
act_gap_is t bank row (RfmSb a) h = same_case (meet (RfmSb a) (Act bank row)) (covers (RfmSb a) (bank_number bank)) t.nrfmsb (one 32 (covers (RfmSb a)) (bank_number bank) h)
act_gap_is t bank row (Mrw w) h = wide_case t.nmrd
act_gap_is t bank row Ecs h = busy_case t.necs
act_gap_is t bank row Nop h = refl

-- ---- PREpb

opened_case : (m c : Bool) (n : ℕ) → m ≡ c → max 2 (max 1 (if m then max n 0 else 0)) ≡ max (max 2 0) (if c then n else 0)
opened_case true true n e = omega arith
opened_case true false n e = absurd cc
opened_case false true n e = absurd cc
opened_case false false n e = omega arith

held_case : (m c : Bool) (n : ℕ) → m ≡ c → max 1 (if m then max n 0 else 0) ≡ max (max 1 0) (if c then n else 0)
held_case true true n e = omega arith
held_case true false n e = absurd cc
held_case false true n e = absurd cc
held_case false false n e = omega arith

free_case : (n : ℕ) → max 1 (max n 0) ≡ max (max 1 n) 0
free_case n = omega arith

wider_case : (n : ℕ) → max 2 (max 1 (max n 0)) ≡ max (max 2 n) 0
wider_case n = omega arith

pub pre_gap_is : (t : Timing) (bank : Bank) (first : Command) → bank_number bank < 32 → gap t first (PrePb bank) ≡ pre_gap t bank first
pre_gap_is t bank (Act b r) h = opened_case (meet (Act b r) (PrePb bank)) (bank_number b == bank_number bank) t.nras (one 32 (covers (Act b r)) (bank_number bank) h)
pre_gap_is t bank (Rd b c) h = opened_case (meet (Rd b c) (PrePb bank)) (bank_number b == bank_number bank) t.nrtp (one 32 (covers (Rd b c)) (bank_number bank) h)
pre_gap_is t bank (Wr b c) h = opened_case (meet (Wr b c) (PrePb bank)) (bank_number b == bank_number bank) (t.ncwl + 8 + t.nwr) (one 32 (covers (Wr b c)) (bank_number bank) h)
pre_gap_is t bank (PrePb b) h = refl
pre_gap_is t bank (PreSb a) h = refl
pre_gap_is t bank PreAb h = refl
pre_gap_is t bank RefAb h = free_case t.nrfc
pre_gap_is t bank (RefSb a) h = held_case (meet (RefSb a) (PrePb bank)) (covers (RefSb a) (bank_number bank)) t.nrfcsb (one 32 (covers (RefSb a)) (bank_number bank) h)
pre_gap_is t bank RfmAb h = free_case t.nrfm
pre_gap_is t bank (RfmSb a) h = held_case (meet (RfmSb a) (PrePb bank)) (covers (RfmSb a) (bank_number bank)) t.nrfmsb (one 32 (covers (RfmSb a)) (bank_number bank) h)
pre_gap_is t bank (Mrw w) h = wider_case t.nmrd
pre_gap_is t bank Ecs h = free_case t.necs
pre_gap_is t bank Nop h = refl
