-- The gap to a command that acts on several banks as the greatest of the blocks of the banks that it covers.
use Rattle.std.proofs.Common.{◌≡◌, ℕ, zero, suc, ◌+◌, Bool, true, false, ◌&&◌, ◌||◌, ◌==◌, max, if◌then◌else◌, refl, arith}
use Rattle.command_words.specs.Command.{bank_number, covers}
use Rattle.command_words.specs.declared.place.Bank.{Bank}
use Rattle.command_words.specs.declared.command.Mrw.{Mrw as Write}
use Rattle.command_words.specs.declared.command.Command.{Command}
use Rattle.command_words.specs.declared.command.Command.TheVariants.{Act, Rd, Wr, PrePb, PreSb, PreAb, RefAb, RefSb, RfmAb, RfmSb, Mrw, Ecs, Nop}
use Rattle.command_words.specs.Kinds.{is_precharge, needs_closed}
use Rattle.speed_bin.specs.Below.{any_below}
use Rattle.speed_bin.specs.Gap.{gap, meet}
use Rattle.speed_bin.specs.declared.timing.Timing.{Timing}
use Rattle.timing_rules.specs.Blocks.{pre_block, closed_block, over, closing_gap, closed_gap}
use Rattle.timing_rules.specs.Reach.{most_below}

step : (p q r : Bool) (k m : ℕ) → m ≡ (if r then k else 0) → max (if q then (if p then k else 0) else 0) m ≡ (if (p && q) || r then k else 0)
step true true true k m e = omega (arith, e)
step true true false k m e = omega (arith, e)
step true false true k m e = omega (arith, e)
step true false false k m e = omega (arith, e)
step false true true k m e = omega (arith, e)
step false true false k m e = omega (arith, e)
step false false true k m e = omega (arith, e)
step false false false k m e = omega (arith, e)

most_of : (n : ℕ) (p q : ℕ → Bool) (k : ℕ) → most_below n (λ b. if q b then (if p b then k else 0) else 0) ≡ (if any_below n (λ b. p b && q b) then k else 0)
unfolding any_below most_below
most_of zero p q k = refl
most_of (suc n) p q k = step (p n) (q n) (any_below n (λ b. p b && q b)) k (most_below n (λ b. if q b then (if p b then k else 0) else 0)) (most_of n p q k)

none_step : (q : Bool) (m : ℕ) → m ≡ 0 → max (if q then 0 else 0) m ≡ 0
none_step true m e = omega (arith, e)
none_step false m e = omega (arith, e)

most_none : (n : ℕ) (q : ℕ → Bool) → most_below n (λ b. if q b then 0 else 0) ≡ 0
unfolding most_below
most_none zero q = refl
most_none (suc n) q = none_step (q n) (most_below n (λ b. if q b then 0 else 0)) (most_none n q)

wide_met : (m : Bool) (n x : ℕ) → x ≡ (if m then n else 0) → max 2 (max 1 (if m then max n 0 else 0)) ≡ max (max 2 0) x
wide_met true n x e = omega (arith, e)
wide_met false n x e = omega (arith, e)

met : (m : Bool) (n x : ℕ) → x ≡ (if m then n else 0) → max 1 (if m then max n 0 else 0) ≡ max (max 1 0) x
met true n x e = omega (arith, e)
met false n x e = omega (arith, e)

wide_none : (x : ℕ) → x ≡ 0 → 2 ≡ max (max 2 0) x
wide_none x e = omega (arith, e)

none : (x : ℕ) → x ≡ 0 → 1 ≡ max (max 1 0) x
none x e = omega (arith, e)

busy : (n x : ℕ) → x ≡ 0 → max 1 (max n 0) ≡ max (max 1 n) x
busy n x e = omega (arith, e)

wide_busy : (n x : ℕ) → x ≡ 0 → max 2 (max 1 (max n 0)) ≡ max (max 2 n) x
wide_busy n x e = omega (arith, e)

-- ---- PrePb own

pre_pb_is : (t : Timing) (own : Bank) (first : Command) → gap t first (PrePb own) ≡ closing_gap t first (PrePb own)
pre_pb_is t own (Act k r) = wide_met (meet (Act k r) (PrePb own)) t.nras (over (PrePb own) (λ b. pre_block t b (Act k r))) (most_of 32 (λ b. bank_number k == b) (covers (PrePb own)) t.nras)
pre_pb_is t own (Rd k c) = wide_met (meet (Rd k c) (PrePb own)) t.nrtp (over (PrePb own) (λ b. pre_block t b (Rd k c))) (most_of 32 (λ b. bank_number k == b) (covers (PrePb own)) t.nrtp)
pre_pb_is t own (Wr k c) = wide_met (meet (Wr k c) (PrePb own)) (t.ncwl + 8 + t.nwr) (over (PrePb own) (λ b. pre_block t b (Wr k c))) (most_of 32 (λ b. bank_number k == b) (covers (PrePb own)) (t.ncwl + 8 + t.nwr))
pre_pb_is t own (PrePb k) = none (over (PrePb own) (λ b. pre_block t b (PrePb k))) (most_none 32 (covers (PrePb own)))
pre_pb_is t own (PreSb j) = none (over (PrePb own) (λ b. pre_block t b (PreSb j))) (most_none 32 (covers (PrePb own)))
pre_pb_is t own (PreAb) = none (over (PrePb own) (λ b. pre_block t b (PreAb))) (most_none 32 (covers (PrePb own)))
pre_pb_is t own (RefAb) = busy t.nrfc (over (PrePb own) (λ b. pre_block t b (RefAb))) (most_none 32 (covers (PrePb own)))
pre_pb_is t own (RefSb j) = met (meet (RefSb j) (PrePb own)) t.nrfcsb (over (PrePb own) (λ b. pre_block t b (RefSb j))) (most_of 32 (covers (RefSb j)) (covers (PrePb own)) t.nrfcsb)
pre_pb_is t own (RfmAb) = busy t.nrfm (over (PrePb own) (λ b. pre_block t b (RfmAb))) (most_none 32 (covers (PrePb own)))
pre_pb_is t own (RfmSb j) = met (meet (RfmSb j) (PrePb own)) t.nrfmsb (over (PrePb own) (λ b. pre_block t b (RfmSb j))) (most_of 32 (covers (RfmSb j)) (covers (PrePb own)) t.nrfmsb)
pre_pb_is t own (Mrw v) = wide_busy t.nmrd (over (PrePb own) (λ b. pre_block t b (Mrw v))) (most_none 32 (covers (PrePb own)))
pre_pb_is t own (Ecs) = busy t.necs (over (PrePb own) (λ b. pre_block t b (Ecs))) (most_none 32 (covers (PrePb own)))
pre_pb_is t own (Nop) = none (over (PrePb own) (λ b. pre_block t b (Nop))) (most_none 32 (covers (PrePb own)))

-- ---- PreSb a

pre_sb_is : (t : Timing) (a : ℕ) (first : Command) → gap t first (PreSb a) ≡ closing_gap t first (PreSb a)
pre_sb_is t a (Act k r) = wide_met (meet (Act k r) (PreSb a)) t.nras (over (PreSb a) (λ b. pre_block t b (Act k r))) (most_of 32 (λ b. bank_number k == b) (covers (PreSb a)) t.nras)
pre_sb_is t a (Rd k c) = wide_met (meet (Rd k c) (PreSb a)) t.nrtp (over (PreSb a) (λ b. pre_block t b (Rd k c))) (most_of 32 (λ b. bank_number k == b) (covers (PreSb a)) t.nrtp)
pre_sb_is t a (Wr k c) = wide_met (meet (Wr k c) (PreSb a)) (t.ncwl + 8 + t.nwr) (over (PreSb a) (λ b. pre_block t b (Wr k c))) (most_of 32 (λ b. bank_number k == b) (covers (PreSb a)) (t.ncwl + 8 + t.nwr))
pre_sb_is t a (PrePb k) = none (over (PreSb a) (λ b. pre_block t b (PrePb k))) (most_none 32 (covers (PreSb a)))
pre_sb_is t a (PreSb j) = none (over (PreSb a) (λ b. pre_block t b (PreSb j))) (most_none 32 (covers (PreSb a)))
pre_sb_is t a (PreAb) = none (over (PreSb a) (λ b. pre_block t b (PreAb))) (most_none 32 (covers (PreSb a)))
pre_sb_is t a (RefAb) = busy t.nrfc (over (PreSb a) (λ b. pre_block t b (RefAb))) (most_none 32 (covers (PreSb a)))
pre_sb_is t a (RefSb j) = met (meet (RefSb j) (PreSb a)) t.nrfcsb (over (PreSb a) (λ b. pre_block t b (RefSb j))) (most_of 32 (covers (RefSb j)) (covers (PreSb a)) t.nrfcsb)
pre_sb_is t a (RfmAb) = busy t.nrfm (over (PreSb a) (λ b. pre_block t b (RfmAb))) (most_none 32 (covers (PreSb a)))
pre_sb_is t a (RfmSb j) = met (meet (RfmSb j) (PreSb a)) t.nrfmsb (over (PreSb a) (λ b. pre_block t b (RfmSb j))) (most_of 32 (covers (RfmSb j)) (covers (PreSb a)) t.nrfmsb)
pre_sb_is t a (Mrw v) = wide_busy t.nmrd (over (PreSb a) (λ b. pre_block t b (Mrw v))) (most_none 32 (covers (PreSb a)))
pre_sb_is t a (Ecs) = busy t.necs (over (PreSb a) (λ b. pre_block t b (Ecs))) (most_none 32 (covers (PreSb a)))
pre_sb_is t a (Nop) = none (over (PreSb a) (λ b. pre_block t b (Nop))) (most_none 32 (covers (PreSb a)))

-- ---- PreAb

pre_ab_is : (t : Timing) (first : Command) → gap t first (PreAb) ≡ closing_gap t first (PreAb)
pre_ab_is t (Act k r) = wide_met (meet (Act k r) (PreAb)) t.nras (over (PreAb) (λ b. pre_block t b (Act k r))) (most_of 32 (λ b. bank_number k == b) (covers (PreAb)) t.nras)
pre_ab_is t (Rd k c) = wide_met (meet (Rd k c) (PreAb)) t.nrtp (over (PreAb) (λ b. pre_block t b (Rd k c))) (most_of 32 (λ b. bank_number k == b) (covers (PreAb)) t.nrtp)
pre_ab_is t (Wr k c) = wide_met (meet (Wr k c) (PreAb)) (t.ncwl + 8 + t.nwr) (over (PreAb) (λ b. pre_block t b (Wr k c))) (most_of 32 (λ b. bank_number k == b) (covers (PreAb)) (t.ncwl + 8 + t.nwr))
pre_ab_is t (PrePb k) = none (over (PreAb) (λ b. pre_block t b (PrePb k))) (most_none 32 (covers (PreAb)))
pre_ab_is t (PreSb j) = none (over (PreAb) (λ b. pre_block t b (PreSb j))) (most_none 32 (covers (PreAb)))
pre_ab_is t (PreAb) = none (over (PreAb) (λ b. pre_block t b (PreAb))) (most_none 32 (covers (PreAb)))
pre_ab_is t (RefAb) = busy t.nrfc (over (PreAb) (λ b. pre_block t b (RefAb))) (most_none 32 (covers (PreAb)))
pre_ab_is t (RefSb j) = met (meet (RefSb j) (PreAb)) t.nrfcsb (over (PreAb) (λ b. pre_block t b (RefSb j))) (most_of 32 (covers (RefSb j)) (covers (PreAb)) t.nrfcsb)
pre_ab_is t (RfmAb) = busy t.nrfm (over (PreAb) (λ b. pre_block t b (RfmAb))) (most_none 32 (covers (PreAb)))
pre_ab_is t (RfmSb j) = met (meet (RfmSb j) (PreAb)) t.nrfmsb (over (PreAb) (λ b. pre_block t b (RfmSb j))) (most_of 32 (covers (RfmSb j)) (covers (PreAb)) t.nrfmsb)
pre_ab_is t (Mrw v) = wide_busy t.nmrd (over (PreAb) (λ b. pre_block t b (Mrw v))) (most_none 32 (covers (PreAb)))
pre_ab_is t (Ecs) = busy t.necs (over (PreAb) (λ b. pre_block t b (Ecs))) (most_none 32 (covers (PreAb)))
pre_ab_is t (Nop) = none (over (PreAb) (λ b. pre_block t b (Nop))) (most_none 32 (covers (PreAb)))

-- ---- RefAb

ref_ab_is : (t : Timing) (first : Command) → gap t first (RefAb) ≡ closed_gap t first (RefAb)
ref_ab_is t (Act k r) = wide_none (over (RefAb) (λ b. closed_block t b (Act k r))) (most_none 32 (covers (RefAb)))
ref_ab_is t (Rd k c) = wide_none (over (RefAb) (λ b. closed_block t b (Rd k c))) (most_none 32 (covers (RefAb)))
ref_ab_is t (Wr k c) = wide_none (over (RefAb) (λ b. closed_block t b (Wr k c))) (most_none 32 (covers (RefAb)))
ref_ab_is t (PrePb k) = met (meet (PrePb k) (RefAb)) t.nrp (over (RefAb) (λ b. closed_block t b (PrePb k))) (most_of 32 (λ b. bank_number k == b) (covers (RefAb)) t.nrp)
ref_ab_is t (PreSb j) = met (meet (PreSb j) (RefAb)) t.nrp (over (RefAb) (λ b. closed_block t b (PreSb j))) (most_of 32 (covers (PreSb j)) (covers (RefAb)) t.nrp)
ref_ab_is t (PreAb) = met (meet PreAb (RefAb)) t.nrp (over (RefAb) (λ b. closed_block t b (PreAb))) (most_of 32 (λ b. true) (covers (RefAb)) t.nrp)
ref_ab_is t (RefAb) = busy t.nrfc (over (RefAb) (λ b. closed_block t b (RefAb))) (most_none 32 (covers (RefAb)))
ref_ab_is t (RefSb j) = met (meet (RefSb j) (RefAb)) t.nrfcsb (over (RefAb) (λ b. closed_block t b (RefSb j))) (most_of 32 (covers (RefSb j)) (covers (RefAb)) t.nrfcsb)
ref_ab_is t (RfmAb) = busy t.nrfm (over (RefAb) (λ b. closed_block t b (RfmAb))) (most_none 32 (covers (RefAb)))
ref_ab_is t (RfmSb j) = met (meet (RfmSb j) (RefAb)) t.nrfmsb (over (RefAb) (λ b. closed_block t b (RfmSb j))) (most_of 32 (covers (RfmSb j)) (covers (RefAb)) t.nrfmsb)
ref_ab_is t (Mrw v) = wide_busy t.nmrd (over (RefAb) (λ b. closed_block t b (Mrw v))) (most_none 32 (covers (RefAb)))
ref_ab_is t (Ecs) = busy t.necs (over (RefAb) (λ b. closed_block t b (Ecs))) (most_none 32 (covers (RefAb)))
ref_ab_is t (Nop) = none (over (RefAb) (λ b. closed_block t b (Nop))) (most_none 32 (covers (RefAb)))

-- ---- RefSb a

ref_sb_is : (t : Timing) (a : ℕ) (first : Command) → gap t first (RefSb a) ≡ closed_gap t first (RefSb a)
ref_sb_is t a (Act k r) = wide_none (over (RefSb a) (λ b. closed_block t b (Act k r))) (most_none 32 (covers (RefSb a)))
ref_sb_is t a (Rd k c) = wide_none (over (RefSb a) (λ b. closed_block t b (Rd k c))) (most_none 32 (covers (RefSb a)))
ref_sb_is t a (Wr k c) = wide_none (over (RefSb a) (λ b. closed_block t b (Wr k c))) (most_none 32 (covers (RefSb a)))
ref_sb_is t a (PrePb k) = met (meet (PrePb k) (RefSb a)) t.nrp (over (RefSb a) (λ b. closed_block t b (PrePb k))) (most_of 32 (λ b. bank_number k == b) (covers (RefSb a)) t.nrp)
ref_sb_is t a (PreSb j) = met (meet (PreSb j) (RefSb a)) t.nrp (over (RefSb a) (λ b. closed_block t b (PreSb j))) (most_of 32 (covers (PreSb j)) (covers (RefSb a)) t.nrp)
ref_sb_is t a (PreAb) = met (meet PreAb (RefSb a)) t.nrp (over (RefSb a) (λ b. closed_block t b (PreAb))) (most_of 32 (λ b. true) (covers (RefSb a)) t.nrp)
ref_sb_is t a (RefAb) = busy t.nrfc (over (RefSb a) (λ b. closed_block t b (RefAb))) (most_none 32 (covers (RefSb a)))
ref_sb_is t a (RefSb j) = met (meet (RefSb j) (RefSb a)) t.nrfcsb (over (RefSb a) (λ b. closed_block t b (RefSb j))) (most_of 32 (covers (RefSb j)) (covers (RefSb a)) t.nrfcsb)
ref_sb_is t a (RfmAb) = busy t.nrfm (over (RefSb a) (λ b. closed_block t b (RfmAb))) (most_none 32 (covers (RefSb a)))
ref_sb_is t a (RfmSb j) = met (meet (RfmSb j) (RefSb a)) t.nrfmsb (over (RefSb a) (λ b. closed_block t b (RfmSb j))) (most_of 32 (covers (RfmSb j)) (covers (RefSb a)) t.nrfmsb)
ref_sb_is t a (Mrw v) = wide_busy t.nmrd (over (RefSb a) (λ b. closed_block t b (Mrw v))) (most_none 32 (covers (RefSb a)))
ref_sb_is t a (Ecs) = busy t.necs (over (RefSb a) (λ b. closed_block t b (Ecs))) (most_none 32 (covers (RefSb a)))
ref_sb_is t a (Nop) = none (over (RefSb a) (λ b. closed_block t b (Nop))) (most_none 32 (covers (RefSb a)))

-- ---- RfmAb

rfm_ab_is : (t : Timing) (first : Command) → gap t first (RfmAb) ≡ closed_gap t first (RfmAb)
rfm_ab_is t (Act k r) = wide_none (over (RfmAb) (λ b. closed_block t b (Act k r))) (most_none 32 (covers (RfmAb)))
rfm_ab_is t (Rd k c) = wide_none (over (RfmAb) (λ b. closed_block t b (Rd k c))) (most_none 32 (covers (RfmAb)))
rfm_ab_is t (Wr k c) = wide_none (over (RfmAb) (λ b. closed_block t b (Wr k c))) (most_none 32 (covers (RfmAb)))
rfm_ab_is t (PrePb k) = met (meet (PrePb k) (RfmAb)) t.nrp (over (RfmAb) (λ b. closed_block t b (PrePb k))) (most_of 32 (λ b. bank_number k == b) (covers (RfmAb)) t.nrp)
rfm_ab_is t (PreSb j) = met (meet (PreSb j) (RfmAb)) t.nrp (over (RfmAb) (λ b. closed_block t b (PreSb j))) (most_of 32 (covers (PreSb j)) (covers (RfmAb)) t.nrp)
rfm_ab_is t (PreAb) = met (meet PreAb (RfmAb)) t.nrp (over (RfmAb) (λ b. closed_block t b (PreAb))) (most_of 32 (λ b. true) (covers (RfmAb)) t.nrp)
rfm_ab_is t (RefAb) = busy t.nrfc (over (RfmAb) (λ b. closed_block t b (RefAb))) (most_none 32 (covers (RfmAb)))
rfm_ab_is t (RefSb j) = met (meet (RefSb j) (RfmAb)) t.nrfcsb (over (RfmAb) (λ b. closed_block t b (RefSb j))) (most_of 32 (covers (RefSb j)) (covers (RfmAb)) t.nrfcsb)
rfm_ab_is t (RfmAb) = busy t.nrfm (over (RfmAb) (λ b. closed_block t b (RfmAb))) (most_none 32 (covers (RfmAb)))
rfm_ab_is t (RfmSb j) = met (meet (RfmSb j) (RfmAb)) t.nrfmsb (over (RfmAb) (λ b. closed_block t b (RfmSb j))) (most_of 32 (covers (RfmSb j)) (covers (RfmAb)) t.nrfmsb)
rfm_ab_is t (Mrw v) = wide_busy t.nmrd (over (RfmAb) (λ b. closed_block t b (Mrw v))) (most_none 32 (covers (RfmAb)))
rfm_ab_is t (Ecs) = busy t.necs (over (RfmAb) (λ b. closed_block t b (Ecs))) (most_none 32 (covers (RfmAb)))
rfm_ab_is t (Nop) = none (over (RfmAb) (λ b. closed_block t b (Nop))) (most_none 32 (covers (RfmAb)))

-- ---- RfmSb a

rfm_sb_is : (t : Timing) (a : ℕ) (first : Command) → gap t first (RfmSb a) ≡ closed_gap t first (RfmSb a)
rfm_sb_is t a (Act k r) = wide_none (over (RfmSb a) (λ b. closed_block t b (Act k r))) (most_none 32 (covers (RfmSb a)))
rfm_sb_is t a (Rd k c) = wide_none (over (RfmSb a) (λ b. closed_block t b (Rd k c))) (most_none 32 (covers (RfmSb a)))
rfm_sb_is t a (Wr k c) = wide_none (over (RfmSb a) (λ b. closed_block t b (Wr k c))) (most_none 32 (covers (RfmSb a)))
rfm_sb_is t a (PrePb k) = met (meet (PrePb k) (RfmSb a)) t.nrp (over (RfmSb a) (λ b. closed_block t b (PrePb k))) (most_of 32 (λ b. bank_number k == b) (covers (RfmSb a)) t.nrp)
rfm_sb_is t a (PreSb j) = met (meet (PreSb j) (RfmSb a)) t.nrp (over (RfmSb a) (λ b. closed_block t b (PreSb j))) (most_of 32 (covers (PreSb j)) (covers (RfmSb a)) t.nrp)
rfm_sb_is t a (PreAb) = met (meet PreAb (RfmSb a)) t.nrp (over (RfmSb a) (λ b. closed_block t b (PreAb))) (most_of 32 (λ b. true) (covers (RfmSb a)) t.nrp)
rfm_sb_is t a (RefAb) = busy t.nrfc (over (RfmSb a) (λ b. closed_block t b (RefAb))) (most_none 32 (covers (RfmSb a)))
rfm_sb_is t a (RefSb j) = met (meet (RefSb j) (RfmSb a)) t.nrfcsb (over (RfmSb a) (λ b. closed_block t b (RefSb j))) (most_of 32 (covers (RefSb j)) (covers (RfmSb a)) t.nrfcsb)
rfm_sb_is t a (RfmAb) = busy t.nrfm (over (RfmSb a) (λ b. closed_block t b (RfmAb))) (most_none 32 (covers (RfmSb a)))
rfm_sb_is t a (RfmSb j) = met (meet (RfmSb j) (RfmSb a)) t.nrfmsb (over (RfmSb a) (λ b. closed_block t b (RfmSb j))) (most_of 32 (covers (RfmSb j)) (covers (RfmSb a)) t.nrfmsb)
rfm_sb_is t a (Mrw v) = wide_busy t.nmrd (over (RfmSb a) (λ b. closed_block t b (Mrw v))) (most_none 32 (covers (RfmSb a)))
rfm_sb_is t a (Ecs) = busy t.necs (over (RfmSb a) (λ b. closed_block t b (Ecs))) (most_none 32 (covers (RfmSb a)))
rfm_sb_is t a (Nop) = none (over (RfmSb a) (λ b. closed_block t b (Nop))) (most_none 32 (covers (RfmSb a)))

-- ---- Mrw w

mrw_is : (t : Timing) (w : Write) (first : Command) → gap t first (Mrw w) ≡ closed_gap t first (Mrw w)
mrw_is t w (Act k r) = wide_none (over (Mrw w) (λ b. closed_block t b (Act k r))) (most_none 32 (covers (Mrw w)))
mrw_is t w (Rd k c) = wide_none (over (Mrw w) (λ b. closed_block t b (Rd k c))) (most_none 32 (covers (Mrw w)))
mrw_is t w (Wr k c) = wide_none (over (Mrw w) (λ b. closed_block t b (Wr k c))) (most_none 32 (covers (Mrw w)))
mrw_is t w (PrePb k) = met (meet (PrePb k) (Mrw w)) t.nrp (over (Mrw w) (λ b. closed_block t b (PrePb k))) (most_of 32 (λ b. bank_number k == b) (covers (Mrw w)) t.nrp)
mrw_is t w (PreSb j) = met (meet (PreSb j) (Mrw w)) t.nrp (over (Mrw w) (λ b. closed_block t b (PreSb j))) (most_of 32 (covers (PreSb j)) (covers (Mrw w)) t.nrp)
mrw_is t w (PreAb) = met (meet PreAb (Mrw w)) t.nrp (over (Mrw w) (λ b. closed_block t b (PreAb))) (most_of 32 (λ b. true) (covers (Mrw w)) t.nrp)
mrw_is t w (RefAb) = busy t.nrfc (over (Mrw w) (λ b. closed_block t b (RefAb))) (most_none 32 (covers (Mrw w)))
mrw_is t w (RefSb j) = met (meet (RefSb j) (Mrw w)) t.nrfcsb (over (Mrw w) (λ b. closed_block t b (RefSb j))) (most_of 32 (covers (RefSb j)) (covers (Mrw w)) t.nrfcsb)
mrw_is t w (RfmAb) = busy t.nrfm (over (Mrw w) (λ b. closed_block t b (RfmAb))) (most_none 32 (covers (Mrw w)))
mrw_is t w (RfmSb j) = met (meet (RfmSb j) (Mrw w)) t.nrfmsb (over (Mrw w) (λ b. closed_block t b (RfmSb j))) (most_of 32 (covers (RfmSb j)) (covers (Mrw w)) t.nrfmsb)
mrw_is t w (Mrw v) = wide_busy t.nmrd (over (Mrw w) (λ b. closed_block t b (Mrw v))) (most_none 32 (covers (Mrw w)))
mrw_is t w (Ecs) = busy t.necs (over (Mrw w) (λ b. closed_block t b (Ecs))) (most_none 32 (covers (Mrw w)))
mrw_is t w (Nop) = none (over (Mrw w) (λ b. closed_block t b (Nop))) (most_none 32 (covers (Mrw w)))

-- ---- Ecs

ecs_is : (t : Timing) (first : Command) → gap t first (Ecs) ≡ closed_gap t first (Ecs)
ecs_is t (Act k r) = wide_none (over (Ecs) (λ b. closed_block t b (Act k r))) (most_none 32 (covers (Ecs)))
ecs_is t (Rd k c) = wide_none (over (Ecs) (λ b. closed_block t b (Rd k c))) (most_none 32 (covers (Ecs)))
ecs_is t (Wr k c) = wide_none (over (Ecs) (λ b. closed_block t b (Wr k c))) (most_none 32 (covers (Ecs)))
ecs_is t (PrePb k) = met (meet (PrePb k) (Ecs)) t.nrp (over (Ecs) (λ b. closed_block t b (PrePb k))) (most_of 32 (λ b. bank_number k == b) (covers (Ecs)) t.nrp)
ecs_is t (PreSb j) = met (meet (PreSb j) (Ecs)) t.nrp (over (Ecs) (λ b. closed_block t b (PreSb j))) (most_of 32 (covers (PreSb j)) (covers (Ecs)) t.nrp)
ecs_is t (PreAb) = met (meet PreAb (Ecs)) t.nrp (over (Ecs) (λ b. closed_block t b (PreAb))) (most_of 32 (λ b. true) (covers (Ecs)) t.nrp)
ecs_is t (RefAb) = busy t.nrfc (over (Ecs) (λ b. closed_block t b (RefAb))) (most_none 32 (covers (Ecs)))
ecs_is t (RefSb j) = met (meet (RefSb j) (Ecs)) t.nrfcsb (over (Ecs) (λ b. closed_block t b (RefSb j))) (most_of 32 (covers (RefSb j)) (covers (Ecs)) t.nrfcsb)
ecs_is t (RfmAb) = busy t.nrfm (over (Ecs) (λ b. closed_block t b (RfmAb))) (most_none 32 (covers (Ecs)))
ecs_is t (RfmSb j) = met (meet (RfmSb j) (Ecs)) t.nrfmsb (over (Ecs) (λ b. closed_block t b (RfmSb j))) (most_of 32 (covers (RfmSb j)) (covers (Ecs)) t.nrfmsb)
ecs_is t (Mrw v) = wide_busy t.nmrd (over (Ecs) (λ b. closed_block t b (Mrw v))) (most_none 32 (covers (Ecs)))
ecs_is t (Ecs) = busy t.necs (over (Ecs) (λ b. closed_block t b (Ecs))) (most_none 32 (covers (Ecs)))
ecs_is t (Nop) = none (over (Ecs) (λ b. closed_block t b (Nop))) (most_none 32 (covers (Ecs)))

-- ---- By kind

pub closing_is : (t : Timing) (second : Command) → is_precharge second ≡ true → (first : Command) → gap t first second ≡ closing_gap t first second
closing_is t (PrePb own) h first = pre_pb_is t own first
closing_is t (PreSb a) h first = pre_sb_is t a first
closing_is t PreAb h first = pre_ab_is t first
closing_is t (Act k r) h first = absurd cc
closing_is t (Rd k c) h first = absurd cc
closing_is t (Wr k c) h first = absurd cc
closing_is t RefAb h first = absurd cc
closing_is t (RefSb a) h first = absurd cc
closing_is t RfmAb h first = absurd cc
closing_is t (RfmSb a) h first = absurd cc
closing_is t (Mrw w) h first = absurd cc
closing_is t Ecs h first = absurd cc
closing_is t Nop h first = absurd cc

pub closed_is : (t : Timing) (second : Command) → needs_closed second ≡ true → (first : Command) → gap t first second ≡ closed_gap t first second
closed_is t RefAb h first = ref_ab_is t first
closed_is t (RefSb a) h first = ref_sb_is t a first
closed_is t RfmAb h first = rfm_ab_is t first
closed_is t (RfmSb a) h first = rfm_sb_is t a first
closed_is t (Mrw w) h first = mrw_is t w first
closed_is t Ecs h first = ecs_is t first
closed_is t (Act k r) h first = absurd cc
closed_is t (Rd k c) h first = absurd cc
closed_is t (Wr k c) h first = absurd cc
closed_is t (PrePb own) h first = absurd cc
closed_is t (PreSb a) h first = absurd cc
closed_is t PreAb h first = absurd cc
closed_is t Nop h first = absurd cc
