-- The rows of the gap table that can apply behind each kind of first command, and their greatest entry.
use Rattle.std.proofs.Common.{◌≡◌, ◌∙◌, ℕ, ◌+◌, ◌-◌, Bool, true, false, not, ◌&&◌, ◌||◌, ◌==◌, List, [], ◌∷◌, max, if◌then◌else◌, refl, sym, ap, arith}
use Rattle.speed_bin.specs.Gap.{Entry, greatest, gap, meet}
use Rattle.command_words.specs.Kinds.{is_act, is_rd, is_wr, is_precharge, needs_closed, is_nop, group_of}
use Rattle.speed_bin.specs.declared.timing.Timing.{Timing}
use Rattle.command_words.specs.declared.place.Bank.{Bank}
use Rattle.command_words.specs.declared.command.Command.{Command}
use Rattle.command_words.specs.declared.command.Mrw.{Mrw as Write}
use Rattle.command_words.specs.declared.command.Command.TheVariants.{Act, Rd, Wr, PrePb, PreSb, PreAb, RefAb, RefSb, RfmAb, RfmSb, Mrw, Ecs, Nop}

-- the clocks of a row where it applies
abbrev pub entry : Bool → ℕ → ℕ
entry applies clocks = if applies then clocks else 0

abbrev pub maxima : List Entry → ℕ
maxima [] = 0
maxima (e ∷ es) = max (entry e.applies e.clocks) (maxima es)

greatest_more : (b : Bool) (n m : ℕ) → (if b then max n m else m) ≡ max (entry b n) m
greatest_more true n m = refl
greatest_more false n m = omega arith

greatest_maxima : (es : List Entry) → greatest es ≡ maxima es
greatest_maxima [] = refl
greatest_maxima (e ∷ es) = greatest_more e.applies e.clocks (greatest es) ∙ ap (λ m. max (entry e.applies e.clocks) m) (greatest_maxima es)

-- ---- ACT

abbrev act_rows : Timing → Bool → Bool → Command → List Entry
act_rows t same together second =
    record { applies = true; clocks = 2 }
    ∷ record { applies = true; clocks = 1 }
    ∷ record { applies = is_act second; clocks = t.nrrd_s }
    ∷ record { applies = is_act second && same; clocks = t.nrrd_l }
    ∷ record { applies = is_act second && together; clocks = t.nrc }
    ∷ record { applies = (is_rd second || is_wr second) && together; clocks = t.nrcd }
    ∷ record { applies = is_precharge second && together; clocks = t.nras }
    ∷ []

act_is : (t : Timing) (bank : Bank) (row : ℕ) (second : Command) → greatest (act_rows t (bank.group == group_of second) (meet (Act bank row) second) second) ≡ gap t (Act bank row) second
act_is t bank row second = refl

pub act_gap : (t : Timing) (bank : Bank) (row : ℕ) (second : Command) (same together : Bool) → same ≡ (bank.group == group_of second) → together ≡ meet (Act bank row) second → maxima (act_rows t same together second) ≡ gap t (Act bank row) second
act_gap t bank row second same together e f =
    sym (greatest_maxima (act_rows t same together second))
    ∙ ap (λ s. greatest (act_rows t s together second)) e
    ∙ ap (λ m. greatest (act_rows t (bank.group == group_of second) m second)) f
    ∙ act_is t bank row second

-- ---- RD

abbrev rd_rows : Timing → Bool → Bool → Command → List Entry
rd_rows t same together second =
    record { applies = true; clocks = 2 }
    ∷ record { applies = true; clocks = 1 }
    ∷ record { applies = is_rd second; clocks = t.nccd_s }
    ∷ record { applies = is_rd second && same; clocks = t.nccd_l }
    ∷ record { applies = is_wr second; clocks = t.ncl + 10 - t.ncwl }
    ∷ record { applies = is_precharge second && together; clocks = t.nrtp }
    ∷ []

rd_is : (t : Timing) (bank : Bank) (column : ℕ) (second : Command) → greatest (rd_rows t (bank.group == group_of second) (meet (Rd bank column) second) second) ≡ gap t (Rd bank column) second
rd_is t bank column second = refl

pub rd_gap : (t : Timing) (bank : Bank) (column : ℕ) (second : Command) (same together : Bool) → same ≡ (bank.group == group_of second) → together ≡ meet (Rd bank column) second → maxima (rd_rows t same together second) ≡ gap t (Rd bank column) second
rd_gap t bank column second same together e f =
    sym (greatest_maxima (rd_rows t same together second))
    ∙ ap (λ s. greatest (rd_rows t s together second)) e
    ∙ ap (λ m. greatest (rd_rows t (bank.group == group_of second) m second)) f
    ∙ rd_is t bank column second

-- ---- WR

abbrev wr_rows : Timing → Bool → Bool → Command → List Entry
wr_rows t same together second =
    record { applies = true; clocks = 2 }
    ∷ record { applies = true; clocks = 1 }
    ∷ record { applies = is_wr second; clocks = t.nccd_s }
    ∷ record { applies = is_wr second && same; clocks = t.nccd_l_wr }
    ∷ record { applies = is_rd second; clocks = t.ncwl + 8 + t.nwtr_s }
    ∷ record { applies = is_rd second && same; clocks = t.ncwl + 8 + t.nwtr_l }
    ∷ record { applies = is_precharge second && together; clocks = t.ncwl + 8 + t.nwr }
    ∷ []

wr_is : (t : Timing) (bank : Bank) (column : ℕ) (second : Command) → greatest (wr_rows t (bank.group == group_of second) (meet (Wr bank column) second) second) ≡ gap t (Wr bank column) second
wr_is t bank column second = refl

pub wr_gap : (t : Timing) (bank : Bank) (column : ℕ) (second : Command) (same together : Bool) → same ≡ (bank.group == group_of second) → together ≡ meet (Wr bank column) second → maxima (wr_rows t same together second) ≡ gap t (Wr bank column) second
wr_gap t bank column second same together e f =
    sym (greatest_maxima (wr_rows t same together second))
    ∙ ap (λ s. greatest (wr_rows t s together second)) e
    ∙ ap (λ m. greatest (wr_rows t (bank.group == group_of second) m second)) f
    ∙ wr_is t bank column second

-- ---- Precharges

abbrev precharge_rows : Timing → Bool → Command → List Entry
precharge_rows t together second =
    record { applies = true; clocks = 1 }
    ∷ record { applies = (is_act second || needs_closed second) && together; clocks = t.nrp }
    ∷ []

-- the greater of 1 and the clocks of a row
abbrev pub one_or : Bool → ℕ → ℕ
one_or applies clocks = max 1 (entry applies clocks)

one_or_is : (applies : Bool) (clocks : ℕ) → one_or applies clocks ≡ maxima (record { applies = true; clocks = 1 } ∷ record { applies = applies; clocks = clocks } ∷ [])
one_or_is applies clocks = omega arith

precharge_gap : (t : Timing) (first second : Command) (together : Bool) → ((m : Bool) → m ≡ meet first second → greatest (precharge_rows t m second) ≡ gap t first second) → together ≡ meet first second → one_or ((is_act second || needs_closed second) && together) t.nrp ≡ gap t first second
precharge_gap t first second together is e =
    one_or_is ((is_act second || needs_closed second) && together) t.nrp ∙ sym (greatest_maxima (precharge_rows t together second)) ∙ is together e

precharge_along : (t : Timing) (first second : Command) → greatest (precharge_rows t (meet first second) second) ≡ gap t first second → (m : Bool) → m ≡ meet first second → greatest (precharge_rows t m second) ≡ gap t first second
precharge_along t first second is m e = ap (λ b. greatest (precharge_rows t b second)) e ∙ is

bank_is : (t : Timing) (bank : Bank) (second : Command) → greatest (precharge_rows t (meet (PrePb bank) second) second) ≡ gap t (PrePb bank) second
bank_is t bank second = refl

address_is : (t : Timing) (address : ℕ) (second : Command) → greatest (precharge_rows t (meet (PreSb address) second) second) ≡ gap t (PreSb address) second
address_is t address second = refl

all_is : (t : Timing) (second : Command) → greatest (precharge_rows t (meet PreAb second) second) ≡ gap t PreAb second
all_is t second = refl

pub bank_gap : (t : Timing) (bank : Bank) (second : Command) (together : Bool) → together ≡ meet (PrePb bank) second → one_or ((is_act second || needs_closed second) && together) t.nrp ≡ gap t (PrePb bank) second
bank_gap t bank second together = precharge_gap t (PrePb bank) second together (precharge_along t (PrePb bank) second (bank_is t bank second))

pub address_gap : (t : Timing) (address : ℕ) (second : Command) (together : Bool) → together ≡ meet (PreSb address) second → one_or ((is_act second || needs_closed second) && together) t.nrp ≡ gap t (PreSb address) second
address_gap t address second together = precharge_gap t (PreSb address) second together (precharge_along t (PreSb address) second (address_is t address second))

pub all_gap : (t : Timing) (second : Command) (together : Bool) → together ≡ meet PreAb second → one_or ((is_act second || needs_closed second) && together) t.nrp ≡ gap t PreAb second
all_gap t second together = precharge_gap t PreAb second together (precharge_along t PreAb second (all_is t second))

-- ---- REF, RFM, ECS, MRW and NOP

abbrev busy_rows : ℕ → Bool → Command → List Entry
busy_rows clocks together second =
    record { applies = true; clocks = 1 }
    ∷ record { applies = not (is_nop second) && together; clocks = clocks }
    ∷ []

busy_gap : (clocks : ℕ) (second : Command) (together : Bool) → one_or (not (is_nop second) && together) clocks ≡ greatest (busy_rows clocks together second)
busy_gap clocks second together = one_or_is (not (is_nop second) && together) clocks ∙ sym (greatest_maxima (busy_rows clocks together second))

and_true : (b : Bool) → (b && true) ≡ b
and_true true = refl
and_true false = refl

abbrev plain_rows : ℕ → Bool → List Entry
plain_rows clocks applies = record { applies = true; clocks = 1 } ∷ record { applies = applies; clocks = clocks } ∷ []

plain_gap : (clocks : ℕ) (second : Command) → one_or (not (is_nop second) && true) clocks ≡ greatest (plain_rows clocks (not (is_nop second)))
plain_gap clocks second = busy_gap clocks second true ∙ ap (λ b. greatest (plain_rows clocks b)) (and_true (not (is_nop second)))

pub ref_all_gap : (t : Timing) (second : Command) → one_or (not (is_nop second) && true) t.nrfc ≡ gap t RefAb second
ref_all_gap t second = plain_gap t.nrfc second

pub rfm_all_gap : (t : Timing) (second : Command) → one_or (not (is_nop second) && true) t.nrfm ≡ gap t RfmAb second
rfm_all_gap t second = plain_gap t.nrfm second

pub ecs_gap : (t : Timing) (second : Command) → one_or (not (is_nop second) && true) t.necs ≡ gap t Ecs second
ecs_gap t second = plain_gap t.necs second

pub ref_same_gap : (t : Timing) (address : ℕ) (second : Command) (together : Bool) → together ≡ meet (RefSb address) second → one_or (not (is_nop second) && together) t.nrfcsb ≡ gap t (RefSb address) second
ref_same_gap t address second together e = busy_gap t.nrfcsb second together ∙ ap (λ b. greatest (busy_rows t.nrfcsb b second)) e

pub rfm_same_gap : (t : Timing) (address : ℕ) (second : Command) (together : Bool) → together ≡ meet (RfmSb address) second → one_or (not (is_nop second) && together) t.nrfmsb ≡ gap t (RfmSb address) second
rfm_same_gap t address second together e = busy_gap t.nrfmsb second together ∙ ap (λ b. greatest (busy_rows t.nrfmsb b second)) e

two_last : (a : ℕ) → max (max 1 a) 2 ≡ max 2 (max 1 a)
two_last a = omega arith

pub mrw_gap : (t : Timing) (write : Write) (second : Command) → max (one_or (not (is_nop second) && true) t.nmrd) 2 ≡ gap t (Mrw write) second
mrw_gap t write second = two_last (entry (not (is_nop second) && true) t.nmrd) ∙ ap (λ n. max 2 n) (plain_gap t.nmrd second)

pub nop_gap : (t : Timing) (second : Command) → gap t Nop second ≡ 1
nop_gap t second = refl

-- ---- Greatest numbers

max_zero : (a : ℕ) → max a 0 ≡ a
max_zero a = omega arith

max_assoc : (a b c : ℕ) → max (max a b) c ≡ max a (max b c)
max_assoc a b c = omega arith

max_two : (a : ℕ) → max 2 (max 1 a) ≡ max 2 a
max_two a = omega arith

pub chain_5 : (a b c d e : ℕ) → max (max (max (max (max 2 a) b) c) d) e ≡ max 2 (max 1 (max a (max b (max c (max d (max e 0))))))
chain_5 a b c d e = simp (max_zero, max_assoc, max_two)

pub chain_4 : (a b c d : ℕ) → max (max (max (max 2 a) b) c) d ≡ max 2 (max 1 (max a (max b (max c (max d 0)))))
chain_4 a b c d = simp (max_zero, max_assoc, max_two)
