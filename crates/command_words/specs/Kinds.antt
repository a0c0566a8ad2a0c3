-- Kinds of commands, and what a command does to one bank.
use Rattle.std.specs.Prelude.{ℕ, Bool, true, false, ◌==◌, if◌then◌else◌, Option, Some, None}
use Rattle.command_words.specs.Command.{bank_number, is_at}
use Rattle.command_words.specs.declared.place.Bank.{Bank}
use Rattle.command_words.specs.declared.command.Command.{Command}
use Rattle.command_words.specs.declared.command.Command.TheVariants.{Act, Rd, Wr, PrePb, PreSb, PreAb, RefAb, RefSb, RfmAb, RfmSb, Mrw, Ecs, Nop}

-- what a command does to one bank
pub data Effect : Type 0 where
  Opens : ℕ → Effect
  Closes : Effect
  Manages : Effect
  Refreshes : Effect
  Leaves : Effect

-- Act opens its row, a precharge closes, RFM manages and REF refreshes the banks that it covers
abbrev pub effect : ℕ → Command → Effect
effect b (Act bank row) = if bank_number bank == b then Opens row else Leaves
effect b (PrePb bank) = if bank_number bank == b then Closes else Leaves
effect b (PreSb address) = if is_at address b then Closes else Leaves
effect b PreAb = Closes
effect b RfmAb = Manages
effect b (RfmSb address) = if is_at address b then Manages else Leaves
effect b RefAb = Refreshes
effect b (RefSb address) = if is_at address b then Refreshes else Leaves
effect b _ = Leaves

abbrev pub is_act : Command → Bool
is_act (Act bank row) = true
is_act _ = false

abbrev pub is_rd : Command → Bool
is_rd (Rd bank column) = true
is_rd _ = false

abbrev pub is_wr : Command → Bool
is_wr (Wr bank column) = true
is_wr _ = false

-- PREpb, PREsb or PREab
abbrev pub is_precharge : Command → Bool
is_precharge (PrePb bank) = true
is_precharge (PreSb address) = true
is_precharge PreAb = true
is_precharge _ = false

abbrev pub is_ref_all : Command → Bool
is_ref_all RefAb = true
is_ref_all _ = false

abbrev pub is_ref_same : Command → Bool
is_ref_same (RefSb address) = true
is_ref_same _ = false

abbrev pub is_rfm_all : Command → Bool
is_rfm_all RfmAb = true
is_rfm_all _ = false

abbrev pub is_rfm_same : Command → Bool
is_rfm_same (RfmSb address) = true
is_rfm_same _ = false

abbrev pub is_mrw : Command → Bool
is_mrw (Mrw write) = true
is_mrw _ = false

-- ECS
abbrev pub is_scrub : Command → Bool
is_scrub Ecs = true
is_scrub _ = false

abbrev pub is_nop : Command → Bool
is_nop Nop = true
is_nop _ = false

-- REF, RFM, ECS and MRW need the banks that they cover closed
abbrev pub needs_closed : Command → Bool
needs_closed RefAb = true
needs_closed (RefSb address) = true
needs_closed RfmAb = true
needs_closed (RfmSb address) = true
needs_closed Ecs = true
needs_closed (Mrw write) = true
needs_closed _ = false

-- a refresh of the banks with this address
abbrev pub refreshes : ℕ → Command → Bool
refreshes address RefAb = true
refreshes address (RefSb own) = own == address
refreshes address _ = false

-- the bank of a command that names one
abbrev pub bank_of : Command → Option Bank
bank_of (Act bank row) = Some bank
bank_of (Rd bank column) = Some bank
bank_of (Wr bank column) = Some bank
bank_of (PrePb bank) = Some bank
bank_of _ = None

-- the group of a command that names one bank
abbrev pub group_of : Command → ℕ
group_of (Act bank row) = bank.group
group_of (Rd bank column) = bank.group
group_of (Wr bank column) = bank.group
group_of (PrePb bank) = bank.group
group_of _ = 0
