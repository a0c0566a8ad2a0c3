-- The gap table by what a first command blocks: the bus, every command, and an ACT, an RD, a WR, a precharge or a command
-- that needs closed banks, anywhere, in a group or in a bank. The gap to a second command is the greatest of its blocks.
use Rattle.std.specs.Prelude.{ℕ, ◌+◌, ◌-◌, ◌≡◌, ◌==◌, max, if◌then◌else◌}
use Rattle.command_words.specs.Command.{bank_number, covers}
use Rattle.command_words.specs.Kinds.{group_of}
use Rattle.command_words.specs.declared.place.Bank.{Bank}
use Rattle.command_words.specs.declared.command.Command.{Command}
use Rattle.command_words.specs.declared.command.Command.TheVariants.{Act, Rd, Wr, PrePb, PreSb, PreAb, RefAb, RefSb, RfmAb, RfmSb, Mrw, Ecs}
use Rattle.speed_bin.specs.declared.timing.Timing.{Timing}
use Rattle.timing_rules.specs.Reach.{most_below}
use Rattle.timing_rules.specs.declared.spans.Spans.{Spans}

-- ---- Everywhere

abbrev pub bus_block : Command → ℕ
bus_block (Act bank row) = 2
bus_block (Rd bank column) = 2
bus_block (Wr bank column) = 2
bus_block (Mrw write) = 2
bus_block _ = 1

abbrev pub busy_block : Timing → Command → ℕ
busy_block t RefAb = t.nrfc
busy_block t RfmAb = t.nrfm
busy_block t Ecs = t.necs
busy_block t (Mrw write) = t.nmrd
busy_block t _ = 0

-- of every command but NOP
abbrev pub floor_block : Timing → Command → ℕ
floor_block t first = max (bus_block first) (busy_block t first)

abbrev pub act_block : Timing → Command → ℕ
act_block t (Act bank row) = t.nrrd_s
act_block t _ = 0

abbrev pub rd_block : Timing → Command → ℕ
rd_block t (Rd bank column) = t.nccd_s
rd_block t (Wr bank column) = t.ncwl + 8 + t.nwtr_s
rd_block t _ = 0

abbrev pub wr_block : Timing → Command → ℕ
wr_block t (Rd bank column) = t.ncl + 10 - t.ncwl
wr_block t (Wr bank column) = t.nccd_s
wr_block t _ = 0

-- ---- In a group

abbrev pub act_group_block : Timing → ℕ → Command → ℕ
act_group_block t g (Act bank row) = if bank.group == g then t.nrrd_l else 0
act_group_block t g _ = 0

abbrev pub rd_group_block : Timing → ℕ → Command → ℕ
rd_group_block t g (Rd bank column) = if bank.group == g then t.nccd_l else 0
rd_group_block t g (Wr bank column) = if bank.group == g then t.ncwl + 8 + t.nwtr_l else 0
rd_group_block t g _ = 0

abbrev pub wr_group_block : Timing → ℕ → Command → ℕ
wr_group_block t g (Wr bank column) = if bank.group == g then t.nccd_l_wr else 0
wr_group_block t g _ = 0

-- ---- In a bank

abbrev pub act_bank_block : Timing → ℕ → Command → ℕ
act_bank_block t b (Act bank row) = if bank_number bank == b then t.nrc else 0
act_bank_block t b (PrePb bank) = if bank_number bank == b then t.nrp else 0
act_bank_block t b (PreSb address) = if covers (PreSb address) b then t.nrp else 0
act_bank_block t b PreAb = t.nrp
act_bank_block t b (RefSb address) = if covers (RefSb address) b then t.nrfcsb else 0
act_bank_block t b (RfmSb address) = if covers (RfmSb address) b then t.nrfmsb else 0
act_bank_block t b _ = 0

-- of RD and WR
abbrev pub column_block : Timing → ℕ → Command → ℕ
column_block t b (Act bank row) = if bank_number bank == b then t.nrcd else 0
column_block t b (RefSb address) = if covers (RefSb address) b then t.nrfcsb else 0
column_block t b (RfmSb address) = if covers (RfmSb address) b then t.nrfmsb else 0
column_block t b _ = 0

abbrev pub pre_block : Timing → ℕ → Command → ℕ
pre_block t b (Act bank row) = if bank_number bank == b then t.nras else 0
pre_block t b (Rd bank column) = if bank_number bank == b then t.nrtp else 0
pre_block t b (Wr bank column) = if bank_number bank == b then t.ncwl + 8 + t.nwr else 0
pre_block t b (RefSb address) = if covers (RefSb address) b then t.nrfcsb else 0
pre_block t b (RfmSb address) = if covers (RfmSb address) b then t.nrfmsb else 0
pre_block t b _ = 0

-- of REF, RFM, ECS and MRW
abbrev pub closed_block : Timing → ℕ → Command → ℕ
closed_block t b (PrePb bank) = if bank_number bank == b then t.nrp else 0
closed_block t b (PreSb address) = if covers (PreSb address) b then t.nrp else 0
closed_block t b PreAb = t.nrp
closed_block t b (RefSb address) = if covers (RefSb address) b then t.nrfcsb else 0
closed_block t b (RfmSb address) = if covers (RfmSb address) b then t.nrfmsb else 0
closed_block t b _ = 0

-- ---- The gap to each kind of second command

abbrev pub rd_gap : Timing → Bank → Command → ℕ
rd_gap t bank first = max (floor_block t first) (max (rd_block t first) (max (rd_group_block t bank.group first) (column_block t (bank_number bank) first)))

abbrev pub wr_gap : Timing → Bank → Command → ℕ
wr_gap t bank first = max (floor_block t first) (max (wr_block t first) (max (wr_group_block t bank.group first) (column_block t (bank_number bank) first)))

abbrev pub act_gap : Timing → Bank → Command → ℕ
act_gap t bank first = max (floor_block t first) (max (act_block t first) (max (act_group_block t bank.group first) (act_bank_block t (bank_number bank) first)))

abbrev pub pre_gap : Timing → Bank → Command → ℕ
pre_gap t bank first = max (floor_block t first) (pre_block t (bank_number bank) first)

-- the greatest of the numbers of the banks that the command covers
abbrev pub over : Command → (ℕ → ℕ) → ℕ
over second f = most_below 32 (λ b. if covers second b then f b else 0)

abbrev pub closing_gap : Timing → Command → Command → ℕ
closing_gap t first second = max (floor_block t first) (over second (λ b. pre_block t b first))

abbrev pub closed_gap : Timing → Command → Command → ℕ
closed_gap t first second = max (floor_block t first) (over second (λ b. closed_block t b first))

-- ---- The clocks of the blocks, whose places are the command's own

pub record AreSpans (it : Spans) (t : Timing) (first : Command) : Type 0 where
  pub bus : it.bus ≡ bus_block first
  pub floor : it.floor ≡ floor_block t first
  pub act : it.act ≡ act_block t first
  pub rd : it.rd ≡ rd_block t first
  pub wr : it.wr ≡ wr_block t first
  pub act_group : (g : ℕ) → (if group_of first == g then it.act_group else 0) ≡ act_group_block t g first
  pub rd_group : (g : ℕ) → (if group_of first == g then it.rd_group else 0) ≡ rd_group_block t g first
  pub wr_group : (g : ℕ) → (if group_of first == g then it.wr_group else 0) ≡ wr_group_block t g first
  pub act_bank : (b : ℕ) → (if covers first b then it.act_bank else 0) ≡ act_bank_block t b first
  pub column : (b : ℕ) → (if covers first b then it.column else 0) ≡ column_block t b first
  pub pre : (b : ℕ) → (if covers first b then it.pre else 0) ≡ pre_block t b first
  pub closed : (b : ℕ) → (if covers first b then it.closed else 0) ≡ closed_block t b first
