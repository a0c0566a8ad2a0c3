-- What a controller may issue, by cases on the command, and when.
use Rattle.std.specs.Prelude.{ℕ, ◌+◌, ◌/◌, ◌<◌, ◌≤◌, ◌≡◌, Option, Some, None, List, IsTrue, IsSome, ⊤}
use Rattle.command_words.specs.Command.{bank_number, covers}
use Rattle.command_words.specs.declared.geometry.Place.{Place}
use Rattle.command_words.specs.declared.command.Command.{Command}
use Rattle.command_words.specs.declared.command.Command.TheVariants.{Act, Rd, Wr, PrePb, PreSb, PreAb, RefAb, RefSb, RfmAb, RfmSb, Mrw, Ecs, Nop}
use Rattle.speed_bin.specs.Log.{Log, open_at, refs}
use Rattle.speed_bin.specs.Alert.{alert}
use Rattle.speed_bin.specs.Rules.{MayFollow}
use Rattle.speed_bin.specs.declared.header.Header.{Header}
use Rattle.requests.specs.declared.request.Kind.{Kind}
use Rattle.requests.specs.declared.request.Kind.TheVariants.{Read, Write}
use Rattle.requests.specs.declared.waiting.Waiting.{Waiting}
use Rattle.requests.specs.Queue.{in_bank, hits, oldest}

-- the column that serves a request of this kind at this place
abbrev pub column_for : Kind → Place → Command
column_for Read place = Rd place.bank place.column
column_for Write place = Wr place.bank place.column

-- the number is that of the oldest waiting request that lies in the bank's open row, and the request is of this kind and
-- column
pub record IsOldestHit (ws : List Waiting) (b : ℕ) (open_row : Option ℕ) (kind : Kind) (column : ℕ) (id : Option ℕ) : Type 0 where
  pub request : Waiting
  pub oldest_hit : oldest (hits b open_row) ws ≡ Some request
  pub number : id ≡ Some request.id
  pub kind_is : request.request.kind ≡ kind
  pub column_is : request.place.column ≡ column

-- the row is that of the oldest waiting request of the bank
pub record IsOldestRow (ws : List Waiting) (b row : ℕ) : Type 0 where
  pub request : Waiting
  pub oldest_of : oldest (in_bank b) ws ≡ Some request
  pub row_is : request.place.row ≡ row

-- the bank is open, a request of it waits, and none of them lies in the open row
pub record IsMissed (ws : List Waiting) (b : ℕ) (open_row : Option ℕ) : Type 0 where
  pub opened : IsSome open_row
  pub some : IsSome (oldest (in_bank b) ws)
  pub no_hit : oldest (hits b open_row) ws ≡ None

-- the command covers an open bank
pub record CoversOpen (command : Command) (log : Log) : Type 0 where
  pub bank : ℕ
  pub low : bank < 32
  pub covered : IsTrue (covers command bank)
  pub is_open : IsSome (open_at bank log)

-- two refresh intervals or more are due to the banks with this address
abbrev pub IsLate : Header → ℕ → ℕ → Log → Type 0
IsLate h clock address log = refs address log + 2 ≤ clock / h.timing.nrefi

-- what each command is issued for, with the number of the request that it serves
abbrev pub IsChosen : Header → List Waiting → Log → ℕ → Command → Option ℕ → Type 0
IsChosen h ws log clock (Act bank row) id = IsOldestRow ws (bank_number bank) row × (id ≡ None)
IsChosen h ws log clock (Rd bank column) id = IsOldestHit ws (bank_number bank) (open_at (bank_number bank) log) Read column id
IsChosen h ws log clock (Wr bank column) id = IsOldestHit ws (bank_number bank) (open_at (bank_number bank) log) Write column id
IsChosen h ws log clock (PrePb bank) id = IsMissed ws (bank_number bank) (open_at (bank_number bank) log) × (id ≡ None)
IsChosen h ws log clock (PreSb address) id = CoversOpen (PreSb address) log × (id ≡ None)
IsChosen h ws log clock PreAb id = CoversOpen PreAb log × (id ≡ None)
IsChosen h ws log clock RefAb id = ((address : ℕ) → address < 4 → IsLate h clock address log) × (id ≡ None)
IsChosen h ws log clock (RefSb address) id = IsLate h clock address log × (id ≡ None)
IsChosen h ws log clock RfmAb id = IsSome (alert h log) × (id ≡ None)
IsChosen h ws log clock (RfmSb address) id = id ≡ None
IsChosen h ws log clock (Mrw write) id = id ≡ None
IsChosen h ws log clock Ecs id = id ≡ None
IsChosen h ws log clock Nop id = ⊥

-- the least clock that rules 1 to 3 allow and that is not below `from`
pub record IsSoonest (h : Header) (log : Log) (from : ℕ) (command : Command) (clock : ℕ) : Type 0 where
  pub follows : MayFollow h.timing clock command log
  pub not_before : from ≤ clock
  pub least : (other : ℕ) → from ≤ other → MayFollow h.timing other command log → clock ≤ other

-- a column, an ACT and a PREpb are issued at that clock
abbrev pub IsPrompt : Header → ℕ → Log → ℕ → Command → Type 0
IsPrompt h from log clock (Act bank row) = IsSoonest h log from (Act bank row) clock
IsPrompt h from log clock (Rd bank column) = IsSoonest h log from (Rd bank column) clock
IsPrompt h from log clock (Wr bank column) = IsSoonest h log from (Wr bank column) clock
IsPrompt h from log clock (PrePb bank) = IsSoonest h log from (PrePb bank) clock
IsPrompt h from log clock _ = ⊤
