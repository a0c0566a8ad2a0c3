-- Definitions computed on lists that are written out.
use Rattle.std.proofs.Common.{◌≡◌, ℕ, ◌+◌, true, false, Option, Some, None, List, [], ◌∷◌, ◌++◌, length, map, replicate, refl}
use Rattle.command_words.specs.Command.{bank_number}
use Rattle.command_words.specs.declared.place.Bank.{Bank}
use Rattle.command_words.specs.declared.command.Command.{Command}
use Rattle.command_words.specs.declared.command.Command.TheVariants.{Act, Rd, Wr, PreAb, Nop}
use Rattle.speed_bin.specs.declared.header.Header.{Header}
use Rattle.speed_bin.proofs.Examples.{tiny_header}
use Rattle.requests.specs.declared.request.Kind.TheVariants.{Read, Write}
use Rattle.requests.specs.declared.request.Request.{Request}
use Rattle.requests.specs.declared.waiting.Waiting.{Waiting}
use Rattle.requests.specs.Queue.{Step, places, waiting, numbered, span, hits, in_bank, oldest}
use Rattle.requests.specs.Order.{served}
use Rattle.requests.specs.Choice.{IsChosen}
use Rattle.requests.specs.Owed.{owed}
use Rattle.requests.specs.Window.{window}

-- a header of 16 rows
abbrev header : Header
header = tiny_header 16 5 1 8 16

abbrev at : ℕ → Command → Option ℕ → Step
at clock command id = record { issued = record { clock = clock; command = command }; id = id }

abbrev read : ℕ → Request
read line = record { line = line; kind = Read }

abbrev write : ℕ → Request
write line = record { line = line; kind = Write }

-- group 0, bank address 0 or 1
abbrev bank : ℕ → Bank
bank address = record { group = 0; address = address }

-- a read of bank 0, row 0; a write of bank 1, row 0; a read of bank 0, row 1, which lies 2,048 lines on
abbrev three : List Request
three = read 0 ∷ write 8 ∷ read 2048 ∷ []

-- the row of bank 1 is opened, and its write is served
abbrev one_served : List Step
one_served = at 40 (Wr (bank 1) 0) (Some 2) ∷ at 30 (Act (bank 1) 0) None ∷ []

abbrev numbers : List Waiting → List ℕ
numbers ws = map (λ w. w.id) ws

abbrev number_of : Option Waiting → ℕ
number_of None = 0
number_of (Some w) = w.id

all_wait : numbers (waiting header three []) ≡ 1 ∷ 2 ∷ 3 ∷ []
all_wait = refl

two_wait : numbers (waiting header three one_served) ≡ 1 ∷ 3 ∷ []
two_wait = refl

places_are : map (λ w. bank_number w.place.bank) (numbered header 1 three) ++ map (λ w. w.place.row) (numbered header 1 three) ≡ 0 ∷ 1 ∷ 0 ∷ 0 ∷ 0 ∷ 1 ∷ []
places_are = refl

span_is : span 3 (waiting header three one_served) ≡ 3
span_is = refl

-- the oldest of bank 0 is the first; with row 1 open the third is the oldest hit
oldest_is : number_of (oldest (in_bank 0) (waiting header three one_served)) ≡ 1
oldest_is = refl

oldest_hit_is : number_of (oldest (hits 0 (Some 1)) (waiting header three one_served)) ≡ 3
oldest_hit_is = refl

nothing_hits_closed : number_of (oldest (hits 0 None) (waiting header three one_served)) ≡ 0
nothing_hits_closed = refl

served_are : numbers (served header three (at 60 (Rd (bank 0) 0) (Some 1) ∷ one_served)) ≡ 2 ∷ 1 ∷ []
served_are = refl

-- owed from the ACT to the first column, or to a precharge
owed_is : owed 1 (places (at 30 (Act (bank 1) 0) None ∷ [])) ≡ true
owed_is = refl

paid_is : owed 1 (places one_served) ≡ false
paid_is = refl

closed_is : owed 1 (places (at 40 PreAb None ∷ at 30 (Act (bank 1) 0) None ∷ [])) ≡ false
closed_is = refl

-- a barrier behind the second request
barrier_is : numbers (window header (read 0 ∷ write 8 ∷ []) []) ≡ 1 ∷ 2 ∷ []
barrier_is = refl

-- of 40 requests the first 32
full_window : length (window header (replicate 40 (read 0)) []) ≡ 32
full_window = refl

-- of 70 requests, of which the first and those from the 60th on are unserved, those up to the 64th
abbrev served_from : ℕ → List ℕ → List Step
served_from n [] = []
served_from n (x ∷ xs) = at n (Rd (bank 0) 0) (Some n) ∷ served_from (n + 1) xs

near_window : numbers (window header (replicate 70 (read 0)) (served_from 2 (replicate 58 0))) ≡ 1 ∷ 60 ∷ 61 ∷ 62 ∷ 63 ∷ 64 ∷ []
near_window = refl

never_nop : IsChosen header [] [] 0 Nop None ≡ ⊥
never_nop = refl
