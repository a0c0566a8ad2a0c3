-- Which requests are served: each once, by a column of its kind and line, and those of one line in their order.
use Rattle.std.specs.Prelude.{ℕ, ◌-◌, ◌≤◌, ◌==◌, ◌≡◌, nat_lt, false, ◌&&◌, Option, Some, None, List, [], ◌∷◌, ◌++◌, filter, length, slice_get, ⊤}
use Rattle.command_words.specs.Command.{bank_number}
use Rattle.command_words.specs.Place.{line_of}
use Rattle.command_words.specs.declared.place.Bank.{Bank}
use Rattle.command_words.specs.declared.command.Command.{Command}
use Rattle.command_words.specs.declared.command.Command.TheVariants.{Rd, Wr}
use Rattle.speed_bin.specs.Log.{open_at}
use Rattle.speed_bin.specs.declared.header.Header.{Header}
use Rattle.requests.specs.declared.request.Kind.{Kind}
use Rattle.requests.specs.declared.request.Kind.TheVariants.{Read, Write}
use Rattle.requests.specs.declared.request.Request.{Request}
use Rattle.requests.specs.declared.waiting.Waiting.{Waiting}
use Rattle.requests.specs.Queue.{Step, places, numbered, waiting, is_served, is_of_line}
use Rattle.speed_bin.specs.Header.{shape_of}

-- the request under the number, if there is a number and such a request
abbrev pub named : Option ℕ → List Waiting → List Waiting
named None ws = []
named (Some n) ws = filter (λ w. w.id == n) ws

-- the requests that the places serve, in the order of the places
abbrev pub served : Header → List Request → List Step → List Waiting
served h offered [] = []
served h offered (step ∷ log) = served h offered log ++ named step.id (numbered h 1 offered)

-- of each line, the served requests in order and then the waiting ones are the offered ones
abbrev pub IsInOrder : Header → List Request → List Step → Type 0
IsInOrder h offered log = (line : ℕ) → filter (is_of_line line) (served h offered log) ++ filter (is_of_line line) (waiting h offered log) ≡ filter (is_of_line line) (numbered h 1 offered)

-- no two places serve the same number
abbrev pub AreServedOnce : List Step → Type 0
AreServedOnce [] = ⊤
AreServedOnce (step ∷ log) = AreServedOnce log × ((n : ℕ) → step.id ≡ Some n → is_served n log ≡ false)

-- the requests of the line that were offered before the one with this number
abbrev pub earlier : Header → List Request → ℕ → ℕ → List Waiting
earlier h offered line number = filter (λ w. is_of_line line w && nat_lt w.id number) (numbered h 1 offered)

-- a column of this kind, bank and column serves the request with this number: the request is of that kind, its line
-- lies there in the open row, and of that line the log has served exactly the requests before it
pub record Serves (h : Header) (offered : List Request) (log : List Step) (kind : Kind) (bank : Bank) (column : ℕ) (id : Option ℕ) : Type 0 where
  pub number : ℕ
  pub is_id : id ≡ Some number
  pub from : 1 ≤ number
  pub upto : number ≤ length offered
  pub request : Request
  pub offers : slice_get offered (number - 1) ≡ Some request
  pub kind_is : request.kind ≡ kind
  pub row : ℕ
  pub is_open : open_at (bank_number bank) (places log) ≡ Some row
  pub line_is : line_of (record { bank = bank; row = row; column = column }) (shape_of h) ≡ request.line
  pub next : filter (is_of_line request.line) (served h offered log) ≡ earlier h offered request.line number

-- a column serves a request, and no other command serves one
abbrev pub IsServing : Header → List Request → List Step → Command → Option ℕ → Type 0
IsServing h offered log (Rd bank column) id = Serves h offered log Read bank column id
IsServing h offered log (Wr bank column) id = Serves h offered log Write bank column id
IsServing h offered log _ id = id ≡ None

-- that of each place of the log
abbrev pub AllServing : Header → List Request → List Step → Type 0
AllServing h offered [] = ⊤
AllServing h offered (step ∷ log) = AllServing h offered log × IsServing h offered log step.issued.command step.id
