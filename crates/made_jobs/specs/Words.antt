-- The words SEED and REQUESTS.
use Rattle.std.specs.Prelude.{ℕ, nat_le, if◌then◌else◌, List, [], ◌∷◌, Some, None, Result, Ok, Err}
use Rattle.std.specs.declared.option.Option.{Option}
use Rattle.ddr_text.specs.Grammar.{number_of}
use Rattle.ddr_text.specs.declared.lines.LineFault.{LineFault}

abbrev pub both : Result ℕ LineFault → Result ℕ LineFault → Option (ℕ × ℕ)
both (Ok seed) (Ok requests) = if nat_le requests 1048576 then Some (seed, requests) else None
both (Ok seed) (Err fault) = None
both (Err fault) requests = None

-- two numbers, the requests at most 1,048,576
abbrev pub numbers_of : List ℕ → List ℕ → Option (ℕ × ℕ)
numbers_of seed requests = both (number_of seed) (number_of requests)

-- the numbers of the words, which are to be two
unfoldable pub seed_and_requests : List (List ℕ) → Option (ℕ × ℕ)
seed_and_requests [] = None
seed_and_requests (seed ∷ []) = None
seed_and_requests (seed ∷ requests ∷ []) = numbers_of seed requests
seed_and_requests (seed ∷ requests ∷ word ∷ more) = None
