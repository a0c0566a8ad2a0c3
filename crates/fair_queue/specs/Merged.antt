-- What a merge writes.
use Rattle.std.specs.Prelude.{ℕ, suc, ◌%◌, ◌==◌, ◌&&◌, ◌||◌, not, Bool, true, false, if◌then◌else◌, List, [], ◌∷◌, ◌++◌, codes, map}
use Rattle.std.specs.List.{flat_map}
use Rattle.ddr_text.specs.Opening.{with_feed}
use Rattle.fair_queue.specs.Arrivals.{Input, input_of}
use Rattle.fair_queue.specs.Machine.{Queued, Round, all_rounds, empty}

-- a rest that begins with R or W counts as a request
abbrev pub is_request : List ℕ → Bool
is_request [] = false
is_request (byte ∷ bytes) = byte == 82 || byte == 87

abbrev pub one_more : Bool → ℕ → ℕ
one_more true count = suc count
one_more false count = count

-- a barrier stands before a request where as many as a positive multiple of the cap were admitted before it
abbrev pub is_due : ℕ → ℕ → Bool
is_due cap count = not (count == 0) && count % cap == 0

abbrev pub barrier : List ℕ
barrier = codes "I 0"

abbrev pub barriers : ℕ → ℕ → List ℕ → List (List ℕ)
barriers cap count rest = if is_request rest && is_due cap count then barrier ∷ [] else []

-- the rests in their order, with the barriers, where so many requests were admitted before them
abbrev pub barred : ℕ → ℕ → List (List ℕ) → List (List ℕ)
barred cap count [] = []
barred cap count (rest ∷ rests) = barriers cap count rest ++ rest ∷ barred cap (one_more (is_request rest) count) rests

abbrev pub rests_of : List Round → List (List ℕ)
rests_of rounds = map (λ round. round.rest) rounds

-- an empty line ends the text where a line was bad
abbrev pub ending : Bool → List ℕ
ending true = with_feed []
ending false = []

-- the text of what these queues and this input still give, where so many requests were admitted before
abbrev pub text_from : ℕ → ℕ → Queued → Input → List ℕ
text_from cap count queued input = flat_map with_feed (barred cap count (rests_of (all_rounds queued input.lines))) ++ ending input.is_bad

-- the merged lines of the bytes behind an opening
abbrev pub merged_behind : ℕ → List ℕ → List ℕ
merged_behind cap bytes = text_from cap 0 empty (input_of bytes)
