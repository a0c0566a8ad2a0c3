-- Which requests a replay keeps, the oldest first: those from the first one on that is not served, as far as it goes. The
-- controller numbered them one after another.
use Rattle.std.specs.Prelude.{ℕ, ◌+◌, ◌-◌, ◌<◌, ◌≤◌, nat_le, Bool, true, false, if◌then◌else◌, Option, Some, None, List, [], ◌∷◌, length, drop, slice_get, slice_set}
use Rattle.trace_replay.specs.declared.request_buffer.HeldRequest.{HeldRequest}
use Rattle.trace_replay.specs.declared.request_buffer.Outcome.{Outcome}
use Rattle.trace_replay.specs.declared.request_buffer.Outcome.TheVariants.{Unserved, Wrote, Found}

-- the requests, and the number that the controller gave the first of them, or gives the next one where there is none
pub record Kept : Type 0 where
  pub first : ℕ
  pub items : List HeldRequest

-- the number that the controller gives the next one
abbrev pub next_of : Kept → ℕ
next_of kept = kept.first + length kept.items

-- the request with this number is kept
pub record Has (kept : Kept) (id : ℕ) : Type 0 where
  pub from : kept.first ≤ id
  pub upto : id < next_of kept

-- the request with this number
abbrev pub request_at : Kept → ℕ → Option HeldRequest
request_at kept id = if nat_le kept.first id then slice_get kept.items (id - kept.first) else None

-- the request, once this came of it
abbrev pub with_outcome : HeldRequest → Outcome → HeldRequest
with_outcome held outcome = record held { outcome = outcome }

-- this one in the place of the request with this number
abbrev pub replaced : Kept → ℕ → HeldRequest → Kept
replaced kept id held = record { first = kept.first; items = slice_set kept.items (id - kept.first) held }

-- a command served it
abbrev pub has_ended : Outcome → Bool
has_ended Unserved = false
has_ended Wrote = true
has_ended (Found line) = true

-- the first request, if a command served it
abbrev pub first_served : List HeldRequest → Option HeldRequest
first_served [] = None
first_served (held ∷ rest) = if has_ended held.outcome then Some held else None

-- without the first request
abbrev pub without_first : Kept → Kept
without_first kept = record { first = kept.first + 1; items = drop 1 kept.items }
