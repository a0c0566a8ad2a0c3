-- What a controller keeps of its requests, from turn to turn.
use Rattle.std.specs.Prelude.{ℕ, ◌+◌, ◌-◌, ◌*◌, ◌<◌, ◌≤◌, ◌≡◌, Bool, true, false, List, length, slice_get, Some}
use Rattle.command_words.specs.Command.{bank_number}
use Rattle.command_words.specs.Geometry.{IsGroups}
use Rattle.command_words.specs.Place.{place_of, IsInside}
use Rattle.speed_bin.specs.Counts.{commands}
use Rattle.command_words.specs.Kinds.{is_act}
use Rattle.speed_bin.specs.Page.{keeps_page}
use Rattle.speed_bin.specs.declared.header.Header.{Header}
use Rattle.requests.specs.declared.request.Request.{Request}
use Rattle.requests.specs.declared.waiting.Waiting.{Waiting}
use Rattle.requests.specs.Queue.{Step, places, waiting, span, is_served, AreInside, AreKnown}
use Rattle.speed_bin.specs.Header.{shape_of}
use Rattle.requests.specs.Order.{IsInOrder, AreServedOnce, AllServing}
use Rattle.requests.specs.Owed.{Promised, is_column, owed_count}
use Rattle.requests.specs.Page.{IsPaged}

-- the queue stands for the offered requests and the log, where the banks that are excused may be closed for a task or
-- for good
pub record Requested (h : Header) (offered : List Request) (log : List Step) (queue : List Waiting) (excused : ℕ → Bool) : Type 0 where
  -- the header has 4 or 8 bank groups
  pub groups : IsGroups h.version.groups
  -- the queue has the requests that wait, at most 32, of the last 64
  pub waits : queue ≡ waiting h offered log
  pub few : length queue ≤ 32
  pub within : span (length offered) queue ≤ 64
  pub inside : AreInside h offered
  -- only what was offered is served, by columns alone, each request once, and those of one line in their order
  pub serving : AllServing h offered log
  pub known : AreKnown offered log
  pub once : AreServedOnce log
  pub in_order : IsInOrder h offered log
  pub counted : commands is_column (places log) + length queue ≡ length offered
  -- each ACT serves a request
  pub promised : Promised queue (places log)
  pub repaid : commands is_act (places log) ≤ commands is_column (places log) + owed_count (places log)
  -- the open page
  pub paged : IsPaged excused queue (places log)
  pub page : keeps_page (places log) ≡ true

-- a request of the queue: it was offered under its number, no place serves it, and its place is inside the subchannel
pub record IsQueued (h : Header) (offered : List Request) (log : List Step) (w : Waiting) : Type 0 where
  pub from : 1 ≤ w.id
  pub upto : w.id ≤ length offered
  pub offers : slice_get offered (w.id - 1) ≡ Some w.request
  pub unserved : is_served w.id log ≡ false
  pub placed : w.place ≡ place_of w.request.line (shape_of h)
  pub inside : IsInside w.place (shape_of h)
  pub bank : bank_number w.place.bank < 32
  pub own : bank_number w.place.bank < h.version.groups * 4
