-- What a merge has written of the text of its input.
use Rattle.std.specs.Prelude.{ℕ, ◌≡◌, ◌≤◌, ◌<◌, ◌+◌, ◌⊎◌, ⊤, true, List, [], ◌++◌, length, Some, None}
use Rattle.std.specs.declared.option.Option.{Option}
use Rattle.std.specs.Io.KnownBytes.{Appends, Consumes}
use Rattle.ddr_io.specs.Faults.{Rose}
use Rattle.ddr_io.specs.Sink.{AppendsPrefix}
use Rattle.fair_queue.specs.Arrivals.{AreInside, input_of}
use Rattle.fair_queue.specs.Machine.{Queued, in_queues}
use Rattle.fair_queue.specs.Merged.{merged_behind, text_from}
use Rattle.fair_queue.specs.Reading.{Place, Advances, left_in, waiting}
use Rattle.fair_queue.specs.declared.port_lines.Ahead.TheVariants.{Unknown}
use Rattle.ddr_text.specs.declared.stop.Stop.{Stop}
use Rattle.ddr_text.specs.declared.stop.Stop.TheVariants.{ReadFault, WriteFault, OutOfMemory}

-- these are the bytes of a source, if it tells them
abbrev pub Tells : Option (List ℕ) → List ℕ → Type 0
Tells None bytes = ⊤
Tells (Some told) bytes = told ≡ bytes

-- the merged lines of the bytes behind an opening were written; of some bytes, where the source does not tell them
abbrev pub Merges : ℕ → Option (List ℕ) → Option (List ℕ) → Option (List ℕ) → Type 0
Merges cap start before after = (bytes : List ℕ) × Tells start bytes × Appends before after (merged_behind cap bytes)

-- a prefix of them was
abbrev pub BeginsToMerge : ℕ → Option (List ℕ) → Option (List ℕ) → Option (List ℕ) → Type 0
BeginsToMerge cap start before after = (bytes : List ℕ) × Tells start bytes × AppendsPrefix before after (merged_behind cap bytes)

-- known bytes behind an opening were read to their end, or to their first bad line: then those that were taken decide what
-- is merged, whatever follows them
abbrev pub ReadsEnough : ℕ → Option (List ℕ) → Option (List ℕ) → Type 0
ReadsEnough cap None left = ⊤
ReadsEnough cap (Some bytes) left =
    (left ≡ Some [])
    ⊎ (((input_of bytes).is_bad ≡ true) × (taken : List ℕ) × Consumes (Some bytes) left taken × ((more : List ℕ) → merged_behind cap (taken ++ more) ≡ merged_behind cap bytes))

-- the cause of a stop, by the counts of faults: a fault of the source and none of the sink, one of the sink and none of the
-- source, or want of memory and no fault
abbrev pub StopCause : ℕ → ℕ → ℕ → ℕ → Stop → Type 0
StopCause read read_after wrote wrote_after ReadFault = Rose read read_after × (wrote_after ≡ wrote)
StopCause read read_after wrote wrote_after WriteFault = Rose wrote wrote_after × (read_after ≡ read)
StopCause read read_after wrote wrote_after OutOfMemory = (read_after ≡ read) × (wrote_after ≡ wrote)

-- ---- Between two rounds

-- of the merged lines of the bytes this text is the first part, and what the queues and the rest still give is the other
pub record Gives (cap count : ℕ) (bytes rest : List ℕ) (queued : Queued) (it : Place) (text : List ℕ) : Type 0 where
  pub whole : merged_behind cap bytes ≡ text ++ text_from cap count queued (left_in it rest)
  pub inside : AreInside (left_in it rest).lines
  pub bad : (input_of bytes).is_bad ≡ (left_in it rest).is_bad

-- the same, of the bytes at first and those that are left
abbrev pub GivesFrom : ℕ → ℕ → Queued → Place → List ℕ → List ℕ → List ℕ → Type 0
GivesFrom cap count queued it text bytes rest = Gives cap count bytes rest queued it text

abbrev pub GivesAll : ℕ → ℕ → Option (List ℕ) → Option (List ℕ) → Queued → Place → List ℕ → Type 0
GivesAll cap count start now queued it text = Advances Unknown it.ahead start now (GivesFrom cap count queued it text)

-- this much was written
pub record HasMerged (cap count : ℕ) (start now : Option (List ℕ)) (queued : Queued) (it : Place) (before after : Option (List ℕ)) : Type 0 where
  pub text : List ℕ
  pub wrote : Appends before after text
  pub gives : GivesAll cap count start now queued it text

-- what holds between two rounds besides: four queues, and no more requests were written than lines were read
pub record IsSettled (count : ℕ) (queued : Queued) (it : Place) : Type 0 where
  pub four : length queued.queues ≡ 4
  pub turn : queued.turn < 4
  pub few : count + (waiting it.ahead + in_queues queued) < it.number
  pub most : it.number ≤ 1048577
