-- Answers by what is written piece after piece.
use Rattle.std.proofs.Common.{◌≡◌, ◌≢◌, ℕ, Option, Some, None, List, [], ◌∷◌, ◌++◌, refl, ap, subst}
use Rattle.std.specs.Io.KnownBytes.{Appends}
use Rattle.std.proofs.KnownBytes.{Appends-trans}
use Rattle.ddr_io.specs.Faults.{Rose}
use Rattle.ddr_io.specs.Line.{next_bytes}
use Rattle.ddr_io.specs.Reading.{Reading}
use Rattle.ddr_io.specs.Sink.{AppendsPrefix}
use Rattle.ddr_io.specs.declared.line_reader.Line.TheVariants.{Text}
use Rattle.ddr_io.specs.declared.status.Status.{Status}
use Rattle.ddr_io.specs.declared.status.Status.TheVariants as status
use Rattle.speed_bin.specs.declared.header.Header.{Header}
use Rattle.ddr_text.specs.Io.{io}
use Rattle.ddr_text.specs.Opening.{IsOpening}
use Rattle.ddr_text.specs.Outcome.{AnswersAs, BeginsAs, Outcome, ReadsAll, RefusesLine, refused_opening}
use Rattle.ddr_text.specs.Spelling.{spelled}
use Rattle.ddr_text.specs.Stop.{WriteCause, status_of}
use Rattle.ddr_text.specs.declared.lines.ReportLine.TheVariants.{Refused}
use Rattle.ddr_text.specs.declared.opening.Opening.{Opening}
use Rattle.ddr_text.specs.declared.opening.Opening.TheVariants.{Accepted}
use Rattle.ddr_text.specs.declared.stop.Stop.{Stop}
use Rattle.ddr_text.specs.declared.stop.Stop.TheVariants.{ReadFault, WriteFault, OutOfMemory}
use Rattle.ddr_text.proofs.Prefixes.{no-prefix, prefix-behind}

-- ---- The cause of a write that stopped

-- the source's fault is no fault of the sink
pub stop-no_read : (stop : Stop) (faults later : ℕ) → WriteCause faults later stop → status_of stop ≡ status.ReadFault → ⊥
stop-no_read ReadFault faults later cause e = absurd cause
stop-no_read WriteFault faults later cause e = cc
stop-no_read OutOfMemory faults later cause e = cc

pub stop-rose : (stop : Stop) (faults later : ℕ) → WriteCause faults later stop → status_of stop ≡ status.WriteFault → Rose faults later
stop-rose ReadFault faults later cause e = absurd cause
stop-rose WriteFault faults later cause e = cause
stop-rose OutOfMemory faults later cause e = absurd cc

pub stop-kept : (stop : Stop) (faults later : ℕ) → WriteCause faults later stop → status_of stop ≢ status.WriteFault → later ≡ faults
stop-kept ReadFault faults later cause other = absurd cause
stop-kept WriteFault faults later cause other = absurd (other refl)
stop-kept OutOfMemory faults later cause other = cause

pub stop-no_usage : (stop : Stop) → status_of stop ≡ status.Usage → ⊥
stop-no_usage ReadFault e = cc
stop-no_usage WriteFault e = cc
stop-no_usage OutOfMemory e = cc

pub stop-no_broken : (stop : Stop) → status_of stop ≡ status.Broken → ⊥
stop-no_broken ReadFault e = cc
stop-no_broken WriteFault e = cc
stop-no_broken OutOfMemory e = cc

-- a count that rose later rose
pub rose-later : (before middle after : ℕ) → middle ≡ before → Rose middle after → Rose before after
rose-later before middle after same rose = subst (λ n. Rose n after) same rose

-- ---- Refusals

pub refuses-cut : (stop : Stop) (faults later number reason : ℕ) (before after : Option (List ℕ)) → WriteCause faults later stop → AppendsPrefix before after (spelled (Refused number reason)) → RefusesLine (status_of stop) number reason before after
refuses-cut ReadFault faults later number reason before after cause cut = absurd cause
refuses-cut WriteFault faults later number reason before after cause cut = cut
refuses-cut OutOfMemory faults later number reason before after cause cut = cut

pub refuses-no_read : (answer : Status) (number reason : ℕ) (before after : Option (List ℕ)) → RefusesLine answer number reason before after → answer ≡ status.ReadFault → ⊥
refuses-no_read answer number reason before after refuses e = subst (λ (s : Status). RefusesLine s number reason before after) e refuses

-- ---- Answers

-- these bytes were written in front of what is answered
pub answers-behind : (Is Other : Outcome → Type 0) (front : List ℕ) (answer : Status) (old mid new before middle after : Option (List ℕ)) → Appends before middle front
    → ((s : Outcome) → Is s → Other (record { text = front ++ s.text; status = s.status })) → (ReadsAll mid new → ReadsAll old new) → AnswersAs Is answer (io mid new middle after) → AnswersAs Other answer (io old new before after)
answers-behind Is Other front status.Ok old mid new before middle after h same all ((s, is, answered, wrote), reads) =
    ((record { text = front ++ s.text; status = s.status }, same s is, answered, Appends-trans before middle after front s.text h wrote), all reads)
answers-behind Is Other front status.Refused old mid new before middle after h same all (s, is, answered, wrote) =
    (record { text = front ++ s.text; status = s.status }, same s is, answered, Appends-trans before middle after front s.text h wrote)
answers-behind Is Other front status.Broken old mid new before middle after h same all (s, is, answered, wrote) =
    (record { text = front ++ s.text; status = s.status }, same s is, answered, Appends-trans before middle after front s.text h wrote)
answers-behind Is Other front status.ReadFault old mid new before middle after h same all (s, is, cut) = (record { text = front ++ s.text; status = s.status }, same s is, prefix-behind before middle after front s.text h cut)
answers-behind Is Other front status.WriteFault old mid new before middle after h same all (s, is, cut) = (record { text = front ++ s.text; status = s.status }, same s is, prefix-behind before middle after front s.text h cut)
answers-behind Is Other front status.OutOfMemory old mid new before middle after h same all (s, is, cut) = (record { text = front ++ s.text; status = s.status }, same s is, prefix-behind before middle after front s.text h cut)
answers-behind Is Other front status.Usage old mid new before middle after h same all answers = absurd answers

-- a write that stopped within what is answered
pub answers-cut : (Is : Outcome → Type 0) (s : Outcome) (stop : Stop) (faults later : ℕ) (old new before after : Option (List ℕ)) → Is s → AppendsPrefix before after s.text → WriteCause faults later stop → AnswersAs Is (status_of stop) (io old new before after)
answers-cut Is s ReadFault faults later old new before after is cut cause = absurd cause
answers-cut Is s WriteFault faults later old new before after is cut cause = (s, is, cut)
answers-cut Is s OutOfMemory faults later old new before after is cut cause = (s, is, cut)

-- the opening was refused
pub answers-refused : (Is : Outcome → Type 0) (answer : Status) (reason : ℕ) (old new before after : Option (List ℕ)) → Is (refused_opening reason) → RefusesLine answer 0 reason before after → AnswersAs Is answer (io old new before after)
answers-refused Is status.Refused reason old new before after is refuses = (refused_opening reason, is, refl, refuses)
answers-refused Is status.WriteFault reason old new before after is refuses = (refused_opening reason, is, refuses)
answers-refused Is status.OutOfMemory reason old new before after is refuses = (refused_opening reason, is, refuses)
answers-refused Is status.Ok reason old new before after is refuses = absurd refuses
answers-refused Is status.Usage reason old new before after is refuses = absurd refuses
answers-refused Is status.ReadFault reason old new before after is refuses = absurd refuses
answers-refused Is status.Broken reason old new before after is refuses = absurd refuses

-- nothing was written
pub answers-nothing : (Is : Outcome → Type 0) (s : Outcome) (before : Option (List ℕ)) → Is s → BeginsAs Is before before
answers-nothing Is s before is = (s, is, no-prefix before s.text)

-- the source is known behind an opening that is known
known_source : (held : List ℕ) (left : Option (List ℕ)) (rest : List ℕ) → next_bytes held left ≡ Some rest → (bytes : List ℕ) × (left ≡ Some bytes)
known_source held None rest e = absurd cc
known_source held (Some bytes) rest e = (bytes, refl)

reads_more : (old mid new : Option (List ℕ)) (bytes : List ℕ) → mid ≡ Some bytes → ReadsAll mid new → ReadsAll old new
reads_more None mid new bytes e all = tt
reads_more (Some xs) None new bytes e all = absurd cc
reads_more (Some xs) (Some ys) new bytes e all = all

-- what was read to its end behind an opening was read to its end
pub reads-behind : (old mid new : Option (List ℕ)) (held rest : List ℕ) → next_bytes held mid ≡ Some rest → ReadsAll mid new → ReadsAll old new
reads-behind old mid new held rest left all = let k = known_source held mid rest left in reads_more old mid new k.0 k.1 all

-- ---- Openings

-- a reader that is new holds nothing
pub opened-at : (reader : Reading) (left mid : Option (List ℕ)) (opening other : Opening) → reader ≡ record { held = []; line = []; last = Text } → opening ≡ other → IsOpening (next_bytes reader.held left) mid opening → IsOpening (next_bytes [] left) mid other
opened-at reader left mid opening other first is opened = subst (λ (o : Opening). IsOpening (next_bytes [] left) mid o) is (subst (λ (r : Reading). IsOpening (next_bytes r.held left) mid opening) first opened)

pub reads-opened : (old mid new : Option (List ℕ)) (held : List ℕ) (h : Header) (text : List ℕ) → IsOpening (next_bytes [] old) (next_bytes held mid) (Accepted h text) → ReadsAll mid new → ReadsAll old new
reads-opened None mid new held h text opened all = tt
reads-opened (Some bytes) mid new held h text opened all = reads-behind (Some bytes) mid new held opened.0 opened.2 all

-- ---- The end

nothing_left : (held left : List ℕ) → held ++ left ≡ [] → left ≡ []
nothing_left [] left e = e
nothing_left (x ∷ held) left e = absurd cc

-- where no byte comes next, none is left
pub none-left : (held : List ℕ) (left : Option (List ℕ)) → next_bytes held left ≡ Some [] → left ≡ Some []
none-left held None e = absurd cc
none-left held (Some xs) e = let same : held ++ xs ≡ [] = cc in ap Some (nothing_left held xs same)
