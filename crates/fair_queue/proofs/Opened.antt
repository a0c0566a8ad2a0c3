-- The answer of a merge, by how its bytes open a job.
use Rattle.std.proofs.Common.{◌≡◌, ℕ, Option, Some, None, List, [], ◌++◌, Result, Ok, inl, inr, refl, sym, ap, ◌∙◌, subst}
use Rattle.std.specs.Io.KnownBytes.{Appends}
use Rattle.std.proofs.KnownBytes.{Appends-trans}
use Rattle.ddr_io.specs.Line.{next_bytes}
use Rattle.ddr_io.specs.Sink.{AppendsPrefix}
use Rattle.ddr_io.specs.declared.status.Status.{Status}
use Rattle.ddr_io.specs.declared.status.Status.TheVariants as status
use Rattle.ddr_text.specs.Io.{io}
use Rattle.ddr_text.specs.Opening.{Accepts, IsOpening, OpensAgain}
use Rattle.ddr_text.specs.declared.opening.Opening.{Opening}
use Rattle.ddr_text.specs.declared.opening.Opening.TheVariants.{Accepted, Refused, Failed}
use Rattle.speed_bin.specs.declared.header.Header.{Header}
use Rattle.ddr_text.specs.Outcome.{Outcome, RefusesLine, refused_opening}
use Rattle.fair_queue.specs.Answering.{BehindAnswers, JobBeginsToMerge, JobMerges, MergeAnswers, ReadsBehind, ReadsInput, IsMerged, merged, merged_in}
use Rattle.fair_queue.specs.Merged.{merged_behind}
use Rattle.fair_queue.specs.Merging.{Merges, BeginsToMerge, ReadsEnough, StopCause, Tells}
use Rattle.ddr_io.specs.Faults.{Rose}
use Rattle.ddr_text.specs.Stop.{ReadCause, WriteCause, status_of}
use Rattle.ddr_text.specs.declared.stop.Stop.{Stop}
use Rattle.ddr_text.specs.declared.stop.Stop.TheVariants.{ReadFault, WriteFault, OutOfMemory}
use Rattle.ddr_text.proofs.Prefixes.{prefix-behind, prefix-longer, no-prefix}

-- ---- The opening

pub opened-at : (opening other : Opening) (held : List ℕ) (left mid : Option (List ℕ)) → opening ≡ other → held ≡ [] → IsOpening (next_bytes held left) mid opening → IsOpening left mid other
opened-at opening other held left mid is none opened = go left (subst (λ (o : Opening). IsOpening (next_bytes [] left) mid o) is (subst (λ xs. IsOpening (next_bytes xs left) mid opening) none opened))
  where
    go : (left : Option (List ℕ)) → IsOpening (next_bytes [] left) mid other → IsOpening left mid other
    go None o = o
    go (Some bytes) o = o

-- it was read without a fault
pub accepted-read : {E : Type 0} (opening : Opening) (h : Header) (text : List ℕ) → opening ≡ Accepted h text → ◌≡◌ {A = Result Opening E} (Ok opening) (Ok Failed) → ⊥
accepted-read opening h text is e = let f : opening ≡ Failed = cc in let k : Accepted h text ≡ Failed = sym is ∙ f in cc

pub refused-read : {E : Type 0} (opening : Opening) (reason : ℕ) → opening ≡ Refused reason → ◌≡◌ {A = Result Opening E} (Ok opening) (Ok Failed) → ⊥
refused-read opening reason is e = let f : opening ≡ Failed = cc in let k : Refused reason ≡ Failed = sym is ∙ f in cc

-- ---- Behind the opening

pub job-merges : (cap : ℕ) (opening : List ℕ) (start before mid after : Option (List ℕ)) → Appends before mid opening → Merges cap start mid after → JobMerges cap opening start before after
job-merges cap opening start before mid after v (bytes, tells, w) = (bytes, tells, Appends-trans before mid after opening (merged_behind cap bytes) v w)

pub job-cut : (cap : ℕ) (opening : List ℕ) (start before mid after : Option (List ℕ)) → Appends before mid opening → BeginsToMerge cap start mid after → JobBeginsToMerge cap opening start before after
job-cut cap opening start before mid after v (bytes, tells, w) = (bytes, tells, prefix-behind before mid after opening (merged_behind cap bytes) v w)

-- the bytes that a source tells, or none
some-told : (start : Option (List ℕ)) → (bytes : List ℕ) × Tells start bytes
some-told None = ([], tt)
some-told (Some bytes) = (bytes, refl)

-- the opening itself was cut off
pub opening-cut : (cap : ℕ) (opening : List ℕ) (start before after : Option (List ℕ)) → AppendsPrefix before after opening → JobBeginsToMerge cap opening start before after
opening-cut cap opening start before after w =
    let told = some-told start in
    (told.0, told.1, prefix-longer before after opening (merged_behind cap told.0) w)

-- nothing was written
pub nothing-cut : (cap : ℕ) (opening : List ℕ) (start before : Option (List ℕ)) → JobBeginsToMerge cap opening start before before
nothing-cut cap opening start before =
    let told = some-told start in
    (told.0, told.1, no-prefix before (opening ++ merged_behind cap told.0))

-- ---- The whole

-- what is written behind an opening is the merge of the source's bytes, or of some bytes, where it does not tell them
is-merged : (cap : ℕ) (h : Header) (opening : List ℕ) (old next : Option (List ℕ)) (bytes : List ℕ) → IsOpening old next (Accepted h opening) → OpensAgain (Accepted h opening) → Tells next bytes
    → IsMerged cap old (record { text = opening ++ merged_behind cap bytes; status = status.Ok })
is-merged cap h opening None next bytes o again tells = inl (opening ++ bytes, ap (merged_in cap) (again bytes))
is-merged cap h opening (Some all) next bytes (rest, is, next_is) again tells =
    let same : rest ≡ bytes = subst (λ n. Tells n bytes) next_is tells in
    ap (merged_in cap) is ∙ ap (λ l. merged_in cap (Accepts h opening l)) same

reads-all : (cap : ℕ) (h : Header) (opening : List ℕ) (old next new : Option (List ℕ)) → IsOpening old next (Accepted h opening) → ReadsEnough cap next new → ReadsInput cap old new
reads-all cap h opening None next new o r = tt
reads-all cap h opening (Some all) next new (rest, is, next_is) r = subst (λ o. ReadsBehind cap o new) (sym is) (subst (λ n. ReadsEnough cap n new) next_is r)

whole-answer : (cap : ℕ) (h : Header) (opening : List ℕ) (old next new before after : Option (List ℕ)) → IsOpening old next (Accepted h opening) → OpensAgain (Accepted h opening) → JobMerges cap opening next before after → ReadsEnough cap next new → MergeAnswers cap status.Ok (io old new before after)
whole-answer cap h opening old next new before after o again (bytes, tells, w) r =
    ((record { text = opening ++ merged_behind cap bytes; status = status.Ok }, is-merged cap h opening old next bytes o again tells, refl, w), reads-all cap h opening old next new o r)

cut-answer : (cap : ℕ) (h : Header) (opening : List ℕ) (old next before after : Option (List ℕ)) → IsOpening old next (Accepted h opening) → OpensAgain (Accepted h opening) → JobBeginsToMerge cap opening next before after → (it : Outcome) × IsMerged cap old it × AppendsPrefix before after it.text
cut-answer cap h opening old next before after o again (bytes, tells, w) = (record { text = opening ++ merged_behind cap bytes; status = status.Ok }, is-merged cap h opening old next bytes o again tells, w)

pub accepted-answer : (cap : ℕ) (h : Header) (opening : List ℕ) (answer : Status) (old next new before after : Option (List ℕ)) → IsOpening old next (Accepted h opening) → OpensAgain (Accepted h opening) → BehindAnswers cap opening next answer new before after → MergeAnswers cap answer (io old new before after)
accepted-answer cap h opening status.Ok old next new before after o again b = whole-answer cap h opening old next new before after o again b.0 b.1
accepted-answer cap h opening status.ReadFault old next new before after o again b = cut-answer cap h opening old next before after o again b
accepted-answer cap h opening status.WriteFault old next new before after o again b = cut-answer cap h opening old next before after o again b
accepted-answer cap h opening status.OutOfMemory old next new before after o again b = cut-answer cap h opening old next before after o again b
accepted-answer cap h opening status.Refused old next new before after o again b = absurd b
accepted-answer cap h opening status.Broken old next new before after o again b = absurd b
accepted-answer cap h opening status.Usage old next new before after o again b = absurd b

-- what is written of a job whose opening is refused
refused-outcome : (cap reason : ℕ) (old next : Option (List ℕ)) → IsOpening old next (Refused reason) → IsMerged cap old (refused_opening reason)
refused-outcome cap reason None next o = inr (reason, refl)
refused-outcome cap reason (Some bytes) next o = ap (merged_in cap) o

pub refused-answer : (cap reason : ℕ) (answer : Status) (old next new before after : Option (List ℕ)) → IsOpening old next (Refused reason) → RefusesLine answer 0 reason before after → MergeAnswers cap answer (io old new before after)
refused-answer cap reason status.Refused old next new before after o w = (refused_opening reason, refused-outcome cap reason old next o, refl, w)
refused-answer cap reason status.WriteFault old next new before after o w = (refused_opening reason, refused-outcome cap reason old next o, w)
refused-answer cap reason status.OutOfMemory old next new before after o w = (refused_opening reason, refused-outcome cap reason old next o, w)
refused-answer cap reason status.Ok old next new before after o w = absurd w
refused-answer cap reason status.ReadFault old next new before after o w = absurd w
refused-answer cap reason status.Broken old next new before after o w = absurd w
refused-answer cap reason status.Usage old next new before after o w = absurd w

-- nothing was written
pub nothing-answer : (cap : ℕ) (old before : Option (List ℕ)) → (it : Outcome) × IsMerged cap old it × AppendsPrefix before before it.text
nothing-answer cap None before = (merged cap [], inl ([], refl), no-prefix before (merged cap []).text)
nothing-answer cap (Some bytes) before = (merged cap bytes, refl, no-prefix before (merged cap bytes).text)

-- ---- The counts of faults

pub read-cause : (stop : Stop) (before read read_after wrote wrote_after : ℕ) → read ≡ before → wrote_after ≡ wrote → ReadCause read read_after stop → StopCause before read_after wrote wrote_after stop
read-cause ReadFault before read read_after wrote wrote_after is same rose = (subst (λ n. Rose n read_after) is rose, same)
read-cause WriteFault before read read_after wrote wrote_after is same rose = absurd rose
read-cause OutOfMemory before read read_after wrote wrote_after is same kept = (kept ∙ is, same)

pub write-cause : (stop : Stop) (before wrote wrote_after read read_after : ℕ) → wrote ≡ before → read_after ≡ read → WriteCause wrote wrote_after stop → StopCause read read_after before wrote_after stop
write-cause ReadFault before wrote wrote_after read read_after is same rose = absurd rose
write-cause WriteFault before wrote wrote_after read read_after is same rose = (subst (λ n. Rose n wrote_after) is rose, same)
write-cause OutOfMemory before wrote wrote_after read read_after is same kept = (same, kept ∙ is)

pub stop-reads-kept : (stop : Stop) (answer : Status) (read read_after wrote wrote_after : ℕ) → answer ≡ status_of stop → StopCause read read_after wrote wrote_after stop → (answer ≡ status.ReadFault → ⊥) → read_after ≡ read
stop-reads-kept ReadFault answer read read_after wrote wrote_after is cause other = absurd (other is)
stop-reads-kept WriteFault answer read read_after wrote wrote_after is cause other = cause.1
stop-reads-kept OutOfMemory answer read read_after wrote wrote_after is cause other = cause.0

pub stop-writes-kept : (stop : Stop) (answer : Status) (read read_after wrote wrote_after : ℕ) → answer ≡ status_of stop → StopCause read read_after wrote wrote_after stop → (answer ≡ status.WriteFault → ⊥) → wrote_after ≡ wrote
stop-writes-kept ReadFault answer read read_after wrote wrote_after is cause other = cause.1
stop-writes-kept WriteFault answer read read_after wrote wrote_after is cause other = absurd (other is)
stop-writes-kept OutOfMemory answer read read_after wrote wrote_after is cause other = cause.1

pub write-stop-kept : (stop : Stop) (answer : Status) (wrote wrote_after : ℕ) → answer ≡ status_of stop → WriteCause wrote wrote_after stop → (answer ≡ status.WriteFault → ⊥) → wrote_after ≡ wrote
write-stop-kept ReadFault answer wrote wrote_after is cause other = absurd cause
write-stop-kept WriteFault answer wrote wrote_after is cause other = absurd (other is)
write-stop-kept OutOfMemory answer wrote wrote_after is cause other = cause
