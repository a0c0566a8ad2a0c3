-- What is answered of a merged job that is replayed.
use Rattle.std.proofs.Common.{◌≡◌, ◌≢◌, ℕ, ◌<◌, ◌≤◌, inl, inr, Option, Some, None, List, [], ◌∷◌, ◌++◌, length, refl, sym, ap, ◌∙◌, subst}
use Rattle.std.specs.Io.KnownBytes.{Appends}
use Rattle.command_words.specs.Geometry.{Shape}
use Rattle.ddr_io.specs.declared.status.Status.{Status}
use Rattle.ddr_io.specs.declared.status.Status.TheVariants as status
use Rattle.ddr_text.specs.Io.{io}
use Rattle.ddr_text.specs.Opening.{Accepts, Opens, Refuses, opening_of}
use Rattle.ddr_text.specs.Outcome.{Outcome, RefusesLine, refused_opening}
use Rattle.ddr_text.specs.declared.lines.TraceLine.{TraceLine}
use Rattle.reports.specs.Requests.{Request, requests}
use Rattle.reports.specs.Runs.{Run}
use Rattle.reports.specs.Sound.{IsRun}
use Rattle.speed_bin.specs.Header.{shape_of}
use Rattle.speed_bin.specs.declared.header.Header.{Header}
use Rattle.trace_replay.specs.Job.{IsJobOf, Traced, trace_of}
use Rattle.trace_replay.specs.Replay.{Answers, JobAnswers, PartAnswers, Reports, StopAnswers}
use Rattle.reports.specs.Ages.{IsCapped, overtaking}
use Rattle.fair_queue.specs.Answering.{IsMerged, ReadsInput, RefusalAnswers, merged, merged_in}
use Rattle.fair_queue.specs.Merged.{merged_behind}
use Rattle.fair_queue.specs.Serving.{IsMergedJob, IsPortsJob, IsUnmerged, KeepsAges, PortsAnswers, Serves}

-- the laws that this rests on
pub record Laws : Type 0 where
  pub capped : (g : Shape) (cap : ℕ) (bytes : List ℕ) → 1 ≤ cap → IsCapped cap (trace_of g (merged_behind cap bytes)).lines
  pub opens : (h : Header) (job text rest more : List ℕ) → opening_of job ≡ Accepts h text rest → opening_of (text ++ more) ≡ Accepts h text more
  pub ages : (h : Header) (trace : List TraceLine) (run : Run) (clock cap : ℕ) (earlier later : List Request) (r : Request)
      → IsRun h trace run clock → IsCapped cap trace → requests trace ≡ earlier ++ r ∷ later → length (overtaking trace run r) < cap

-- ---- The merged job

-- bytes open a job in one way
same-header : (h other : Header) (text own rest behind : List ℕ) → Accepts h text rest ≡ Accepts other own behind → h ≡ other
same-header h other text own rest behind same = cc

same-text : (h other : Header) (text own rest behind : List ℕ) → Accepts h text rest ≡ Accepts other own behind → text ≡ own
same-text h other text own rest behind same = cc

same-rest : (h other : Header) (text own rest behind : List ℕ) → Accepts h text rest ≡ Accepts other own behind → rest ≡ behind
same-rest h other text own rest behind same = cc

-- the text of a merge opens as its bytes did
opens-again : Laws → (cap : ℕ) (bytes : List ℕ) (o : Opens) → opening_of bytes ≡ o → (merged_in cap o).status ≡ status.Ok
    → (h : Header) × (text : List ℕ) × (rest : List ℕ) × (opening_of bytes ≡ Accepts h text rest) × (opening_of (merged_in cap o).text ≡ Accepts h text (merged_behind cap rest))
opens-again laws cap bytes (Accepts h text rest) is fine = (h, text, rest, is, laws.opens h bytes text rest (merged_behind cap rest) is)
opens-again laws cap bytes (Refuses reason) is fine = cc

job-known : Laws → (cap : ℕ) (bytes : List ℕ) (it : Outcome) (job : List ℕ) → merged cap bytes ≡ it → it.status ≡ status.Ok → job ≡ it.text → (h : Header) (text : List ℕ) (trace : List TraceLine) (refused : Option ℕ) → IsJobOf (Some job) h text trace refused
    → IsMergedJob cap bytes h text trace refused
job-known laws cap bytes it job is fine same h text trace refused (rest, opens, spells) =
    let (other, own, behind, at_first, again) = opens-again laws cap bytes (opening_of bytes) refl (ap (λ (k : Outcome). k.status) is ∙ fine) in
    let own_text : job ≡ (merged cap bytes).text = same ∙ ap (λ (k : Outcome). k.text) (sym is) in
    let both : Accepts h text rest ≡ Accepts other own (merged_behind cap behind) = sym opens ∙ ap opening_of own_text ∙ again in
    let header = same-header h other text own rest (merged_behind cap behind) both in
    let opening = same-text h other text own rest (merged_behind cap behind) both in (
      behind,
      at_first ∙ ap (λ (k : Header). Accepts k own behind) (sym header) ∙ ap (λ t. Accepts h t behind) (sym opening),
      ap (trace_of (shape_of h)) (sym (same-rest h other text own rest (merged_behind cap behind) both)) ∙ spells,
    )

job-of : Laws → (cap : ℕ) (old : Option (List ℕ)) (it : Outcome) (job : List ℕ) → IsMerged cap old it → it.status ≡ status.Ok → job ≡ it.text → (h : Header) (text : List ℕ) (trace : List TraceLine) (refused : Option ℕ) → IsJobOf (Some job) h text trace refused
    → IsPortsJob cap old h text trace refused
job-of laws cap None it job (inl (bytes, is)) fine same h text trace refused j = (bytes, tt, job-known laws cap bytes it job is fine same h text trace refused j)
job-of laws cap None it job (inr (reason, is)) fine same h text trace refused j = absurd (let f : status.Refused ≡ status.Ok = ap (λ (k : Outcome). k.status) (sym is) ∙ fine in cc)
job-of laws cap (Some bytes) it job is fine same h text trace refused j = (bytes, refl, job-known laws cap bytes it job is fine same h text trace refused j)

-- its opening is not refused
none-refused : Laws → (cap : ℕ) (old : Option (List ℕ)) (it : Outcome) (job : List ℕ) → IsMerged cap old it → it.status ≡ status.Ok → job ≡ it.text → (reason : ℕ) → opening_of job ≡ Refuses reason → IsUnmerged old reason
none-refused laws cap None it job is fine same reason e = tt
none-refused laws cap (Some bytes) it job is fine same reason e =
    let (other, own, behind, at_first, again) = opens-again laws cap bytes (opening_of bytes) refl (ap (λ (k : Outcome). k.status) is ∙ fine) in
    let own_text : job ≡ (merged cap bytes).text = same ∙ ap (λ (k : Outcome). k.text) (sym is) in
    let both : Refuses reason ≡ Accepts other own (merged_behind cap behind) = sym e ∙ ap opening_of own_text ∙ again in cc

-- ---- The ages

keeps-ages : Laws → (cap : ℕ) → 1 ≤ cap → (rest : List ℕ) (h : Header) (trace : List TraceLine) (refused : Option ℕ) (run : Run) (clock : ℕ) → trace_of (shape_of h) (merged_behind cap rest) ≡ record { lines = trace; refused = refused } → IsRun h trace run clock
    → KeepsAges cap trace run
keeps-ages laws cap one rest h trace refused run clock spells is = λ earlier later r e.
    laws.ages h trace run clock cap earlier later r is
    (subst (IsCapped cap) (ap (λ (t : Traced). t.lines) spells) (laws.capped (shape_of h) cap rest one))
    e

serves-of : Laws → (cap : ℕ) → 1 ≤ cap → (old : Option (List ℕ)) (h : Header) (text : List ℕ) (trace : List TraceLine) (refused : Option ℕ) (before after : Option (List ℕ)) → IsPortsJob cap old h text trace refused → Reports h text trace refused before after
    → Serves cap h text trace refused before after
serves-of laws cap one old h text trace refused before after (bytes, tells, job) r = record {
  run = r.run;
  clock = r.clock;
  is_run = r.is_run;
  promises = r.promises;
  ages = keeps-ages laws cap one job.0 h trace refused r.run r.clock job.2 r.is_run;
  wrote = r.wrote;
}

-- ---- The answer

of-job : Laws → (cap : ℕ) → 1 ≤ cap → (answer : Status) (old new : Option (List ℕ)) (h : Header) (text : List ℕ) (trace : List TraceLine) (refused : Option ℕ) (left left_after before after : Option (List ℕ)) → ReadsInput cap old new → IsPortsJob cap old h text trace refused
    → JobAnswers answer h text trace refused left left_after before after → PortsAnswers cap answer (io old new before after)
of-job laws cap one status.Ok old new h text trace None left left_after before after read j (none, used, r) = ((h, text, trace, j, serves-of laws cap one old h text trace None before after j r), read)
of-job laws cap one status.Ok old new h text trace (Some reason) left left_after before after read j (none, used, r) = cc
of-job laws cap one status.Refused old new h text trace refused left left_after before after read j (some, r) = inl ((h, text, trace, refused, j, some, serves-of laws cap one old h text trace refused before after j r), read)
of-job laws cap one status.WriteFault old new h text trace refused left left_after before after read j s = inl (h, text, trace, refused, j, s)
of-job laws cap one status.OutOfMemory old new h text trace refused left left_after before after read j s = inl (h, text, trace, refused, j, s)
of-job laws cap one status.ReadFault old new h text trace refused left left_after before after read j s = absurd s
of-job laws cap one status.Usage old new h text trace refused left left_after before after read j s = absurd s
of-job laws cap one status.Broken old new h text trace refused left left_after before after read j s = absurd s

of-part : (cap : ℕ) (answer : Status) (old new : Option (List ℕ)) (h : Header) (text : List ℕ) (trace : List TraceLine) (before after : Option (List ℕ)) → answer ≢ status.ReadFault → PartAnswers answer h text trace before after → PortsAnswers cap answer (io old new before after)
of-part cap status.ReadFault old new h text trace before after other p = absurd (other refl)
of-part cap status.Ok old new h text trace before after other p = absurd p
of-part cap status.Refused old new h text trace before after other p = absurd p
of-part cap status.WriteFault old new h text trace before after other p = absurd p
of-part cap status.OutOfMemory old new h text trace before after other p = absurd p
of-part cap status.Usage old new h text trace before after other p = absurd p
of-part cap status.Broken old new h text trace before after other p = absurd p

of-opening : (cap : ℕ) (answer : Status) (old new : Option (List ℕ)) (reason : ℕ) (before after : Option (List ℕ)) → IsUnmerged old reason → RefusesLine answer 0 reason before after → PortsAnswers cap answer (io old new before after)
of-opening cap status.Refused old new reason before after u o = inr (reason, u, o)
of-opening cap status.WriteFault old new reason before after u o = inr (reason, u, o)
of-opening cap status.OutOfMemory old new reason before after u o = inr (inl (reason, u, o))
of-opening cap status.Ok old new reason before after u o = absurd o
of-opening cap status.ReadFault old new reason before after u o = absurd o
of-opening cap status.Usage old new reason before after u o = absurd o
of-opening cap status.Broken old new reason before after u o = absurd o

of-stop : (cap : ℕ) (answer : Status) (old new left left_after before after : Option (List ℕ)) → answer ≢ status.ReadFault → StopAnswers answer left left_after before after → PortsAnswers cap answer (io old new before after)
of-stop cap status.ReadFault old new left left_after before after other s = absurd (other refl)
of-stop cap status.OutOfMemory old new left left_after before after other s = inr (inr s)
of-stop cap status.Ok old new left left_after before after other s = absurd s
of-stop cap status.Refused old new left left_after before after other s = absurd s
of-stop cap status.WriteFault old new left left_after before after other s = absurd s
of-stop cap status.Usage old new left left_after before after other s = absurd s
of-stop cap status.Broken old new left left_after before after other s = absurd s

served-of : Laws → (cap : ℕ) → 1 ≤ cap → (answer : Status) (old new : Option (List ℕ)) (it : Outcome) (job : List ℕ) (left before after : Option (List ℕ)) → IsMerged cap old it → it.status ≡ status.Ok → job ≡ it.text → ReadsInput cap old new → answer ≢ status.ReadFault
    → Answers answer (io (Some job) left before after) → PortsAnswers cap answer (io old new before after)
served-of laws cap one answer old new it job left before after is fine same read other (inl (h, text, trace, refused, j, inside, a)) =
    of-job laws cap one answer old new h text trace refused (Some job) left before after read (job-of laws cap old it job is fine same h text trace refused j) a
served-of laws cap one answer old new it job left before after is fine same read other (inr (inl (h, text, trace, j, inside, a))) = of-part cap answer old new h text trace before after other a
served-of laws cap one answer old new it job left before after is fine same read other (inr (inr (inl (reason, j, a)))) = of-opening cap answer old new reason before after (none-refused laws cap old it job is fine same reason j) a
served-of laws cap one answer old new it job left before after is fine same read other (inr (inr (inr s))) = of-stop cap answer old new (Some job) left before after other s

-- the answer of a replay of what a merge wrote
pub served : Laws → (cap : ℕ) → 1 ≤ cap → (answer : Status) (old new : Option (List ℕ)) (first job other : List ℕ) (before after : Option (List ℕ)) → first ≡ [] → other ≡ job → (((it : Outcome) × IsMerged cap old it × (status.Ok ≡ it.status) × Appends (Some first) (Some job) it.text) × ReadsInput cap old new)
    → answer ≢ status.ReadFault → ((left : Option (List ℕ)) × Answers answer (io (Some other) left before after)) → PortsAnswers cap answer (io old new before after)
served laws cap one answer old new first job other before after begun same ((it, is, fine, wrote), read) none (left, a) =
    served-of laws cap one answer old new it other left before after is (sym fine) (same ∙ wrote ∙ ap (λ l. l ++ it.text) begun) read none a

-- ---- The opening is refused

refused-known : (cap : ℕ) (bytes : List ℕ) (it : Outcome) → merged cap bytes ≡ it → it.status ≡ status.Refused → (reason : ℕ) × (opening_of bytes ≡ Refuses reason) × (it.text ≡ (refused_opening reason).text)
refused-known cap bytes it is e = go (opening_of bytes) refl (ap (λ (k : Outcome). k.status) is ∙ e) (ap (λ (k : Outcome). k.text) (sym is))
  where
    go : (o : Opens) → opening_of bytes ≡ o → (merged_in cap o).status ≡ status.Refused → it.text ≡ (merged_in cap o).text → (reason : ℕ) × (opening_of bytes ≡ Refuses reason) × (it.text ≡ (refused_opening reason).text)
    go (Accepts h text rest) is e same = cc
    go (Refuses reason) is e same = (reason, is, same)

refused-of : (cap : ℕ) (old : Option (List ℕ)) (it : Outcome) → IsMerged cap old it → it.status ≡ status.Refused → (reason : ℕ) × IsUnmerged old reason × (it.text ≡ (refused_opening reason).text)
refused-of cap None it (inl (bytes, is)) e = let r = refused-known cap bytes it is e in (r.0, tt, r.2)
refused-of cap None it (inr (reason, is)) e = (reason, tt, ap (λ (k : Outcome). k.text) is)
refused-of cap (Some bytes) it is e = refused-known cap bytes it is e

of-refusal : (cap : ℕ) (answer : Status) (old new : Option (List ℕ)) (reason : ℕ) (before after : Option (List ℕ)) → IsUnmerged old reason → RefusalAnswers answer (refused_opening reason).text before after → PortsAnswers cap answer (io old new before after)
of-refusal cap status.Refused old new reason before after u o = inr (reason, u, o)
of-refusal cap status.WriteFault old new reason before after u o = inr (reason, u, o)
of-refusal cap status.OutOfMemory old new reason before after u o = inr (inl (reason, u, o))
of-refusal cap status.Ok old new reason before after u o = absurd o
of-refusal cap status.ReadFault old new reason before after u o = absurd o
of-refusal cap status.Usage old new reason before after u o = absurd o
of-refusal cap status.Broken old new reason before after u o = absurd o

-- the answer where a merge wrote an X line
pub refused : (cap : ℕ) (answer : Status) (old new : Option (List ℕ)) (first job line : List ℕ) (before after : Option (List ℕ)) → first ≡ [] → line ≡ job → ((it : Outcome) × IsMerged cap old it × (status.Refused ≡ it.status) × Appends (Some first) (Some job) it.text)
    → RefusalAnswers answer line before after → PortsAnswers cap answer (io old new before after)
refused cap answer old new first job line before after begun same (it, is, fine, wrote) a =
    let (reason, u, text) = refused-of cap old it is (sym fine) in
    of-refusal cap answer old new reason before after u (subst (λ l. RefusalAnswers answer l before after) (same ∙ wrote ∙ ap (λ l. l ++ it.text) begun ∙ text) a)
