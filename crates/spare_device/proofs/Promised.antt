-- What is promised of every script.
use Rattle.std.proofs.Common.{◌≡◌, ◌∙◌, ℕ, Option, Some, List, [], ◌∷◌, sym, ap, subst}
use Rattle.ddr_io.specs.declared.status.Status.{Status}
use Rattle.ddr_io.specs.declared.status.Status.TheVariants as status
use Rattle.ddr_text.specs.Io.{io}
use Rattle.ddr_text.specs.Opening.{Opens, Accepts, opening_of}
use Rattle.ddr_text.specs.Outcome.{AnswersAs, EndsAs, Outcome}
use Rattle.device_core.specs.Stored.{changes_of}
use Rattle.error_scrub.specs.Changes.{Change}
use Rattle.error_scrub.specs.Reading.{IsGood}
use Rattle.error_scrub.specs.Tame.{AreGiven, last_written}
use Rattle.speed_bin.specs.declared.header.Header.{Header}
use Rattle.device_exec.specs.Executed.{executed_in}
use Rattle.device_exec.specs.Promises.{AreAnswered, IsFlawless, IsUnblamed, JudgesInOrder}
use Rattle.device_exec.specs.Scripts.{Answered}
use Rattle.spare_device.specs.Promises.{AreRight}
use Rattle.spare_device.specs.Spare.{IsTameBut, spare_reading}
use Rattle.spare_device.specs.Spared.{IsSpared, five_devices, spared}

pub all_right : (dead : ℕ) (h : Header) (reads : List Answered) → ((dead : ℕ) (changes : List Change) (line : ℕ) → AreGiven changes → IsTameBut dead changes line → (spare_reading dead changes line).bytes ≡ last_written changes line)
    → ((dead : ℕ) (changes : List Change) (line : ℕ) → AreGiven changes → IsTameBut dead changes line → IsGood (spare_reading dead changes line).state) → AreAnswered h reads → AreRight dead h reads
all_right dead h [] bytes state a = tt
all_right dead h (read ∷ reads) bytes state a = (record { bytes = bytes dead (changes_of h read.steps) read.line a.0; state = state dead (changes_of h read.steps) read.line a.0 }, all_right dead h reads bytes state a.1)

-- a script with nothing to refuse and no broken rule is neither refused nor broken
pub unblamed : (dead : ℕ) (old new before after : Option (List ℕ)) (answer : Status) → ((h : Header) (rest : List ℕ) → JudgesInOrder (five_devices dead) h rest) → AnswersAs (IsSpared dead old) answer (io old new before after)
    → (bytes rest text : List ℕ) (h : Header) (clock : ℕ) → old ≡ Some bytes → opening_of bytes ≡ Accepts h text rest → IsFlawless (five_devices dead) h rest clock → IsUnblamed answer
unblamed dead old new before after answer law answers bytes rest text h clock is opens fine = (
  λ (e : answer ≡ status.Refused). never status.Refused (subst (λ (s : Status). AnswersAs (IsSpared dead old) s (io old new before after)) e answers) (λ f. cc),
  λ (e : answer ≡ status.Broken). never status.Broken (subst (λ (s : Status). AnswersAs (IsSpared dead old) s (io old new before after)) e answers) (λ f. cc),
)
  where
    never : (s : Status) → EndsAs (IsSpared dead old) s before after → (s ≡ status.Ok → ⊥) → ⊥
    never s (it, spares, same, wrote) other =
        let own : IsSpared dead (Some bytes) it = subst (λ (o : Option (List ℕ)). IsSpared dead o it) is spares in
        let ok : (spared dead bytes).status ≡ status.Ok = ap (λ (o : Opens). (executed_in (five_devices dead) o).status) opens ∙ (law h rest).ok clock fine in
        other (same ∙ ap (λ (o : Outcome). o.status) (sym own) ∙ ok)
