-- A finished run keeps the headline's promises.
use Rattle.std.proofs.Common.{◌≡◌, ℕ, true, None, List, ◌∷◌, ◌++◌, sym, ◌∙◌, subst}
use Rattle.speed_bin.specs.Header.{IsAccepted, shape_of}
use Rattle.speed_bin.specs.Rules.{verdict_at_end}
use Rattle.speed_bin.specs.declared.header.Header.{Header}
use Rattle.error_scrub.specs.Changes.{Change}
use Rattle.error_scrub.specs.Reading.{IsGood}
use Rattle.error_scrub.specs.Tame.{IsTame, last_written, AreGiven}
use Rattle.device_core.specs.Stored.{reading}
use Rattle.ddr_text.specs.declared.lines.TraceLine.{TraceLine}
use Rattle.reports.specs.Requests.{Request, requests}
use Rattle.reports.specs.Runs.{Run, log_of, is_served}
use Rattle.reports.specs.Accesses.{InOrder}
use Rattle.reports.specs.Delivered.{AreInside}
use Rattle.reports.specs.Headline.{IsRight, Headline, shown_log}
use Rattle.reports.specs.Readings.{before, changes_before, reading_of}
use Rattle.reports.specs.Sound.{Sound, IsRun, AllBounded}
use Rattle.reports.proofs.Answered.{each_read_answered}
use Rattle.reports.proofs.Bits.{each_flip_turned}
use Rattle.reports.proofs.Bounded.{Bound, verdict-run, all-bounded}
use Rattle.reports.proofs.Found.{is_at}
use Rattle.reports.proofs.InOrder.{in_order}
use Rattle.reports.proofs.Logged.{logged}
use Rattle.reports.proofs.Longer.{sound-before}
use Rattle.reports.proofs.Memory.{stored-next}
use Rattle.reports.proofs.Ready.{is_served-each}
use Rattle.reports.proofs.Served.{served-next}
use Rattle.reports.proofs.Stored.{changes-given, last-stored}

-- what a device's reading of a line with few turned bits finds, as its own law says
pub record ReadsLastWrite : Type 0 where
  pub bytes : (changes : List Change) (line : ℕ) → AreGiven changes → IsTame changes line → (reading changes line).bytes ≡ last_written changes line
  pub state : (changes : List Change) (line : ℕ) → AreGiven changes → IsTame changes line → IsGood (reading changes line).state

pub read-right : ReadsLastWrite → (h : Header) (trace : List TraceLine) (run : Run) (earlier later : List Request) (r : Request) → AreInside (shape_of h) trace → Sound h trace run → requests trace ≡ earlier ++ r ∷ later
    → is_served r.number run ≡ true → IsTame (changes_before h trace run r) r.line → IsRight trace r (reading_of h trace run r)
read-right laws h trace run earlier later r inside sound e served tame =
    let next = served-next h trace run earlier r sound (is_at 1 trace earlier later r e) served in
    let sound_then = sound-before h trace r.number run sound in
    let given_then : AreGiven (changes_before h trace run r) = changes-given h trace (before r.number run) inside in
    record {
      bytes = laws.bytes (changes_before h trace run r) r.line given_then tame ∙ last-stored h trace (before r.number run) r.line sound_then ∙ stored-next h trace (before r.number run) r sound_then next;
      state = laws.state (changes_before h trace run r) r.line given_then tame;
    }

pub headline : ReadsLastWrite → Bound → (h : Header) (trace : List TraceLine) (run : Run) (clock : ℕ) → IsAccepted h → AreInside (shape_of h) trace → IsRun h trace run clock → Headline h trace run clock
headline laws bound h trace run clock accepted inside r =
    let shown : log_of run ≡ shown_log h trace run = sym (logged h trace run) in
    record {
      rules = subst (λ log. verdict_at_end h clock log ≡ None) shown (verdict-run h trace run clock r);
      serves = subst (λ log. InOrder (shape_of h) trace log) shown (in_order h trace run clock r);
      turns = each_flip_turned h trace run clock r;
      reads = each_read_answered h trace run clock r;
      memory = λ earlier later q e reads tame. read-right laws h trace run earlier later q inside r.sound e (is_served-each (requests trace) earlier later q run e r.serves) tame;
      bounded = subst (λ log. AllBounded h log) shown (all-bounded bound h trace run accepted r.sound);
    }
