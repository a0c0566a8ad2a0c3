-- What an auditor stands for after one more line.
use Rattle.std.proofs.Common.{◌≡◌, ◌≢◌, ◌∙◌, ℕ, Bool, true, false, Option, Some, None, ◌∷◌, refl, sym, ap, subst}
use Rattle.std.proofs.Math.Logic.{∥∥₁_map}
use Rattle.command_words.specs.declared.command.Command.{Command}
use Rattle.ddr_text.specs.AcceptedReport.{IsReportLine}
use Rattle.ddr_text.specs.declared.lines.ReportLine.{ReportLine}
use Rattle.ddr_text.specs.declared.lines.ReportLine.TheVariants.{Issued, Value, Flip, Stat, End, Refused}
use Rattle.speed_bin.specs.Header.{shape_of}
use Rattle.speed_bin.specs.Log.{Log}
use Rattle.speed_bin.specs.Marks.{RowsInRange, Keeps as KeepsRules}
use Rattle.speed_bin.specs.Timing.{IsTiming}
use Rattle.speed_bin.specs.declared.header.Header.{Header}
use Rattle.log_auditor.specs.Auditing.{is_end, told}
use Rattle.judged_logs.specs.Auditing.{IsSound, Kept, Keeps, MayTake, Parts, StandsFor, StandsForSome, Taken, has_ended, geometry_of, judged_of, is_ended, is_open, state_of, told_state, verdict_so_far}
use Rattle.judged_logs.specs.Verdicts.{broken, broken_at_end, verdict, verdict_at_end}
use Rattle.judged_logs.specs.declared.judged.Judged.{Judged}
use Rattle.judged_logs.specs.declared.judge.Judge.{Judge}
use Rattle.judged_logs.specs.declared.judge.State.{State}
use Rattle.judged_logs.specs.declared.judge.State.TheVariants.{Open, Broken, Ended}
use Rattle.log_auditor.specs.declared.verdict.Verdict.{Verdict}
use Rattle.log_auditor.specs.declared.verdict.Verdict.TheVariants.{Fine}
use Rattle.judged_logs.proofs.Verdicts.{now_broken, still_broken, still_ended, still_fine}
use Rattle.judged_logs.proofs.Fits.{in_range}
use Rattle.judged_logs.proofs.Issuing.{fine_keeps}

-- ---- States

open_verdict : (v : Option (ℕ × ℕ)) → is_open (state_of v) ≡ true → v ≡ None
open_verdict None e = refl
open_verdict (Some breach) e = absurd cc

shut_verdict : (v : Option (ℕ × ℕ)) → is_open (state_of v) ≡ false → (breach : ℕ × ℕ) × (v ≡ Some breach)
shut_verdict None e = absurd cc
shut_verdict (Some breach) e = (breach, refl)

pub fine_so_far : (it : Judge) (j : Judged) (h : Header) (log : Log) → Keeps it j h log → is_open it.state ≡ true → verdict j h log ≡ None
fine_so_far it j h log keeps e = open_verdict (verdict j h log) (ap is_open (sym keeps.state) ∙ e)

pub told_by_state : (v : Option (ℕ × ℕ)) → told_state (state_of v) ≡ told v
told_by_state None = refl
told_by_state (Some breach) = refl

pub told_verdict : (it : Judge) (j : Judged) (h : Header) (log : Log) → Keeps it j h log → told_state it.state ≡ told (verdict j h log)
told_verdict it j h log keeps = ap told_state keeps.state ∙ told_by_state (verdict j h log)

told_fine : (v : Option (ℕ × ℕ)) → told v ≡ Fine → v ≡ None
told_fine None e = refl
told_fine (Some breach) e = absurd cc

-- a log that is fine keeps the rules on which the bound rests
pub fine_log : (it : Judge) (j : Judged) (h : Header) (log : Log) → Keeps it j h log → j.backoff ≡ true → told_state it.state ≡ Fine → KeepsRules h log
fine_log it j h log keeps alerts e = fine_keeps j h log alerts keeps.rows (told_fine (verdict j h log) (sym (told_verdict it j h log keeps) ∙ e))

-- ---- A command

rows_next : (h : Header) (clock : ℕ) (command : Command) (log : Log) → RowsInRange h log → IsReportLine (shape_of h) (Issued clock command) → RowsInRange h (record { clock = clock; command = command } ∷ log)
rows_next h clock command log rows line = (rows, in_range h command line.1 line.2)

pub may_take : (it : Judge) (j : Judged) (h : Header) (clock : ℕ) (command : Command) (log : Log) → IsReportLine (shape_of h) (Issued clock command) → broken j h clock command log ≡ None → MayTake j h clock command log
may_take it j h clock command log line none = record {
  in_time = line.0;
  in_range = line.1;
  inside = in_range h command line.1 line.2;
  fine = none;
}

-- it was broken before
pub keeps_broken : (it : Judge) (j : Judged) (h : Header) (clock : ℕ) (command : Command) (log : Log) → Keeps it j h log → is_open it.state ≡ false → IsReportLine (shape_of h) (Issued clock command) → Keeps it j h (record { clock = clock; command = command } ∷ log)
keeps_broken it j h clock command log keeps shut line =
    let p = shut_verdict (verdict j h log) (ap is_open (sym keeps.state) ∙ shut) in
    let later = still_broken j h (record { clock = clock; command = command }) log p.0 p.1 in
    record {
      accepted = keeps.accepted;
      shape = keeps.shape;
      judged = keeps.judged;
      rows = rows_next h clock command log keeps.rows line;
      state = keeps.state ∙ ap state_of (p.1 ∙ sym later);
      parts = λ none. absurd (never (sym later ∙ none));
    }
  where
    never : {x : ℕ × ℕ} → Some x ≡ None → ⊥
    never e = cc

-- it breaks a rule now
pub breaks_now : (it new : Judge) (j : Judged) (h : Header) (clock : ℕ) (command : Command) (log : Log) (number : ℕ) → Keeps it j h log → is_open it.state ≡ true → IsReportLine (shape_of h) (Issued clock command) → broken j h clock command log ≡ Some number → new.geometry ≡ it.geometry → new.judged ≡ it.judged → new.state ≡ Broken (record { 0 = number }) → Keeps new j h (record { clock = clock; command = command } ∷ log)
breaks_now it new j h clock command log number keeps opened line some shape own is =
    let later = now_broken j h clock command log number (fine_so_far it j h log keeps opened) some in
    record {
      accepted = keeps.accepted;
      shape = shape ∙ keeps.shape;
      judged = own ∙ keeps.judged;
      rows = rows_next h clock command log keeps.rows line;
      state = is ∙ ap state_of (sym later);
      parts = λ none. absurd (never (sym later ∙ none));
    }
  where
    never : {x : ℕ × ℕ} → Some x ≡ None → ⊥
    never e = cc

-- it breaks none
pub keeps_on : (it new : Judge) (j : Judged) (h : Header) (clock : ℕ) (command : Command) (log : Log) → Keeps it j h log → is_open it.state ≡ true → IsReportLine (shape_of h) (Issued clock command) → broken j h clock command log ≡ None → new.geometry ≡ it.geometry → new.judged ≡ it.judged → new.state ≡ it.state → Parts new j h (record { clock = clock; command = command } ∷ log) → Keeps new j h (record { clock = clock; command = command } ∷ log)
keeps_on it new j h clock command log keeps opened line none shape own same parts =
    let fine = fine_so_far it j h log keeps opened in
    let later = still_fine j h clock command log fine none in
    record {
      accepted = keeps.accepted;
      shape = shape ∙ keeps.shape;
      judged = own ∙ keeps.judged;
      rows = rows_next h clock command log keeps.rows line;
      state = same ∙ keeps.state ∙ ap state_of (fine ∙ sym later);
      parts = λ _. parts;
    }

-- its numbers are in the ranges of the header's shape
pub line_of_shape : (it : Judge) (j : Judged) (h : Header) (log : Log) (line : ReportLine) → Keeps it j h log → IsReportLine (geometry_of it) line → IsReportLine (shape_of h) line
line_of_shape it j h log line keeps inside = subst (λ g. IsReportLine g line) keeps.shape inside

-- ---- Its own rules are those that are judged

pub own_parts : (it : Judge) (j : Judged) (h : Header) (log : Log) → Keeps it j h log → is_open it.state ≡ true → Parts it it.judged h log
own_parts it j h log keeps opened = subst (λ (own : Judged). Parts it own h log) (sym keeps.judged) (keeps.parts (fine_so_far it j h log keeps opened))

pub own_broken : (it : Judge) (j : Judged) (h : Header) (clock : ℕ) (command : Command) (log : Log) → Keeps it j h log → broken j h clock command log ≡ broken it.judged h clock command log
own_broken it j h clock command log keeps = ap (λ (own : Judged). broken own h clock command log) (sym keeps.judged)

pub own_end : (it : Judge) (j : Judged) (h : Header) (clock : ℕ) (log : Log) → Keeps it j h log → broken_at_end j h clock log ≡ broken_at_end it.judged h clock log
own_end it j h clock log keeps = ap (λ (own : Judged). broken_at_end own h clock log) (sym keeps.judged)

-- ---- The end

pub end_broken_before : (it : Judge) (j : Judged) (h : Header) (clock : ℕ) (log : Log) → Keeps it j h log → is_open it.state ≡ false → told_state it.state ≡ told (verdict_at_end j h clock log)
end_broken_before it j h clock log keeps shut =
    let p = shut_verdict (verdict j h log) (ap is_open (sym keeps.state) ∙ shut) in
    told_verdict it j h log keeps ∙ ap told (p.1 ∙ sym (still_ended j h clock log p.0 p.1))

pub end_breaks : (it : Judge) (j : Judged) (h : Header) (clock : ℕ) (log : Log) (number : ℕ) → Keeps it j h log → is_open it.state ≡ true → broken_at_end j h clock log ≡ Some number → told_state (Broken (record { 0 = number })) ≡ told (verdict_at_end j h clock log)
end_breaks it j h clock log number keeps opened some = let fine = fine_so_far it j h log keeps opened in rw (fine, some) refl

pub end_fine : (it : Judge) (j : Judged) (h : Header) (clock : ℕ) (log : Log) → Keeps it j h log → is_open it.state ≡ true → broken_at_end j h clock log ≡ None → told_state Ended ≡ told (verdict_at_end j h clock log)
end_fine it j h clock log keeps opened none = let fine = fine_so_far it j h log keeps opened in rw (fine, none) refl

-- ---- Any line

abbrev pub is_other : ReportLine → Bool
is_other (Issued clock command) = false
is_other (End clock) = false
is_other (Value number line bytes state) = true
is_other (Flip clock line device bit) = true
is_other (Stat name number) = true
is_other (Refused line reason) = true

pub taken_issued : (line : ReportLine) (clock : ℕ) (command : Command) (new : Judge) (j : Judged) (h : Header) (log : Log) (answer : Verdict) → line ≡ Issued clock command → Keeps new j h (record { clock = clock; command = command } ∷ log) → answer ≡ told_state new.state → Taken line new j h log answer
unfolding StandsFor
taken_issued line clock command new j h log answer is keeps says = subst (λ (l : ReportLine). Taken l new j h log answer) (sym is) (keeps, says ∙ told_verdict new j h (record { clock = clock; command = command } ∷ log) keeps)

pub taken_end : (line : ReportLine) (clock : ℕ) (new : Judge) (j : Judged) (h : Header) (log : Log) (answer : Verdict) → line ≡ End clock → told_state new.state ≡ told (verdict_at_end j h clock log) → answer ≡ told_state new.state → Taken line new j h log answer
taken_end line clock new j h log answer is ends says = subst (λ (l : ReportLine). Taken l new j h log answer) (sym is) (says ∙ ends)

pub taken_other : (line : ReportLine) (new : Judge) (j : Judged) (h : Header) (log : Log) (answer : Verdict) → Keeps new j h log → answer ≡ told_state new.state → is_other line ≡ true → Taken line new j h log answer
unfolding StandsFor
taken_other (Issued clock command) new j h log answer keeps says other = absurd cc
taken_other (End clock) new j h log answer keeps says other = absurd cc
taken_other (Value number line bytes state) new j h log answer keeps says other = (keeps, says ∙ told_verdict new j h log keeps)
taken_other (Flip clock line device bit) new j h log answer keeps says other = (keeps, says ∙ told_verdict new j h log keeps)
taken_other (Stat name number) new j h log answer keeps says other = (keeps, says ∙ told_verdict new j h log keeps)
taken_other (Refused line reason) new j h log answer keeps says other = (keeps, says ∙ told_verdict new j h log keeps)

-- ---- What every line keeps

never_open : (s : State) → is_open s ≡ false → is_open s ≡ true → ⊥
never_open s shut opened = let both : true ≡ false = sym opened ∙ shut in cc

never_ended : (s : State) → is_ended s ≡ false → is_ended s ≡ true → ⊥
never_ended s going ends = let both : true ≡ false = sym ends ∙ going in cc

never_an_end : (line : ReportLine) → is_end line ≡ false → is_end line ≡ true → ⊥
never_an_end line other at_end = let both : true ≡ false = sym at_end ∙ other in cc

was_open : (old new : Judge) → (is_open old.state ≡ false → new.state ≡ old.state) → is_open new.state ≡ true → is_open old.state ≡ true
was_open old new stays opened = go (is_open old.state) refl
  where
    go : (t : Bool) → is_open old.state ≡ t → is_open old.state ≡ true
    go true e = e
    go false e = absurd (never_open old.state e (ap is_open (sym (stays e)) ∙ opened))

pub kept_issued : (line : ReportLine) (clock : ℕ) (command : Command) (old new : Judge) → line ≡ Issued clock command → IsSound old → is_ended old.state ≡ false → new.timing ≡ old.timing → new.geometry ≡ old.geometry → new.judged ≡ old.judged → (is_open old.state ≡ false → new.state ≡ old.state) → (is_ended old.state ≡ false → is_ended new.state ≡ false)
    → ((j : Judged) (h : Header) (log : Log) → Keeps old j h log → Keeps new j h (record { clock = clock; command = command } ∷ log)) → Kept line old new
unfolding StandsFor
kept_issued line clock command old new is sound going timing geometry own stays goes_on keeps = record {
  sound = record {
    timing = subst IsTiming (sym timing) sound.timing;
    some = λ opened. ∥∥₁_map (sound.some (was_open old new stays opened)) (λ p. (p.0, p.1, record { clock = clock; command = command } ∷ p.2, keeps p.0 p.1 p.2 p.3));
  };
  geometry = geometry;
  judged = own;
  stays = stays;
  ended = λ ends. absurd (never_ended new.state (goes_on going) ends);
  shut = λ at_end. absurd (never_an_end line (ap is_end is) at_end);
}

pub kept_end : (line : ReportLine) (clock : ℕ) (old new : Judge) → line ≡ End clock → IsSound old → new.timing ≡ old.timing → new.geometry ≡ old.geometry → new.judged ≡ old.judged → (is_open old.state ≡ false → new.state ≡ old.state) → is_open new.state ≡ false → Kept line old new
kept_end line clock old new is sound timing geometry own stays shut = record {
  sound = record { timing = subst IsTiming (sym timing) sound.timing; some = λ opened. absurd (never_open new.state shut opened) };
  geometry = geometry;
  judged = own;
  stays = stays;
  ended = λ ends. ap is_end is;
  shut = λ at_end. shut;
}

pub kept_other : (line : ReportLine) (it : Judge) → is_end line ≡ false → IsSound it → is_ended it.state ≡ false → Kept line it it
kept_other line it other sound going = record {
  sound = sound;
  geometry = refl;
  judged = refl;
  stays = λ shut. refl;
  ended = λ ends. absurd (never_ended it.state going ends);
  shut = λ at_end. absurd (never_an_end line other at_end);
}

-- ---- What a caller knows

shut_told : (s : State) → told_state s ≢ Fine → is_open s ≡ false
shut_told Open breaks = absurd (breaks refl)
shut_told (Broken rule) breaks = refl
shut_told Ended breaks = refl

pub told_again : (line : ReportLine) (old new : Judge) (answer : Verdict) → Kept line old new → answer ≡ told_state new.state → told_state old.state ≢ Fine → answer ≡ told_state old.state
told_again line old new answer kept says breaks = says ∙ ap told_state (kept.stays (shut_told old.state breaks))

open_state : (s : State) → is_ended s ≡ false → told_state s ≡ Fine → is_open s ≡ true
open_state Open going fine = refl
open_state (Broken rule) going fine = absurd cc
open_state Ended going fine = absurd cc

ended_state : (s : State) → is_open s ≡ false → told_state s ≡ Fine → is_ended s ≡ true
ended_state Open shut fine = absurd cc
ended_state (Broken rule) shut fine = absurd cc
ended_state Ended shut fine = refl

-- an E line that is told to be fine ends the log
pub ended_again : (line : ReportLine) (old new : Judge) (answer : Verdict) → Kept line old new → answer ≡ told_state new.state → is_end line ≡ true → answer ≡ Fine → has_ended new ≡ true
ended_again line old new answer kept says at_end fine = ended_state new.state (kept.shut at_end) (sym says ∙ fine)

pub stands_for_some : (it : Judge) → IsSound it → has_ended it ≡ false → verdict_so_far it ≡ Fine → StandsForSome it
stands_for_some it sound going fine = sound.some (open_state it.state going fine)

verdict_goes_on : (v : Option (ℕ × ℕ)) → is_ended (state_of v) ≡ false
verdict_goes_on None = refl
verdict_goes_on (Some breach) = refl

-- an auditor that stands for a log takes each line of its header's shape
pub goes_on : (it : Judge) (j : Judged) (h : Header) (log : Log) → StandsFor it j h log → has_ended it ≡ false
unfolding StandsFor
goes_on it j h log keeps = ap is_ended keeps.state ∙ verdict_goes_on (verdict j h log)

pub has_judged : (it : Judge) (j : Judged) (h : Header) (log : Log) → StandsFor it j h log → judged_of it ≡ j
unfolding StandsFor
has_judged it j h log keeps = keeps.judged

pub has_shape : (it : Judge) (j : Judged) (h : Header) (log : Log) → StandsFor it j h log → geometry_of it ≡ shape_of h
unfolding StandsFor
has_shape it j h log keeps = keeps.shape
