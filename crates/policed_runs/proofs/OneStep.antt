-- What comes next is settled.
use Rattle.std.proofs.Common.{◌≡◌, ◌∙◌, ℕ, ◌⊎◌, inl, inr, Bool, true, false, Option, Some, None, List, [], ◌∷◌, slice_get, refl, sym, ap, subst}
use Rattle.command_words.specs.declared.command.Command.{Command}
use Rattle.speed_bin.specs.Log.{Log}
use Rattle.speed_bin.specs.declared.header.Header.{Header}
use Rattle.requests.specs.Queue.{Step as NumberedStep, places, waiting}
use Rattle.requests.specs.declared.request.Request.{Request as Asked}
use Rattle.requests.specs.declared.request.RequestId.{RequestId}
use Rattle.scheduler.specs.Controller.{number_of}
use Rattle.scheduler.specs.Policy.{Hidden, IsTurn, idled}
use Rattle.scheduler.specs.declared.turn.Turn.{Turn}
use Rattle.scheduler.specs.declared.turn.Turn.TheVariants.{Issue, Idle as IdleTurn, Done}
use Rattle.ddr_text.specs.declared.lines.TraceLine.{TraceLine}
use Rattle.ddr_text.specs.declared.lines.TraceLine.TheVariants.{Flip, Idle}
use Rattle.reports.specs.Requests.{request_of}
use Rattle.reports.specs.Runs.{Run, Issues, Flips, log_of}
use Rattle.reports.specs.Offered.{offered, controller_steps}
use Rattle.reports.specs.Underway.{issue}
use Rattle.policed_runs.specs.Progress.{Phase, Offering, Resting, Progress, lines_of, waits_in, IsFilled, IsBarrier, MayTurn, Turns, Goes, Offers, IssuesOne, Rests, TurnsBit, BeginsIdle, EndsIdle, EndsTrace}

-- ---- The laws of a turn

abbrev pub OneAnswer : Type 0
OneAnswer = (h : Header) (s : Hidden) (offers : List Asked) (log : List NumberedStep) (turn other : Turn) (next later : Hidden)
    → IsTurn h s (waiting h offers log) (places log) turn next → IsTurn h s (waiting h offers log) (places log) other later → turn ≡ other

abbrev pub OneLeft : Type 0
OneLeft = (h : Header) (s : Hidden) (offers : List Asked) (log : List NumberedStep) (turn other : Turn) (next later : Hidden)
    → IsTurn h s (waiting h offers log) (places log) turn next → IsTurn h s (waiting h offers log) (places log) other later → next ≡ later

places-steps : (trace : List TraceLine) (run : Run) → places (controller_steps trace run) ≡ log_of run
places-steps trace [] = refl
places-steps trace (Issues s ∷ run) = ap (λ l. s.issued ∷ l) (places-steps trace run)
places-steps trace (Flips k ∷ run) = places-steps trace run

by_steps : (h : Header) (trace : List TraceLine) (p : Progress) (turn : Turn) (next : Hidden) → Turns h trace p turn next → IsTurn h p.hidden (waits_in h trace p) (places (controller_steps (lines_of trace p) p.run)) turn next
by_steps h trace p turn next t = subst (λ (log : Log). IsTurn h p.hidden (waits_in h trace p) log turn next) (sym (places-steps (lines_of trace p) p.run)) t

pub turn_is : OneAnswer → (h : Header) (trace : List TraceLine) (p : Progress) (turn other : Turn) (next later : Hidden) → Turns h trace p turn next → Turns h trace p other later → turn ≡ other
turn_is answer h trace p turn other next later t u =
    answer h p.hidden (offered (lines_of trace p)) (controller_steps (lines_of trace p) p.run) turn other next later (by_steps h trace p turn next t) (by_steps h trace p other later u)

pub hidden_is : OneLeft → (h : Header) (trace : List TraceLine) (p : Progress) (turn other : Turn) (next later : Hidden) → Turns h trace p turn next → Turns h trace p other later → next ≡ later
hidden_is kept h trace p turn other next later t u =
    kept h p.hidden (offered (lines_of trace p)) (controller_steps (lines_of trace p) p.run) turn other next later (by_steps h trace p turn next t) (by_steps h trace p other later u)

-- ---- What excludes what

pub never_both : (phase : Phase) → phase ≡ Offering → phase ≡ Resting → ⊥
never_both phase e f = cc

true_false : (t : Bool) → t ≡ true → t ≡ false → ⊥
true_false true e f = cc
true_false false e f = cc

pub never_filled : (h : Header) (trace : List TraceLine) (p : Progress) (line : TraceLine) → slice_get trace p.taken ≡ Some line → (request_of 0 line ≡ [] → ⊥) → (IsFilled h trace p → ⊥) → MayTurn h trace p → ⊥
never_filled h trace p line at req room may = go may.1
  where
    barred : (o : Option TraceLine) → o ≡ Some line → IsBarrier o → ⊥
    barred None e b = cc
    barred (Some x) e b = let k : x ≡ line = cc in req (subst (λ (y : TraceLine). request_of 0 y ≡ []) k b)

    go : (IsFilled h trace p ⊎ IsBarrier (slice_get trace p.taken)) → ⊥
    go (inl full) = room full
    go (inr barrier) = barred (slice_get trace p.taken) at barrier

issues_idle : (c : ℕ) (k : Command) (id : Option RequestId) → Issue c k id ≡ IdleTurn → ⊥
issues_idle c k id e = cc

flip_idle : (o : Option TraceLine) (l d b c : ℕ) → o ≡ Some (Flip l d b) → o ≡ Some (Idle c) → ⊥
flip_idle o l d b c e f = cc

some_none : (o : Option TraceLine) (line : TraceLine) → o ≡ Some line → o ≡ None → ⊥
some_none o line e f = cc

same_clocks : (o : Option TraceLine) (c d : ℕ) → o ≡ Some (Idle c) → o ≡ Some (Idle d) → c ≡ d
same_clocks o c d e f = cc

-- ---- What is left

abbrev issued : List TraceLine → Progress → Hidden → ℕ → Command → Option RequestId → Progress
issued trace p next c k id = record p { hidden = next; run = issue (lines_of trace p) c k (number_of id) ∷ p.run }

abbrev rested : Progress → Hidden → Progress
rested p next = record p { phase = Resting; hidden = next }

abbrev idling : Progress → ℕ → Progress
idling p clocks = record p { passes = true; phase = Offering; hidden = idled p.hidden clocks }

same_clock : (c d : ℕ) (k m : Command) (i j : Option RequestId) → Issue c k i ≡ Issue d m j → c ≡ d
same_clock c d k m i j e = cc

same_command : (c d : ℕ) (k m : Command) (i j : Option RequestId) → Issue c k i ≡ Issue d m j → k ≡ m
same_command c d k m i j e = cc

same_id : (c d : ℕ) (k m : Command) (i j : Option RequestId) → Issue c k i ≡ Issue d m j → i ≡ j
same_id c d k m i j e = cc

same_issue : (trace : List TraceLine) (p : Progress) (c d : ℕ) (k m : Command) (i j : Option RequestId) (next later : Hidden) → Issue c k i ≡ Issue d m j → next ≡ later → issued trace p next c k i ≡ issued trace p later d m j
same_issue trace p c d k m i j next later e f =
    ap (λ (x : Hidden). issued trace p x c k i) f
    ∙ ap (λ (x : ℕ). issued trace p later x k i) (same_clock c d k m i j e)
    ∙ ap (λ (x : Command). issued trace p later d x i) (same_command c d k m i j e)
    ∙ ap (λ (x : Option RequestId). issued trace p later d m x) (same_id c d k m i j e)

-- ---- One step

pub one_step : OneAnswer → OneLeft → (h : Header) (trace : List TraceLine) (p q r : Progress) → Goes h trace p q → Goes h trace p r → q ≡ r
one_step answer kept h trace p q r (Offers l ph at req room e) (Offers l' ph' at' req' room' e') = e ∙ sym e'
one_step answer kept h trace p q r (Offers l ph at req room e) (IssuesOne c' k' id' n' may' turn' e') = absurd (never_filled h trace p l at req room may')
one_step answer kept h trace p q r (Offers l ph at req room e) (Rests n' may' turn' e') = absurd (never_filled h trace p l at req room may')
one_step answer kept h trace p q r (Offers l ph at req room e) (TurnsBit l' d' b' ph' at' e') = absurd (never_both p.phase ph ph')
one_step answer kept h trace p q r (Offers l ph at req room e) (BeginsIdle c' ph' ps' at' e') = absurd (never_both p.phase ph ph')
one_step answer kept h trace p q r (Offers l ph at req room e) (EndsIdle c' ph' ps' at' e') = absurd (never_both p.phase ph ph')
one_step answer kept h trace p q r (Offers l ph at req room e) (EndsTrace ph' at' e') = absurd (never_both p.phase ph ph')
one_step answer kept h trace p q r (IssuesOne c k id n may turn e) (Offers l' ph' at' req' room' e') = absurd (never_filled h trace p l' at' req' room' may)
one_step answer kept h trace p q r (IssuesOne c k id n may turn e) (IssuesOne c' k' id' n' may' turn' e') = e ∙ same_issue trace p c c' k k' id id' n n' (turn_is answer h trace p (Issue c k id) (Issue c' k' id') n n' turn turn') (hidden_is kept h trace p (Issue c k id) (Issue c' k' id') n n' turn turn') ∙ sym e'
one_step answer kept h trace p q r (IssuesOne c k id n may turn e) (Rests n' may' turn' e') = absurd (issues_idle c k id (turn_is answer h trace p (Issue c k id) IdleTurn n n' turn turn'))
one_step answer kept h trace p q r (IssuesOne c k id n may turn e) (TurnsBit l' d' b' ph' at' e') = absurd (never_both p.phase may.0 ph')
one_step answer kept h trace p q r (IssuesOne c k id n may turn e) (BeginsIdle c' ph' ps' at' e') = absurd (never_both p.phase may.0 ph')
one_step answer kept h trace p q r (IssuesOne c k id n may turn e) (EndsIdle c' ph' ps' at' e') = absurd (never_both p.phase may.0 ph')
one_step answer kept h trace p q r (IssuesOne c k id n may turn e) (EndsTrace ph' at' e') = absurd (never_both p.phase may.0 ph')
one_step answer kept h trace p q r (Rests n may turn e) (Offers l' ph' at' req' room' e') = absurd (never_filled h trace p l' at' req' room' may)
one_step answer kept h trace p q r (Rests n may turn e) (IssuesOne c' k' id' n' may' turn' e') = absurd (issues_idle c' k' id' (turn_is answer h trace p (Issue c' k' id') IdleTurn n' n turn' turn))
one_step answer kept h trace p q r (Rests n may turn e) (Rests n' may' turn' e') = e ∙ ap (λ (x : Hidden). rested p x) (hidden_is kept h trace p IdleTurn IdleTurn n n' turn turn') ∙ sym e'
one_step answer kept h trace p q r (Rests n may turn e) (TurnsBit l' d' b' ph' at' e') = absurd (never_both p.phase may.0 ph')
one_step answer kept h trace p q r (Rests n may turn e) (BeginsIdle c' ph' ps' at' e') = absurd (never_both p.phase may.0 ph')
one_step answer kept h trace p q r (Rests n may turn e) (EndsIdle c' ph' ps' at' e') = absurd (never_both p.phase may.0 ph')
one_step answer kept h trace p q r (Rests n may turn e) (EndsTrace ph' at' e') = absurd (never_both p.phase may.0 ph')
one_step answer kept h trace p q r (TurnsBit l d b ph at e) (Offers l' ph' at' req' room' e') = absurd (never_both p.phase ph' ph)
one_step answer kept h trace p q r (TurnsBit l d b ph at e) (IssuesOne c' k' id' n' may' turn' e') = absurd (never_both p.phase may'.0 ph)
one_step answer kept h trace p q r (TurnsBit l d b ph at e) (Rests n' may' turn' e') = absurd (never_both p.phase may'.0 ph)
one_step answer kept h trace p q r (TurnsBit l d b ph at e) (TurnsBit l' d' b' ph' at' e') = e ∙ sym e'
one_step answer kept h trace p q r (TurnsBit l d b ph at e) (BeginsIdle c' ph' ps' at' e') = absurd (flip_idle (slice_get trace p.taken) l d b c' at at')
one_step answer kept h trace p q r (TurnsBit l d b ph at e) (EndsIdle c' ph' ps' at' e') = absurd (flip_idle (slice_get trace p.taken) l d b c' at at')
one_step answer kept h trace p q r (TurnsBit l d b ph at e) (EndsTrace ph' at' e') = absurd (some_none (slice_get trace p.taken) (Flip l d b) at at')
one_step answer kept h trace p q r (BeginsIdle c ph ps at e) (Offers l' ph' at' req' room' e') = absurd (never_both p.phase ph' ph)
one_step answer kept h trace p q r (BeginsIdle c ph ps at e) (IssuesOne c' k' id' n' may' turn' e') = absurd (never_both p.phase may'.0 ph)
one_step answer kept h trace p q r (BeginsIdle c ph ps at e) (Rests n' may' turn' e') = absurd (never_both p.phase may'.0 ph)
one_step answer kept h trace p q r (BeginsIdle c ph ps at e) (TurnsBit l' d' b' ph' at' e') = absurd (flip_idle (slice_get trace p.taken) l' d' b' c at' at)
one_step answer kept h trace p q r (BeginsIdle c ph ps at e) (BeginsIdle c' ph' ps' at' e') = e ∙ ap (λ (x : ℕ). idling p x) (same_clocks (slice_get trace p.taken) c c' at at') ∙ sym e'
one_step answer kept h trace p q r (BeginsIdle c ph ps at e) (EndsIdle c' ph' ps' at' e') = absurd (true_false p.passes ps' ps)
one_step answer kept h trace p q r (BeginsIdle c ph ps at e) (EndsTrace ph' at' e') = absurd (some_none (slice_get trace p.taken) (Idle c) at at')
one_step answer kept h trace p q r (EndsIdle c ph ps at e) (Offers l' ph' at' req' room' e') = absurd (never_both p.phase ph' ph)
one_step answer kept h trace p q r (EndsIdle c ph ps at e) (IssuesOne c' k' id' n' may' turn' e') = absurd (never_both p.phase may'.0 ph)
one_step answer kept h trace p q r (EndsIdle c ph ps at e) (Rests n' may' turn' e') = absurd (never_both p.phase may'.0 ph)
one_step answer kept h trace p q r (EndsIdle c ph ps at e) (TurnsBit l' d' b' ph' at' e') = absurd (flip_idle (slice_get trace p.taken) l' d' b' c at' at)
one_step answer kept h trace p q r (EndsIdle c ph ps at e) (BeginsIdle c' ph' ps' at' e') = absurd (true_false p.passes ps ps')
one_step answer kept h trace p q r (EndsIdle c ph ps at e) (EndsIdle c' ph' ps' at' e') = e ∙ sym e'
one_step answer kept h trace p q r (EndsIdle c ph ps at e) (EndsTrace ph' at' e') = absurd (some_none (slice_get trace p.taken) (Idle c) at at')
one_step answer kept h trace p q r (EndsTrace ph at e) (Offers l' ph' at' req' room' e') = absurd (never_both p.phase ph' ph)
one_step answer kept h trace p q r (EndsTrace ph at e) (IssuesOne c' k' id' n' may' turn' e') = absurd (never_both p.phase may'.0 ph)
one_step answer kept h trace p q r (EndsTrace ph at e) (Rests n' may' turn' e') = absurd (never_both p.phase may'.0 ph)
one_step answer kept h trace p q r (EndsTrace ph at e) (TurnsBit l' d' b' ph' at' e') = absurd (some_none (slice_get trace p.taken) (Flip l' d' b') at' at)
one_step answer kept h trace p q r (EndsTrace ph at e) (BeginsIdle c' ph' ps' at' e') = absurd (some_none (slice_get trace p.taken) (Idle c') at' at)
one_step answer kept h trace p q r (EndsTrace ph at e) (EndsIdle c' ph' ps' at' e') = absurd (some_none (slice_get trace p.taken) (Idle c') at' at)
one_step answer kept h trace p q r (EndsTrace ph at e) (EndsTrace ph' at' e') = e ∙ sym e'

-- a turn that is Done is the last step
pub never_goes : OneAnswer → (h : Header) (trace : List TraceLine) (p q : Progress) (next : Hidden) → MayTurn h trace p → Turns h trace p Done next → Goes h trace p q → ⊥
never_goes answer h trace p q next may done (Offers l ph at req room e) = never_filled h trace p l at req room may
never_goes answer h trace p q next may done (IssuesOne c k id n may' turn e) = let f = turn_is answer h trace p (Issue c k id) Done n next turn done in issues_done c k id f
  where
    issues_done : (c : ℕ) (k : Command) (id : Option RequestId) → Issue c k id ≡ Done → ⊥
    issues_done c k id e = cc
never_goes answer h trace p q next may done (Rests n may' turn e) = let f = turn_is answer h trace p IdleTurn Done n next turn done in cc
never_goes answer h trace p q next may done (TurnsBit l d b ph at e) = never_both p.phase may.0 ph
never_goes answer h trace p q next may done (BeginsIdle c ph ps at e) = never_both p.phase may.0 ph
never_goes answer h trace p q next may done (EndsIdle c ph ps at e) = never_both p.phase may.0 ph
never_goes answer h trace p q next may done (EndsTrace ph at e) = never_both p.phase may.0 ph
