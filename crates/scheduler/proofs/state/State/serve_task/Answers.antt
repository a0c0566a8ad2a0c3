use Rattle.std.proofs.Common.{◌≡◌, ◌∙◌, ℕ, ◌<◌, Some, None, Option, List, Bool, true, false, IsTrue, IfNone, ◌↔◌, ap, sym, subst, arith, refl}
use Rattle.std.proofs.Math.Bridge.{le_prop}
use Rattle.std.proofs.Math.Logic.{∥∥₁_elim, ∥∥₁_map}
use Rattle.command_words.specs.declared.command.Command.{Command}
use Rattle.speed_bin.specs.Log.{Log}
use Rattle.bank_state.specs.Standing.{Fits}
use Rattle.requests.specs.declared.waiting.Waiting.{Waiting}
use Rattle.deadlines.specs.declared.task.Task.{Task}
use Rattle.scheduler.specs.declared.choice.Candidate.{Candidate}
use Rattle.requests.specs.Queue.{places, in_bank}
use Rattle.deadlines.specs.Tasks.{command_of, precharge_of}
use Rattle.scheduler.specs.Board.{first_at}
use Rattle.scheduler.specs.Choice.{is_asked}
use Rattle.scheduler.specs.Steps.{IsReadyFor, IsReadySoon}
use Rattle.scheduler.specs.Task.{is_asked_for}
use Rattle.scheduler.specs.declared.state.State.{State}
use Rattle.scheduler.specs.declared.ledger.Ledger.{Ledger}
use Rattle.scheduler.proofs.Serving.{closed_of, column_ready, all_paid, shut_ready, end_ready}
use Rattle.scheduler.proofs.Turning.{at_none, best_as}
use Rattle.scheduler.specs.Policy.{Shuts, EndsTask}
use Rattle.scheduler.specs.Steps.{hidden_in}
use Rattle.scheduler.proofs.Policed.{pays_column, covers_open, for_as, soonest_as, offer_of}
use Rattle.scheduler.proofs.state.State.serve_task.Goals as goal

pub wait_until-requires : goal.wait_until-requires
wait_until-requires c = ∥∥₁_elim c.requires.serving le_prop (λ r. r.4.errand_is.late)

pub choose-requires-clause-ledger : goal.choose-requires-clause-ledger
choose-requires-clause-ledger c = ∥∥₁_map c.requires.serving (λ r. (r.0, places r.3, c.wait_until.ensures.stands r.0 (places r.3) r.4.awake.holds.ledger))

pub issue_candidate-requires : goal.issue_candidate-requires
issue_candidate-requires c = record {
  ready = ∥∥₁_map c.requires.serving
      (λ r.
      let self = c.args.self.now in
      let errand = c.args.errand in
      let same = c.wait_until.ensures.from in (
        self.ledger.from,
        self.until,
        self.finished,
        r.0,
        r.1,
        r.2,
        r.3,
        subst (λ (x : State). IsReadyFor x self.ledger.from self.until self.finished r.0 r.1 r.2 r.3 c.in-Some.candidate (Some errand.task)) (sym (ap (λ (l : Ledger). record self { ledger = l }) same))
            (column_ready c.turn_laws.ensures self r.0 r.1 r.2 r.3 errand c.owed_for-asked.result c.in-Some.candidate r.4 c.requires.bound
            (λ i low. c.owed_for-asked.ensures i low ∙ ap (λ (l : Ledger). is_asked_for errand.task l.owed i) same)
            (best_as r.0 c.as_slice.result.now self.queue.items (places r.3) c.wait_until.new.self.from errand.start c.owed_for-asked.result c.in-Some.candidate c.as_slice.ensures.value (ap (λ (l : Ledger). l.from) same)
            (c.in-Some.ensures.some r.0 (places r.3) (c.wait_until.ensures.stands r.0 (places r.3) r.4.awake.holds.ledger)))),
      ));
}

pub returns-in-Some-clause-after : goal.returns-in-Some-clause-after
returns-in-Some-clause-after c = λ h offered idle log r.
    let self = c.args.self.now in
    let errand = c.args.errand in
    let same = c.wait_until.ensures.from in
    c.issue_candidate.ensures.after self.ledger.from self.until self.finished h offered idle log
    (subst (λ (x : State). IsReadyFor x self.ledger.from self.until self.finished h offered idle log c.in-Some.candidate (Some errand.task)) (sym (ap (λ (l : Ledger). record self { ledger = l }) same))
    (column_ready c.turn_laws.ensures self h offered idle log errand c.owed_for-asked.result c.in-Some.candidate r c.requires.bound
    (λ i low. c.owed_for-asked.ensures i low ∙ ap (λ (l : Ledger). is_asked_for errand.task l.owed i) same)
    (best_as h c.as_slice.result.now self.queue.items (places log) c.wait_until.new.self.from errand.start c.owed_for-asked.result c.in-Some.candidate c.as_slice.ensures.value (ap (λ (l : Ledger). l.from) same)
    (c.in-Some.ensures.some h (places log) (c.wait_until.ensures.stands h (places log) r.awake.holds.ledger)))))

pub returns-in-Some-clause-bound : goal.returns-in-Some-clause-bound
returns-in-Some-clause-bound c =
    ∥∥₁_elim c.requires.serving le_prop
    (λ r.
    let self = c.args.self.now in
    let errand = c.args.errand in
    let same = c.wait_until.ensures.from in
    let k = column_ready c.turn_laws.ensures self r.0 r.1 r.2 r.3 errand c.owed_for-asked.result c.in-Some.candidate r.4 c.requires.bound
    (λ i low. c.owed_for-asked.ensures i low ∙ ap (λ (l : Ledger). is_asked_for errand.task l.owed i) same)
    (best_as r.0 c.as_slice.result.now self.queue.items (places r.3) c.wait_until.new.self.from errand.start c.owed_for-asked.result c.in-Some.candidate c.as_slice.ensures.value (ap (λ (l : Ledger). l.from) same)
    (c.in-Some.ensures.some r.0 (places r.3) (c.wait_until.ensures.stands r.0 (places r.3) r.4.awake.holds.ledger))) in
    let soon = k.soon in
    let at = c.issue_candidate.ensures.from in omega (arith, soon, at))

asked_for : (task : Task) (asked : List Bool) (old new : Ledger) (start : ℕ) → new ≡ record old { from = start } → ((b : ℕ) → b < 32 → is_asked asked b ≡ is_asked_for task new.owed b) → (b : ℕ) → b < 32 → is_asked asked b ≡ is_asked_for task old.owed b
asked_for task asked old new start same f b low = f b low ∙ ap (λ (l : Ledger). is_asked_for task l.owed b) same

silent : (asked : List Bool) (queue ws : List Waiting) (o : Option Candidate) → queue ≡ ws → ((x : Candidate) → o ≡ Some x → ⊥) → IfNone o ((b : ℕ) → b < 32 → is_asked asked b ≡ true → first_at (in_bank b) queue ≡ None) → (b : ℕ) → b < 32 → is_asked asked b ≡ true → first_at (in_bank b) ws ≡ None
silent asked queue ws o same none f b low e = subst (λ xs. first_at (in_bank b) xs ≡ None) same (at_none o ((b : ℕ) → b < 32 → is_asked asked b ≡ true → first_at (in_bank b) queue ≡ None) none f b low e)

not_fit : (command own : Command) (log : Log) (t : Bool) → command ≡ own → (IsTrue t ↔ Fits command log) → t ≡ false → Fits own log → ⊥
not_fit command own log t same f e fit = let g = f.1 (subst (λ x. Fits x log) (sym same) fit) in cc

fits_own : (command own : Command) (log : Log) (t : Bool) → command ≡ own → (IsTrue t ↔ Fits command log) → t ≡ true → Fits own log
fits_own command own log t same f e = subst (λ x. Fits x log) same (f.0 e)

pub issue_soonest-requires : goal.issue_soonest-requires
issue_soonest-requires c = record {
  ready = ∥∥₁_map c.requires.serving
      (λ r.
      let self = c.args.self.now in
      let errand = c.args.errand in
      let same = c.wait_until.ensures.from in
      let asked = c.owed_for-asked.result in
      let paid = all_paid self r.0 r.1 r.2 r.3 errand.task asked r.4.awake.holds (asked_for errand.task asked self.ledger c.wait_until.new.self errand.start same c.owed_for-asked.ensures) (silent asked c.as_slice.result.now self.queue.items c.choose.result c.as_slice.ensures.value c.in_default.not-Some c.choose.ensures.none) in
      let no_fit = not_fit c.command_of-command.result (command_of errand.task) (places r.3) c.fits.result c.command_of-command.ensures (c.fits.ensures r.0 (places r.3) (c.wait_until.ensures.stands r.0 (places r.3) r.4.awake.holds.ledger)) c.if-not-fits.true in (
        self.ledger.from,
        self.until,
        self.finished,
        r.0,
        r.1,
        r.2,
        r.3,
        subst (λ x. IsReadySoon (record self { ledger = c.wait_until.new.self }) self.ledger.from self.until self.finished r.0 r.1 r.2 r.3 x (Some errand.task)) (sym c.precharge_of.ensures)
            (subst (λ (x : State). IsReadySoon x self.ledger.from self.until self.finished r.0 r.1 r.2 r.3 (precharge_of errand.task) (Some errand.task)) (sym (ap (λ (l : Ledger). record self { ledger = l }) same))
            (shut_ready c.turn_laws.ensures self r.0 r.1 r.2 r.3 errand r.4 c.requires.bound paid no_fit)),
      ));
}

pub returns-then-not-fits-clause-after : goal.returns-then-not-fits-clause-after
returns-then-not-fits-clause-after c = λ h offered idle log r.
    let self = c.args.self.now in
    let errand = c.args.errand in
    let same = c.wait_until.ensures.from in
    let asked = c.owed_for-asked.result in
    let paid = all_paid self h offered idle log errand.task asked r.awake.holds (asked_for errand.task asked self.ledger c.wait_until.new.self errand.start same c.owed_for-asked.ensures) (silent asked c.as_slice.result.now self.queue.items c.choose.result c.as_slice.ensures.value c.in_default.not-Some c.choose.ensures.none) in
    let no_fit = not_fit c.command_of-command.result (command_of errand.task) (places log) c.fits.result c.command_of-command.ensures (c.fits.ensures h (places log) (c.wait_until.ensures.stands h (places log) r.awake.holds.ledger)) c.if-not-fits.true in
    c.issue_soonest.ensures.after self.ledger.from self.until self.finished h offered idle log
    (subst (λ x. IsReadySoon (record self { ledger = c.wait_until.new.self }) self.ledger.from self.until self.finished h offered idle log x (Some errand.task)) (sym c.precharge_of.ensures)
    (subst (λ (x : State). IsReadySoon x self.ledger.from self.until self.finished h offered idle log (precharge_of errand.task) (Some errand.task)) (sym (ap (λ (l : Ledger). record self { ledger = l }) same))
    (shut_ready c.turn_laws.ensures self h offered idle log errand r c.requires.bound paid no_fit)))

pub returns-then-not-fits-clause-bound : goal.returns-then-not-fits-clause-bound
returns-then-not-fits-clause-bound c =
    ∥∥₁_elim c.requires.serving le_prop
    (λ r.
    let self = c.args.self.now in
    let errand = c.args.errand in
    let same = c.wait_until.ensures.from in
    let asked = c.owed_for-asked.result in
    let paid = all_paid self r.0 r.1 r.2 r.3 errand.task asked r.4.awake.holds (asked_for errand.task asked self.ledger c.wait_until.new.self errand.start same c.owed_for-asked.ensures) (silent asked c.as_slice.result.now self.queue.items c.choose.result c.as_slice.ensures.value c.in_default.not-Some c.choose.ensures.none) in
    let no_fit = not_fit c.command_of-command.result (command_of errand.task) (places r.3) c.fits.result c.command_of-command.ensures (c.fits.ensures r.0 (places r.3) (c.wait_until.ensures.stands r.0 (places r.3) r.4.awake.holds.ledger)) c.if-not-fits.true in
    c.issue_soonest.ensures.bound self.ledger.from self.until self.finished r.0 r.1 r.2 r.3
    (subst (λ x. IsReadySoon (record self { ledger = c.wait_until.new.self }) self.ledger.from self.until self.finished r.0 r.1 r.2 r.3 x (Some errand.task)) (sym c.precharge_of.ensures)
    (subst (λ (x : State). IsReadySoon x self.ledger.from self.until self.finished r.0 r.1 r.2 r.3 (precharge_of errand.task) (Some errand.task)) (sym (ap (λ (l : Ledger). record self { ledger = l }) same))
    (shut_ready c.turn_laws.ensures self r.0 r.1 r.2 r.3 errand r.4 c.requires.bound paid no_fit))))

pub issue_soonest-requires-2 : goal.issue_soonest-requires-2
issue_soonest-requires-2 c = record {
  ready = ∥∥₁_map c.requires.serving
      (λ r.
      let self = c.args.self.now in
      let errand = c.args.errand in
      let same = c.wait_until.ensures.from in
      let fit = fits_own c.command_of-command.result (command_of errand.task) (places r.3) c.fits.result c.command_of-command.ensures (c.fits.ensures r.0 (places r.3) (c.wait_until.ensures.stands r.0 (places r.3) r.4.awake.holds.ledger)) c.if-not-fits.false in (
        self.ledger.from,
        self.until,
        self.finished,
        r.0,
        r.1,
        r.2,
        r.3,
        subst (λ x. IsReadySoon (record self { ledger = c.wait_until.new.self }) self.ledger.from self.until self.finished r.0 r.1 r.2 r.3 x None) (sym c.command_of-command.ensures)
            (subst (λ (x : State). IsReadySoon x self.ledger.from self.until self.finished r.0 r.1 r.2 r.3 (command_of errand.task) None) (sym (ap (λ (l : Ledger). record self { ledger = l }) same))
            (end_ready c.turn_laws.ensures self r.0 r.1 r.2 r.3 errand r.4 c.requires.bound fit)),
      ));
}

pub returns-clause-after : goal.returns-clause-after
returns-clause-after c = λ h offered idle log r.
    let self = c.args.self.now in
    let errand = c.args.errand in
    let same = c.wait_until.ensures.from in
    let fit = fits_own c.command_of-command.result (command_of errand.task) (places log) c.fits.result c.command_of-command.ensures (c.fits.ensures h (places log) (c.wait_until.ensures.stands h (places log) r.awake.holds.ledger)) c.if-not-fits.false in
    c.issue_soonest-2.ensures.after self.ledger.from self.until self.finished h offered idle log
    (subst (λ x. IsReadySoon (record self { ledger = c.wait_until.new.self }) self.ledger.from self.until self.finished h offered idle log x None) (sym c.command_of-command.ensures)
    (subst (λ (x : State). IsReadySoon x self.ledger.from self.until self.finished h offered idle log (command_of errand.task) None) (sym (ap (λ (l : Ledger). record self { ledger = l }) same))
    (end_ready c.turn_laws.ensures self h offered idle log errand r c.requires.bound fit)))

pub returns-clause-bound : goal.returns-clause-bound
returns-clause-bound c =
    ∥∥₁_elim c.requires.serving le_prop
    (λ r.
    let self = c.args.self.now in
    let errand = c.args.errand in
    let same = c.wait_until.ensures.from in
    let fit = fits_own c.command_of-command.result (command_of errand.task) (places r.3) c.fits.result c.command_of-command.ensures (c.fits.ensures r.0 (places r.3) (c.wait_until.ensures.stands r.0 (places r.3) r.4.awake.holds.ledger)) c.if-not-fits.false in
    c.issue_soonest-2.ensures.bound self.ledger.from self.until self.finished r.0 r.1 r.2 r.3
    (subst (λ x. IsReadySoon (record self { ledger = c.wait_until.new.self }) self.ledger.from self.until self.finished r.0 r.1 r.2 r.3 x None) (sym c.command_of-command.ensures)
    (subst (λ (x : State). IsReadySoon x self.ledger.from self.until self.finished r.0 r.1 r.2 r.3 (command_of errand.task) None) (sym (ap (λ (l : Ledger). record self { ledger = l }) same))
    (end_ready c.turn_laws.ensures self r.0 r.1 r.2 r.3 errand r.4 c.requires.bound fit))))

-- ---- The policy

pub returns-in-Some-clause-policy : goal.returns-in-Some-clause-policy
returns-in-Some-clause-policy c = λ h offered idle log r.
    let self = c.args.self.now in
    let errand = c.args.errand in
    let same = c.wait_until.ensures.from in
    let candidate = c.in-Some.candidate in
    pays_column self h offered idle log errand c.owed_for-asked.result candidate _ _ r (asked_for errand.task c.owed_for-asked.result self.ledger c.wait_until.new.self errand.start same c.owed_for-asked.ensures)
    (best_as h c.as_slice.result.now self.queue.items (places log) c.wait_until.new.self.from errand.start c.owed_for-asked.result candidate c.as_slice.ensures.value (ap (λ (l : Ledger). l.from) same)
    (c.in-Some.ensures.some h (places log) (c.wait_until.ensures.stands h (places log) r.awake.holds.ledger)))
    (λ w here. for_as (offer_of candidate.class w candidate.clock) (hidden_in (record self { ledger = c.wait_until.new.self })) (hidden_in self) (Some errand.task) _ _ refl refl (c.issue_candidate.ensures.policy w here))

pub returns-then-not-fits-clause-policy : goal.returns-then-not-fits-clause-policy
returns-then-not-fits-clause-policy c = λ h offered idle log r.
    let self = c.args.self.now in
    let errand = c.args.errand in
    let same = c.wait_until.ensures.from in
    let asked = c.owed_for-asked.result in
    let paid = all_paid self h offered idle log errand.task asked r.awake.holds (asked_for errand.task asked self.ledger c.wait_until.new.self errand.start same c.owed_for-asked.ensures) (silent asked c.as_slice.result.now self.queue.items c.choose.result c.as_slice.ensures.value c.in_default.not-Some c.choose.ensures.none) in
    let stands = c.wait_until.ensures.stands h (places log) r.awake.holds.ledger in
    let no_fit = not_fit c.command_of-command.result (command_of errand.task) (places log) c.fits.result c.command_of-command.ensures (c.fits.ensures h (places log) stands) c.if-not-fits.true in
    Shuts paid (covers_open errand.task (places log) no_fit)
    (soonest_as h (places log) c.wait_until.new.self.from errand.start c.precharge_of.result (precharge_of errand.task) (hidden_in (record self { ledger = c.wait_until.new.self })) (hidden_in self) (Some errand.task) _ _ (ap (λ (l : Ledger). l.from) same) c.precharge_of.ensures refl refl
    (c.issue_soonest.ensures.policy h (places log) stands))

pub returns-clause-policy : goal.returns-clause-policy
returns-clause-policy c = λ h offered idle log r.
    let self = c.args.self.now in
    let errand = c.args.errand in
    let same = c.wait_until.ensures.from in
    let asked = c.owed_for-asked.result in
    let paid = all_paid self h offered idle log errand.task asked r.awake.holds (asked_for errand.task asked self.ledger c.wait_until.new.self errand.start same c.owed_for-asked.ensures) (silent asked c.as_slice.result.now self.queue.items c.choose.result c.as_slice.ensures.value c.in_default.not-Some c.choose.ensures.none) in
    let stands = c.wait_until.ensures.stands h (places log) r.awake.holds.ledger in
    let fit = fits_own c.command_of-command.result (command_of errand.task) (places log) c.fits.result c.command_of-command.ensures (c.fits.ensures h (places log) stands) c.if-not-fits.false in
    EndsTask paid (closed_of errand.task (places log) fit)
    (soonest_as h (places log) c.wait_until.new.self.from errand.start c.command_of-command.result (command_of errand.task) (hidden_in (record self { ledger = c.wait_until.new.self })) (hidden_in self) None _ _ (ap (λ (l : Ledger). l.from) same) c.command_of-command.ensures refl refl
    (c.issue_soonest-2.ensures.policy h (places log) stands))
