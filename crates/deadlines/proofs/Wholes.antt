-- A turn keeps all that the deadlines rest on, and so do an offer, an idle line and a turn that rests.
use Rattle.std.proofs.Common.{◌≡◌, ◌∙◌, ℕ, suc, ◌+◌, ◌*◌, ◌/◌, ◌≤◌, ◌<◌, Bool, true, false, ◌||◌, ◌==◌, ◌⊎◌, inl, inr, refl, sym, ap, arith, List, [], ◌∷◌, ◌++◌, length, length-append, Option, None, lt-ltb, eqb-true, max}
use Rattle.command_words.specs.declared.command.Command.{Command}
use Rattle.command_words.specs.declared.command.Command.TheVariants.{RefAb, RefSb, Mrw, PreAb, Ecs as EcsCommand}
use Rattle.speed_bin.specs.Alert.{alert}
use Rattle.speed_bin.specs.Below.{all_below}
use Rattle.speed_bin.specs.Gap.{n_max}
use Rattle.speed_bin.specs.Header.{IsAccepted}
use Rattle.command_words.specs.Kinds.{is_act, is_mrw, is_precharge, is_rfm_all, refreshes}
use Rattle.speed_bin.specs.Log.{Issued, Log, refs}
use Rattle.speed_bin.specs.Rules.{is_on_time, rule_6, rule_7, rule_8, rule_13}
use Rattle.speed_bin.specs.declared.header.Header.{Header}
use Rattle.speed_bin.specs.declared.settings.RefreshMode.{RefreshMode}
use Rattle.speed_bin.proofs.Tests.{all_below_from}
use Rattle.refresh_plan.specs.Debts.{IsNothingDue}
use Rattle.speed_bin.specs.Counts.{commands}
use Rattle.requests.specs.Owed.{is_column, owed}
use Rattle.deadlines.specs.Tasks.{command_of}
use Rattle.deadlines.specs.Backoffs.{Backoff}
use Rattle.deadlines.specs.Timely.{Timely, Ready, ForRefAll, ForRefSame, ForEcs, ForRfmAll, ForRfmSame}
use Rattle.deadlines.specs.Counts.{is_addressed}
use Rattle.deadlines.specs.Standing.{AllInTime, Opening, KeepsDeadlines, Keeps}
use Rattle.deadlines.specs.Turns.{has_request, Turn, WritesRegister, ServesTask, EndsTask, ServesRequest, ClosesAtEnd}
use Rattle.deadlines.specs.declared.task.Task.{Task}
use Rattle.deadlines.specs.declared.task.Task.TheVariants.{RfmAll, Ecs as Scrub, RefAll, RefSame, RfmSame}
use Rattle.deadlines.proofs.OneMore.{commands_most}
use Rattle.deadlines.proofs.Moves.{Slack, Advances, Column, Shut, Issues, Writes, Serves, Ends, Freely, Finally}
use Rattle.deadlines.proofs.Rounds.{is_plain, refs_plain, refs_all, refs_scrub}
use Rattle.deadlines.proofs.Backoffs.{rfm_all_raised}
use Rattle.deadlines.proofs.Phases.{stays_calm}
use Rattle.deadlines.proofs.Plain.{ready_chosen, advance_plain, free_plain, write_plain}
use Rattle.deadlines.proofs.Keeping.{stands_start, stands_next, stands_idle, ends_in_time, some_interval, first_clock, debt_of_two}
use Rattle.deadlines.proofs.Pace.{in_spans_turn, in_spans_start, in_spans_line, in_spans_idle}
use Rattle.deadlines.proofs.Queues.{job_next}
use Rattle.deadlines.proofs.Bounding.{acts_bound, end_law, places_law}
use Rattle.deadlines.proofs.Due.{before_due}
use Rattle.deadlines.proofs.Reading.{issues_in_numbers, turn_from, turn_queued, turn_works, next_mode, ref_same_mode}

-- ---- What an accepted header gives

pub slack_of : (h : Header) → IsAccepted h → Slack h
slack_of h ok = record {
  some_nrp = ok.timing.nrp.0;
  some_nrfc = ok.timing.nrfc.0;
  some_nrfcsb = ok.timing.nrfcsb.0;
  some_necs = ok.timing.necs.0;
  fifth = ok.checks.closing_within_two;
  sixth = ok.checks.round_within_half;
}

pub opened : (h : Header) (log : Log) (task : Option Task) (now until idle : ℕ) (waiting : List ℕ) (n : ℕ) → Keeps h log task now until idle waiting n → KeepsDeadlines h log task now until idle waiting n
unfolding Keeps
opened h log task now until idle waiting n k = k

pub shut : (h : Header) (log : Log) (task : Option Task) (now until idle : ℕ) (waiting : List ℕ) (n : ℕ) → KeepsDeadlines h log task now until idle waiting n → Keeps h log task now until idle waiting n
unfolding Keeps
shut h log task now until idle waiting n k = k

-- ---- Addresses of refreshes, and register writes

plain_addressed : (c : Command) → is_plain c ≡ true → is_addressed c ≡ true
unfolding is_plain
plain_addressed (RefSb a) k = absurd (cc)
plain_addressed c k = refl

own_addressed : (h : Header) (start : ℕ) (own : Task) (place : Issued) (log : Log) → Ready h log start own → place.command ≡ command_of own → is_addressed place.command ≡ true
own_addressed h start own place log (ForRefAll is none all due) e = rw (e, is) refl
own_addressed h start own place log (ForRefSame address is none turn due) e = rw (e, is) (lt-ltb _ _ turn.inside)
own_addressed h start own place log (ForEcs is due) e = rw (e, is) refl
own_addressed h start own place log (ForRfmAll is) e = rw (e, is) refl
own_addressed h start own place log (ForRfmSame address is) e = rw (e, is) refl

issue_addressed : (h : Header) (task next : Option Task) (now : ℕ) (place : Issued) (log : Log) → Timely h log task now → Issues h log task now place next → is_addressed place.command ≡ true
issue_addressed h task next now place log t (Writes w l none u n first at) = plain_addressed place.command (write_plain place.command w)
issue_addressed h task next now place log t (Serves chosen start d at adv n) = plain_addressed place.command (advance_plain h chosen log start place adv).0
issue_addressed h task next now place log t (Ends chosen start d at is shut n) = own_addressed h start chosen place log (ready_chosen h task now start chosen log t d) is
issue_addressed h task next now place log t (Freely u n e due w kind at) = plain_addressed place.command (free_plain place.command kind)
issue_addressed h task next now place log t (Finally start u n none e l due is at) = rw is refl

column_no_write : (c : Command) → is_column c ≡ true → is_mrw c ≡ true → ⊥
column_no_write (Mrw w) k m = absurd (cc)
column_no_write c k m = absurd (cc)

precharge_no_write : (c : Command) → is_precharge c ≡ true → is_mrw c ≡ true → ⊥
precharge_no_write (Mrw w) k m = absurd (cc)
precharge_no_write c k m = absurd (cc)

free_no_write : (c : Command) → (is_act c || (is_column c || is_precharge c)) ≡ true → is_mrw c ≡ true → ⊥
free_no_write (Mrw w) k m = absurd (cc)
free_no_write c k m = absurd (cc)

own_no_write : (own : Task) → is_mrw (command_of own) ≡ true → ⊥
own_no_write RfmAll m = absurd (cc)
own_no_write Scrub m = absurd (cc)
own_no_write RefAll m = absurd (cc)
own_no_write (RefSame a) m = absurd (cc)
own_no_write (RfmSame a) m = absurd (cc)

advance_no_write : (h : Header) (own : Task) (log : Log) (now : ℕ) (place : Issued) → Advances h own log now place → is_mrw place.command ≡ true → ⊥
advance_no_write h own log now place (Column b low column cover o within) m = column_no_write place.command column m
advance_no_write h own log now place (Shut b low precharge within opened shuts) m = precharge_no_write place.command precharge m

issue_no_write : (h : Header) (task next : Option Task) (now : ℕ) (place : Issued) (log : Log) → 8 ≤ length log → Issues h log task now place next → is_mrw place.command ≡ true → ⊥
issue_no_write h task next now place log many (Writes w l none u n first at) m = omega arith
issue_no_write h task next now place log many (Serves chosen start d at adv n) m = advance_no_write h chosen log start place adv m
issue_no_write h task next now place log many (Ends chosen start d at is shut n) m = own_no_write chosen (let k : is_mrw (command_of chosen) ≡ true = rw is at m in k)
issue_no_write h task next now place log many (Freely u n e due w kind at) m = free_no_write place.command kind m
issue_no_write h task next now place log many (Finally start u n none e l due is at) m = let k : is_mrw PreAb ≡ true = rw is at m in absurd (cc)

write_count : (h : Header) (log : Log) (task : Option Task) (now until : ℕ) (waiting : List ℕ) (place : Issued) (next : Option Task) (later : List ℕ) → Turn h log task now until waiting place next later → Issues h log task now place next → is_mrw place.command ≡ true → commands is_mrw log < 8
write_count h log task now until waiting place next later (WritesRegister few write at n same) i m = let k = commands_most is_mrw log in omega arith
write_count h log task now until waiting place next later (ServesTask chosen start many d at adv n) i m = absurd (issue_no_write h task next now place log many i m)
write_count h log task now until waiting place next later (EndsTask chosen start many d at is shut wanted n same) i m = absurd (issue_no_write h task next now place log many i m)
write_count h log task now until waiting place next later (ServesRequest many u undue nothing window at serves n) i m = absurd (issue_no_write h task next now place log many i m)
write_count h log task now until waiting place next later (ClosesAtEnd b many u none undue nothing at is low o empty n same) i m = absurd (issue_no_write h task next now place log many i m)

-- ---- While register writes are left

write_no_precharge : (c : Command) → is_mrw c ≡ true → is_precharge c ≡ false
write_no_precharge (Mrw w) k = refl
write_no_precharge c k = absurd (cc)

opening_next : (h : Header) (log : Log) (task : Option Task) (now until : ℕ) (waiting : List ℕ) (place : Issued) (next : Option Task) (later : List ℕ) → Backoff h log task now → (length log < 8 → Opening h log task now) → Turn h log task now until waiting place next later → suc (length log) < 8 → Opening h (place ∷ log) next (place.clock + 1)
opening_next h log task now until waiting place next later b o (WritesRegister few write at n same) low =
    let old = o few in
    let k = first_clock h task now place.clock place.command log b old at in
    let before = old.soon in
    record { soon = omega arith; prompt = omega arith; calm = stays_calm h place log (write_no_precharge place.command write) old.calm; untasked = n }
opening_next h log task now until waiting place next later b o (ServesTask chosen start many d at adv n) low = absurd (omega arith)
opening_next h log task now until waiting place next later b o (EndsTask chosen start many d at is shut wanted n same) low = absurd (omega arith)
opening_next h log task now until waiting place next later b o (ServesRequest many u undue nothing window at serves n) low = absurd (omega arith)
opening_next h log task now until waiting place next later b o (ClosesAtEnd bank many u none undue nothing at is under unshut empty n same) low = absurd (omega arith)

-- ---- The mode of refreshes

plain_or : (c : Command) → (is_plain c ≡ true) ⊎ ((c ≡ RefAb) ⊎ (((address : ℕ) × (c ≡ RefSb address)) ⊎ (c ≡ EcsCommand)))
unfolding is_plain
plain_or RefAb = inr (inl refl)
plain_or (RefSb address) = inr (inr (inl (address, refl)))
plain_or EcsCommand = inr (inr (inr refl))
plain_or c = inl refl

alike_next : (h : Header) (place : Issued) (log : Log) → (h.settings.refresh ≡ RefreshMode.All → refs 0 log ≡ refs 3 log) → ((address : ℕ) → place.command ≡ RefSb address → h.settings.refresh ≡ RefreshMode.Same) → h.settings.refresh ≡ RefreshMode.All → refs 0 (place ∷ log) ≡ refs 3 (place ∷ log)
alike_next h place log old same all = go (plain_or place.command)
  where
    go : (is_plain place.command ≡ true) ⊎ ((place.command ≡ RefAb) ⊎ (((address : ℕ) × (place.command ≡ RefSb address)) ⊎ (place.command ≡ EcsCommand))) → refs 0 (place ∷ log) ≡ refs 3 (place ∷ log)
    go (inl plain) = refs_plain 0 place log plain ∙ old all ∙ sym (refs_plain 3 place log plain)
    go (inr (inl e)) = refs_all 0 place log e ∙ ap (λ (n : ℕ). suc n) (old all) ∙ sym (refs_all 3 place log e)
    go (inr (inr (inl p))) = let k = same p.0 p.1 in let m : RefreshMode.All ≡ RefreshMode.Same = sym all ∙ k in absurd (cc)
    go (inr (inr (inr e))) = refs_scrub 0 place log e ∙ old all ∙ sym (refs_scrub 3 place log e)

-- ---- A turn

pub holds_next : (h : Header) (log : Log) (task next : Option Task) (now until idle : ℕ) (waiting later : List ℕ) (n : ℕ) (place : Issued) → Slack h → KeepsDeadlines h log task now until idle waiting n → Turn h log task now until waiting place next later → KeepsDeadlines h (place ∷ log) next (place.clock + 1) until idle later n
holds_next h log task next now until idle waiting later n place slack k turn =
    let i = issues_in_numbers h log task now until waiting place next later slack k.stands k.opening k.mode turn in
    let from = turn_from h log task now until waiting place next later slack k.stands.timely.rounds turn in
    record {
      stands = stands_next h task next now place log slack k.stands i;
      opening = λ low. opening_next h log task now until waiting place next later k.stands.backoff k.opening turn low;
      mode = record {
        alike = alike_next h place log k.mode.alike (λ address e. ref_same_mode h log task now until waiting place next later address k.mode turn e);
        same = λ address e. next_mode h log task now until waiting place next later address k.mode turn e;
      };
      job = job_next h place log waiting later n
          (turn_works h log task now until waiting place next later k.job.owes (rfm_all_raised h task next now place log k.stands.backoff i) turn)
          (turn_queued h log task now until waiting place next later turn)
          (write_count h log task now until waiting place next later turn i)
          k.job;
      addressed = (issue_addressed h task next now place log k.stands.timely i, k.addressed);
      in_spans = in_spans_turn h now until idle from.start place log slack k.in_spans from.reaches from.at;
    }

pub keeps_turn : (h : Header) (log : Log) (task next : Option Task) (now until idle : ℕ) (waiting later : List ℕ) (n : ℕ) (place : Issued) → IsAccepted h → Keeps h log task now until idle waiting n → Turn h log task now until waiting place next later → Keeps h (place ∷ log) next (place.clock + 1) until idle later n
keeps_turn h log task next now until idle waiting later n place ok k turn =
    shut h (place ∷ log) next (place.clock + 1) until idle later n (holds_next h log task next now until idle waiting later n place (slack_of h ok) (opened h log task now until idle waiting n k) turn)

in_time_after : (h : Header) (log : Log) (task next : Option Task) (now until idle : ℕ) (waiting later : List ℕ) (n : ℕ) (place : Issued) → IsAccepted h → Keeps h log task now until idle waiting n → Turn h log task now until waiting place next later → AllInTime h (place ∷ log)
in_time_after h log task next now until idle waiting later n place ok k turn = (holds_next h log task next now until idle waiting later n place (slack_of h ok) (opened h log task now until idle waiting n k) turn).stands.meets

pub turn_sixth : (h : Header) (log : Log) (task next : Option Task) (now until idle : ℕ) (waiting later : List ℕ) (n : ℕ) (place : Issued) → IsAccepted h → Keeps h log task now until idle waiting n → Turn h log task now until waiting place next later → rule_6 h place.clock place.command log ≡ true
turn_sixth h log task next now until idle waiting later n place ok k turn = (in_time_after h log task next now until idle waiting later n place ok k turn).1

pub turn_seventh : (h : Header) (log : Log) (task next : Option Task) (now until idle : ℕ) (waiting later : List ℕ) (n : ℕ) (place : Issued) → IsAccepted h → Keeps h log task now until idle waiting n → Turn h log task now until waiting place next later → rule_7 place.command log ≡ true
turn_seventh h log task next now until idle waiting later n place ok k turn = (in_time_after h log task next now until idle waiting later n place ok k turn).2

pub turn_eighth : (h : Header) (log : Log) (task next : Option Task) (now until idle : ℕ) (waiting later : List ℕ) (n : ℕ) (place : Issued) → IsAccepted h → Keeps h log task now until idle waiting n → Turn h log task now until waiting place next later → rule_8 h place.command log ≡ true
turn_eighth h log task next now until idle waiting later n place ok k turn = (in_time_after h log task next now until idle waiting later n place ok k turn).3

pub turn_thirteenth : (h : Header) (log : Log) (task next : Option Task) (now until idle : ℕ) (waiting later : List ℕ) (n : ℕ) (place : Issued) → IsAccepted h → Keeps h log task now until idle waiting n → Turn h log task now until waiting place next later → rule_13 h place.clock log ≡ true
turn_thirteenth h log task next now until idle waiting later n place ok k turn = (in_time_after h log task next now until idle waiting later n place ok k turn).4

pub turn_raised : (h : Header) (log : Log) (task next : Option Task) (now until idle : ℕ) (waiting later : List ℕ) (n : ℕ) (place : Issued) → IsAccepted h → Keeps h log task now until idle waiting n → Turn h log task now until waiting place next later → is_rfm_all place.command ≡ true → alert h log ≡ None → ⊥
turn_raised h log task next now until idle waiting later n place ok k turn rfm =
    let o = opened h log task now until idle waiting n k in
    rfm_all_raised h task next now place log o.stands.backoff (issues_in_numbers h log task now until waiting place next later (slack_of h ok) o.stands o.opening o.mode turn) rfm

-- ---- A refresh waits for a debt of 2

no_refresh_of : (address : ℕ) (c : Command) → is_plain c ≡ true → refreshes address c ≡ true → ⊥
unfolding is_plain
no_refresh_of address RefAb p k = absurd (cc)
no_refresh_of address (RefSb own) p k = absurd (cc)
no_refresh_of address c p k = absurd (cc)

own_refresh : (task : Task) (address : ℕ) → refreshes address (command_of task) ≡ true → (task ≡ RefAll) ⊎ (task ≡ RefSame address)
own_refresh RfmAll address k = absurd (cc)
own_refresh Scrub address k = absurd (cc)
own_refresh RefAll address k = inl refl
own_refresh (RefSame own) address k = inr (ap (λ (n : ℕ). RefSame n) (eqb-true own address k))
own_refresh (RfmSame own) address k = absurd (cc)

issue_owing : (h : Header) (task next : Option Task) (now address : ℕ) (place : Issued) (log : Log) → Slack h → Timely h log task now → Issues h log task now place next → address < 4 → refreshes address place.command ≡ true → refs address log + 2 ≤ place.clock / h.timing.nrefi
issue_owing h task next now address place log slack t (Writes w l none u n first at) low k = absurd (no_refresh_of address place.command (write_plain place.command w) k)
issue_owing h task next now address place log slack t (Serves chosen start d at adv n) low k = absurd (no_refresh_of address place.command (advance_plain h chosen log start place adv).0 k)
issue_owing h task next now address place log slack t (Ends chosen start d at is shut n) low k =
    debt_of_two h start place.clock address chosen log slack t.rounds (ready_chosen h task now start chosen log t d) at.not_before low
    (own_refresh chosen address (let m : refreshes address (command_of chosen) ≡ true = rw is at k in m))
issue_owing h task next now address place log slack t (Freely u n e due w kind at) low k = absurd (no_refresh_of address place.command (free_plain place.command kind) k)
issue_owing h task next now address place log slack t (Finally start u n none e l due is at) low k = absurd (no_refresh_of address place.command (free_plain place.command (rw is refl)) k)

pub turn_owing : (h : Header) (log : Log) (task next : Option Task) (now until idle : ℕ) (waiting later : List ℕ) (n : ℕ) (place : Issued) → IsAccepted h → Keeps h log task now until idle waiting n → Turn h log task now until waiting place next later → (address : ℕ) → address < 4 → refreshes address place.command ≡ true → refs address log + 2 ≤ place.clock / h.timing.nrefi
turn_owing h log task next now until idle waiting later n place ok k turn address low refresh =
    let o = opened h log task now until idle waiting n k in
    issue_owing h task next now address place log (slack_of h ok) o.stands.timely (issues_in_numbers h log task now until waiting place next later (slack_of h ok) o.stands o.opening o.mode turn) low refresh

-- ---- The start, a request that is offered, an idle line, a turn that rests

pub keeps_start : (h : Header) → IsAccepted h → Keeps h [] None 0 0 0 [] 0
keeps_start h ok = shut h [] None 0 0 0 [] 0 (record {
  stands = stands_start h;
  opening = λ few. (record { soon = omega arith; prompt = omega arith; calm = refl; untasked = refl });
  mode = record { alike = λ all. refl; same = λ address e. absurd (cc) };
  job = record {
    work = tt;
    owes = λ b low own. absurd (cc);
    offered = omega arith;
    writes = omega arith;
    no_nop = refl;
    some_raaimt = ok.settings.raaimt.0;
  };
  addressed = tt;
  in_spans = in_spans_start h;
})

wanted_more : (waiting : List ℕ) (own b : ℕ) → has_request waiting b ≡ true → has_request (waiting ++ (own ∷ [])) b ≡ true
unfolding has_request
wanted_more [] own b w = absurd (cc)
wanted_more (first ∷ waiting) own b w = go (first == b) w (wanted_more waiting own b)
  where
    go : (x : Bool) → (x || has_request waiting b) ≡ true → (has_request waiting b ≡ true → has_request (waiting ++ (own ∷ [])) b ≡ true) → (x || has_request (waiting ++ (own ∷ [])) b) ≡ true
    go true w ih = refl
    go false w ih = ih w

pub keeps_offer : (h : Header) (log : Log) (task : Option Task) (now until idle : ℕ) (waiting : List ℕ) (n own : ℕ) → Keeps h log task now until idle waiting n → Keeps h log task now until idle (waiting ++ (own ∷ [])) (suc n)
keeps_offer h log task now until idle waiting n own keeps =
    let k = opened h log task now until idle waiting n keeps in
    shut h log task now until idle (waiting ++ (own ∷ [])) (suc n) (record {
      stands = k.stands;
      opening = k.opening;
      mode = k.mode;
      job = record {
        work = k.job.work;
        owes = λ b low o. wanted_more waiting own b (k.job.owes b low o);
        offered = (let a = k.job.offered in let b = length-append waiting (own ∷ []) in omega arith);
        writes = k.job.writes;
        no_nop = k.job.no_nop;
        some_raaimt = k.job.some_raaimt;
      };
      addressed = k.addressed;
      in_spans = k.in_spans;
    })

pub keeps_line : (h : Header) (log : Log) (task : Option Task) (now until idle clocks : ℕ) (waiting : List ℕ) (n : ℕ) → Keeps h log task now until idle waiting n → Keeps h log task now (now + clocks) (idle + clocks) waiting n
keeps_line h log task now until idle clocks waiting n keeps =
    let k = opened h log task now until idle waiting n keeps in
    shut h log task now (now + clocks) (idle + clocks) waiting n (record {
      stands = k.stands;
      opening = k.opening;
      mode = k.mode;
      job = k.job;
      addressed = k.addressed;
      in_spans = in_spans_line h now until idle clocks log k.in_spans;
    })

pub keeps_rest : (h : Header) (log : Log) (now until idle : ℕ) (waiting : List ℕ) (n : ℕ) → IsAccepted h → Keeps h log None now until idle waiting n → 8 ≤ length log → alert h log ≡ None → IsNothingDue h (max now until) log → Keeps h log None (max now until) until idle waiting n
keeps_rest h log now until idle waiting n ok keeps many none nothing =
    let k = opened h log None now until idle waiting n keeps in
    let slack = slack_of h ok in
    let due = before_due h (max now until) log (some_interval h slack) nothing in
    shut h log None (max now until) until idle waiting n (record {
      stands = stands_idle h now (max now until) log slack none (omega arith) due k.stands;
      opening = λ few. absurd (omega arith);
      mode = k.mode;
      job = k.job;
      addressed = k.addressed;
      in_spans = in_spans_idle h now until idle log k.in_spans;
    })

pub rest_sixth : (h : Header) (log : Log) (now until idle : ℕ) (waiting : List ℕ) (n : ℕ) → IsAccepted h → Keeps h log None now until idle waiting n → alert h log ≡ None → IsNothingDue h (max now until) log → all_below 4 (λ address. is_on_time h (max now until) address log) ≡ true
rest_sixth h log now until idle waiting n ok keeps none nothing =
    let k = opened h log None now until idle waiting n keeps in
    let slack = slack_of h ok in
    let due = before_due h (max now until) log (some_interval h slack) nothing in
    all_below_from 4 (λ address. is_on_time h (max now until) address log) (λ i low. ends_in_time h now (max now until) i log slack low (omega arith) due k.stands)

pub rest_thirteenth : (h : Header) (log : Log) → alert h log ≡ None → (clock : ℕ) → rule_13 h clock log ≡ true
rest_thirteenth h log none clock = rw none refl

-- ---- The bounds

pub bound_acts : (h : Header) (log : Log) (task : Option Task) (now until idle : ℕ) (waiting : List ℕ) (n : ℕ) → IsAccepted h → Keeps h log task now until idle waiting n → commands is_act log ≤ n
bound_acts h log task now until idle waiting n ok keeps = acts_bound h log waiting n (opened h log task now until idle waiting n keeps).job

pub bound_end : (h : Header) (log : Log) (task : Option Task) (now until idle : ℕ) (waiting : List ℕ) (n : ℕ) → IsAccepted h → Keeps h log task now until idle waiting n → now ≤ 2 * (idle + 8 * n_max h.timing * (n + 3))
bound_end h log task now until idle waiting n ok keeps =
    let k = opened h log task now until idle waiting n keeps in
    let y = end_law h task log waiting n now until idle (slack_of h ok) k.stands k.job k.addressed k.in_spans in
    let by = k.in_spans.by_now in
    omega arith

pub bound_target : (h : Header) (log : Log) (task : Option Task) (now until idle : ℕ) (waiting : List ℕ) (n : ℕ) → IsAccepted h → Keeps h log task now until idle waiting n → until ≤ 2 * (idle + 8 * n_max h.timing * (n + 3))
bound_target h log task now until idle waiting n ok keeps =
    let k = opened h log task now until idle waiting n keeps in
    let y = end_law h task log waiting n now until idle (slack_of h ok) k.stands k.job k.addressed k.in_spans in
    let by = k.in_spans.by_until in
    omega arith

pub bound_places : (h : Header) (log : Log) (task : Option Task) (now until idle : ℕ) (waiting : List ℕ) (n : ℕ) → IsAccepted h → Keeps h log task now until idle waiting n → length log ≤ 28 + 5 * n + 5 * (now / h.timing.nrefi)
bound_places h log task now until idle waiting n ok keeps =
    let k = opened h log task now until idle waiting n keeps in
    let p = places_law h task log waiting n now (slack_of h ok) k.stands k.job k.addressed in
    omega arith

-- ---- Banks that are owed

pub owed_waits : (h : Header) (log : Log) (task : Option Task) (now until idle : ℕ) (waiting : List ℕ) (n b : ℕ) → Keeps h log task now until idle waiting n → b < 32 → owed b log ≡ true → has_request waiting b ≡ true
owed_waits h log task now until idle waiting n b keeps low own = (opened h log task now until idle waiting n keeps).job.owes b low own
