-- Register writes.
use Rattle.std.proofs.Common.{◌≡◌, ◌∙◌, ℕ, ◌+◌, ◌<◌, ◌≤◌, ◌^◌, refl, sym, ap, subst, arith, List, [], ◌∷◌, length, get_or, slice_get, Option, Some, None}
use Rattle.std.proofs.lemmas.Option.{slice_get-get_or}
use Rattle.command_words.specs.Command.{IsInRange}
use Rattle.command_words.specs.Kinds.{is_act, is_nop}
use Rattle.command_words.specs.declared.command.Command.TheVariants.{Mrw}
use Rattle.command_words.specs.declared.command.Mrw.{Mrw as Write}
use Rattle.pair_deadlines.specs.Budget.{HasTime}
use Rattle.pair_deadlines.specs.Keeping.{Keeps, Resting, Writing}
use Rattle.rank_bus.specs.Buses.{other, part}
use Rattle.rank_bus.specs.Standing.{now_of}
use Rattle.rank_bus.specs.declared.rank.Rank.{Rank}
use Rattle.rank_bus.specs.declared.rank.Rank.TheVariants.{Zero, One}
use Rattle.reports.proofs.Through.{through-start}
use Rattle.speed_bin.specs.Header.{IsAccepted}
use Rattle.speed_bin.specs.Log.{Log}
use Rattle.speed_bin.specs.Registers.{register_writes}
use Rattle.speed_bin.specs.declared.header.Header.{Header}
use Rattle.pair_reports.specs.Lines.{only}
use Rattle.pair_reports.specs.Runs.{bus_of}
use Rattle.rank_pair.specs.Accessing.{IsThere}
use Rattle.rank_pair.specs.DeadlineLaws.{DeadlineLaws}
use Rattle.rank_pair.specs.Pairs.{IsCutOff, IsIssuable, IsIssued, IsNextClock, StandsFor, issues}
use Rattle.rank_pair.specs.Under.{IsCut, IsLogged, Wrote}
use Rattle.rank_pair.specs.Writing.{Counted, IsOfWrites, IsTurn, IsWritten, count_in, written_after}
use Rattle.rank_pair.specs.declared.pair.Pair.{Pair}
use Rattle.rank_pair.proofs.Fine.{fine, write_kept}
use Rattle.rank_pair.proofs.Ranks.{for_each, own_in_time}
use Rattle.rank_pair.proofs.Served.{few_by}
use Rattle.rank_pair.proofs.Steps.{before_later, begun_of, cut_more, issuable, one_more_of, still_done, still_shut, wrote_more}
use Rattle.rank_pair.proofs.Waits.{done_later}

-- ---- Before a write

-- fewer than sixteen are written
few_written : (rank : Rank) (count a b : ℕ) → count < 8 → a ≡ count_in Zero (written_after rank count) → b ≡ count_in One (written_after rank count) → a + b < 16
few_written Zero count a b low e f = omega (arith, low, e, f)
few_written One count a b low e f = omega (arith, low, e, f)

own_count : (rank : Rank) (count : ℕ) → count_in rank (written_after rank count) ≡ count
own_count Zero count = refl
own_count One count = refl

write_low : DeadlineLaws → (p : Pair) (h : Header) (counted : Counted) (before after : Option (List ℕ)) → IsWritten p h counted before after → now_of p.bus < 2 ^ 40
write_low l p h counted before after w = l.small_now h (bus_of w.run) (now_of p.bus) 0 0 0 Writing w.accepted w.time w.keeps (omega arith) (omega arith)

write_keeps : DeadlineLaws → (p : Pair) (h : Header) (rank : Rank) (count : ℕ) (write : Write) (before after : Option (List ℕ)) (w : IsWritten p h (written_after rank count) before after) → count < 8
    → (clock : ℕ) → IsNextClock p h w.run rank (Mrw write) clock → Keeps h (record { rank = rank; clock = clock; command = Mrw write } ∷ bus_of w.run) (clock + 1) 0 0 0 Writing
write_keeps l p h rank count write before after w low clock at =
    l.writes h (bus_of w.run) (now_of p.bus) 0 0 0 rank clock (Mrw write) w.accepted w.time w.keeps
    (few_written rank count (length (part Zero (bus_of w.run))) (length (part One (bus_of w.run))) low ((w.logged Zero).counted) ((w.logged One).counted)) refl at

pub write_issuable : DeadlineLaws → (p : Pair) (h : Header) (rank : Rank) (count : ℕ) (write : Write) (before after : Option (List ℕ)) (w : IsWritten p h (written_after rank count) before after) → IsTurn h write count → IsInRange (Mrw write)
    → IsIssuable p h [] w.run rank (Mrw write) None
write_issuable l p h rank count write before after w turn inside =
    let own = part rank (bus_of w.run) in
    let low = write_low l p h (written_after rank count) before after w in
    issuable p h [] w.run rank (Mrw write) None w.accepted w.stands w.all_done.sound (few_by (length own) (now_of p.bus) ((w.logged rank).few) low) inside
    (λ clock at.
    let a = l.within h (bus_of w.run) (now_of p.bus) 0 0 0 Writing rank clock (Mrw write) w.accepted w.time w.keeps at in
    let m = l.small h w.accepted w.time in
    omega (arith, a, m, low))
    (λ clock at. fine h clock (Mrw write) own
    (write_kept h clock write own (w.shut rank) (ap (slice_get (register_writes h.settings)) ((w.logged rank).counted ∙ own_count rank count) ∙ turn.due)) at.may.follows
    (own_in_time h rank clock (Mrw write) (bus_of w.run) (l.meets h (record { rank = rank; clock = clock; command = Mrw write } ∷ bus_of w.run) (clock + 1) 0 0 0 Writing rank (write_keeps l p h rank count write before after w turn.few clock at))))
    refl tt

-- ---- Behind it

logged_write : (log : Log) (count now clock : ℕ) (write : Write) → now ≤ clock → IsOfWrites log count now → IsOfWrites (record { clock = clock; command = Mrw write } ∷ log) (count + 1) (clock + 1)
logged_write log count now clock write le k = record {
  counted = (let x = k.counted in omega (arith, x));
  acts = one_more_of is_act clock (Mrw write) log 0 refl k.acts;
  no_nop = one_more_of is_nop clock (Mrw write) log 0 refl k.no_nop;
  before = (omega arith, before_later log now (clock + 1) (omega (arith, le)) k.before);
  few = (let x = k.few in omega (arith, x, le));
}

logged_still : (log : Log) (count now later : ℕ) → now ≤ later → IsOfWrites log count now → IsOfWrites log count later
logged_still log count now later le k = record { counted = k.counted; acts = k.acts; no_nop = k.no_nop; before = before_later log now later le k.before; few = (let x = k.few in omega (arith, x, le)) }

counts_more : (rank : Rank) (count : ℕ) → (count_in rank (written_after rank (count + 1)) ≡ count_in rank (written_after rank count) + 1) × (count_in (other rank) (written_after rank (count + 1)) ≡ count_in (other rank) (written_after rank count))
counts_more Zero count = (refl, refl)
counts_more One count = (refl, refl)

pub write_issued : DeadlineLaws → (p q : Pair) (h : Header) (rank : Rank) (count : ℕ) (write : Write) (before middle after : Option (List ℕ)) (w : IsWritten p h (written_after rank count) before middle) → IsTurn h write count → IsInRange (Mrw write)
    → IsIssued p q h [] w.run rank (Mrw write) None middle after → IsWritten q h (written_after rank (count + 1)) before after
write_issued l p q h rank count write before middle after w turn inside i =
    let k = write_issuable l p h rank count write before middle w turn inside in
    let le = i.earliest.not_before in
    let c = counts_more rank count in
    record {
      run = issues rank i.clock (Mrw write) None ∷ w.run;
      accepted = w.accepted;
      time = w.time;
      stands = i.stands;
      keeps = subst (λ (n : ℕ). Keeps h (record { rank = rank; clock = i.clock; command = Mrw write } ∷ bus_of w.run) n 0 0 0 Writing) (sym i.now) (write_keeps l p h rank count write before middle w turn.few i.clock i.earliest);
      logged = λ r. subst (λ (n : ℕ). IsOfWrites (part r (record { rank = rank; clock = i.clock; command = Mrw write } ∷ bus_of w.run)) (count_in r (written_after rank (count + 1))) n) (sym i.now)
          (for_each (λ x log. IsOfWrites log (count_in x (written_after rank (count + 1))) (i.clock + 1)) rank i.clock (Mrw write) (bus_of w.run)
          (subst (λ (n : ℕ). IsOfWrites (record { clock = i.clock; command = Mrw write } ∷ part rank (bus_of w.run)) n (i.clock + 1)) (sym c.0) (logged_write (part rank (bus_of w.run)) (count_in rank (written_after rank count)) (now_of p.bus) i.clock write le (w.logged rank)))
          (subst (λ (n : ℕ). IsOfWrites (part (other rank) (bus_of w.run)) n (i.clock + 1)) (sym c.1) (logged_still (part (other rank) (bus_of w.run)) (count_in (other rank) (written_after rank count)) (now_of p.bus) (i.clock + 1) (omega (arith, le)) (w.logged (other rank)))) r);
      all_done = done_later h [] (issues rank i.clock (Mrw write) None ∷ w.run) (now_of p.bus) (now_of q.bus) (let e = i.now in omega (arith, le, e)) (still_done p h [] [] w.run rank i.clock (now_of p.bus) (Mrw write) w.all_done k i.earliest);
      shut = still_shut w.run rank i.clock (Mrw write) None refl w.shut;
      wrote = wrote_more h [] w.run (issues rank i.clock (Mrw write) None) before middle after w.wrote i.wrote;
    }

pub write_cut : DeadlineLaws → (p : Pair) (h : Header) (rank : Rank) (count : ℕ) (write : Write) (before middle after : Option (List ℕ)) (w : IsWritten p h (written_after rank count) before middle) → IsTurn h write count → IsInRange (Mrw write)
    → IsCutOff p h [] w.run rank (Mrw write) None middle after → IsCut h [] before after
write_cut l p h rank count write before middle after w turn inside i =
    let k = write_issuable l p h rank count write before middle w turn inside in
    cut_more h [] w.run (issues rank i.clock (Mrw write) None) before middle after
    (begun_of h [] [] (issues rank i.clock (Mrw write) None ∷ w.run) (now_of p.bus) (still_done p h [] [] w.run rank i.clock (now_of p.bus) (Mrw write) w.all_done k i.earliest) ([], refl)) w.wrote i.wrote

-- ---- The first write, and behind the last

pub none_written : DeadlineLaws → (p : Pair) (h : Header) (before after : Option (List ℕ)) → IsAccepted h → HasTime h → StandsFor p h [] [] → now_of p.bus ≡ 0 → Wrote h [] [] before after → IsWritten p h (written_after Zero 0) before after
none_written l p h before after ok time stands now wrote = record {
  run = [];
  accepted = ok;
  time = time;
  stands = stands;
  keeps = subst (λ (n : ℕ). Keeps h [] n 0 0 0 Writing) (sym now) (l.start h ok time);
  logged = λ r. fresh r;
  all_done = record { sound = λ r. tt; shares = tt; in_order = refl; through = λ r. through-start (only r []); paced = record { apart = tt; passed = tt; idled = omega arith } };
  shut = λ r b low. refl;
  wrote = wrote;
}
  where
    fresh : (r : Rank) → IsOfWrites (part r []) (count_in r (written_after Zero 0)) (now_of p.bus)
    fresh Zero = record { counted = refl; acts = refl; no_nop = refl; before = tt; few = omega arith }
    fresh One = record { counted = refl; acts = refl; no_nop = refl; before = tt; few = omega arith }

pub all_written : DeadlineLaws → (p : Pair) (h : Header) (before after : Option (List ℕ)) → IsWritten p h (written_after One 8) before after → IsThere p h [] Resting before after
all_written l p h before after w = record {
  since = now_of p.bus;
  until = 0;
  under = record {
    run = w.run;
    under = record {
      on_bus = record {
        accepted = w.accepted;
        time = w.time;
        traced = record { inside = tt; few = omega arith; idle = omega arith };
        stands = w.stands;
        keeps = l.written h (bus_of w.run) (now_of p.bus) 0 0 0 w.accepted w.time w.keeps (let a = (w.logged Zero).counted in let b = (w.logged One).counted in omega (arith, a, b));
        logged = λ r. logged r;
      };
      all_done = w.all_done;
      past = omega arith;
      front = ([], refl);
      shut = w.shut;
    };
    wrote = w.wrote;
  };
}
  where
    of_writes : (log : Log) (count : ℕ) → count ≡ 8 → (now : ℕ) → IsOfWrites log count now → (r : Rank) → IsLogged log (only r []) now
    of_writes log count is now k r = record { written = (let x = k.counted in omega (arith, x, is)); acts = k.acts; no_nop = k.no_nop; before = k.before; few = k.few }

    logged : (r : Rank) → IsLogged (part r (bus_of w.run)) (only r []) (now_of p.bus)
    logged Zero = of_writes (part Zero (bus_of w.run)) 8 refl (now_of p.bus) (w.logged Zero) Zero
    logged One = of_writes (part One (bus_of w.run)) 8 refl (now_of p.bus) (w.logged One) One

-- ---- One after another

eight : (h : Header) → length (register_writes h.settings) ≡ 8
eight h = refl

-- the write with this index is the one behind so many
pub turn_of : (h : Header) (writes : List Write) (index : ℕ) (write : Write) → writes ≡ register_writes h.settings → index < length writes → write ≡ get_or writes index write → IsTurn h write index
turn_of h writes index write is low item = record {
  few = (let e = ap length is in let n = eight h in omega (arith, low, e, n));
  due = subst (λ (ws : List Write). slice_get ws index ≡ Some write) is (slice_get-get_or writes index write low ∙ ap Some (sym item));
}

-- behind the last of them all eight are written
pub written_all : (p : Pair) (h : Header) (writes : List Write) (rank : Rank) (index : ℕ) (before after : Option (List ℕ)) → writes ≡ register_writes h.settings → index ≤ length writes → length writes ≤ index
    → IsWritten p h (written_after rank index) before after → IsWritten p h (written_after rank 8) before after
written_all p h writes rank index before after is reached past w =
    subst (λ (n : ℕ). IsWritten p h (written_after rank n) before after) (let e = ap length is in let n = eight h in omega (arith, e, n, reached, past)) w
