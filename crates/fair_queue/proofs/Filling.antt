-- Filling the queues, one line after another.
use Rattle.std.proofs.Common.{◌≡◌, ℕ, ◌+◌, ◌*◌, ◌-◌, ◌<◌, ◌≤◌, true, false, cond, Option, Some, None, List, [], ◌∷◌, drop, length, refl, sym, ap, ◌∙◌, subst, arith}
use Rattle.std.specs.Io.KnownBytes.{Consumes}
use Rattle.std.proofs.KnownBytes.{Consumes-nil}
use Rattle.ddr_io.specs.Line.{next_bytes}
use Rattle.fair_queue.specs.Arrivals.{Arrival, Input, with_line, input_from}
use Rattle.fair_queue.specs.Machine.{Queued, has_room, pushed, filled, in_queues}
use Rattle.fair_queue.specs.Reading.{Place, Advances, AreKept, Continues, ContinuesFrom, EndsAt, EndsWith, Fills, FillsFrom, IsSame, IsSteady, IsStopped, IsKnown, left_in, left_behind, held_in, port_in, unread, waiting, with_ahead}
use Rattle.fair_queue.specs.declared.port_lines.Ahead.{Ahead}
use Rattle.fair_queue.specs.declared.port_lines.Ahead.TheVariants.{Unknown, Waits, Bad, End}
use Rattle.ddr_text.specs.Opening.{parts_of}
use Rattle.fair_queue.proofs.Advancing.{advances, advances-none, advances-so, no-end-waits}
use Rattle.fair_queue.proofs.Rounds.{pushed-four, pushed-more}

pub continues-first : (queued : Queued) (it : Place) (before : Option (List ℕ)) → Continues queued it before queued it before
continues-first queued it before = advances-none it.ahead before (ContinuesFrom queued it queued it) (λ bytes. (refl, refl))

pub continues-look : (old : Queued) (first : Place) (start : Option (List ℕ)) (queued : Queued) (it later : Place) (before after : Option (List ℕ)) → Continues old first start queued it before → IsSame it later before after → Continues old first start queued later after
continues-look old first start queued it later before after c s =
    advances first.ahead it.ahead later.ahead start before after (ContinuesFrom old first queued it) (λ bytes rest. left_in it bytes ≡ left_in later rest) (ContinuesFrom old first queued later) c s
    (λ bytes mid rest p q. (p.0 ∙ ap (λ (i : Input). filled queued i.lines) q, p.1 ∙ ap (λ (i : Input). i.is_bad) q))

pub ends-look : (old : Queued) (first : Place) (start : Option (List ℕ)) (queued : Queued) (it later : Place) (before after : Option (List ℕ)) → Continues old first start queued it before → EndsAt start it.ahead before
    → (EndsAt before it.ahead before → EndsAt before later.ahead after) → EndsAt start later.ahead after
ends-look old first None queued it later before after c e f = tt
ends-look old first (Some bytes) queued it later None after c e f = absurd c.took
ends-look old first (Some bytes) queued it later (Some rest) after c e f = f e

pub ends-taken : (start : Option (List ℕ)) (it later : Place) (left : Option (List ℕ)) → later ≡ with_ahead it Unknown → EndsAt start later.ahead left
ends-taken None it later left l = tt
ends-taken (Some bytes) it later left l = subst (λ (k : Place). EndsWith k.ahead left) (sym l) tt

-- the line that waits
port-waits : (ahead : Ahead) (port : ℕ) → Some port ≡ port_in ahead → ahead ≡ Waits port
port-waits Unknown port e = cc
port-waits (Waits own) port e = let same : port ≡ own = cc in ap (λ p. Waits p) (sym same)
port-waits Bad port e = cc
port-waits End port e = cc

left-waits : (it : Place) (rest : List ℕ) (port : ℕ) → it.ahead ≡ Waits port → left_in it rest ≡ with_line (Some (record { port = port; rest = drop 2 it.reader.line })) (input_from it.number (parts_of rest))
left-waits it rest port e = ap (λ a. left_behind a it.reader.line (input_from it.number (parts_of rest))) e

-- a line that is taken changes nothing of what is read
unread-taken : (it later : Place) (port : ℕ) (left : Option (List ℕ)) → it.ahead ≡ Waits port → later ≡ with_ahead it Unknown → unread later left ≡ unread it left
unread-taken it later port left w l = ap (λ (k : Place). unread k left) l ∙ sym (ap (λ a. next_bytes (held_in a it.reader.held) left) w)

takes-none : (it later : Place) (port : ℕ) (left : Option (List ℕ)) → it.ahead ≡ Waits port → later ≡ with_ahead it Unknown → Advances it.ahead later.ahead (unread it left) (unread later left) (λ bytes rest. bytes ≡ rest)
takes-none it later port left w l = record {
  taken = [];
  took = subst (λ n. Consumes (unread it left) n []) (sym (unread-taken it later port left w l)) (Consumes-nil (unread it left));
  over = λ e. absurd (no-end-waits it.ahead port w e);
  holds = λ more may. refl;
}

continues-taken : (old : Queued) (first : Place) (queued : Queued) (it : Place) (port : ℕ) (text : List ℕ) (new : Queued) (later : Place) (bytes rest : List ℕ) → ContinuesFrom old first queued it bytes rest → it.ahead ≡ Waits port → has_room queued port ≡ true
    → text ≡ drop 2 it.reader.line → new ≡ pushed queued (record { port = port; rest = text }) → later ≡ with_ahead it Unknown → ContinuesFrom old first new later bytes rest
continues-taken old first queued it port text new later bytes rest c w r t n l =
    let left = left-waits it rest port w in
    let behind : Input = input_from it.number (parts_of rest) in
    let is_left : behind ≡ left_in later rest = ap (λ (k : Place). left_in k rest) (sym l) in (
      c.0 ∙ ap (λ (i : Input). filled queued i.lines) left
          ∙ ap (λ b. cond b (filled (pushed queued (record { port = port; rest = drop 2 it.reader.line })) behind.lines) (record { queued = queued; left = record { port = port; rest = drop 2 it.reader.line } ∷ behind.lines })) r
          ∙ ap (λ w. filled (pushed queued (record { port = port; rest = w })) behind.lines) (sym t)
          ∙ ap (λ k. filled k behind.lines) (sym n)
          ∙ ap (λ (i : Input). filled new i.lines) is_left,
      c.1 ∙ ap (λ (i : Input). i.is_bad) left ∙ ap (λ (i : Input). i.is_bad) is_left,
    )

pub continues-push : (old : Queued) (first : Place) (start : Option (List ℕ)) (queued : Queued) (it : Place) (left : Option (List ℕ)) (port : ℕ) (text : List ℕ) (new : Queued) (later : Place) → Continues old first start queued it (unread it left) → Some port ≡ port_in it.ahead → has_room queued port ≡ true
    → text ≡ drop 2 it.reader.line → new ≡ pushed queued (record { port = port; rest = text }) → later ≡ with_ahead it Unknown → Continues old first start new later (unread later left)
continues-push old first start queued it left port text new later c p r t n l =
    let w = port-waits it.ahead port p in
    advances first.ahead it.ahead later.ahead start (unread it left) (unread later left) (ContinuesFrom old first queued it) (λ bytes rest. bytes ≡ rest) (ContinuesFrom old first new later) c (takes-none it later port left w l)
    (λ bytes mid rest held same. continues-taken old first queued it port text new later bytes rest (subst (λ k. ContinuesFrom old first queued it bytes k) same held) w r t n l)

-- filling stops
stopped-here : (queued : Queued) (it : Place) (rest : List ℕ) (ahead : Ahead) → it.ahead ≡ ahead → IsStopped queued ahead → filled queued (left_in it rest).lines ≡ record { queued = queued; left = (left_in it rest).lines }
stopped-here queued it rest Unknown e s = absurd s
stopped-here queued it rest (Waits port) e s =
    let left = left-waits it rest port e in
    let own : Arrival = record { port = port; rest = drop 2 it.reader.line } in
    let behind : Input = input_from it.number (parts_of rest) in
    ap (λ (i : Input). filled queued i.lines) left ∙ ap (λ b. cond b (filled (pushed queued own) behind.lines) (record { queued = queued; left = own ∷ behind.lines })) s
    ∙ ap (λ (i : Input). record { queued = queued; left = i.lines }) (sym left)
stopped-here queued it rest Bad e s =
    let left : left_in it rest ≡ record { lines = []; is_bad = true } = ap (λ a. left_behind a it.reader.line (input_from it.number (parts_of rest))) e in
    ap (λ (i : Input). filled queued i.lines) left ∙ ap (λ (i : Input). record { queued = queued; left = i.lines }) (sym left)
stopped-here queued it rest End e s =
    let left : left_in it rest ≡ record { lines = []; is_bad = false } = ap (λ a. left_behind a it.reader.line (input_from it.number (parts_of rest))) e in
    ap (λ (i : Input). filled queued i.lines) left ∙ ap (λ (i : Input). record { queued = queued; left = i.lines }) (sym left)

pub fills-stopped : (old : Queued) (first : Place) (start : Option (List ℕ)) (queued : Queued) (it : Place) (now : Option (List ℕ)) → Continues old first start queued it now → IsStopped queued it.ahead → Fills old first start queued it now
fills-stopped old first start queued it now c s =
    advances-so first.ahead it.ahead start now (ContinuesFrom old first queued it) (FillsFrom old first queued it) c (λ bytes rest may held. (held.0 ∙ stopped-here queued it rest it.ahead refl s, held.1))

pub stops-full : (queued : Queued) (ahead : Ahead) (port : ℕ) → Some port ≡ port_in ahead → has_room queued port ≡ false → IsStopped queued ahead
stops-full queued ahead port p r = subst (IsStopped queued) (sym (port-waits ahead port p)) r

pub stops-none : (queued : Queued) (ahead : Ahead) → None ≡ port_in ahead → IsKnown ahead → IsStopped queued ahead
stops-none queued Unknown p k = absurd k
stops-none queued (Waits port) p k = cc
stops-none queued Bad p k = tt
stops-none queued End p k = tt

pub waits-one : (ahead : Ahead) (port : ℕ) → Some port ≡ port_in ahead → waiting ahead ≡ 1
waits-one ahead port p = ap waiting (port-waits ahead port p)

pub steady-look : (old : Queued) (first : Place) (queued : Queued) (it later : Place) → IsSteady old first queued it → later.number + waiting it.ahead ≡ it.number + waiting later.ahead → IsSteady old first queued later
steady-look old first queued it later s e = omega (arith, s, e)

pub steady-push : (old : Queued) (first : Place) (queued : Queued) (it : Place) (port : ℕ) (text : List ℕ) (new : Queued) (later : Place) → IsSteady old first queued it → Some port ≡ port_in it.ahead → port < 4 → length queued.queues ≡ 4
    → new ≡ pushed queued (record { port = port; rest = text }) → later ≡ with_ahead it Unknown → IsSteady old first new later
steady-push old first queued it port text new later s p low four n l =
    let one = waits-one it.ahead port p in
    let more = pushed-more queued (record { port = port; rest = text }) four low in
    let size : in_queues new ≡ in_queues (pushed queued (record { port = port; rest = text })) = ap in_queues n in
    let number : later.number ≡ it.number = ap (λ (k : Place). k.number) l in
    let none : waiting later.ahead ≡ 0 = ap (λ (k : Place). waiting k.ahead) l in
    omega (arith, s, one, more, size, number, none)

pub kept-push : (old queued : Queued) (port : ℕ) (text : List ℕ) (new : Queued) → AreKept old queued → new ≡ pushed queued (record { port = port; rest = text }) → AreKept old new
kept-push old queued port text new k n = record {
  four = ap (λ (h : Queued). length h.queues) n ∙ pushed-four queued (record { port = port; rest = text }) k.four;
  turn = ap (λ (h : Queued). h.turn) n ∙ k.turn;
}

pub fewer : (it mid later : Place) (port : ℕ) → mid.number + waiting it.ahead ≡ it.number + waiting mid.ahead → mid.number ≤ 1048577 → Some port ≡ port_in mid.ahead → later ≡ with_ahead mid Unknown
    → 2 * (1048577 - later.number) + waiting later.ahead < 2 * (1048577 - it.number) + waiting it.ahead
fewer it mid later port e few p l =
    let one = waits-one mid.ahead port p in
    let number : later.number ≡ mid.number = ap (λ (k : Place). k.number) l in
    let none : waiting later.ahead ≡ 0 = ap (λ (k : Place). waiting k.ahead) l in
    go it.ahead refl one number none
  where
    go : (a : Ahead) → it.ahead ≡ a → waiting mid.ahead ≡ 1 → later.number ≡ mid.number → waiting later.ahead ≡ 0 → 2 * (1048577 - later.number) + waiting later.ahead < 2 * (1048577 - it.number) + waiting it.ahead
    go Unknown is one number none = let w : waiting it.ahead ≡ 0 = ap waiting is in omega (arith, e, few, one, number, none, w)
    go (Waits q) is one number none = let w : waiting it.ahead ≡ 1 = ap waiting is in omega (arith, e, few, one, number, none, w)
    go Bad is one number none = let w : waiting it.ahead ≡ 0 = ap waiting is in omega (arith, e, few, one, number, none, w)
    go End is one number none = let w : waiting it.ahead ≡ 0 = ap waiting is in omega (arith, e, few, one, number, none, w)
