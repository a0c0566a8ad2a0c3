-- The parts of bytes, and the next line of ports in them.
use Rattle.std.proofs.Common.{◌≡◌, ◌≢◌, ◌∙◌, ℕ, suc, ◌+◌, ◌-◌, ◌<◌, ◌≤◌, ◌&&◌, ◌==◌, ◌++◌, Bool, true, false, cond, nat_lt, List, [], ◌∷◌, length, take, drop, refl, sym, ap, subst, arith, append_assoc, length-append, lit<, Option, Some, None}
use Rattle.std.specs.Prelude.{option_map}
use Rattle.std.proofs.lemmas.Bool.{le-ltb, lt-ltb}
use Rattle.std.specs.Io.KnownBytes.{Consumes}
use Rattle.std.proofs.KnownBytes.{Consumes-kept, Consumes-nil, Consumes-trans}
use Rattle.std.proofs.lemmas.List.{take-append-le}
use Rattle.std.proofs.lemmas.List.Elements.{All-nil}
use Rattle.ddr_io.specs.Line.{HasNoFeed, IsNextLine, IsTooLong, StopsAt, next_bytes}
use Rattle.ddr_io.specs.Reading.{Reading}
use Rattle.ddr_io.specs.declared.line_reader.Line.TheVariants.{Text, End as EndLine, TooLong, Unended}
use Rattle.ddr_text.specs.Opening.{parts_of, is_long}
use Rattle.ddr_text.specs.Parts.{LinesAreParts}
use Rattle.fair_queue.specs.Arrivals.{Arrival, MOST, framed, arrival_of, is_port, with_line, at_end, input_from}
use Rattle.fair_queue.specs.Reading.{Place, EndsAt, EndsWith, IsSame, Frames, held_in, left_in, left_behind, unread}
use Rattle.fair_queue.specs.declared.port_lines.Ahead.TheVariants.{Unknown, Waits, Bad, End}
use Rattle.fair_queue.proofs.Advancing.{advances-none, no-end-unknown}

short : (line : List ℕ) → length line < 512 → is_long line ≡ false
short line few = le-ltb 511 (length line) (omega (arith, few))

-- ---- The input

input_text : LinesAreParts → (n : ℕ) (line bytes rest : List ℕ) → IsNextLine (Some bytes) (Some rest) line Text → input_from n (parts_of bytes) ≡ with_line (framed n line) (input_from (suc n) (parts_of rest))
input_text p n line bytes rest found =
    let (next, more, split, behind, fits) = p.line bytes rest line found in
    ap (input_from n) split ∙ ap (λ l. with_line (framed n line) (input_from (suc n) l)) (sym behind)

long_frame : (n : ℕ) (part : List ℕ) → is_long part ≡ true → framed n part ≡ None
unfolding framed
long_frame n part is = go (nat_lt MOST n) refl
  where
    go : (t : Bool) → nat_lt MOST n ≡ t → framed n part ≡ None
    go true e = rw e refl
    go false e = rw (e, is) refl

long_first : (n : ℕ) (part : List ℕ) (parts : List (List ℕ)) → is_long part ≡ true → input_from n (part ∷ parts) ≡ record { lines = []; is_bad = true }
long_first n [] [] is = cc
long_first n (byte ∷ part) [] is = refl
long_first n part (next ∷ parts) is = ap (λ f. with_line f (input_from (suc n) (next ∷ parts))) (long_frame n part is)

input_long : LinesAreParts → (n : ℕ) (bytes line : List ℕ) (left : Option (List ℕ)) → IsNextLine (Some bytes) left line TooLong → input_from n (parts_of bytes) ≡ record { lines = []; is_bad = true }
input_long p n bytes line left found =
    let (part, more, split, long) = p.too_long bytes line left found in
    ap (input_from n) split ∙ long_first n part more long

some-bad : (bytes : List ℕ) → 1 ≤ length bytes → at_end bytes ≡ record { lines = []; is_bad = true }
some-bad [] some = absurd (omega (arith, some))
some-bad (byte ∷ bytes) some = refl

input_unended : LinesAreParts → (n : ℕ) (bytes line : List ℕ) (left : Option (List ℕ)) → IsNextLine (Some bytes) left line Unended → input_from n (parts_of bytes) ≡ record { lines = []; is_bad = true }
input_unended p n bytes line left found =
    let (split, some, fits) = p.unended bytes line left found in
    ap (input_from n) split ∙ some-bad bytes some

input_end : LinesAreParts → (n : ℕ) (bytes line : List ℕ) (left : Option (List ℕ)) → IsNextLine (Some bytes) left line EndLine → input_from n (parts_of bytes) ≡ record { lines = []; is_bad = false }
input_end p n bytes line left found = ap (input_from n) (p.at_end bytes line left found)

-- ---- What is left

unknown-left : (it : Place) (bytes : List ℕ) → it.ahead ≡ Unknown → left_in it bytes ≡ input_from it.number (parts_of bytes)
unknown-left it bytes e = ap (λ a. left_behind a it.reader.line (input_from it.number (parts_of bytes))) e

-- an empty line is bad
empty_frame : (n : ℕ) → framed n [] ≡ None
unfolding framed
empty_frame n = go (nat_lt MOST n) refl
  where
    go : (t : Bool) → nat_lt MOST n ≡ t → framed n [] ≡ None
    go true e = rw e refl
    go false e = rw e refl

input_empty : LinesAreParts → (n : ℕ) (more : List ℕ) → input_from n (parts_of (10 ∷ more)) ≡ record { lines = []; is_bad = true }
input_empty p n more =
    input_text p n [] (10 ∷ more) more (lit< tt, All-nil (λ b. b ≢ 10), refl) ∙ ap (λ f. with_line f (input_from (suc n) (parts_of more))) (empty_frame n)

-- what a reader of lines held is read
held-read : (held : List ℕ) (left : Option (List ℕ)) → Consumes (next_bytes held left) (next_bytes [] left) held
held-read held None = tt
held-read held (Some rest) = refl

-- ---- What was read, by the answer of the reader of lines

text_waits : LinesAreParts → (old : Place) (reader : Reading) (port : ℕ) (arrival : Arrival) (before left : Option (List ℕ)) → old.ahead ≡ Unknown → framed old.number reader.line ≡ Some arrival → arrival.port ≡ port → arrival.rest ≡ drop 2 reader.line
    → IsNextLine before (next_bytes reader.held left) reader.line Text
    → IsSame old (record { reader = reader; number = old.number + 1; ahead = Waits port }) before (next_bytes reader.held left)
text_waits p old reader port arrival before left unknown frame own rest_is found = record {
  taken = reader.line ++ 10 ∷ [];
  took = found.2;
  over = λ e. absurd (no-end-unknown old.ahead unknown e);
  holds = λ more may.
      let number : suc old.number ≡ old.number + 1 = omega arith in
      let same : arrival ≡ record { port = port; rest = drop 2 reader.line } = ap (λ r. record { port = arrival.port; rest = r }) rest_is ∙ ap (λ q. record { port = q; rest = drop 2 reader.line }) own in
      unknown-left old ((reader.line ++ 10 ∷ []) ++ more) unknown
      ∙ input_text p old.number reader.line ((reader.line ++ 10 ∷ []) ++ more) more (found.0, found.1, refl)
      ∙ ap (λ f. with_line f (input_from (suc old.number) (parts_of more))) frame
      ∙ ap (λ k. with_line (Some arrival) (input_from k (parts_of more))) number
      ∙ ap (λ (a : Arrival). with_line (Some a) (input_from (old.number + 1) (parts_of more))) same;
}

text_bad : LinesAreParts → (old : Place) (reader : Reading) (number : ℕ) (before left : Option (List ℕ)) → old.ahead ≡ Unknown → framed old.number reader.line ≡ None → IsNextLine before (next_bytes reader.held left) reader.line Text
    → IsSame old (record { reader = reader; number = number; ahead = Bad }) before (next_bytes [] left)
text_bad p old reader number before left unknown frame found = record {
  taken = (reader.line ++ 10 ∷ []) ++ reader.held;
  took = Consumes-trans before (next_bytes reader.held left) (next_bytes [] left) (reader.line ++ 10 ∷ []) reader.held found.2 (held-read reader.held left);
  over = λ e. absurd (no-end-unknown old.ahead unknown e);
  holds = λ more may.
      unknown-left old (((reader.line ++ 10 ∷ []) ++ reader.held) ++ more) unknown
      ∙ input_text p old.number reader.line (((reader.line ++ 10 ∷ []) ++ reader.held) ++ more) (reader.held ++ more) (found.0, found.1, append_assoc (reader.line ++ 10 ∷ []) reader.held more)
      ∙ ap (λ f. with_line f (input_from (suc old.number) (parts_of (reader.held ++ more)))) frame;
}

text_frames : LinesAreParts → (frame : Option Arrival) (old mid new : Place) (before left : Option (List ℕ)) → old.ahead ≡ Unknown → mid.number ≡ old.number → IsNextLine before (next_bytes mid.reader.held left) mid.reader.line Text
    → framed mid.number mid.reader.line ≡ frame → Frames frame mid new → IsSame old new before (unread new left)
text_frames p None old mid new before left unknown number found is f =
    subst (λ (k : Place). IsSame old k before (unread k left)) (sym f)
    (text_bad p old mid.reader mid.number before left unknown (ap (λ n. framed n mid.reader.line) (sym number) ∙ is) found)
text_frames p (Some arrival) old mid new before left unknown number found is f =
    let there : new ≡ record { reader = mid.reader; number = old.number + 1; ahead = Waits arrival.port } = f.0 ∙ ap (λ n. record { reader = mid.reader; number = n + 1; ahead = Waits arrival.port }) number in
    subst (λ (k : Place). IsSame old k before (unread k left)) (sym there)
    (text_waits p old mid.reader arrival.port arrival before left unknown (ap (λ n. framed n mid.reader.line) (sym number) ∙ is) refl f.1 found)

pub same_text : LinesAreParts → (old mid new : Place) (before left : Option (List ℕ)) → old.ahead ≡ Unknown → mid.number ≡ old.number → IsNextLine before (next_bytes mid.reader.held left) mid.reader.line Text → Frames (framed mid.number mid.reader.line) mid new → IsSame old new before (unread new left)
same_text p old mid new before left unknown number found f = text_frames p (framed mid.number mid.reader.line) old mid new before left unknown number found refl f

-- no known byte was read: then an empty line stands for what is bad
unknown_bad : LinesAreParts → (old : Place) (reader : Reading) (number : ℕ) (after : Option (List ℕ)) → old.ahead ≡ Unknown → IsSame old (record { reader = reader; number = number; ahead = Bad }) None after
unknown_bad p old reader number after unknown = record {
  taken = 10 ∷ [];
  took = tt;
  over = λ e. absurd (no-end-unknown old.ahead unknown e);
  holds = λ more may. unknown-left old (10 ∷ more) unknown ∙ input_empty p old.number more;
}

-- the bytes that are held hold no line
held-long : (held more : List ℕ) (rest : List ℕ) → 512 ≤ length held → HasNoFeed (take 512 (held ++ rest)) → IsTooLong (Some (held ++ more))
held-long held more rest many clean =
    let same : take 512 (held ++ rest) ≡ take 512 (held ++ more) = take-append-le 512 held rest many ∙ sym (take-append-le 512 held more many) in
    let whole = length-append held more in
    (omega (arith, many, whole), subst HasNoFeed same clean)

pub same_long : LinesAreParts → (old : Place) (reader : Reading) (number : ℕ) (held : List ℕ) (first left : Option (List ℕ)) (line : List ℕ) → old.ahead ≡ Unknown → IsNextLine (next_bytes held first) (next_bytes reader.held left) line TooLong → StopsAt first reader.held left TooLong
    → IsSame old (record { reader = reader; number = number; ahead = Bad }) (next_bytes held first) (next_bytes [] left)
same_long p old reader number held None left line unknown found stops = unknown_bad p old reader number (next_bytes [] left) unknown
same_long p old reader number held (Some bytes) None line unknown found stops = absurd found.1
same_long p old reader number held (Some bytes) (Some rest) line unknown found stops = record {
  taken = reader.held;
  took = sym found.1;
  over = λ e. absurd (no-end-unknown old.ahead unknown e);
  holds = λ more may.
      let clean = subst (λ l. HasNoFeed (take 512 l)) (sym found.1) found.0.1 in
      unknown-left old (reader.held ++ more) unknown
      ∙ input_long p old.number (reader.held ++ more) line (Some (reader.held ++ more)) (held-long reader.held more rest stops clean, refl);
}

pub same_unended : LinesAreParts → (old : Place) (reader : Reading) (number : ℕ) (held : List ℕ) (first left : Option (List ℕ)) (line : List ℕ) → old.ahead ≡ Unknown → IsNextLine (next_bytes held first) (next_bytes reader.held left) line Unended → StopsAt first reader.held left Unended
    → IsSame old (record { reader = reader; number = number; ahead = Bad }) (next_bytes held first) (next_bytes [] left)
same_unended p old reader number held None left line unknown found stops = unknown_bad p old reader number (next_bytes [] left) unknown
same_unended p old reader number held (Some bytes) None line unknown found stops = absurd found.1
same_unended p old reader number held (Some bytes) (Some rest) line unknown found stops = record {
  taken = reader.held;
  took = sym found.1;
  over = λ e. absurd (no-end-unknown old.ahead unknown e);
  holds = λ more may.
      let none : more ≡ [] = may.1 (ap (λ l. Some l) stops) in
      let whole : reader.held ++ more ≡ held ++ bytes = ap (λ l. reader.held ++ l) (none ∙ sym stops) ∙ found.1 in
      unknown-left old (reader.held ++ more) unknown
      ∙ ap (λ l. input_from old.number (parts_of l)) whole
      ∙ input_unended p old.number (held ++ bytes) line (Some (held ++ bytes)) (found.0, refl);
}

pub same_end : LinesAreParts → (old : Place) (reader : Reading) (number : ℕ) (before left : Option (List ℕ)) (line : List ℕ) → old.ahead ≡ Unknown → IsNextLine before (next_bytes reader.held left) line EndLine
    → IsSame old (record { reader = reader; number = number; ahead = End }) before (next_bytes reader.held left)
same_end p old reader number before left line unknown found = record {
  taken = [];
  took = Consumes-kept before before (next_bytes reader.held left) [] (Consumes-nil before) found.1;
  over = λ e. absurd (no-end-unknown old.ahead unknown e);
  holds = λ more may.
      unknown-left old more unknown
      ∙ ap (λ l. input_from old.number (parts_of l)) (may.0 refl)
      ∙ input_end p old.number [] line (Some []) (refl, refl);
}

-- where nothing is known of the line ahead, what is held is not read
pub unread-unknown : (it : Place) (left : Option (List ℕ)) → it.ahead ≡ Unknown → unread it left ≡ next_bytes it.reader.held left
unread-unknown it left e = ap (λ a. next_bytes (held_in a it.reader.held) left) e

pub from-unread : (old new : Place) (left after : Option (List ℕ)) → old.ahead ≡ Unknown → IsSame old new (next_bytes old.reader.held left) after → IsSame old new (unread old left) after
from-unread old new left after e same = subst (λ b. IsSame old new b after) (sym (unread-unknown old left e)) same

-- where something is known, nothing is read
pub stays : (it : Place) (left : Option (List ℕ)) → IsSame it it (unread it left) (unread it left)
stays it left = advances-none it.ahead (unread it left) (λ bytes rest. left_in it bytes ≡ left_in it rest) (λ bytes. refl)

-- ---- At the end

with-frame : (frame : Option Arrival) (old new : Place) (left : Option (List ℕ)) → Frames frame old new → EndsWith new.ahead left
with-frame None old new left f = subst (λ (k : Place). EndsWith k.ahead left) (sym f) tt
with-frame (Some arrival) old new left f = subst (λ (k : Place). EndsWith k.ahead left) (sym f.0) tt

pub ends_text : (frame : Option Arrival) (old new : Place) (before left : Option (List ℕ)) → Frames frame old new → EndsAt before new.ahead left
ends_text frame old new None left f = tt
ends_text frame old new (Some bytes) left f = with-frame frame old new left f

pub ends_bad : (before left : Option (List ℕ)) → EndsAt before Bad left
ends_bad None left = tt
ends_bad (Some bytes) left = tt

pub ends_end : (before after : Option (List ℕ)) (line : List ℕ) → IsNextLine before after line EndLine → EndsAt before End after
ends_end None after line found = tt
ends_end (Some bytes) None line found = absurd found.1
ends_end (Some bytes) (Some rest) line found = ap (λ l. Some l) (found.1 ∙ found.0)

-- ---- One line

pub frames-many : (it : Place) → MOST < it.number → Frames (framed it.number it.reader.line) it (record { reader = it.reader; number = it.number; ahead = Bad })
unfolding framed
frames-many it many = let t = lt-ltb MOST it.number many in rw t refl

arrival-found : (o : Option Arrival) (line : List ℕ) (port : ℕ) (it : Place) → Some port ≡ option_map (λ a. a.port) o → ((a : Arrival) → o ≡ Some a → a.rest ≡ drop 2 line) → it.reader.line ≡ line → Frames o it (record { reader = it.reader; number = it.number + 1; ahead = Waits port })
arrival-found None line port it e f g = cc
arrival-found (Some a) line port it e f g =
    let same : port ≡ a.port = cc in
    (ap (λ p. record { reader = it.reader; number = it.number + 1; ahead = Waits p }) same, f a refl ∙ ap (drop 2) (sym g))

arrival-none : (o : Option Arrival) (it : Place) → None ≡ option_map (λ a. a.port) o → Frames o it (record { reader = it.reader; number = it.number; ahead = Bad })
arrival-none None it e = refl
arrival-none (Some a) it e = cc

arrival-rest : (line : List ℕ) (a : Arrival) → arrival_of line ≡ Some a → a.rest ≡ drop 2 line
arrival-rest [] a e = cc
arrival-rest (digit ∷ []) a e = cc
arrival-rest (digit ∷ space ∷ rest) a e = go (is_port digit && space == 32) e
  where
    go : (b : Bool) → cond b (Some (record { port = digit - 48; rest = rest })) None ≡ Some a → a.rest ≡ rest
    go true e = let own : Arrival = record { port = digit - 48; rest = rest } in let same : own ≡ a = cc in ap (λ (v : Arrival). v.rest) (sym same)
    go false e = cc

framed-short : (it : Place) → it.number ≤ MOST → length it.reader.line < 512 → framed it.number it.reader.line ≡ arrival_of it.reader.line
unfolding framed
framed-short it few fits = let t = le-ltb MOST it.number few in let u = short it.reader.line fits in rw (t, u) refl

pub frames-port : (it : Place) (port : ℕ) → it.number ≤ MOST → length it.reader.line < 512 → Some port ≡ option_map (λ a. a.port) (arrival_of it.reader.line) → Frames (framed it.number it.reader.line) it (record { reader = it.reader; number = it.number + 1; ahead = Waits port })
frames-port it port few fits e =
    subst (λ f. Frames f it (record { reader = it.reader; number = it.number + 1; ahead = Waits port })) (sym (framed-short it few fits))
    (arrival-found (arrival_of it.reader.line) it.reader.line port it e (arrival-rest it.reader.line) refl)

pub frames-none : (it : Place) → it.number ≤ MOST → length it.reader.line < 512 → None ≡ option_map (λ a. a.port) (arrival_of it.reader.line) → Frames (framed it.number it.reader.line) it (record { reader = it.reader; number = it.number; ahead = Bad })
frames-none it few fits e =
    subst (λ f. Frames f it (record { reader = it.reader; number = it.number; ahead = Bad })) (sym (framed-short it few fits)) (arrival-none (arrival_of it.reader.line) it e)
