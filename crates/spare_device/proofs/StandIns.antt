-- What four devices hold in which the spare stands in the place of the dead one, and what they show.
use Rattle.std.proofs.Common.{◌≡◌, ◌∙◌, ℕ, zero, suc, ◌+◌, ◌<◌, ◌==◌, ◌&&◌, Bool, true, false, cond, if◌then◌else◌, Option, Some, None, option_map, List, [], ◌∷◌, ◌++◌, length, take, drop, length-append, append_assoc, append-nil, refl, sym, ap, arith}
use Rattle.std.proofs.lemmas.Bool.{eqb-true}
use Rattle.std.proofs.lemmas.List.{take_at, drop_at}
use Rattle.command_words.specs.declared.command.Command.{Command}
use Rattle.command_words.specs.declared.command.Command.TheVariants.{Act, Rd, Wr, PrePb, PreSb, PreAb, RefAb, RefSb, RfmAb, RfmSb, Mrw, Ecs, Nop}
use Rattle.ondie_ecc.specs.Bits.{IsBytes, packed, turned}
use Rattle.ondie_ecc.specs.Codeword.{codeword_of, data_of}
use Rattle.ondie_ecc.specs.Repaired.{mended}
use Rattle.ondie_ecc.specs.declared.state.ReadState.{ReadState}
use Rattle.ondie_ecc.specs.declared.state.ReadState.TheVariants.{Clean, Fixed, Lost}
use Rattle.error_scrub.specs.Changes.{Change, wrote, turns, scrubs, word_after}
use Rattle.error_scrub.specs.Reading.{data_read, state_of, worse}
use Rattle.error_scrub.specs.Tame.{AreGiven}
use Rattle.error_scrub.specs.declared.cells.LineRead.{LineRead}
use Rattle.device_core.specs.Steps.{Step, Issues, Flips, log_of}
use Rattle.device_core.specs.Stored.{also, change_of, changes_of, reading}
use Rattle.command_words.specs.Place.{line_of}
use Rattle.command_words.specs.declared.geometry.Place.{Place}
use Rattle.speed_bin.specs.Header.{shape_of}
use Rattle.speed_bin.specs.Log.{Log}
use Rattle.speed_bin.specs.declared.header.Header.{Header}
use Rattle.spare_device.specs.Spare.{held_by, live, mixed, mixed_four, part_of, read_words, rebuilt, spare_of, spare_reading, stored_word}
use Rattle.spare_device.specs.StandIn.{place_for, restored, standing_part, stood_changes, stood_in, stood_steps}
use Rattle.error_scrub.proofs.LineBytes.{sixteen}
use Rattle.spare_device.proofs.Mixed.{mixed-assoc, mixed-comm, mixed-length}

-- ---- Four parts

four-assoc : (a b c d : List ℕ) → ((a ++ b) ++ c) ++ d ≡ a ++ (b ++ (c ++ d))
four-assoc a b c d = append_assoc (a ++ b) c d ∙ append_assoc a b (c ++ d)

two-length : (a b : List ℕ) → length a ≡ 16 → length b ≡ 16 → length (a ++ b) ≡ 32
two-length a b e f = omega (arith, length-append a b, e, f)

first-part : (a b c d : List ℕ) → length a ≡ 16 → part_of (((a ++ b) ++ c) ++ d) 0 ≡ a
first-part a b c d e = ap (take 16) (four-assoc a b c d) ∙ take_at a (b ++ (c ++ d)) 16 e

second-part : (a b c d : List ℕ) → length a ≡ 16 → length b ≡ 16 → part_of (((a ++ b) ++ c) ++ d) 1 ≡ b
second-part a b c d e f = ap (λ l. take 16 (drop 16 l)) (four-assoc a b c d) ∙ ap (take 16) (drop_at a (b ++ (c ++ d)) 16 e) ∙ take_at b (c ++ d) 16 f

third-part : (a b c d : List ℕ) → length a ≡ 16 → length b ≡ 16 → length c ≡ 16 → part_of (((a ++ b) ++ c) ++ d) 2 ≡ c
third-part a b c d e f g = ap (λ l. take 16 (drop 32 l)) (append_assoc (a ++ b) c d) ∙ ap (take 16) (drop_at (a ++ b) (c ++ d) 32 (two-length a b e f)) ∙ take_at c d 16 g

whole-take : (d : List ℕ) → length d ≡ 16 → take 16 d ≡ d
whole-take d e = ap (take 16) (sym (append-nil d)) ∙ take_at d [] 16 e

fourth-part : (a b c d : List ℕ) → length a ≡ 16 → length b ≡ 16 → length c ≡ 16 → length d ≡ 16 → part_of (((a ++ b) ++ c) ++ d) 3 ≡ d
fourth-part a b c d e f g h =
    ap (take 16) (drop_at ((a ++ b) ++ c) d 48 (omega (arith, length-append (a ++ b) c, two-length a b e f, g))) ∙ whole-take d h

-- what each of four devices holds of the bytes of a line
standing-length : (bytes : List ℕ) (device : ℕ) → device < 4 → IsBytes 64 bytes → (b : Bool) → length (if b then spare_of bytes else part_of bytes device) ≡ 16
standing-length bytes device low h true =
    mixed-length 16 _ _ (mixed-length 16 _ _ (sixteen bytes 0 (omega arith) h).counted (sixteen bytes 1 (omega arith) h).counted) (mixed-length 16 _ _ (sixteen bytes 2 (omega arith) h).counted (sixteen bytes 3 (omega arith) h).counted)
standing-length bytes device low h false = (sixteen bytes device low h).counted

-- the device that the one in this place is
abbrev pub device_at : ℕ → ℕ → ℕ
device_at dead place = if place == dead then 4 else place

holds-own : (bytes : List ℕ) (place : ℕ) → place < 4 → (b : Bool) → (if b then spare_of bytes else part_of bytes place) ≡ held_by bytes (if b then 4 else place)
holds-own bytes place low true = refl
holds-own bytes zero low false = refl
holds-own bytes (suc zero) low false = refl
holds-own bytes (suc (suc zero)) low false = refl
holds-own bytes (suc (suc (suc zero))) low false = refl
holds-own bytes (suc (suc (suc (suc place)))) low false = absurd (omega (arith, low))

part-stood : (dead : ℕ) (bytes : List ℕ) (place : ℕ) → place < 4 → IsBytes 64 bytes → part_of (stood_in dead bytes) place ≡ standing_part dead bytes place
unfolding stood_in
part-stood dead bytes zero low h = first-part _ _ _ _ (standing-length bytes 0 (omega arith) h (0 == dead))
part-stood dead bytes (suc zero) low h = second-part _ _ _ _ (standing-length bytes 0 (omega arith) h (0 == dead)) (standing-length bytes 1 (omega arith) h (1 == dead))
part-stood dead bytes (suc (suc zero)) low h =
    third-part _ _ _ _ (standing-length bytes 0 (omega arith) h (0 == dead)) (standing-length bytes 1 (omega arith) h (1 == dead)) (standing-length bytes 2 (omega arith) h (2 == dead))
part-stood dead bytes (suc (suc (suc zero))) low h =
    fourth-part _ _ _ _ (standing-length bytes 0 (omega arith) h (0 == dead)) (standing-length bytes 1 (omega arith) h (1 == dead)) (standing-length bytes 2 (omega arith) h (2 == dead)) (standing-length bytes 3 (omega arith) h (3 == dead))
part-stood dead bytes (suc (suc (suc (suc place)))) low h = absurd (omega (arith, low))

-- ---- Turned bits

not_four : (place : ℕ) → place < 4 → (place == 4) ≡ false
not_four place low = grind arith

turned-back : (a b : ℕ) → (a == b) ≡ (b == a)
turned-back a b = grind arith

-- the place of a live device is that in which it is found
found : (dead place of : ℕ) → place < 4 → (of == dead) ≡ false → (a b : Bool) → (of == 4) ≡ a → (place == dead) ≡ b → (place == (if a then dead else of)) ≡ ((if b then 4 else place) == of)
found dead place of low alive true true ea eb = eb ∙ sym (ap (λ n. 4 == n) (eqb-true of 4 ea))
found dead place of low alive true false ea eb = eb ∙ sym (ap (λ n. place == n) (eqb-true of 4 ea) ∙ not_four place low)
found dead place of low alive false true ea eb = ap (λ n. n == of) (eqb-true place dead eb) ∙ turned-back dead of ∙ alive ∙ sym (turned-back 4 of ∙ ea)
found dead place of low alive false false ea eb = refl

-- the dead device is in no place
nowhere : (dead place of : ℕ) → place < 4 → of ≡ dead → (b : Bool) → (place == dead) ≡ b → ((if b then 4 else place) == of) ≡ false
nowhere dead place of low is true eb = turned-back 4 of ∙ ap (λ n. n == 4) (is ∙ sym (eqb-true place dead eb)) ∙ not_four place low
nowhere dead place of low is false eb = ap (λ n. place == n) is ∙ eb

false-right : (t b : Bool) → b ≡ false → (t && b) ≡ false
false-right true b e = e
false-right false b e = refl

-- ---- Words

abbrev Same : ℕ → List Change → ℕ → ℕ → Type 0
Same dead changes line place = word_after (stood_changes dead changes) line place ≡ stored_word changes line (device_at dead place)

turns-same : (dead : ℕ) (changes : List Change) (line place at of bit : ℕ) → place < 4 → Same dead changes line place → (b : Bool) → (of == dead) ≡ b
    → word_after (if b then stood_changes dead changes else turns at (place_for dead of) bit ∷ stood_changes dead changes) line place ≡ stored_word (turns at of bit ∷ changes) line (device_at dead place)
turns-same dead changes line place at of bit low same true e =
    same ∙ sym (ap (λ (t : Bool). if t then turned (stored_word changes line (device_at dead place)) bit else stored_word changes line (device_at dead place))
    (false-right (line == at) (device_at dead place == of) (nowhere dead place of low (eqb-true of dead e) (place == dead) refl)))
turns-same dead changes line place at of bit low same false e =
    ap (λ (t : Bool). if line == at && t then turned (word_after (stood_changes dead changes) line place) bit else word_after (stood_changes dead changes) line place) (found dead place of low e (of == 4) (place == dead) refl refl)
    ∙ ap (λ (w : List ℕ). if line == at && device_at dead place == of then turned w bit else w) same

pub words-stood : (dead : ℕ) (changes : List Change) (line place : ℕ) → place < 4 → AreGiven changes → Same dead changes line place
words-stood dead [] line place low given = refl
words-stood dead (wrote at bytes ∷ changes) line place low given =
    ap (λ (w : List ℕ). if line == at then codeword_of w else word_after (stood_changes dead changes) line place) (part-stood dead bytes place low given.0 ∙ holds-own bytes place low (place == dead))
    ∙ ap (λ (w : List ℕ). if line == at then codeword_of (held_by bytes (device_at dead place)) else w) (words-stood dead changes line place low given.1)
words-stood dead (scrubs at ∷ changes) line place low given = ap (λ (w : List ℕ). if line == at then mended w else w) (words-stood dead changes line place low given)
words-stood dead (turns at of bit ∷ changes) line place low given = turns-same dead changes line place at of bit low (words-stood dead changes line place low given.1) (of == dead) refl

-- ---- Readings

data-length : (word : List ℕ) → length (data_read word) ≡ 16
unfolding data_read data_of packed
data-length word = refl

four-same : (a b c d x y z w : List ℕ) → a ≡ x → b ≡ y → c ≡ z → d ≡ w → mixed_four a b c d ≡ mixed_four x y z w
four-same a b c d x y z w e f g h = ap (λ l. mixed_four l b c d) e ∙ ap (λ l. mixed_four x l c d) f ∙ ap (λ l. mixed_four x y l d) g ∙ ap (mixed_four x y z) h

-- the exclusive-or of the others, in whatever order
others : (dead : ℕ) → dead < 5 → (p q : ℕ → List ℕ) → q 0 ≡ p (device_at dead 0) → q 1 ≡ p (device_at dead 1) → q 2 ≡ p (device_at dead 2) → q 3 ≡ p (device_at dead 3) → dead < 4
    → mixed_four (q 0) (q 1) (q 2) (q 3) ≡ rebuilt dead p
others zero small p q e f g h low =
    four-same _ _ _ _ _ _ _ _ e f g h
    ∙ mixed-assoc (p 4) (p 1) (mixed (p 2) (p 3)) ∙ mixed-comm (p 4) (mixed (p 1) (mixed (p 2) (p 3))) ∙ mixed-assoc (p 1) (mixed (p 2) (p 3)) (p 4)
    ∙ ap (mixed (p 1)) (mixed-assoc (p 2) (p 3) (p 4)) ∙ sym (mixed-assoc (p 1) (p 2) (mixed (p 3) (p 4)))
others (suc zero) small p q e f g h low =
    four-same _ _ _ _ _ _ _ _ e f g h
    ∙ mixed-assoc (p 0) (p 4) (mixed (p 2) (p 3)) ∙ ap (mixed (p 0)) (mixed-comm (p 4) (mixed (p 2) (p 3)) ∙ mixed-assoc (p 2) (p 3) (p 4)) ∙ sym (mixed-assoc (p 0) (p 2) (mixed (p 3) (p 4)))
others (suc (suc zero)) small p q e f g h low = four-same _ _ _ _ _ _ _ _ e f g h ∙ ap (mixed (mixed (p 0) (p 1))) (mixed-comm (p 4) (p 3))
others (suc (suc (suc zero))) small p q e f g h low = four-same _ _ _ _ _ _ _ _ e f g h
others (suc (suc (suc (suc dead)))) small p q e f g h low = absurd (omega (arith, low))

-- the part of a place once the line is restored
part-read : (dead : ℕ) → dead < 5 → (p q : ℕ → List ℕ) → q 0 ≡ p (device_at dead 0) → q 1 ≡ p (device_at dead 1) → q 2 ≡ p (device_at dead 2) → q 3 ≡ p (device_at dead 3)
    → (place : ℕ) → place < 4 → q place ≡ p (device_at dead place) → (b : Bool) → (place == dead) ≡ b
    → (if b then mixed_four (q 0) (q 1) (q 2) (q 3) else q place) ≡ (if b then rebuilt dead p else p place)
part-read dead small p q e f g h place low own true is = others dead small p q e f g h (let same = eqb-true place dead is in omega (arith, same, low))
part-read dead small p q e f g h place low own false is = own ∙ ap (λ (b : Bool). p (if b then 4 else place)) is

worse-comm : (a b : ReadState) → worse a b ≡ worse b a
worse-comm Clean Clean = refl
worse-comm Clean Fixed = refl
worse-comm Clean Lost = refl
worse-comm Fixed Clean = refl
worse-comm Fixed Fixed = refl
worse-comm Fixed Lost = refl
worse-comm Lost Clean = refl
worse-comm Lost Fixed = refl
worse-comm Lost Lost = refl

worse-assoc : (a b c : ReadState) → worse (worse a b) c ≡ worse a (worse b c)
worse-assoc Clean b c = refl
worse-assoc Fixed Clean c = refl
worse-assoc Fixed Fixed Clean = refl
worse-assoc Fixed Fixed Fixed = refl
worse-assoc Fixed Fixed Lost = refl
worse-assoc Fixed Lost c = refl
worse-assoc Lost b c = refl

-- the states of the live devices, in whatever order
states : (dead : ℕ) → dead < 5 → (s : ℕ → ReadState)
    → worse (worse (s (device_at dead 0)) (s (device_at dead 1))) (worse (s (device_at dead 2)) (s (device_at dead 3)))
    ≡ worse (worse (worse (live (0 == dead) (s 0)) (live (1 == dead) (s 1))) (worse (live (2 == dead) (s 2)) (live (3 == dead) (s 3)))) (live (4 == dead) (s 4))
states zero small s =
    worse-assoc (s 4) (s 1) (worse (s 2) (s 3)) ∙ worse-comm (s 4) (worse (s 1) (worse (s 2) (s 3)))
states (suc zero) small s =
    worse-assoc (s 0) (s 4) (worse (s 2) (s 3)) ∙ ap (worse (s 0)) (worse-comm (s 4) (worse (s 2) (s 3))) ∙ sym (worse-assoc (s 0) (worse (s 2) (s 3)) (s 4))
    ∙ ap (λ (t : ReadState). worse (worse t (worse (s 2) (s 3))) (s 4)) (worse-comm Clean (s 0))
states (suc (suc zero)) small s =
    ap (worse (worse (s 0) (s 1))) (worse-comm (s 4) (s 3)) ∙ sym (worse-assoc (worse (s 0) (s 1)) (s 3) (s 4))
states (suc (suc (suc zero))) small s =
    sym (worse-assoc (worse (s 0) (s 1)) (s 2) (s 4)) ∙ ap (λ (t : ReadState). worse (worse (worse (s 0) (s 1)) t) (s 4)) (worse-comm Clean (s 2))
states (suc (suc (suc (suc zero)))) small s = worse-comm Clean (worse (worse (s 0) (s 1)) (worse (s 2) (s 3)))
states (suc (suc (suc (suc (suc dead))))) small s = absurd (omega (arith, small))

-- What the four show, once the line is restored, is what a reading of the five finds.
record Shows (dead : ℕ) (found wanted : LineRead) : Type 0 where
  bytes_are : stood_in dead found.bytes ≡ wanted.bytes
  state_is : found.state ≡ wanted.state

same-read : (dead : ℕ) (found wanted : LineRead) → Shows dead found wanted → restored dead found ≡ wanted
same-read dead found wanted shows =
    ap (λ (bytes : List ℕ). record { bytes = bytes; state = found.state }) shows.bytes_are ∙ ap (λ (state : ReadState). record { bytes = wanted.bytes; state = state }) shows.state_is

four-bytes : (a b c d x y z w : List ℕ) → a ≡ x → b ≡ y → c ≡ z → d ≡ w → ((a ++ b) ++ c) ++ d ≡ ((x ++ y) ++ z) ++ w
four-bytes a b c d x y z w e f g h = ap (λ l. ((l ++ b) ++ c) ++ d) e ∙ ap (λ l. ((x ++ l) ++ c) ++ d) f ∙ ap (λ l. ((x ++ y) ++ l) ++ d) g ∙ ap (λ l. ((x ++ y) ++ z) ++ l) h

-- a place of four lists of 16 bytes, with the exclusive-or of all four where it is the dead one's
place-read : (dead : ℕ) (a b c d : List ℕ) → length a ≡ 16 → length b ≡ 16 → length c ≡ 16 → length d ≡ 16
    → stood_in dead (((a ++ b) ++ c) ++ d) ≡ (((if 0 == dead then mixed_four a b c d else a) ++ (if 1 == dead then mixed_four a b c d else b)) ++ (if 2 == dead then mixed_four a b c d else c)) ++ (if 3 == dead then mixed_four a b c d else d)
unfolding stood_in
place-read dead a b c d la lb lc ld =
    let one = first-part a b c d la in
    let two = second-part a b c d la lb in
    let three = third-part a b c d la lb lc in
    let four = fourth-part a b c d la lb lc ld in
    let all = four-same _ _ _ _ _ _ _ _ one two three four in
    four-bytes _ _ _ _ _ _ _ _ (either (0 == dead) _ _ _ _ all one) (either (1 == dead) _ _ _ _ all two) (either (2 == dead) _ _ _ _ all three) (either (3 == dead) _ _ _ _ all four)
  where
    either : (b : Bool) (x y z w : List ℕ) → x ≡ y → z ≡ w → (if b then x else z) ≡ (if b then y else w)
    either true x y z w e f = e
    either false x y z w e f = f

shows-read : (dead : ℕ) → dead < 5 → (changes : List Change) (line : ℕ) → AreGiven changes → Shows dead (reading (stood_changes dead changes) line) (spare_reading dead changes line)
unfolding reading read_words
shows-read dead small changes line given =
    let w : (place : ℕ) → place < 4 → word_after (stood_changes dead changes) line place ≡ stored_word changes line (device_at dead place) = λ place low. words-stood dead changes line place low given in
    let p : ℕ → List ℕ = λ device. data_read (stored_word changes line device) in
    let q : ℕ → List ℕ = λ place. data_read (word_after (stood_changes dead changes) line place) in
    let r : (place : ℕ) → place < 4 → q place ≡ p (device_at dead place) = λ place low. ap data_read (w place low) in
    let r0 = r 0 (omega arith) in
    let r1 = r 1 (omega arith) in
    let r2 = r 2 (omega arith) in
    let r3 = r 3 (omega arith) in
    record {
      bytes_are = place-read dead (q 0) (q 1) (q 2) (q 3) (data-length _) (data-length _) (data-length _) (data-length _)
          ∙ four-bytes _ _ _ _ _ _ _ _ (part-read dead small p q r0 r1 r2 r3 0 (omega arith) r0 (0 == dead) refl) (part-read dead small p q r0 r1 r2 r3 1 (omega arith) r1 (1 == dead) refl)
          (part-read dead small p q r0 r1 r2 r3 2 (omega arith) r2 (2 == dead) refl) (part-read dead small p q r0 r1 r2 r3 3 (omega arith) r3 (3 == dead) refl);
      state_is = four-states _ _ _ _ _ _ _ _ (ap state_of (w 0 (omega arith))) (ap state_of (w 1 (omega arith))) (ap state_of (w 2 (omega arith))) (ap state_of (w 3 (omega arith)))
          ∙ states dead small (λ device. state_of (stored_word changes line device));
    }
  where
    four-states : (a b c d x y z u : ReadState) → a ≡ x → b ≡ y → c ≡ z → d ≡ u → worse (worse a b) (worse c d) ≡ worse (worse x y) (worse z u)
    four-states a b c d x y z u e f g h = ap (λ l. worse (worse l b) (worse c d)) e ∙ ap (λ l. worse (worse x l) (worse c d)) f ∙ ap (λ l. worse (worse x y) (worse l d)) g ∙ ap (λ l. worse (worse x y) (worse z l)) h

pub reading-stood : (dead : ℕ) → dead < 5 → (changes : List Change) (line : ℕ) → AreGiven changes → restored dead (reading (stood_changes dead changes) line) ≡ spare_reading dead changes line
reading-stood dead small changes line given = same-read dead _ _ (shows-read dead small changes line given)

-- ---- Steps

log-flip : (dead : ℕ) (steps : List Step) (place : Place) (of bit : ℕ) → log_of (stood_steps dead steps) ≡ log_of steps → (b : Bool) → log_of (if b then stood_steps dead steps else Flips place (place_for dead of) bit ∷ stood_steps dead steps) ≡ log_of steps
log-flip dead steps place of bit e true = e
log-flip dead steps place of bit e false = e

pub log-stood : (dead : ℕ) (steps : List Step) → log_of (stood_steps dead steps) ≡ log_of steps
log-stood dead [] = refl
log-stood dead (Issues delivered ∷ steps) = ap (λ (log : Log). delivered.issued ∷ log) (log-stood dead steps)
log-stood dead (Flips place of bit ∷ steps) = log-flip dead steps place of bit (log-stood dead steps) (of == dead)

change-stood : (dead : ℕ) (h : Header) (command : Command) (bytes : Option (List ℕ)) (log : Log) (changes : List Change)
    → also (change_of h command (option_map (stood_in dead) bytes) log) (stood_changes dead changes) ≡ stood_changes dead (also (change_of h command bytes log) changes)
change-stood dead h (Act bank row) bytes log changes = refl
change-stood dead h (Rd bank column) bytes log changes = refl
change-stood dead h (Wr bank column) None log changes = refl
change-stood dead h (Wr bank column) (Some bytes) log changes = refl
change-stood dead h (PrePb bank) bytes log changes = refl
change-stood dead h (PreSb address) bytes log changes = refl
change-stood dead h PreAb bytes log changes = refl
change-stood dead h RefAb bytes log changes = refl
change-stood dead h (RefSb address) bytes log changes = refl
change-stood dead h RfmAb bytes log changes = refl
change-stood dead h (RfmSb address) bytes log changes = refl
change-stood dead h (Mrw write) bytes log changes = refl
change-stood dead h Ecs bytes log changes = refl
change-stood dead h Nop bytes log changes = refl

changes-flip : (dead : ℕ) (h : Header) (steps : List Step) (place : Place) (of bit : ℕ) → changes_of h (stood_steps dead steps) ≡ stood_changes dead (changes_of h steps) → (b : Bool)
    → changes_of h (if b then stood_steps dead steps else Flips place (place_for dead of) bit ∷ stood_steps dead steps)
    ≡ (if b then stood_changes dead (changes_of h steps) else turns (line_of place (shape_of h)) (place_for dead of) bit ∷ stood_changes dead (changes_of h steps))
changes-flip dead h steps place of bit e true = e
changes-flip dead h steps place of bit e false = ap (λ (changes : List Change). turns (line_of place (shape_of h)) (place_for dead of) bit ∷ changes) e

pub changes-stood : (dead : ℕ) (h : Header) (steps : List Step) → changes_of h (stood_steps dead steps) ≡ stood_changes dead (changes_of h steps)
changes-stood dead h [] = refl
changes-stood dead h (Issues delivered ∷ steps) =
    ap (λ (log : Log). also (change_of h delivered.issued.command (option_map (stood_in dead) delivered.bytes) log) (changes_of h (stood_steps dead steps))) (log-stood dead steps)
    ∙ ap (also (change_of h delivered.issued.command (option_map (stood_in dead) delivered.bytes) (log_of steps))) (changes-stood dead h steps)
    ∙ change-stood dead h delivered.issued.command delivered.bytes (log_of steps) (changes_of h steps)
changes-stood dead h (Flips place of bit ∷ steps) = changes-flip dead h steps place of bit (changes-stood dead h steps) (of == dead)

-- ---- Bytes that were put in their places

pub stood-is : (dead : ℕ) (bytes one two three four spare s0 s1 s2 s3 : List ℕ) → one ≡ part_of bytes 0 → two ≡ part_of bytes 1 → three ≡ part_of bytes 2 → four ≡ part_of bytes 3 → spare ≡ mixed_four one two three four
    → s0 ≡ (if dead == 0 then spare else one) → s1 ≡ (if dead == 1 then spare else two) → s2 ≡ (if dead == 2 then spare else three) → s3 ≡ (if dead == 3 then spare else four) → ((s0 ++ s1) ++ s2) ++ s3 ≡ stood_in dead bytes
unfolding stood_in
stood-is dead bytes one two three four spare s0 s1 s2 s3 e0 e1 e2 e3 es h0 h1 h2 h3 =
    let all : spare ≡ spare_of bytes = es ∙ four-same _ _ _ _ _ _ _ _ e0 e1 e2 e3 in
    four-bytes _ _ _ _ _ _ _ _ (side 0 s0 one all h0 e0) (side 1 s1 two all h1 e1) (side 2 s2 three all h2 e2) (side 3 s3 four all h3 e3)
  where
    side : (device : ℕ) (s own : List ℕ) → spare ≡ spare_of bytes → s ≡ (if dead == device then spare else own) → own ≡ part_of bytes device → s ≡ standing_part dead bytes device
    side device s own all h e =
        h ∙ ap (λ (t : Bool). if t then spare else own) (turned-back dead device) ∙ ap (λ (l : List ℕ). if device == dead then l else own) all
        ∙ ap (λ (l : List ℕ). if device == dead then spare_of bytes else l) e
