-- What the changes of a sound run leave in a line is the data of the last W line of it that was served.
use Rattle.std.proofs.Common.{◌≡◌, ℕ, zero, suc, ◌-◌, ◌==◌, Bool, true, false, cond, Option, Some, None, List, [], ◌∷◌, slice_get, refl, sym, ap, ◌∙◌, subst}
use Rattle.std.specs.Prelude.{IfSome, option_map, if◌then◌else◌}
use Rattle.std.proofs.lemmas.Bool.{eqb-true, eq-eqb}
use Rattle.command_words.specs.Command.{bank_number}
use Rattle.command_words.specs.Geometry.{Shape}
use Rattle.command_words.specs.Place.{line_of}
use Rattle.command_words.specs.declared.place.Bank.{Bank}
use Rattle.command_words.specs.declared.command.Command.{Command}
use Rattle.command_words.specs.declared.command.Command.TheVariants.{Act, Rd, Wr, PrePb, PreSb, PreAb, RefAb, RefSb, RfmAb, RfmSb, Mrw, Ecs, Nop}
use Rattle.speed_bin.specs.Log.{Log, open_at}
use Rattle.speed_bin.specs.declared.header.Header.{Header}
use Rattle.ondie_ecc.specs.Bits.{IsBytes}
use Rattle.error_scrub.specs.Changes.{Change, wrote, turns, scrubs}
use Rattle.error_scrub.specs.Tame.{last_written, AreGiven}
use Rattle.device_core.specs.Steps.{Step as DeviceStep, log_of as device_log}
use Rattle.device_core.specs.Stored.{line_in as device_line_in, line_at as device_line_at, change_of, also as also_change, changes_of}
use Rattle.speed_bin.specs.Header.{shape_of}
use Rattle.requests.specs.declared.request.Kind.{Kind}
use Rattle.requests.specs.declared.request.Kind.TheVariants.{Read as Reads, Write as Writes}
use Rattle.ddr_text.specs.declared.lines.TraceLine.{TraceLine}
use Rattle.ddr_text.specs.declared.lines.TraceLine.TheVariants.{Read, Write, Flip, Idle}
use Rattle.reports.specs.Requests.{Request, request_of, requests}
use Rattle.reports.specs.Runs.{Served, Issues, Flips, Run, log_of, IsNext}
use Rattle.reports.specs.Accesses.{Access, access_of, access_at, line_in, IsColumn}
use Rattle.reports.specs.Memory.{written, stored}
use Rattle.reports.specs.Delivered.{bytes_in, bytes_for, with_flip, device_steps, IsInside, AreInside}
use Rattle.reports.specs.Readings.{changes}
use Rattle.reports.specs.Sound.{Sound}
use Rattle.reports.proofs.Columns.{some-column}
use Rattle.reports.proofs.Found.{is_at}
use Rattle.reports.proofs.Memory.{line-number, stored-more, stored-none}

-- ---- The log of a device's steps

log-flip : (g : Shape) (o : Option TraceLine) (steps : List DeviceStep) → device_log (with_flip g o steps) ≡ device_log steps
log-flip g (Some (Flip line device bit)) steps = refl
log-flip g (Some (Read line)) steps = refl
log-flip g (Some (Write line bytes)) steps = refl
log-flip g (Some (Idle clocks)) steps = refl
log-flip g None steps = refl

pub log-device : (h : Header) (trace : List TraceLine) (run : Run) → device_log (device_steps h trace run) ≡ log_of run
log-device h trace [] = refl
log-device h trace (Issues s ∷ run) = ap (λ l. s.issued ∷ l) (log-device h trace run)
log-device h trace (Flips k ∷ run) = log-flip (shape_of h) (slice_get trace (k - 1)) (device_steps h trace run) ∙ log-device h trace run

-- ---- The line of a column that serves a request

abbrev accessed : Kind → ℕ → Access
accessed kind line = record { line = line; kind = kind }

line-in : (kind : Kind) (o : Option ℕ) (g : Shape) (bank : Bank) (column : ℕ) (r : Request) → option_map (accessed kind) (line_in g bank column o) ≡ Some (access_of r) → device_line_in g bank column o ≡ r.line
line-in kind None g bank column r e = cc
line-in kind (Some row) g bank column r e =
    let a : Access = record { line = line_of (record { bank = bank; row = row; column = column }) g; kind = kind } in
    let f : a ≡ access_of r = cc in ap (λ (v : Access). v.line) f

pub line-rd : (h : Header) (bank : Bank) (column : ℕ) (log : Log) (r : Request) → access_at (shape_of h) (Rd bank column) log ≡ Some (access_of r) → device_line_at h bank column log ≡ r.line
line-rd h bank column log r e = line-in Reads (open_at (bank_number bank) log) (shape_of h) bank column r e

line-wr : (h : Header) (bank : Bank) (column : ℕ) (log : Log) (r : Request) → access_at (shape_of h) (Wr bank column) log ≡ Some (access_of r) → device_line_at h bank column log ≡ r.line
line-wr h bank column log r e = line-in Writes (open_at (bank_number bank) log) (shape_of h) bank column r e

-- ---- What a change leaves of a line's data

-- what a line was last written with, after one more change
abbrev applied : Option Change → ℕ → List ℕ → List ℕ
applied None x old = old
applied (Some (wrote at bytes)) x old = if x == at then bytes else old
applied (Some (turns at of bit)) x old = old
applied (Some (scrubs at)) x old = old

last-also : (o : Option Change) (cs : List Change) (x : ℕ) (old : List ℕ) → last_written cs x ≡ old → last_written (also_change o cs) x ≡ applied o x old
last-also None cs x old e = e
last-also (Some (wrote at bytes)) cs x old e = ap (cond (x == at) bytes) e
last-also (Some (turns at of bit)) cs x old e = e
last-also (Some (scrubs at)) cs x old e = e

-- a command without bytes writes nothing
no-bytes : (h : Header) (command : Command) (log : Log) (x : ℕ) (old : List ℕ) → applied (change_of h command None log) x old ≡ old
no-bytes h (Act bank row) log x old = refl
no-bytes h (Rd bank column) log x old = refl
no-bytes h (Wr bank column) log x old = refl
no-bytes h (PrePb bank) log x old = refl
no-bytes h (PreSb address) log x old = refl
no-bytes h PreAb log x old = refl
no-bytes h RefAb log x old = refl
no-bytes h (RefSb address) log x old = refl
no-bytes h RfmAb log x old = refl
no-bytes h (RfmSb address) log x old = refl
no-bytes h (Mrw write) log x old = refl
no-bytes h Ecs log x old = refl
no-bytes h Nop log x old = refl

eq-sym : (a b : ℕ) → (a == b) ≡ (b == a)
eq-sym a b = go (a == b) (b == a) refl refl
  where
    go : (s t : Bool) → (a == b) ≡ s → (b == a) ≡ t → (a == b) ≡ (b == a)
    go true true e f = e ∙ sym f
    go false false e f = e ∙ sym f
    go true false e f = let k : true ≡ false = sym (eq-eqb b a (sym (eqb-true a b e))) ∙ f in cc
    go false true e f = let k : true ≡ false = sym (eq-eqb a b (sym (eqb-true b a f))) ∙ e in cc

-- a WR writes the bytes of its W line
write-applied : (h : Header) (command : Command) (log : Log) (n line x : ℕ) (bytes old : List ℕ) (r : Request) → request_of n (Write line bytes) ≡ r ∷ [] → access_at (shape_of h) command log ≡ Some (access_of r)
    → IsColumn Writes command → applied (change_of h command (Some bytes) log) x old ≡ written x (Write line bytes) old
write-applied h (Wr bank column) log n line x bytes old r is e column_is =
    let q : Request = record { number = n; line = line; kind = Writes } in
    let same : q ≡ r = cc in
    ap (λ at. cond (x == at) bytes old) (line-wr h bank column log r e ∙ sym (ap (λ (v : Request). v.line) same)) ∙ ap (λ b. cond b bytes old) (eq-sym x line)
write-applied h (Act bank row) log n line x bytes old r is e column_is = cc
write-applied h (Rd bank column) log n line x bytes old r is e column_is = cc
write-applied h (PrePb bank) log n line x bytes old r is e column_is = cc
write-applied h (PreSb address) log n line x bytes old r is e column_is = cc
write-applied h PreAb log n line x bytes old r is e column_is = cc
write-applied h RefAb log n line x bytes old r is e column_is = cc
write-applied h (RefSb address) log n line x bytes old r is e column_is = cc
write-applied h RfmAb log n line x bytes old r is e column_is = cc
write-applied h (RfmSb address) log n line x bytes old r is e column_is = cc
write-applied h (Mrw write) log n line x bytes old r is e column_is = cc
write-applied h Ecs log n line x bytes old r is e column_is = cc
write-applied h Nop log n line x bytes old r is e column_is = cc

line-applied : (h : Header) (command : Command) (log : Log) (n x : ℕ) (t : TraceLine) (old : List ℕ) (r : Request) → request_of n t ≡ r ∷ [] → access_at (shape_of h) command log ≡ Some (access_of r)
    → applied (change_of h command (bytes_in (Some t)) log) x old ≡ written x t old
line-applied h command log n x (Read line) old r is e = no-bytes h command log x old
line-applied h command log n x (Write line bytes) old r is e =
    let q : Request = record { number = n; line = line; kind = Writes } in
    let same : q ≡ r = cc in
    write-applied h command log n line x bytes old r is e (subst (λ k. IsColumn k command) (sym (ap (λ (v : Request). v.kind) same)) (some-column (shape_of h) command log r e))
line-applied h command log n x (Flip line device bit) old r is e = cc
line-applied h command log n x (Idle clocks) old r is e = cc

place-applied : (h : Header) (trace : List TraceLine) (run : Run) (s : Served) (x : ℕ) (o : Option Request) → s.request ≡ o → Sound h trace (Issues s ∷ run)
    → applied (change_of h s.issued.command (bytes_for trace o) (log_of run)) x (stored trace x run) ≡ stored trace x (Issues s ∷ run)
place-applied h trace run s x None e sound = no-bytes h s.issued.command (log_of run) x (stored trace x run) ∙ sym (stored-none trace run s x e)
place-applied h trace run s x (Some r) e sound =
    let n : IsNext (requests trace) run r = subst (λ v. IfSome v (λ q. IsNext (requests trace) run q)) e sound.0.is_next in
    let f = is_at 1 trace n.earlier n.later r n.is_offered in
    let there : slice_get trace (r.number - 1) ≡ Some f.line = line-number trace n.earlier r f in
    ap (λ l. applied (change_of h s.issued.command (bytes_in l) (log_of run)) x (stored trace x run)) there
    ∙ line-applied h s.issued.command (log_of run) r.number x f.line (stored trace x run) r f.is (sound.0.is_of ∙ ap (option_map access_of) e)
    ∙ sym (stored-more trace run s r f.line x e there)

last-flip : (h : Header) (g : Shape) (o : Option TraceLine) (steps : List DeviceStep) (x : ℕ) → last_written (changes_of h (with_flip g o steps)) x ≡ last_written (changes_of h steps) x
last-flip h g (Some (Flip line at bit)) steps x = refl
last-flip h g (Some (Read line)) steps x = refl
last-flip h g (Some (Write line bytes)) steps x = refl
last-flip h g (Some (Idle clocks)) steps x = refl
last-flip h g None steps x = refl

pub last-stored : (h : Header) (trace : List TraceLine) (run : Run) (x : ℕ) → Sound h trace run → last_written (changes h trace run) x ≡ stored trace x run
last-stored h trace [] x sound = refl
last-stored h trace (Issues s ∷ run) x sound =
    ap (λ log. last_written (also_change (change_of h s.issued.command (bytes_for trace s.request) log) (changes h trace run)) x) (log-device h trace run)
    ∙ last-also (change_of h s.issued.command (bytes_for trace s.request) (log_of run)) (changes h trace run) x (stored trace x run) (last-stored h trace run x sound.1)
    ∙ place-applied h trace run s x s.request refl sound
last-stored h trace (Flips k ∷ run) x sound =
    last-flip h (shape_of h) (slice_get trace (k - 1)) (device_steps h trace run) x ∙ last-stored h trace run x sound.1

-- ---- The bits and the bytes of a trace of the subchannel

pub inside-at : (g : Shape) (trace : List TraceLine) (i : ℕ) → AreInside g trace → IfSome (slice_get trace i) (IsInside g)
inside-at g [] i h = tt
inside-at g (t ∷ trace) zero h = h.0
inside-at g (t ∷ trace) (suc i) h = inside-at g trace i h.1

given-flip : (h : Header) (g : Shape) (o : Option TraceLine) (steps : List DeviceStep) → IfSome o (IsInside g) → AreGiven (changes_of h steps) → AreGiven (changes_of h (with_flip g o steps))
given-flip h g (Some (Flip line device bit)) steps i b = (i.2, b)
given-flip h g (Some (Read line)) steps i b = b
given-flip h g (Some (Write line bytes)) steps i b = b
given-flip h g (Some (Idle clocks)) steps i b = b
given-flip h g None steps i b = b

given-line : (g : Shape) (o : Option TraceLine) → IfSome o (IsInside g) → IfSome (bytes_in o) (IsBytes 64)
given-line g None i = tt
given-line g (Some (Read line)) i = tt
given-line g (Some (Write line bytes)) i = i.1
given-line g (Some (Flip line device bit)) i = tt
given-line g (Some (Idle clocks)) i = tt

given-bytes : (g : Shape) (trace : List TraceLine) (o : Option Request) → AreInside g trace → IfSome (bytes_for trace o) (IsBytes 64)
given-bytes g trace None i = tt
given-bytes g trace (Some r) i = given-line g (slice_get trace (r.number - 1)) (inside-at g trace (r.number - 1) i)

given-change : (h : Header) (command : Command) (bytes : Option (List ℕ)) (log : Log) (cs : List Change) → IfSome bytes (IsBytes 64) → AreGiven cs → AreGiven (also_change (change_of h command bytes log) cs)
given-change h (Act bank row) bytes log cs i b = b
given-change h (Rd bank column) bytes log cs i b = b
given-change h (Wr bank column) (Some bytes) log cs i b = (i, b)
given-change h (Wr bank column) None log cs i b = b
given-change h (PrePb bank) bytes log cs i b = b
given-change h (PreSb address) bytes log cs i b = b
given-change h PreAb bytes log cs i b = b
given-change h RefAb bytes log cs i b = b
given-change h (RefSb address) bytes log cs i b = b
given-change h RfmAb bytes log cs i b = b
given-change h (RfmSb address) bytes log cs i b = b
given-change h (Mrw write) bytes log cs i b = b
given-change h Ecs bytes log cs i b = b
given-change h Nop bytes log cs i b = b

pub changes-given : (h : Header) (trace : List TraceLine) (run : Run) → AreInside (shape_of h) trace → AreGiven (changes h trace run)
changes-given h trace [] i = tt
changes-given h trace (Issues s ∷ run) i =
    given-change h s.issued.command (bytes_for trace s.request) (device_log (device_steps h trace run)) (changes h trace run) (given-bytes (shape_of h) trace s.request i) (changes-given h trace run i)
changes-given h trace (Flips k ∷ run) i = given-flip h (shape_of h) (slice_get trace (k - 1)) (device_steps h trace run) (inside-at (shape_of h) trace (k - 1) i) (changes-given h trace run i)
