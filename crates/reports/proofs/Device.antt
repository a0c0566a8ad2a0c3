-- Each step of a sound run is one step of a device.
use Rattle.std.proofs.Common.{inl, inr, ◌≡◌, ℕ, ◌-◌, ◌*◌, ◌/◌, ◌<◌, true, false, cond, Option, Some, None, List, [], ◌∷◌, slice_get, refl, sym, ap, ◌∙◌, subst, arith}
use Rattle.std.specs.Prelude.{IfSome, option_map, is_some}
use Rattle.std.proofs.Math.Nat.{div-lt_iff_lt-mul, mod-lt}
use Rattle.command_words.specs.Command.{IsInRange}
use Rattle.command_words.specs.Place.{place_of}
use Rattle.command_words.specs.declared.command.Command.{Command}
use Rattle.command_words.specs.declared.command.Command.TheVariants.{Act, Rd, Wr, PrePb, PreSb, PreAb, RefAb, RefSb, RfmAb, RfmSb, Mrw, Ecs, Nop}
use Rattle.speed_bin.specs.Header.{IsAccepted, shape_of}
use Rattle.command_words.specs.Kinds.{is_rd, is_wr}
use Rattle.speed_bin.specs.Log.{Log}
use Rattle.speed_bin.specs.declared.header.Header.{Header}
use Rattle.device_core.specs.Legal.{IsLegal}
use Rattle.device_core.specs.Standing.{IsGiven, HasBytes, IsBit}
use Rattle.device_core.specs.Steps.{Step as DeviceStep, Flips as Turns, log_of as device_log}
use Rattle.device_core.specs.Stored.{line_at as device_line_at, answer as device_answer, reading, changes_of}
use Rattle.requests.specs.declared.request.Kind.TheVariants.{Read as Reads, Write as Writes}
use Rattle.ddr_text.specs.Ranges.{IsCommandOf}
use Rattle.ddr_text.specs.declared.lines.TraceLine.{TraceLine}
use Rattle.ddr_text.specs.declared.lines.TraceLine.TheVariants.{Read, Write, Flip, Idle}
use Rattle.reports.specs.Requests.{Request, request_of, requests}
use Rattle.reports.specs.Runs.{Served, Issues, Flips, Run, log_of, IsNext}
use Rattle.reports.specs.Accesses.{access_of, access_at, IsColumn}
use Rattle.reports.specs.Delivered.{bytes_in, bytes_for, with_flip, device_steps, IsInside, AreInside}
use Rattle.reports.specs.Readings.{changes, before, reading_of}
use Rattle.reports.specs.Sound.{IsSoundPlace, Sound}
use Rattle.reports.proofs.Bounded.{row-in-range}
use Rattle.reports.proofs.Columns.{none-column, some-column}
use Rattle.command_words.specs.Geometry.{IsGroups}
use Rattle.reports.proofs.Found.{is_at}
use Rattle.reports.proofs.Kept.{fourth-rule}
use Rattle.reports.proofs.Memory.{line-number}
use Rattle.reports.proofs.Served.{next-unserved}
use Rattle.reports.proofs.Stored.{log-device, line-rd, inside-at}

-- ---- The command

-- a header has some bank groups, and at most 8
some-groups : (k : ℕ) → IsGroups k → 0 < k
some-groups k (inl e) = omega (arith, e)
some-groups k (inr e) = omega (arith, e)

few-groups : (g k : ℕ) → IsGroups k → g < k → g < 8
few-groups g k (inl e) low = omega (arith, e, low)
few-groups g k (inr e) low = omega (arith, e, low)

pub in-range : (h : Header) (command : Command) → IsAccepted h → IsCommandOf (shape_of h) command → IsInRange command
in-range h (Act bank row) a w = (record { group = few-groups bank.group h.version.groups a.version.2 w.0.group; address = w.0.address }, omega (arith, w.1, a.settings.rows.1))
in-range h (Rd bank column) a w = (record { group = few-groups bank.group h.version.groups a.version.2 w.0.group; address = w.0.address }, w.1)
in-range h (Wr bank column) a w = (record { group = few-groups bank.group h.version.groups a.version.2 w.0.group; address = w.0.address }, w.1)
in-range h (PrePb bank) a w = record { group = few-groups bank.group h.version.groups a.version.2 w.group; address = w.address }
in-range h (PreSb address) a w = w
in-range h PreAb a w = tt
in-range h RefAb a w = tt
in-range h (RefSb address) a w = w
in-range h RfmAb a w = tt
in-range h (RfmSb address) a w = w
in-range h (Mrw write) a w = w
in-range h Ecs a w = tt
in-range h Nop a w = tt

pub legal : (h : Header) (trace : List TraceLine) (run : Run) (s : Served) → IsAccepted h → IsSoundPlace h trace run s → IsLegal h s.issued.clock s.issued.command (log_of run)
legal h trace run s accepted sound = record {
  in_time = sound.in_time;
  in_range = in-range h s.issued.command accepted sound.in_range;
  row = row-in-range h s.issued.command sound.in_range;
  rules = sound.rules;
}

-- ---- Its bytes

rd-not-wr : (command : Command) → is_rd command ≡ true → is_wr command ≡ false
rd-not-wr (Rd bank column) e = refl
rd-not-wr (Act bank row) e = cc
rd-not-wr (Wr bank column) e = cc
rd-not-wr (PrePb bank) e = cc
rd-not-wr (PreSb address) e = cc
rd-not-wr PreAb e = cc
rd-not-wr RefAb e = cc
rd-not-wr (RefSb address) e = cc
rd-not-wr RfmAb e = cc
rd-not-wr (RfmSb address) e = cc
rd-not-wr (Mrw write) e = cc
rd-not-wr Ecs e = cc
rd-not-wr Nop e = cc

has-line : (command : Command) (n : ℕ) (t : TraceLine) (r : Request) → request_of n t ≡ r ∷ [] → IsColumn r.kind command → is_some (bytes_in (Some t)) ≡ is_wr command
has-line command n (Read line) r is c =
    let q : Request = record { number = n; line = line; kind = Reads } in
    let same : q ≡ r = cc in
    sym (rd-not-wr command (subst (λ k. IsColumn k command) (sym (ap (λ (v : Request). v.kind) same)) c))
has-line command n (Write line bytes) r is c =
    let q : Request = record { number = n; line = line; kind = Writes } in
    let same : q ≡ r = cc in
    let wr : is_wr command ≡ true = subst (λ k. IsColumn k command) (sym (ap (λ (v : Request). v.kind) same)) c in
    sym wr
has-line command n (Flip line device bit) r is c = cc
has-line command n (Idle clocks) r is c = cc

has-bytes : (h : Header) (trace : List TraceLine) (run : Run) (s : Served) (o : Option Request) → s.request ≡ o → IsSoundPlace h trace run s → HasBytes s.issued.command (bytes_for trace o)
has-bytes h trace run s None e sound =
    sym (none-column (shape_of h) s.issued.command (log_of run) (fourth-rule h s.issued.clock s.issued.command (log_of run) sound.rules) (sound.is_of ∙ ap (option_map access_of) e)).1
has-bytes h trace run s (Some r) e sound =
    let n : IsNext (requests trace) run r = subst (λ v. IfSome v (λ q. IsNext (requests trace) run q)) e sound.is_next in
    let f = is_at 1 trace n.earlier n.later r n.is_offered in
    ap (λ l. is_some (bytes_in l)) (line-number trace n.earlier r f)
    ∙ has-line s.issued.command r.number f.line r f.is (some-column (shape_of h) s.issued.command (log_of run) r (sound.is_of ∙ ap (option_map access_of) e))

pub given : (h : Header) (trace : List TraceLine) (run : Run) (s : Served) → IsAccepted h → IsSoundPlace h trace run s
    → IsGiven h s.issued.clock s.issued.command (bytes_for trace s.request) (device_steps h trace run)
given h trace run s accepted sound = record {
  legal = subst (λ log. IsLegal h s.issued.clock s.issued.command log) (sym (log-device h trace run)) (legal h trace run s accepted sound);
  with_bytes = has-bytes h trace run s s.request refl sound;
}

-- ---- Turned bits

div-below : (k x y : ℕ) → 0 < k → x < y * k → x / k < y
div-below k x y some low = (div-lt_iff_lt-mul {k = k} {x = x} {y = y} some).1 low

row-within : (k line rows : ℕ) → 0 < k → line < rows * 256 * k → line / k / 4 / 64 < rows
row-within k line rows some low =
    let one : line / k < rows * 256 = div-below k line (rows * 256) some low in
    let two : line / k / 4 < rows * 64 = div-below 4 (line / k) (rows * 64) (omega arith) (omega (arith, one)) in
    div-below 64 (line / k / 4) rows (omega arith) two

pub turned-bit : (h : Header) (trace : List TraceLine) (k line device bit : ℕ) → IsAccepted h → AreInside (shape_of h) trace → slice_get trace (k - 1) ≡ Some (Flip line device bit) → IsBit h (place_of line (shape_of h)) device bit
turned-bit h trace k line device bit accepted inside there =
    let some = some-groups h.version.groups accepted.version.2 in
    let i : (line < h.settings.rows * 256 * h.version.groups) × (device < 4) × (bit < 136) = subst (λ o. IfSome o (IsInside (shape_of h))) there (inside-at (shape_of h) trace (k - 1) inside) in
    record {
      inside = record { row = row-within h.version.groups line h.settings.rows some i.0; group = mod-lt line some };
      of_four = i.1;
      in_word = i.2;
    }

pub turns : (h : Header) (trace : List TraceLine) (run : Run) (k line device bit : ℕ) → slice_get trace (k - 1) ≡ Some (Flip line device bit)
    → device_steps h trace (Flips k ∷ run) ≡ Turns (place_of line (shape_of h)) device bit ∷ device_steps h trace run
turns h trace run k line device bit there = ap (λ o. with_flip (shape_of h) o (device_steps h trace run)) there

-- ---- What the device answers

answer-read : (h : Header) (command : Command) (log : Log) (steps : List DeviceStep) (r : Request) → device_log steps ≡ log → access_at (shape_of h) command log ≡ Some (access_of r) → is_rd command ≡ true
    → device_answer h command steps ≡ Some (reading (changes_of h steps) r.line)
answer-read h (Rd bank column) log steps r e is c = ap (λ line. Some (reading (changes_of h steps) line)) (ap (device_line_at h bank column) e ∙ line-rd h bank column log r is)
answer-read h (Act bank row) log steps r e is c = cc
answer-read h (Wr bank column) log steps r e is c = cc
answer-read h (PrePb bank) log steps r e is c = cc
answer-read h (PreSb address) log steps r e is c = cc
answer-read h PreAb log steps r e is c = cc
answer-read h RefAb log steps r e is c = cc
answer-read h (RefSb address) log steps r e is c = cc
answer-read h RfmAb log steps r e is c = cc
answer-read h (RfmSb address) log steps r e is c = cc
answer-read h (Mrw write) log steps r e is c = cc
answer-read h Ecs log steps r e is c = cc
answer-read h Nop log steps r e is c = cc

pub device-answers : (h : Header) (trace : List TraceLine) (run : Run) (s : Served) (r : Request) → Sound h trace (Issues s ∷ run) → s.request ≡ Some r → r.kind ≡ Reads
    → device_answer h s.issued.command (device_steps h trace run) ≡ Some (reading_of h trace (Issues s ∷ run) r)
device-answers h trace run s r sound e reads =
    let n : IsNext (requests trace) run r = subst (λ v. IfSome v (λ q. IsNext (requests trace) run q)) e sound.0.is_next in
    let is : access_at (shape_of h) s.issued.command (log_of run) ≡ Some (access_of r) = sound.0.is_of ∙ ap (option_map access_of) e in
    let column : is_rd s.issued.command ≡ true = subst (λ k. IsColumn k s.issued.command) reads (some-column (shape_of h) s.issued.command (log_of run) r is) in
    answer-read h s.issued.command (log_of run) (device_steps h trace run) r (log-device h trace run) is column
    ∙ sym (ap (λ b. Some (reading (changes h trace (cond b (before r.number run) run)) r.line)) (next-unserved h trace run r sound.1 n))
