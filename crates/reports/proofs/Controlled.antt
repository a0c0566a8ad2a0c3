-- What a controller says of its turns, in the words of a run.
use Rattle.std.proofs.Common.{◌≡◌, ℕ, suc, ◌+◌, ◌*◌, ◌/◌, ◌≤◌, Option, Some, None, List, [], ◌∷◌, ◌++◌, map, length, sum, refl, ap, ◌∙◌, subst, arith, append-nil}
use Rattle.std.specs.Prelude.{IfSome}
use Rattle.command_words.specs.Command.{bank_number, IsBank, IsInRange}
use Rattle.command_words.specs.Geometry.{Shape}
use Rattle.command_words.specs.declared.place.Bank.{Bank}
use Rattle.command_words.specs.declared.command.Command.{Command}
use Rattle.command_words.specs.declared.command.Command.TheVariants.{Act, Rd, Wr, PrePb, PreSb, PreAb, RefAb, RefSb, RfmAb, RfmSb, Mrw, Ecs, Nop}
use Rattle.speed_bin.specs.Counts.{commands}
use Rattle.speed_bin.specs.Gap.{n_max}
use Rattle.command_words.specs.Kinds.{is_act}
use Rattle.speed_bin.specs.Log.{Log, open_at}
use Rattle.speed_bin.specs.declared.header.Header.{Header}
use Rattle.requests.specs.Choice.{IsChosen, IsOldestHit, IsPrompt}
use Rattle.requests.specs.Order.{Serves as ServesNumbered, IsServing}
use Rattle.requests.specs.Queue.{Step as NumberedStep, places, waiting}
use Rattle.requests.specs.declared.request.Kind.{Kind}
use Rattle.requests.specs.declared.request.Kind.TheVariants.{Read as Reads, Write as Writes}
use Rattle.requests.specs.declared.request.Request.{Request as Asked}
use Rattle.requests.specs.declared.waiting.Waiting.{Waiting}
use Rattle.ddr_text.specs.declared.lines.TraceLine.{TraceLine}
use Rattle.ddr_text.specs.declared.lines.TraceLine.TheVariants.{Read, Write, Flip, Idle}
use Rattle.reports.specs.Requests.{Request, request_of, requests}
use Rattle.reports.specs.Runs.{Issues, Flips, Run, log_of}
use Rattle.reports.specs.Barriers.{idle_clocks}
use Rattle.reports.specs.Delivered.{IsInside, AreInside}
use Rattle.reports.specs.Offered.{asked, offered, controller_steps}
use Rattle.reports.specs.Sound.{IsShort}
use Rattle.reports.proofs.Lines.{idle-append}
use Rattle.reports.proofs.Offered.{places-steps}

-- ---- A chosen command serves its request

-- what the controller's law says of columns
abbrev pub ColumnsServe : Header → List Asked → List NumberedStep → Type 0
ColumnsServe h offers log = (kind : Kind) (bank : Bank) (column : ℕ) (id : Option ℕ) → IsBank bank
    → IsOldestHit (waiting h offers log) (bank_number bank) (open_at (bank_number bank) (places log)) kind column id → ServesNumbered h offers log kind bank column id

pub chosen-serves : (h : Header) (offers : List Asked) (log : List NumberedStep) (clock : ℕ) (command : Command) (id : Option ℕ) → ColumnsServe h offers log → IsInRange command
    → IsChosen h (waiting h offers log) (places log) clock command id → IsServing h offers log command id
chosen-serves h offers log clock (Act bank row) id law range c = c.1
chosen-serves h offers log clock (Rd bank column) id law range c = law Reads bank column id range.0 c
chosen-serves h offers log clock (Wr bank column) id law range c = law Writes bank column id range.0 c
chosen-serves h offers log clock (PrePb bank) id law range c = c.1
chosen-serves h offers log clock (PreSb address) id law range c = c.1
chosen-serves h offers log clock PreAb id law range c = c.1
chosen-serves h offers log clock RefAb id law range c = c.1
chosen-serves h offers log clock (RefSb address) id law range c = c.1
chosen-serves h offers log clock RfmAb id law range c = c.1
chosen-serves h offers log clock (RfmSb address) id law range c = c
chosen-serves h offers log clock (Mrw write) id law range c = c
chosen-serves h offers log clock Ecs id law range c = c
chosen-serves h offers log clock Nop id law range c = absurd c

none-late : (from clock : ℕ) (id : Option ℕ) → id ≡ None → IfSome id (λ number. from ≤ clock)
none-late from clock None e = tt
none-late from clock (Some number) e = cc

some-late : (from clock : ℕ) (id : Option ℕ) → from ≤ clock → IfSome id (λ number. from ≤ clock)
some-late from clock None le = tt
some-late from clock (Some number) le = le

pub prompt-late : (h : Header) (ws : List Waiting) (log : Log) (from clock : ℕ) (command : Command) (id : Option ℕ) → IsPrompt h from log clock command → IsChosen h ws log clock command id → IfSome id (λ number. from ≤ clock)
prompt-late h ws log from clock (Act bank row) id p c = none-late from clock id c.1
prompt-late h ws log from clock (Rd bank column) id p c = some-late from clock id p.not_before
prompt-late h ws log from clock (Wr bank column) id p c = some-late from clock id p.not_before
prompt-late h ws log from clock (PrePb bank) id p c = none-late from clock id c.1
prompt-late h ws log from clock (PreSb address) id p c = none-late from clock id c.1
prompt-late h ws log from clock PreAb id p c = none-late from clock id c.1
prompt-late h ws log from clock RefAb id p c = none-late from clock id c.1
prompt-late h ws log from clock (RefSb address) id p c = none-late from clock id c.1
prompt-late h ws log from clock RfmAb id p c = none-late from clock id c.1
prompt-late h ws log from clock (RfmSb address) id p c = none-late from clock id c
prompt-late h ws log from clock (Mrw write) id p c = none-late from clock id c
prompt-late h ws log from clock Ecs id p c = none-late from clock id c
prompt-late h ws log from clock Nop id p c = absurd c

-- ---- How long it is

length-asked : (rs : List Request) → length (map asked rs) ≡ length rs
length-asked [] = refl
length-asked (r ∷ rs) = ap suc (length-asked rs)

length-steps : (trace : List TraceLine) (run : Run) → length (controller_steps trace run) ≡ length (log_of run)
length-steps trace [] = refl
length-steps trace (Issues s ∷ run) = ap suc (length-steps trace run)
length-steps trace (Flips k ∷ run) = length-steps trace run

pub short : (h : Header) (trace : List TraceLine) (run : Run) (idle clock : ℕ) → idle ≡ sum (idle_clocks trace)
    → commands is_act (places (controller_steps trace run)) ≤ length (offered trace)
    → clock ≤ 2 * (idle + 8 * n_max h.timing * (length (offered trace) + 3))
    → length (controller_steps trace run) ≤ 28 + 5 * length (offered trace) + 5 * (clock / h.timing.nrefi) → IsShort h trace run clock
short h trace run idle clock e acts end few =
    let many : length (offered trace) ≡ length (requests trace) = length-asked (requests trace) in
    let same : commands is_act (places (controller_steps trace run)) ≡ commands is_act (log_of run) = ap (commands is_act) (places-steps trace run) in
    record {
      activations = omega (arith, acts, many, same);
      end = subst (λ n. clock ≤ 2 * (sum (idle_clocks trace) + 8 * n_max h.timing * (n + 3))) many (subst (λ i. clock ≤ 2 * (i + 8 * n_max h.timing * (length (offered trace) + 3))) e end);
      commands = omega (arith, few, many, length-steps trace run);
    }

-- ---- One trace line more

pub inside-more : (g : Shape) (trace : List TraceLine) (t : TraceLine) → AreInside g trace → IsInside g t → AreInside g (trace ++ t ∷ [])
inside-more g [] t a i = (i, tt)
inside-more g (x ∷ trace) t a i = (a.0, inside-more g trace t a.1 i)

no-idle : (n : ℕ) (t : TraceLine) (r : Request) → request_of n t ≡ r ∷ [] → idle_clocks (t ∷ []) ≡ []
no-idle n (Read line) r e = refl
no-idle n (Write line bytes) r e = refl
no-idle n (Flip line device bit) r e = refl
no-idle n (Idle clocks) r e = cc

pub takes-idle : (trace : List TraceLine) (t : TraceLine) (r : Request) → request_of (1 + length trace) t ≡ r ∷ [] → idle_clocks (trace ++ t ∷ []) ≡ idle_clocks trace
takes-idle trace t r e = idle-append trace (t ∷ []) ∙ ap (λ l. idle_clocks trace ++ l) (no-idle (1 + length trace) t r e) ∙ append-nil (idle_clocks trace)

pub flip-idle : (trace : List TraceLine) (line device bit : ℕ) → idle_clocks (trace ++ Flip line device bit ∷ []) ≡ idle_clocks trace
flip-idle trace line device bit = idle-append trace (Flip line device bit ∷ []) ∙ append-nil (idle_clocks trace)

pub idle-idle : (trace : List TraceLine) (clocks : ℕ) → idle_clocks (trace ++ Idle clocks ∷ []) ≡ idle_clocks trace ++ clocks ∷ []
idle-idle trace clocks = idle-append trace (Idle clocks ∷ [])
