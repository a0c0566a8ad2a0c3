-- What each call does to what a slot stands for, and what it answers.
use Rattle.std.specs.Prelude.{ℕ, ◌≡◌, ◌⊎◌, ◌^◌, ◌&&◌, ◌==◌, nat_lt, Bool, true, false, if◌then◌else◌, is_some, Option, Some, None, List, [], ◌∷◌, Result, Ok, Err}
use Rattle.command_words.specs.Decode.{are_equal, decode_of}
use Rattle.command_words.specs.Geometry.{Shape, lines_of}
use Rattle.command_words.specs.Kinds.{is_wr}
use Rattle.command_words.specs.Place.{place_of}
use Rattle.command_words.specs.Words.{words_of}
use Rattle.command_words.specs.declared.command.Command.{Command}
use Rattle.command_words.specs.declared.words.WordFault.{WordFault}
use Rattle.command_words.specs.declared.words.Words.{Words}
use Rattle.ddr_text.specs.ReportGrammar.{has_place}
use Rattle.device_core.specs.Standing.{with_command}
use Rattle.device_core.specs.Steps.{Step, Flips, log_of}
use Rattle.device_core.specs.Stored.{scrub_counts}
use Rattle.device_exec.specs.Standing.{answered}
use Rattle.device_exec.specs.declared.checked_device.Answer.{Answer}
use Rattle.log_auditor.specs.declared.verdict.Rule.{Rule}
use Rattle.ondie_ecc.specs.declared.state.ReadState.{ReadState}
use Rattle.ondie_ecc.specs.declared.state.ReadState.TheVariants.{Clean, Fixed, Lost}
use Rattle.speed_bin.specs.Alert.{alert}
use Rattle.speed_bin.specs.Counts.{peak}
use Rattle.speed_bin.specs.Document.{header_stated}
use Rattle.speed_bin.specs.Header.{shape_of}
use Rattle.speed_bin.specs.Log.{Issued as Place}
use Rattle.speed_bin.specs.Rules.{broken, broken_at_end}
use Rattle.speed_bin.specs.Version.{Figures}
use Rattle.speed_bin.specs.declared.header.Header.{Header}
use Rattle.ddr_c.specs.Answers.{refusal_code}
use Rattle.ddr_c.specs.Standing.{Stage, Going, Awaits, Broken, Holds, SessionFor}
use Rattle.ddr_c.specs.declared.answers.Refusal.{Refusal}
use Rattle.ddr_c.specs.declared.answers.Refusal.TheVariants as refusal
use Rattle.ddr_c.specs.declared.line.Line.{Line}
use Rattle.ddr_c.specs.declared.session.Totals.{Totals}
use Rattle.ddr_c.specs.declared.session.Session.{Session}

-- ---- Ranges

abbrev pub is_in_time : ℕ → Bool
is_in_time clock = nat_lt clock (2 ^ 48)

-- the clock is below 2^48, and the subchannel has what the command names
abbrev pub is_in_reach : Shape → ℕ → Command → Bool
is_in_reach g clock command = is_in_time clock && has_place g command

-- a stored bit that there is: of a line, a device below 4 and a bit below 136
abbrev pub is_bit : Shape → ℕ → ℕ → ℕ → Bool
is_bit g line device bit = nat_lt line (lines_of g) && (nat_lt device 4 && nat_lt bit 136)

-- these are the clock and the words of a command at its clock
abbrev pub is_again : ℕ → Command → ℕ → Words → Bool
is_again own command clock words = own == clock && are_equal (words_of command) words

abbrev pub words_in : ℕ → ℕ → Bool → Words
words_in first second true = record { first = first; second = Some second }
words_in first second false = record { first = first; second = None }

-- ---- Commands

-- the bytes come with a WR alone
abbrev pub given : Command → List ℕ → Option (List ℕ)
given command bytes = if is_wr command then Some bytes else None

-- What a call does. It is refused for this reason, and nothing changes. Or this rule is broken, which is the answer from now on
-- too. Or all is fine: these are the steps then, and this is what an RD found. Or the log ends, and no rule is broken.
pub data Effect : Type 0 where
  Refuses : Refusal → Effect
  Breaks : Rule → Effect
  Carries : List Step → Option Answer → Effect
  Closes : Effect

abbrev pub unless_broken : Option ℕ → Effect → Effect
unless_broken (Some number) effect = Breaks (record { 0 = number })
unless_broken None effect = effect

-- a command behind no broken rule
abbrev pub judged : Header → List Step → ℕ → Command → List ℕ → Effect
judged h steps clock command bytes =
    unless_broken (broken h clock command (log_of steps)) (Carries (with_command clock command (given command bytes) steps) (answered h command steps))

-- the WR that waits, with its bytes
abbrev pub delivered : Place → List ℕ → List Step → List Step
delivered place bytes steps = with_command place.clock place.command (Some bytes) steps

-- a WR waits: only the same WR, given again, goes on
abbrev pub again : Place → ℕ → Words → List ℕ → List Step → Effect
again place clock words bytes steps =
    if is_again place.clock place.command clock words then Carries (delivered place bytes steps) None else Refuses refusal.NoMemory

-- a command within its ranges: a broken rule stays the answer
abbrev pub issued : Header → List Step → Stage → ℕ → Command → Words → List ℕ → Effect
issued h steps Going clock command words bytes = judged h steps clock command bytes
issued h steps (Awaits place) clock command words bytes = again place clock words bytes steps
issued h steps (Broken rule) clock command words bytes = Refuses (refusal.Breaks rule)

abbrev pub in_reach : Bool → Effect → Effect
in_reach true effect = effect
in_reach false effect = Refuses refusal.OutOfRange

-- the words are decoded first, then come the ranges, and then the rules
abbrev pub decoded : Header → List Step → Stage → ℕ → Words → List ℕ → Result Command WordFault → Effect
decoded h steps stage clock words bytes (Err fault) = Refuses (refusal.NoCommand fault)
decoded h steps stage clock words bytes (Ok command) = in_reach (is_in_reach (shape_of h) clock command) (issued h steps stage clock command words bytes)

-- what the words of a command do at a clock, with the bytes of a WR
abbrev pub effect_of : Header → List Step → Stage → ℕ → Words → List ℕ → Effect
effect_of h steps stage clock words bytes = decoded h steps stage clock words bytes (decode_of words)

-- ---- What C is told of a command

abbrev pub state_code : ReadState → ℕ
state_code Clean = 0
state_code Fixed = 1
state_code Lost = 2

abbrev pub line_told : List ℕ → Bool → Option Answer → Line
line_told bytes raised None = record { bytes = bytes; has_line = false; state = 0; alert = raised }
line_told bytes raised (Some found) = record { bytes = found.read.bytes; has_line = true; state = state_code found.read.state; alert = raised }

-- ALERT is raised behind these steps
abbrev pub is_raised : Header → List Step → Bool
is_raised h steps = is_some (alert h (log_of steps))

-- there was no memory for the bytes of a WR, which would have made these steps, and the WR waits
abbrev pub IsDelayed : List Step → Header → List Step → List ℕ → Session → Type 0
IsDelayed later h steps bytes new = (place : Place) × (later ≡ delivered place bytes steps) × SessionFor new h steps (Awaits place)

-- a command that is fine is carried out, or it is a WR for whose bytes there was no memory
abbrev pub Carried : List Step → Option Answer → Header → List Step → Session → Line → Line → Result Unit Refusal → Type 0
Carried later found h steps new before after told =
    ((told ≡ Ok tt) × SessionFor new h later Going × (after ≡ line_told before.bytes (is_raised h later) found))
    ⊎ ((told ≡ Err refusal.NoMemory) × IsDelayed later h steps before.bytes new × (after ≡ before))

-- what came of a command with this effect
abbrev pub Follows : Effect → Header → List Step → Stage → Session → Line → Line → Result Unit Refusal → Type 0
Follows (Refuses why) h steps stage new before after told = (told ≡ Err why) × SessionFor new h steps stage × (after ≡ before)
Follows (Breaks rule) h steps stage new before after told = (told ≡ Err (refusal.Breaks rule)) × SessionFor new h steps (Broken rule) × (after ≡ before)
Follows (Carries later found) h steps stage new before after told = Carried later found h steps new before after told
Follows Closes h steps stage new before after told = ⊥

-- ---- Bits

-- a bit is turned: one that is not there is refused, and only where nothing is amiss is it turned
abbrev pub turned : Bool → Header → List Step → Stage → ℕ → ℕ → ℕ → Effect
turned false h steps stage line device bit = Refuses refusal.OutOfRange
turned true h steps Going line device bit = Carries (Flips (place_of line (shape_of h)) device bit ∷ steps) None
turned true h steps (Awaits place) line device bit = Refuses refusal.NoMemory
turned true h steps (Broken rule) line device bit = Refuses (refusal.Breaks rule)

-- what came of it: where there is no memory, nothing changes
abbrev pub Turns : Effect → Header → List Step → Stage → Session → Result Unit Refusal → Type 0
Turns (Refuses why) h steps stage new told = (told ≡ Err why) × SessionFor new h steps stage
Turns (Carries later found) h steps stage new told =
    ((told ≡ Ok tt) × SessionFor new h later Going) ⊎ ((told ≡ Err refusal.NoMemory) × SessionFor new h steps Going)
Turns (Breaks rule) h steps stage new told = ⊥
Turns Closes h steps stage new told = ⊥

-- ---- The end

abbrev pub ended : Bool → Header → List Step → Stage → ℕ → Effect
ended false h steps stage clock = Refuses refusal.OutOfRange
ended true h steps Going clock = unless_broken (broken_at_end h clock (log_of steps)) Closes
ended true h steps (Awaits place) clock = Refuses refusal.NoMemory
ended true h steps (Broken rule) clock = Refuses (refusal.Breaks rule)

-- what came of it
abbrev pub Ends : Effect → Header → List Step → Stage → Session → Result Unit Refusal → Type 0
Ends (Refuses why) h steps stage new told = (told ≡ Err why) × SessionFor new h steps stage
Ends (Breaks rule) h steps stage new told = (told ≡ Err (refusal.Breaks rule)) × SessionFor new h steps (Broken rule)
Ends Closes h steps stage new told = told ≡ Ok tt
Ends (Carries later found) h steps stage new told = ⊥

-- ---- Counts

abbrev pub counts_of : Header → List Step → Totals
counts_of h steps = record {
  found = (scrub_counts h steps).found;
  lost = (scrub_counts h steps).lost;
  worst = (scrub_counts h steps).worst;
  peak = peak h (log_of steps);
}

-- what is counted: nothing behind a broken rule
abbrev pub counted : Header → List Step → Stage → Result Totals Refusal
counted h steps Going = Ok (counts_of h steps)
counted h steps (Awaits place) = Ok (counts_of h steps)
counted h steps (Broken rule) = Err (refusal.Breaks rule)

-- what C is told of it
abbrev pub tells_counts : Result Totals Refusal → Totals → Totals → ℕ → Type 0
tells_counts (Ok counts) before after told = (told ≡ 0) × (after ≡ counts)
tells_counts (Err why) before after told = (told ≡ refusal_code why) × (after ≡ before)

-- ---- Slots

-- what came of a command, a bit and an end, where a slot has this afterwards
abbrev pub FollowsIn : Effect → Header → List Step → Stage → Option Session → Line → Line → Result Unit Refusal → Type 0
FollowsIn effect h steps stage None before after told = ⊥
FollowsIn effect h steps stage (Some new) before after told = Follows effect h steps stage new before after told

abbrev pub TurnsIn : Effect → Header → List Step → Stage → Option Session → Result Unit Refusal → Type 0
TurnsIn effect h steps stage None told = ⊥
TurnsIn effect h steps stage (Some new) told = Turns effect h steps stage new told

-- where the log ends and no rule is broken, the slot is empty then
abbrev pub EndsIn : Effect → Header → List Step → Stage → Option Session → Result Unit Refusal → Type 0
EndsIn (Refuses why) h steps stage kept told = (told ≡ Err why) × Holds kept h steps stage
EndsIn (Breaks rule) h steps stage kept told = (told ≡ Err (refusal.Breaks rule)) × Holds kept h steps (Broken rule)
EndsIn Closes h steps stage kept told = (told ≡ Ok tt) × (kept ≡ None)
EndsIn (Carries later found) h steps stage kept told = ⊥

-- ---- Opening

-- a slot is opened: a session of no step, under the header that the text states in front of a separator with these figures
abbrev pub IsOpened : Figures → List ℕ → Option Session → Type 0
IsOpened version text kept = (h : Header) × (header_stated version text ≡ Ok h) × Holds kept h [] Going
