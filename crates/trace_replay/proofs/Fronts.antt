-- The lines of a trace that were read are its first ones.
use Rattle.std.proofs.Common.{◌≡◌, ◌∙◌, ◌+◌, ℕ, Bool, true, false, if◌then◌else◌, nat_lt, List, [], ◌∷◌, ◌++◌, sum, refl, sym, ap, append_assoc, append-nil, Option, Some, None, Result, Ok, Err}
use Rattle.std.specs.List.{flat_map}
use Rattle.command_words.specs.Geometry.{Shape}
use Rattle.speed_bin.specs.declared.header.Header.{Header}
use Rattle.ddr_text.specs.Spelling.{spelled}
use Rattle.ddr_text.specs.Grammar.{trace_line_of}
use Rattle.ddr_text.specs.Opening.{parts_of, is_long}
use Rattle.ddr_text.specs.declared.lines.LineFault.{LineFault}
use Rattle.ddr_text.specs.declared.lines.TraceLine.{TraceLine}
use Rattle.ddr_text.specs.declared.lines.TraceLine.TheVariants.{Idle}
use Rattle.speed_bin.specs.Header.{shape_of}
use Rattle.reports.specs.Barriers.{idle_clocks}
use Rattle.reports.specs.Report.{report}
use Rattle.ddr_text.specs.Reason.{fault_reason}
use Rattle.trace_replay.specs.Job.{Traced, clocks_of, trace_from, trace_of, if_read, is_full, continued, ended, at_end, refused_behind}
use Rattle.trace_replay.specs.Reading.{Continues, IsRead, IsFront}
use Rattle.trace_replay.specs.ReplayState.{IsUnder, IsBegun}
use Rattle.trace_replay.specs.declared.replay_state.Ahead.{Ahead}
use Rattle.trace_replay.specs.declared.replay_state.Ahead.TheVariants.{Unknown, NextLine, Passes, End, Refused}
use Rattle.trace_replay.specs.declared.replay_state.ReplayState.{ReplayState}
use Rattle.ddr_text.proofs.Prefixes.{prefix-whole}

-- these lines are the first ones of a trace
abbrev Begins : List TraceLine → Traced → Type 0
Begins trace whole = (more : List TraceLine) × (whole.lines ≡ trace ++ more)

begins-same : (trace : List TraceLine) (whole : Traced) → whole.lines ≡ trace → Begins trace whole
begins-same trace whole e = ([], e ∙ sym (append-nil trace))

begins-shorter : (trace : List TraceLine) (line : TraceLine) (whole : Traced) → Begins (trace ++ line ∷ []) whole → Begins trace whole
begins-shorter trace line whole b = (line ∷ b.0, b.1 ∙ append_assoc trace (line ∷ []) b.0)

-- what has no line feed is no line
begins-end : (trace : List TraceLine) (part : List ℕ) → Begins trace (at_end trace part)
begins-end trace [] = begins-same trace (ended trace) refl
begins-end trace (byte ∷ bytes) = ([], sym (append-nil trace))

-- one line more, or none
abbrev BeginsLonger : List TraceLine → (List TraceLine → Traced) → Type 0
BeginsLonger trace go_on = (line : TraceLine) → Begins (trace ++ line ∷ []) (go_on (trace ++ line ∷ []))

begins-idle : (trace : List TraceLine) (line : TraceLine) (much : Bool) (go_on : List TraceLine → Traced) → BeginsLonger trace go_on → Begins trace (continued trace (if much then Err 10 else Ok (trace ++ line ∷ [])) go_on)
begins-idle trace line true go_on more = begins-same trace (refused_behind trace 10) refl
begins-idle trace line false go_on more = begins-shorter trace line (go_on (trace ++ line ∷ [])) (more line)

begins-read : (trace : List TraceLine) (read : Result TraceLine LineFault) (go_on : List TraceLine → Traced) → BeginsLonger trace go_on → Begins trace (continued trace (if_read trace read) go_on)
begins-read trace (Ok line) go_on more = begins-idle trace line (nat_lt 4294967296 (sum (idle_clocks trace) + clocks_of line)) go_on more
begins-read trace (Err fault) go_on more = begins-same trace (refused_behind trace (fault_reason fault)) refl

begins-part : (trace : List TraceLine) (full large : Bool) (read : Result TraceLine LineFault) (go_on : List TraceLine → Traced) → BeginsLonger trace go_on
    → Begins trace (continued trace (if full then Err 9 else if large then Err 7 else if_read trace read) go_on)
begins-part trace true large read go_on more = begins-same trace (refused_behind trace 9) refl
begins-part trace false true read go_on more = begins-same trace (refused_behind trace 7) refl
begins-part trace false false read go_on more = begins-read trace read go_on more

pub begins-from : (g : Shape) (trace : List TraceLine) (parts : List (List ℕ)) → (more : List TraceLine) × ((trace_from g trace parts).lines ≡ trace ++ more)
begins-from g trace [] = begins-same trace (ended trace) refl
begins-from g trace (last ∷ []) = begins-end trace last
begins-from g trace (line ∷ next ∷ parts) =
    begins-part trace (is_full trace) (is_long line) (trace_line_of g line) (λ longer. trace_from g longer (next ∷ parts)) (λ found. begins-from g (trace ++ found ∷ []) (next ∷ parts))

-- ---- From the start

front-continued : (g : Shape) (trace : List TraceLine) (start left : Option (List ℕ)) → Continues g [] start trace left → IsFront g trace start
front-continued g trace None left k = tt
front-continued g trace (Some bytes) None k = absurd k
front-continued g trace (Some bytes) (Some rest) k =
    let whole : trace_of g bytes ≡ trace_from g trace (parts_of rest) = ap (λ l. trace_from g [] (parts_of l)) k.1 ∙ k.2 rest in
    let front = begins-from g trace (parts_of rest) in
    (front.0, ap (λ (t : Traced). t.lines) whole ∙ front.1)

front-shorter : (g : Shape) (trace : List TraceLine) (line : TraceLine) (start : Option (List ℕ)) → IsFront g (trace ++ line ∷ []) start → IsFront g trace start
front-shorter g trace line None k = tt
front-shorter g trace line (Some bytes) k = begins-shorter trace line (trace_of g bytes) k

front-ended : (g : Shape) (trace : List TraceLine) (start left : Option (List ℕ)) → IsRead g trace End start left → IsFront g trace start
front-ended g trace None left k = tt
front-ended g trace (Some bytes) left k = begins-same trace (trace_of g bytes) (ap (λ (t : Traced). t.lines) k.0)

front-refused : (g : Shape) (trace : List TraceLine) (reason : ℕ) (start left : Option (List ℕ)) → IsRead g trace (Refused reason) start left → IsFront g trace start
front-refused g trace reason None left k = tt
front-refused g trace reason (Some bytes) left k = begins-same trace (trace_of g bytes) (ap (λ (t : Traced). t.lines) k)

-- the line ahead, which was read, too
pub front-with : (g : Shape) (trace : List TraceLine) (line : TraceLine) (start left : Option (List ℕ)) → IsRead g trace (NextLine line) start left → IsFront g (trace ++ line ∷ []) start
front-with g trace line start left k = front-continued g (trace ++ line ∷ []) start left k

pub front-of : (g : Shape) (trace : List TraceLine) (ahead : Ahead) (start left : Option (List ℕ)) → IsRead g trace ahead start left → IsFront g trace start
front-of g trace Unknown start left k = front-continued g trace start left k
front-of g trace (NextLine line) start left k = front-shorter g trace line start (front-continued g (trace ++ line ∷ []) start left k)
front-of g trace (Passes clocks) start left k = front-shorter g trace (Idle clocks) start (front-continued g (trace ++ Idle clocks ∷ []) start left k)
front-of g trace End start left k = front-ended g trace start left k
front-of g trace (Refused reason) start left k = front-refused g trace reason start left k

-- a replay that is left as it stands
pub begun-of : (h : Header) (p : ReplayState) (start left before written : Option (List ℕ)) → IsUnder h p start left before written → IsBegun h start before written
begun-of h p start left before written u = record {
  trace = u.trace;
  run = u.run;
  traced = u.holds.follows.traced;
  sound = u.holds.follows.underway.sound;
  read = front-of (shape_of h) u.trace p.ahead start left u.read;
  wrote = prefix-whole before written (flat_map spelled (report h u.trace u.run)) u.wrote;
}
