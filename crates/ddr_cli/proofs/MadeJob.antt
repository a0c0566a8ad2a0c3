-- The bytes of a made job are a job: its header, its requests, and nothing to refuse.
use Rattle.std.proofs.Common.{◌≡◌, ◌∙◌, ℕ, ◌+◌, ◌≤◌, ◌<◌, false, List, [], ◌∷◌, ◌++◌, Some, None, Ok, refl, sym, ap, length, nat_le, arith, append_assoc, append-nil, length-append}
use Rattle.std.specs.Prelude.{codes}
use Rattle.std.specs.List.{All, flat_map}
use Rattle.std.proofs.Transfers.{drop-appended}
use Rattle.std.proofs.lemmas.List.Elements.{All-head, All-tail}
use Rattle.ddr_io.specs.Line.{HasNoFeed}
use Rattle.ddr_text.specs.Grammar.{fields_of}
use Rattle.ddr_text.specs.Opening.{Accepts, Heading, is_long, parts_of, heading_in, judged, behind, with_feed, with_heading, opening_of}
use Rattle.ddr_text.specs.Separator.{role_of_line}
use Rattle.ddr_text.proofs.CleanParts.{first-part, line-part}
use Rattle.ddr_text.proofs.LineParts.{no_feeds}
use Rattle.speed_bin.specs.Version.{plain}
use Rattle.ddr_text.specs.declared.lines.TraceLine.{TraceLine}
use Rattle.ddr_text.specs.declared.lines.TraceLine.TheVariants.{Read, Write, Flip, Idle}
use Rattle.speed_bin.specs.Document.{header_stated}
use Rattle.made_jobs.specs.Made.{header_text, header_lines, opening, made, made_trace}
use Rattle.made_jobs.specs.Replayed.{IsReadBack, IsRequest, made_header, made_shape}
use Rattle.made_jobs.specs.TraceText.{spelled_line, trace_text}
use Rattle.reports.specs.Barriers.{idle_clocks}
use Rattle.trace_replay.specs.Job.{IsJobOf, with_line, with_part, continued, ended, trace_from}

-- ---- Parts

-- the parts of a line with its line feed, and of what is behind it
line_part : (line rest : List ℕ) → HasNoFeed line → parts_of (with_feed line ++ rest) ≡ line ∷ parts_of rest
unfolding parts_of
line_part line rest h = line-part line rest (no_feeds line h)

-- the parts of no bytes
no_part : parts_of [] ≡ [] ∷ []
unfolding parts_of
no_part = refl

-- bytes have one part at least
some_part : (bytes : List ℕ) → (first : List ℕ) × (rest : List (List ℕ)) × (parts_of bytes ≡ first ∷ rest)
unfolding parts_of
some_part bytes = first-part bytes

-- ---- The trace

-- the parts of the lines of a trace
abbrev trace_parts : List TraceLine → List (List ℕ)
trace_parts [] = [] ∷ []
trace_parts (line ∷ lines) = trace_text line ∷ trace_parts lines

parts_of-lines : (lines : List TraceLine) → All IsReadBack lines → parts_of (flat_map spelled_line lines) ≡ trace_parts lines
unfolding spelled_line
parts_of-lines [] all = no_part
parts_of-lines (line ∷ lines) all =
    let first : IsReadBack line = All-head IsReadBack line lines all in
    line_part (trace_text line) (flat_map spelled_line lines) first.text.1
    ∙ ap (λ parts. trace_text line ∷ parts) (parts_of-lines lines (All-tail IsReadBack line lines all))

-- the clocks of no I line
no_clocks : (lines : List TraceLine) (line : TraceLine) → IsRequest line → idle_clocks lines ≡ [] → idle_clocks (lines ++ line ∷ []) ≡ []
no_clocks [] (Read at) is none = refl
no_clocks [] (Write at bytes) is none = refl
no_clocks [] (Flip at device bit) is none = absurd is
no_clocks [] (Idle clocks) is none = absurd is
no_clocks (Read at ∷ lines) line is none = no_clocks lines line is none
no_clocks (Write at bytes ∷ lines) line is none = no_clocks lines line is none
no_clocks (Flip at device bit ∷ lines) line is none = no_clocks lines line is none
no_clocks (Idle clocks ∷ lines) line is none = absurd cc

-- a request is one line more
one_line : (lines : List TraceLine) (line : TraceLine) → IsRequest line → idle_clocks lines ≡ [] → with_line lines line ≡ Ok (lines ++ line ∷ [])
one_line lines (Read at) is none = rw none refl
one_line lines (Write at bytes) is none = rw none refl
one_line lines (Flip at device bit) is none = absurd is
one_line lines (Idle clocks) is none = absurd is

room_left : (n most : ℕ) → n < most → nat_le most n ≡ false
room_left n most few = grind (arith, few)

not_long : (text : List ℕ) → length text < 512 → is_long text ≡ false
not_long text short = grind (arith, short)

one_part : (lines : List TraceLine) (line : TraceLine) → length lines < 1048576 → idle_clocks lines ≡ [] → IsReadBack line → with_part made_shape lines (trace_text line) ≡ Ok (lines ++ line ∷ [])
one_part lines line few none back =
    rw (room_left (length lines) 1048576 few, not_long (trace_text line) back.text.0, back.reads) (one_line lines line back.request none)

-- the parts of the lines that are left are read as these lines, behind those before them
read_from : (lines more : List TraceLine) → All IsReadBack more → idle_clocks lines ≡ [] → length lines + length more ≤ 1048576 → trace_from made_shape lines (trace_parts more) ≡ ended (lines ++ more)
read_from lines [] all none few = ap ended (sym (append-nil lines))
read_from lines (line ∷ []) all none few =
    let back : IsReadBack line = All-head IsReadBack line [] all in
    ap (λ next. continued lines next (λ longer. trace_from made_shape longer ([] ∷ []))) (one_part lines line (omega (arith, few)) none back)
read_from lines (line ∷ next ∷ more) all none few =
    let back : IsReadBack line = All-head IsReadBack line (next ∷ more) all in
    ap (λ result. continued lines result (λ longer. trace_from made_shape longer (trace_text next ∷ trace_parts more))) (one_part lines line (omega (arith, few)) none back)
    ∙ read_from (lines ++ line ∷ []) (next ∷ more) (All-tail IsReadBack line (next ∷ more) all) (no_clocks lines line back.request none) (omega (arith, few, length-append lines (line ∷ [])))
    ∙ ap ended (append_assoc lines (line ∷ []) (next ∷ more))

-- ---- The opening

-- the lines of the header, the separator, and what is behind it
opening_parts : (rest : List ℕ) → parts_of (opening ++ rest) ≡ header_lines ++ codes "---" ∷ parts_of rest
unfolding parts_of opening header_text header_lines
opening_parts rest = refl

made_heading : Heading
made_heading = record { text = header_text; separator = codes "---"; version = plain }

text_read : (first : List ℕ) (more : List (List ℕ)) → heading_in [] (header_lines ++ codes "---" ∷ first ∷ more) ≡ Ok made_heading
unfolding header_text header_lines role_of_line fields_of made_heading
text_read first more = refl

opens : header_stated plain header_text ≡ Ok made_header → (rest : List ℕ) → opening_of (opening ++ rest) ≡ Accepts made_header opening rest
unfolding opening made_heading
opens stated rest =
    let part = some_part rest in
    ap (λ parts. with_heading (opening ++ rest) (heading_in [] parts)) (opening_parts rest ∙ ap (λ parts. header_lines ++ codes "---" ∷ parts) part.2)
    ∙ ap (with_heading (opening ++ rest)) (text_read part.0 part.1)
    ∙ ap (judged opening (behind opening (opening ++ rest))) stated
    ∙ ap (Accepts made_header opening) (drop-appended opening (opening ++ rest) rest refl)

-- ---- The job

-- what the laws on made jobs say
pub record Laws : Type 0 where
  pub stated : header_stated plain header_text ≡ Ok made_header
  pub reads : (seed requests : ℕ) → All IsReadBack (made_trace seed requests)
  pub count : (seed requests : ℕ) → length (made_trace seed requests) ≡ requests

pub made_is_job : Laws → (seed requests : ℕ) → requests ≤ 1048576 → IsJobOf (Some (made seed requests)) made_header opening (made_trace seed requests) None
unfolding made made_header
made_is_job laws seed requests few =
    let lines = made_trace seed requests in
    let back = laws.reads seed requests in
    let same = laws.count seed requests in (
      flat_map spelled_line lines,
      opens laws.stated (flat_map spelled_line lines),
      ap (trace_from made_shape []) (parts_of-lines lines back) ∙ read_from [] lines back refl (omega (arith, same)),
    )
