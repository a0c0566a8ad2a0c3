-- The whole trace of a job: it is within the limits, and what was taken of its bytes holds its first lines.
use Rattle.std.proofs.Common.{◌≡◌, ◌∙◌, ◌+◌, ◌<◌, ◌≤◌, ℕ, Bool, true, false, if◌then◌else◌, nat_lt, nat_le, List, [], ◌∷◌, ◌++◌, length, sum, refl, sym, ap, subst, arith, append-nil, length-append, zero-add, Option, Some, None, Result, Ok, Err}
use Rattle.std.specs.List.{slice_split, onto_first}
use Rattle.std.proofs.lemmas.Bool.Decides.{nat_tests}
use Rattle.std.proofs.lemmas.List.Splits.{slice_split-cons_yes, slice_split-cons_no}
use Rattle.std.proofs.lemmas.List.Sums.{sum_by-append}
use Rattle.command_words.specs.Geometry.{Shape}
use Rattle.ddr_text.specs.Grammar.{trace_line_of}
use Rattle.ddr_text.specs.Opening.{is_feed, parts_of, is_long}
use Rattle.ddr_text.specs.declared.lines.LineFault.{LineFault}
use Rattle.ddr_text.specs.declared.lines.TraceLine.{TraceLine}
use Rattle.ddr_text.specs.declared.lines.TraceLine.TheVariants.{Read, Write, Flip, Idle}
use Rattle.ddr_text.proofs.CleanParts.{first-part}
use Rattle.reports.specs.Barriers.{idle_clocks}
use Rattle.reports.specs.Delivered.{IsInside, AreInside}
use Rattle.trace_replay.specs.Job.{MOST, Traced, IsTrace, clocks_of, trace_from, trace_of, with_part, if_read, is_full, continued, at_end}
use Rattle.trace_replay.specs.Reading.{IsFront, IsTakenBy}
use Rattle.trace_replay.proofs.Fronts.{begins-from}

-- ---- Within the limits

-- what is known of lines
pub record LineLaws : Type 0 where
  pub inside : (g : Shape) (text : List ℕ) (line : TraceLine) → trace_line_of g text ≡ Ok line → IsInside g line
  pub more : (g : Shape) (trace : List TraceLine) (t : TraceLine) → AreInside g trace → IsInside g t → AreInside g (trace ++ t ∷ [])

line_clocks : (line : TraceLine) → sum (idle_clocks (line ∷ [])) ≡ clocks_of line
line_clocks (Read line) = refl
line_clocks (Write line bytes) = refl
line_clocks (Flip line device bit) = refl
line_clocks (Idle clocks) = zero-add clocks

clocks-append : (xs ys : List TraceLine) → idle_clocks (xs ++ ys) ≡ idle_clocks xs ++ idle_clocks ys
clocks-append [] ys = refl
clocks-append (Read line ∷ xs) ys = clocks-append xs ys
clocks-append (Write line bytes ∷ xs) ys = clocks-append xs ys
clocks-append (Flip line device bit ∷ xs) ys = clocks-append xs ys
clocks-append (Idle clocks ∷ xs) ys = ap (λ l. clocks ∷ l) (clocks-append xs ys)

sums : (xs : List TraceLine) (line : TraceLine) → sum (idle_clocks (xs ++ line ∷ [])) ≡ sum (idle_clocks xs) + clocks_of line
sums xs line =
    ap sum (clocks-append xs (line ∷ [])) ∙ sum_by-append (λ x. x) (idle_clocks xs) (idle_clocks (line ∷ []))
    ∙ ap (λ n. sum (idle_clocks xs) + n) (line_clocks line)

not-much : (a b : ℕ) → nat_lt a b ≡ false → b ≤ a
not-much a b e = grind (arith, nat_tests)

not-full : (a b : ℕ) → nat_le a b ≡ false → b < a
not-full a b e = grind (arith, nat_tests)

within-longer : LineLaws → (g : Shape) (trace : List TraceLine) (part : List ℕ) (line : TraceLine) → IsTrace g trace → trace_line_of g part ≡ Ok line → is_full trace ≡ false
    → nat_lt 4294967296 (sum (idle_clocks trace) + clocks_of line) ≡ false → IsTrace g (trace ++ line ∷ [])
within-longer laws g trace part line t is few idle =
    let low : length trace < MOST = not-full MOST (length trace) few in
    let clocks : sum (idle_clocks trace) + clocks_of line ≤ 4294967296 = not-much 4294967296 (sum (idle_clocks trace) + clocks_of line) idle in
    record {
      inside = laws.more g trace line t.inside (laws.inside g part line is);
      few = omega (arith, low, length-append trace (line ∷ []));
      idle = omega (arith, clocks, sums trace line);
    }

-- the lines go on so
abbrev GoesOn : Shape → List TraceLine → (List TraceLine → Traced) → Type 0
GoesOn g trace go_on = (line : TraceLine) → IsTrace g (trace ++ line ∷ []) → IsTrace g (go_on (trace ++ line ∷ [])).lines

within-idle : LineLaws → (g : Shape) (trace : List TraceLine) (part : List ℕ) (line : TraceLine) (much : Bool) (go_on : List TraceLine → Traced) → IsTrace g trace → trace_line_of g part ≡ Ok line → is_full trace ≡ false
    → nat_lt 4294967296 (sum (idle_clocks trace) + clocks_of line) ≡ much → GoesOn g trace go_on → IsTrace g (continued trace (if much then Err 10 else Ok (trace ++ line ∷ [])) go_on).lines
within-idle laws g trace part line true go_on t is few idle more = t
within-idle laws g trace part line false go_on t is few idle more = more line (within-longer laws g trace part line t is few idle)

within-read : LineLaws → (g : Shape) (trace : List TraceLine) (part : List ℕ) (read : Result TraceLine LineFault) (go_on : List TraceLine → Traced) → IsTrace g trace → trace_line_of g part ≡ read → is_full trace ≡ false
    → GoesOn g trace go_on → IsTrace g (continued trace (if_read trace read) go_on).lines
within-read laws g trace part (Ok line) go_on t is few more = within-idle laws g trace part line (nat_lt 4294967296 (sum (idle_clocks trace) + clocks_of line)) go_on t is few refl more
within-read laws g trace part (Err fault) go_on t is few more = t

within-part : LineLaws → (g : Shape) (trace : List TraceLine) (part : List ℕ) (full large : Bool) (go_on : List TraceLine → Traced) → IsTrace g trace → is_full trace ≡ full → GoesOn g trace go_on
    → IsTrace g (continued trace (if full then Err 9 else if large then Err 7 else if_read trace (trace_line_of g part)) go_on).lines
within-part laws g trace part true large go_on t few more = t
within-part laws g trace part false true go_on t few more = t
within-part laws g trace part false false go_on t few more = within-read laws g trace part (trace_line_of g part) go_on t refl few more

-- what has no line feed is no line
last-lines : (trace : List TraceLine) (part : List ℕ) → (at_end trace part).lines ≡ trace
last-lines trace [] = refl
last-lines trace (byte ∷ bytes) = refl

within-from : LineLaws → (g : Shape) (trace : List TraceLine) (parts : List (List ℕ)) → IsTrace g trace → IsTrace g (trace_from g trace parts).lines
within-from laws g trace [] t = t
within-from laws g trace (last ∷ []) t = subst (IsTrace g) (sym (last-lines trace last)) t
within-from laws g trace (line ∷ next ∷ parts) t =
    within-part laws g trace line (is_full trace) (is_long line) (λ longer. trace_from g longer (next ∷ parts)) t refl (λ found longer. within-from laws g (trace ++ found ∷ []) (next ∷ parts) longer)

pub no-lines : (g : Shape) → IsTrace g []
no-lines g = record { inside = tt; few = omega arith; idle = omega arith }

pub within-whole : LineLaws → (g : Shape) (bytes : List ℕ) → IsTrace g (trace_of g bytes).lines
within-whole laws g bytes = within-from laws g [] (parts_of bytes) (no-lines g)

-- ---- The bytes that were taken

-- the one trace begins the other
abbrev Begins : Traced → Traced → Type 0
Begins front whole = (more : List TraceLine) × (whole.lines ≡ front.lines ++ more)

begins-both : (trace : List TraceLine) (r : Result (List TraceLine) ℕ) (front whole : List TraceLine → Traced) → ((longer : List TraceLine) → Begins (front longer) (whole longer)) → Begins (continued trace r front) (continued trace r whole)
begins-both trace (Ok longer) front whole more = more longer
begins-both trace (Err reason) front whole more = ([], sym (append-nil trace))

begins-parts : (g : Shape) (trace : List TraceLine) (parts : List (List ℕ)) (last other : List ℕ) (rest : List (List ℕ)) → Begins (trace_from g trace (parts ++ last ∷ [])) (trace_from g trace (parts ++ other ∷ rest))
begins-parts g trace [] last other rest =
    let b = begins-from g trace (other ∷ rest) in
    (b.0, b.1 ∙ ap (λ l. l ++ b.0) (sym (last-lines trace last)))
begins-parts g trace (part ∷ []) last other rest =
    begins-both trace (with_part g trace part) (λ longer. trace_from g longer (last ∷ [])) (λ longer. trace_from g longer (other ∷ rest)) (λ longer. begins-parts g longer [] last other rest)
begins-parts g trace (part ∷ next ∷ parts) last other rest =
    begins-both trace (with_part g trace part) (λ longer. trace_from g longer (next ∷ (parts ++ last ∷ []))) (λ longer. trace_from g longer (next ∷ (parts ++ other ∷ rest))) (λ longer. begins-parts g longer (next ∷ parts) last other rest)

-- bytes and more: the lines are the same, but for the last part
record Cut (bytes more : List ℕ) : Type 0 where
  parts : List (List ℕ)
  last : List ℕ
  other : List ℕ
  rest : List (List ℕ)
  front : slice_split is_feed bytes ≡ parts ++ last ∷ []
  whole : slice_split is_feed (bytes ++ more) ≡ parts ++ other ∷ rest

cut-onto : (x : ℕ) (bytes more : List ℕ) (parts : List (List ℕ)) (last other : List ℕ) (rest : List (List ℕ)) → is_feed x ≡ false → slice_split is_feed bytes ≡ parts ++ last ∷ [] → slice_split is_feed (bytes ++ more) ≡ parts ++ other ∷ rest
    → Cut (x ∷ bytes) more
cut-onto x bytes more [] last other rest e front whole = record {
  parts = [];
  last = x ∷ last;
  other = x ∷ other;
  rest = rest;
  front = slice_split-cons_no is_feed x bytes e ∙ ap (onto_first x) front;
  whole = slice_split-cons_no is_feed x (bytes ++ more) e ∙ ap (onto_first x) whole;
}
cut-onto x bytes more (part ∷ parts) last other rest e front whole = record {
  parts = (x ∷ part) ∷ parts;
  last = last;
  other = other;
  rest = rest;
  front = slice_split-cons_no is_feed x bytes e ∙ ap (onto_first x) front;
  whole = slice_split-cons_no is_feed x (bytes ++ more) e ∙ ap (onto_first x) whole;
}

cut-more : (x : ℕ) (bytes more : List ℕ) (feed : Bool) → is_feed x ≡ feed → Cut bytes more → Cut (x ∷ bytes) more
cut-more x bytes more true e c = record {
  parts = [] ∷ c.parts;
  last = c.last;
  other = c.other;
  rest = c.rest;
  front = slice_split-cons_yes is_feed x bytes e ∙ ap (λ l. [] ∷ l) c.front;
  whole = slice_split-cons_yes is_feed x (bytes ++ more) e ∙ ap (λ l. [] ∷ l) c.whole;
}
cut-more x bytes more false e c = cut-onto x bytes more c.parts c.last c.other c.rest e c.front c.whole

cut-at : (bytes more : List ℕ) → Cut bytes more
cut-at [] more = let s = first-part more in record { parts = []; last = []; other = s.0; rest = s.1; front = refl; whole = s.2 }
cut-at (x ∷ bytes) more = cut-more x bytes more (is_feed x) refl (cut-at bytes more)

begins-taken : (g : Shape) (taken left : List ℕ) → Begins (trace_of g taken) (trace_of g (taken ++ left))
unfolding parts_of
begins-taken g taken left =
    let c = cut-at taken left in
    let b = begins-parts g [] c.parts c.last c.other c.rest in (
      b.0,
      ap (λ l. (trace_from g [] l).lines) c.whole ∙ b.1 ∙ ap (λ l. (trace_from g [] l).lines ++ b.0) (sym c.front),
    )

pub front-taken : (g : Shape) (trace : List TraceLine) (start left : Option (List ℕ)) → IsTakenBy g trace start left → IsFront g trace start
front-taken g trace None left k = tt
front-taken g trace (Some bytes) None k = absurd k
front-taken g trace (Some bytes) (Some left) k =
    let b = begins-taken g k.0 left in
    (b.0, ap (λ l. (trace_of g l).lines) k.1 ∙ b.1 ∙ ap (λ l. l ++ b.0) k.2)
