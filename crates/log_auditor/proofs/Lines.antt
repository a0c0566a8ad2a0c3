-- The lines of a report, one more at the end.
use Rattle.std.proofs.Common.{◌≡◌, ◌∙◌, ℕ, suc, ◌+◌, ◌-◌, ◌≤◌, Bool, true, false, cond, Option, Some, None, List, [], ◌∷◌, ◌++◌, length, reverse, slice_index, refl, sym, ap, arith, append-nil}
use Rattle.std.proofs.lemmas.List.{reverse-append, get_or_append_left, length-reverse}
use Rattle.std.proofs.Math.Seq.{get_or-append_seam}
use Rattle.command_words.specs.declared.command.Command.{Command}
use Rattle.ddr_text.specs.declared.lines.ReportLine.{ReportLine}
use Rattle.ddr_text.specs.declared.lines.ReportLine.TheVariants.{Issued, Value, Flip, Stat, End, Refused}
use Rattle.ddr_text.specs.ReportParts.{places_of}
use Rattle.ddr_text.proofs.Places.{places_of-append}
use Rattle.speed_bin.specs.Log.{Log}
use Rattle.speed_bin.specs.Rules.{verdict, verdict_after, verdict_at_end, broken, broken_at_end}
use Rattle.speed_bin.specs.declared.header.Header.{Header}
use Rattle.log_auditor.specs.Findings.{breach_at, breach_of, end_of, is_place, log_of, numbers_from, on_line}

-- ---- The log and the end

log_append : (lines : List ReportLine) (line : ReportLine) → log_of (lines ++ line ∷ []) ≡ reverse (places_of (line ∷ [])) ++ log_of lines
log_append lines line = ap reverse (places_of-append lines (line ∷ [])) ∙ reverse-append (places_of lines) (places_of (line ∷ []))

pub log_issued : (lines : List ReportLine) (clock : ℕ) (command : Command) → log_of (lines ++ Issued clock command ∷ []) ≡ record { clock = clock; command = command } ∷ log_of lines
log_issued lines clock command = log_append lines (Issued clock command)

pub log_ended : (lines : List ReportLine) (clock : ℕ) → log_of (lines ++ End clock ∷ []) ≡ log_of lines
log_ended lines clock = log_append lines (End clock)

pub log_other : (lines : List ReportLine) (line : ReportLine) → is_place line ≡ false → log_of (lines ++ line ∷ []) ≡ log_of lines
log_other lines (Issued clock command) other = absurd cc
log_other lines (Value number line bytes state) other = log_append lines (Value number line bytes state)
log_other lines (Flip clock line device bit) other = log_append lines (Flip clock line device bit)
log_other lines (Stat name number) other = log_append lines (Stat name number)
log_other lines (End clock) other = absurd cc
log_other lines (Refused line reason) other = log_append lines (Refused line reason)

abbrev first_of : Option ℕ → Option ℕ → Option ℕ
first_of (Some clock) later = Some clock
first_of None later = later

end_append : (a b : List ReportLine) → end_of (a ++ b) ≡ first_of (end_of a) (end_of b)
end_append [] b = refl
end_append (End clock ∷ a) b = refl
end_append (Issued clock command ∷ a) b = end_append a b
end_append (Value number line bytes state ∷ a) b = end_append a b
end_append (Flip clock line device bit ∷ a) b = end_append a b
end_append (Stat name number ∷ a) b = end_append a b
end_append (Refused line reason ∷ a) b = end_append a b

none_last : (o : Option ℕ) → first_of o None ≡ o
none_last None = refl
none_last (Some clock) = refl

pub end_other : (lines : List ReportLine) (line : ReportLine) → end_of (line ∷ []) ≡ None → end_of (lines ++ line ∷ []) ≡ end_of lines
end_other lines line none = end_append lines (line ∷ []) ∙ ap (first_of (end_of lines)) none ∙ none_last (end_of lines)

pub end_ended : (lines : List ReportLine) (clock : ℕ) → end_of lines ≡ None → end_of (lines ++ End clock ∷ []) ≡ Some clock
end_ended lines clock none = end_append lines (End clock ∷ []) ∙ ap (λ o. first_of o (Some clock)) none

pub no_end : (line : ReportLine) → is_place line ≡ false → end_of (line ∷ []) ≡ None
no_end (Issued clock command) other = refl
no_end (Value number line bytes state) other = refl
no_end (Flip clock line device bit) other = refl
no_end (Stat name number) other = refl
no_end (End clock) other = absurd cc
no_end (Refused line reason) other = refl

-- ---- Numbers of places

no_more : (m : ℕ) → m ≡ m + 0
no_more m = omega arith

numbers_append : (n : ℕ) (a b : List ReportLine) → numbers_from n (a ++ b) ≡ numbers_from n a ++ numbers_from (n + length a) b
numbers_append n [] b = ap (λ k. numbers_from k b) (no_more n)
numbers_append n (line ∷ a) b = go (is_place line) (numbers_append (suc n) a b)
  where
    far : suc n + length a ≡ n + suc (length a)
    far = omega arith

    go : (t : Bool) → numbers_from (suc n) (a ++ b) ≡ numbers_from (suc n) a ++ numbers_from (suc n + length a) b
        → cond t (n ∷ numbers_from (suc n) (a ++ b)) (numbers_from (suc n) (a ++ b)) ≡ cond t (n ∷ numbers_from (suc n) a) (numbers_from (suc n) a) ++ numbers_from (n + suc (length a)) b
    go true ih = ap (λ l. n ∷ l) (ih ∙ ap (λ k. numbers_from (suc n) a ++ numbers_from k b) far)
    go false ih = ih ∙ ap (λ k. numbers_from (suc n) a ++ numbers_from k b) far

pub numbers_place : (lines : List ReportLine) (line : ReportLine) → is_place line ≡ true → numbers_from 1 (lines ++ line ∷ []) ≡ numbers_from 1 lines ++ (1 + length lines) ∷ []
numbers_place lines line is = numbers_append 1 lines (line ∷ []) ∙ ap (λ l. numbers_from 1 lines ++ l) (rw is refl)

pub numbers_other : (lines : List ReportLine) (line : ReportLine) → is_place line ≡ false → numbers_from 1 (lines ++ line ∷ []) ≡ numbers_from 1 lines
numbers_other lines line is = numbers_append 1 lines (line ∷ []) ∙ ap (λ l. numbers_from 1 lines ++ l) (rw is refl) ∙ append-nil (numbers_from 1 lines)

-- without an end there are as many as places
count_numbers : (n : ℕ) (lines : List ReportLine) → end_of lines ≡ None → length (numbers_from n lines) ≡ length (places_of lines)
count_numbers n [] none = refl
count_numbers n (Issued clock command ∷ lines) none = ap suc (count_numbers (suc n) lines none)
count_numbers n (End clock ∷ lines) none = absurd cc
count_numbers n (Value number line bytes state ∷ lines) none = count_numbers (suc n) lines none
count_numbers n (Flip clock line device bit ∷ lines) none = count_numbers (suc n) lines none
count_numbers n (Stat name number ∷ lines) none = count_numbers (suc n) lines none
count_numbers n (Refused line reason ∷ lines) none = count_numbers (suc n) lines none

pub as_many : (lines : List ReportLine) → end_of lines ≡ None → length (numbers_from 1 lines) ≡ length (log_of lines)
as_many lines none = count_numbers 1 lines none ∙ sym (length-reverse (places_of lines))

-- ---- The line of a breach

-- a breach stands at a place of its log
verdict_inside : (h : Header) (log : Log) (breach : ℕ × ℕ) → verdict h log ≡ Some breach → (1 ≤ breach.0) × (breach.0 ≤ length log)
verdict_inside h [] breach e = absurd cc
verdict_inside h (place ∷ log) breach e = go (verdict h log) refl (broken h place.clock place.command log) e (verdict_inside h log breach)
  where
    go : (v : Option (ℕ × ℕ)) → verdict h log ≡ v → (b : Option ℕ) → verdict_after v (suc (length log)) b ≡ Some breach → (verdict h log ≡ Some breach → (1 ≤ breach.0) × (breach.0 ≤ length log)) → (1 ≤ breach.0) × (breach.0 ≤ suc (length log))
    go (Some old) f b k ih =
        let same : old ≡ breach = cc in
        let p = ih (f ∙ ap Some same) in
        (p.0, (let low = p.1 in omega arith))
    go None f (Some number) k ih =
        let same : (suc (length log), number) ≡ breach = cc in
        let at : suc (length log) ≡ breach.0 = ap (λ (p : ℕ × ℕ). p.0) same in
        (omega arith, omega arith)
    go None f None k ih = absurd cc

line_kept : (xs ys : List ℕ) (place : ℕ) → 1 ≤ place → place ≤ length xs → slice_index (xs ++ ys) (place - 1) ≡ slice_index xs (place - 1)
line_kept xs ys place some low = get_or_append_left xs ys _ (place - 1) (omega arith)

line_new : (xs : List ℕ) (n place : ℕ) → place ≡ suc (length xs) → slice_index (xs ++ n ∷ []) (place - 1) ≡ n
line_new xs n place is =
    let at : place - 1 ≡ length xs = omega arith in
    ap (λ i. slice_index (xs ++ n ∷ []) i) at ∙ get_or-append_seam xs n [] _

-- the breach that is found, or else that of this line
abbrev pub later : Option (ℕ × ℕ) → ℕ → Option ℕ → Option (ℕ × ℕ)
later (Some breach) number fails = Some breach
later None number (Some rule) = Some (number, rule)
later None number None = None

-- a verdict on one more place, on lines
pub next_breach : (xs : List ℕ) (n m : ℕ) (before : Option (ℕ × ℕ)) (fails : Option ℕ) → m ≡ length xs → ((breach : ℕ × ℕ) → before ≡ Some breach → (1 ≤ breach.0) × (breach.0 ≤ m))
    → on_line (xs ++ n ∷ []) (verdict_after before (suc m) fails) ≡ later (on_line xs before) n fails
next_breach xs n m (Some breach) fails long inside =
    let p = inside breach refl in
    ap (λ k. Some (k, breach.1)) (line_kept xs (n ∷ []) breach.0 p.0 (let low = p.1 in omega arith))
next_breach xs n m None (Some number) long inside = ap (λ k. Some (k, number)) (line_new xs n (suc m) (ap suc long))
next_breach xs n m None None long inside = refl

pub breach_issued : (h : Header) (lines : List ReportLine) (clock : ℕ) (command : Command) → end_of lines ≡ None
    → breach_of h (lines ++ Issued clock command ∷ []) ≡ later (breach_of h lines) (1 + length lines) (broken h clock command (log_of lines))
breach_issued h lines clock command none =
    ap (λ e. on_line (numbers_from 1 (lines ++ Issued clock command ∷ [])) (breach_at h e (log_of (lines ++ Issued clock command ∷ [])))) (end_other lines (Issued clock command) refl ∙ none)
    ∙ ap (λ ns. on_line ns (verdict h (log_of (lines ++ Issued clock command ∷ [])))) (numbers_place lines (Issued clock command) refl)
    ∙ ap (λ log. on_line (numbers_from 1 lines ++ (1 + length lines) ∷ []) (verdict h log)) (log_issued lines clock command)
    ∙ next_breach (numbers_from 1 lines) (1 + length lines) (length (log_of lines)) (verdict h (log_of lines)) (broken h clock command (log_of lines)) (sym (as_many lines none)) (verdict_inside h (log_of lines))
    ∙ ap (λ e. later (on_line (numbers_from 1 lines) (breach_at h e (log_of lines))) (1 + length lines) (broken h clock command (log_of lines))) (sym none)

pub breach_ended : (h : Header) (lines : List ReportLine) (clock : ℕ) → end_of lines ≡ None
    → breach_of h (lines ++ End clock ∷ []) ≡ later (breach_of h lines) (1 + length lines) (broken_at_end h clock (log_of lines))
breach_ended h lines clock none =
    ap (λ e. on_line (numbers_from 1 (lines ++ End clock ∷ [])) (breach_at h e (log_of (lines ++ End clock ∷ [])))) (end_ended lines clock none)
    ∙ ap (λ ns. on_line ns (verdict_at_end h clock (log_of (lines ++ End clock ∷ [])))) (numbers_place lines (End clock) refl)
    ∙ ap (λ log. on_line (numbers_from 1 lines ++ (1 + length lines) ∷ []) (verdict_at_end h clock log)) (log_ended lines clock)
    ∙ next_breach (numbers_from 1 lines) (1 + length lines) (length (log_of lines)) (verdict h (log_of lines)) (broken_at_end h clock (log_of lines)) (sym (as_many lines none)) (verdict_inside h (log_of lines))
    ∙ ap (λ e. later (on_line (numbers_from 1 lines) (breach_at h e (log_of lines))) (1 + length lines) (broken_at_end h clock (log_of lines))) (sym none)

pub breach_other : (h : Header) (lines : List ReportLine) (line : ReportLine) → is_place line ≡ false → breach_of h (lines ++ line ∷ []) ≡ breach_of h lines
breach_other h lines line other =
    ap (λ e. on_line (numbers_from 1 (lines ++ line ∷ [])) (breach_at h e (log_of (lines ++ line ∷ [])))) (end_other lines line (no_end line other))
    ∙ ap (λ ns. on_line ns (breach_at h (end_of lines) (log_of (lines ++ line ∷ [])))) (numbers_other lines line other)
    ∙ ap (λ log. on_line (numbers_from 1 lines) (breach_at h (end_of lines) log)) (log_other lines line other)
