-- Pieces that are written one behind the other, and prefixes of them.
use Rattle.std.proofs.Common.{◌≡◌, ◌∙◌, ℕ, suc, ◌+◌, ◌<◌, Option, List, [], ◌∷◌, ◌++◌, take, drop, length, get_or, sym, ap, subst, arith, append-nil, length-append, zero-add, Result, Ok, Err, OnOk, IfErr}
use Rattle.std.specs.List.{flat_map}
use Rattle.std.specs.Io.KnownBytes.{Appends}
use Rattle.std.proofs.KnownBytes.{Appends-trans, Appends-nil}
use Rattle.std.proofs.lemmas.List.{take_all, take_more, take-append-drop, take-append-le}
use Rattle.std.proofs.lemmas.Grind.{flat_map-append}
use Rattle.ddr_io.specs.Sink.{AppendsPrefix}
use Rattle.ddr_text.specs.declared.lines.ReportLine.{ReportLine}
use Rattle.ddr_text.specs.Spelling.{spelled}

-- ---- Prefixes

take_past : (xs ys : List ℕ) (n : ℕ) → take (length xs + n) (xs ++ ys) ≡ xs ++ take n ys
take_past [] ys n = ap (λ k. take k ys) (zero-add n)
take_past (x ∷ xs) ys n =
    let e : suc (length xs) + n ≡ suc (length xs + n) = omega arith in
    ap (λ k. take k (x ∷ (xs ++ ys))) e ∙ ap (λ l. x ∷ l) (take_past xs ys n)

pub prefix-behind : (a b c : Option (List ℕ)) (xs ys : List ℕ) → Appends a b xs → AppendsPrefix b c ys → AppendsPrefix a c (xs ++ ys)
prefix-behind a b c xs ys h (n, low, cut) =
    (length xs + n, omega (arith, low, length-append xs ys), subst (Appends a c) (sym (take_past xs ys n)) (Appends-trans a b c xs (take n ys) h cut))

pub prefix-longer : (a b : Option (List ℕ)) (xs ys : List ℕ) → AppendsPrefix a b xs → AppendsPrefix a b (xs ++ ys)
prefix-longer a b xs ys (n, low, cut) = (n, omega (arith, low, length-append xs ys), subst (Appends a b) (sym (take-append-le n xs ys low)) cut)

pub prefix-whole : (a b : Option (List ℕ)) (xs : List ℕ) → Appends a b xs → AppendsPrefix a b xs
prefix-whole a b xs h = (length xs, omega arith, subst (Appends a b) (sym (take_all (length xs) xs (omega arith))) h)

pub no-prefix : (a : Option (List ℕ)) (xs : List ℕ) → AppendsPrefix a a xs
no-prefix a xs = (0, omega arith, Appends-nil a)

-- ---- The lines of a list

lines-more : (lines : List ReportLine) (i : ℕ) (line : ReportLine) → i < length lines → line ≡ get_or lines i line → flat_map spelled (take (i + 1) lines) ≡ flat_map spelled (take i lines) ++ spelled line
lines-more lines i line low is =
    ap (flat_map spelled) (take_more lines i line low ∙ ap (λ v. take i lines ++ v ∷ []) (sym is))
    ∙ flat_map-append spelled (take i lines) (line ∷ [])
    ∙ ap (λ l. flat_map spelled (take i lines) ++ l) (append-nil (spelled line))

pub lines-cut : (a b c : Option (List ℕ)) (lines : List ReportLine) (i : ℕ) (line : ReportLine) → i < length lines → line ≡ get_or lines i line → Appends a b (flat_map spelled (take i lines)) → AppendsPrefix b c (spelled line) → AppendsPrefix a c (flat_map spelled lines)
lines-cut a b c lines i line low is h cut =
    let first = flat_map spelled (take i lines) in
    let whole : (first ++ spelled line) ++ flat_map spelled (drop (i + 1) lines) ≡ flat_map spelled lines
    = ap (λ l. l ++ flat_map spelled (drop (i + 1) lines)) (sym (lines-more lines i line low is)) ∙ sym (flat_map-append spelled (take (i + 1) lines) (drop (i + 1) lines)) ∙ ap (flat_map spelled) (take-append-drop (i + 1) lines) in
    subst (AppendsPrefix a c) whole (prefix-longer a c (first ++ spelled line) (flat_map spelled (drop (i + 1) lines)) (prefix-behind a b c first (spelled line) h cut))

-- ---- By the answer

-- what holds anyway holds at an error
pub if_err : {T E : Type 0} (r : Result T E) (P : Type 0) → P → IfErr r (λ e. P)
if_err (Ok x) P h = tt
if_err (Err e) P h = h

pub on_ok-to : {T E : Type 0} (r : Result T E) (P Q : Type 0) → (P → Q) → OnOk r P → OnOk r Q
on_ok-to (Ok x) P Q f h = f h
on_ok-to (Err e) P Q f h = tt

pub if_err-to : {T E : Type 0} (r : Result T E) (P Q : Type 0) → (P → Q) → IfErr r (λ e. P) → IfErr r (λ e. Q)
if_err-to (Ok x) P Q f h = tt
if_err-to (Err e) P Q f h = f h
