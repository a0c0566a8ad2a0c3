-- The header text of a job, in front of any separator, opens a job with that separator's version.
use Rattle.std.proofs.Common.{◌≡◌, ℕ, Bool, true, false, if◌then◌else◌, List, [], ◌∷◌, ◌++◌, length, refl, sym, ap, ◌∙◌, subst, append_assoc, drop_at, Result, Ok, Err}
use Rattle.std.specs.List.{slice_split}
use Rattle.speed_bin.specs.Document.{header_stated}
use Rattle.speed_bin.specs.Version.{Figures}
use Rattle.speed_bin.specs.declared.fault.HeaderFault.{HeaderFault}
use Rattle.speed_bin.specs.declared.header.Header.{Header}
use Rattle.ddr_text.specs.Opening.{Heading, is_feed, parts_of, with_feed, is_long, is_large, after_line, heading_in, opening_text, Accepts, judged, behind, with_heading, opening_of}
use Rattle.ddr_text.specs.Separator.{Role, Ends, Faulty, Text, role_of_line}
use Rattle.ddr_text.proofs.CleanParts.{AreClean, HasNoFeed, clean-parts, first-part, line-part}

-- one line, and what is behind it
next-line : (text line rest : List ℕ) → HasNoFeed line → is_long line ≡ false
    → heading_in text (slice_split is_feed (with_feed line ++ rest)) ≡ after_line text line (role_of_line line) (heading_in (text ++ with_feed line) (slice_split is_feed rest))
next-line text line rest clean short =
    let next = first-part rest in
    let split : slice_split is_feed (with_feed line ++ rest) ≡ line ∷ next.0 ∷ next.1 = line-part line rest clean ∙ ap (λ l. line ∷ l) next.2 in
    rw (split, next.2, short) refl

-- a line that ends a header with this version
pub record IsSeparator (line : List ℕ) (version : Figures) : Type 0 where
  pub clean : HasNoFeed line
  pub short : is_long line ≡ false
  pub role : role_of_line line ≡ Ends version

-- The text is what stood before, and this front; and a front of these lines and any separator make the heading of whatever
-- bytes they begin.
record Reopened (text whole : List ℕ) : Type 0 where
  front : List ℕ
  is : whole ≡ text ++ front
  again : (separator : List ℕ) (version : Figures) (more : List ℕ) → IsSeparator separator version
      → heading_in text (slice_split is_feed (front ++ (with_feed separator ++ more))) ≡ Ok (record { text = whole; separator = separator; version = version })

no-more : (text : List ℕ) → text ≡ text ++ []
no-more [] = refl
no-more (x ∷ text) = ap (λ l. x ∷ l) (no-more text)

at-separator : (text : List ℕ) → Reopened text text
at-separator text = record {
  front = [];
  is = no-more text;
  again = λ separator version more s. next-line text separator more s.clean s.short
      ∙ ap (λ r. after_line text separator r (heading_in (text ++ with_feed separator) (slice_split is_feed more))) s.role;
}

with-line : (text line whole : List ℕ) → HasNoFeed line → is_long line ≡ false → role_of_line line ≡ Text → is_large (text ++ with_feed line) ≡ false
    → Reopened (text ++ with_feed line) whole → Reopened text whole
with-line text line whole clean short other small r = record {
  front = with_feed line ++ r.front;
  is = r.is ∙ append_assoc text (with_feed line) r.front;
  again = λ separator version more s. ap (λ l. heading_in text (slice_split is_feed l)) (append_assoc (with_feed line) r.front (with_feed separator ++ more))
      ∙ next-line text line (r.front ++ (with_feed separator ++ more)) clean short
      ∙ ap (λ k. after_line text line k (heading_in (text ++ with_feed line) (slice_split is_feed (r.front ++ (with_feed separator ++ more))))) other
      ∙ ap (λ b. if b then Err 17 else heading_in (text ++ with_feed line) (slice_split is_feed (r.front ++ (with_feed separator ++ more)))) small
      ∙ r.again separator version more s;
}

-- the heading was found: its text may stand before any separator, and its own separator is one
record Found (text : List ℕ) (heading : Heading) : Type 0 where
  reopened : Reopened text heading.text
  own : IsSeparator heading.separator heading.version

no-last : (long : Bool) (heading : Heading) → ◌≡◌ {A = Result Heading ℕ} (if long then Err 17 else Err 16) (Ok heading) → ⊥
no-last true heading e = cc
no-last false heading e = cc

no-fault : (large : Bool) (heading : Heading) → ◌≡◌ {A = Result Heading ℕ} (if large then Err 17 else Err 29) (Ok heading) → ⊥
no-fault true heading e = cc
no-fault false heading e = cc

found : (text : List ℕ) (parts : List (List ℕ)) (heading : Heading) → AreClean parts → heading_in text parts ≡ Ok heading → Found text heading
found text [] heading clean e = absurd cc
found text (last ∷ []) heading clean e = absurd (no-last (is_long last) heading e)
found text (line ∷ next ∷ parts) heading clean e =
    go (is_long line) (role_of_line line) (is_large (text ++ with_feed line)) refl refl refl e (λ f. found (text ++ with_feed line) (next ∷ parts) heading clean.1 f)
  where
    go : (long : Bool) (role : Role) (large : Bool) → is_long line ≡ long → role_of_line line ≡ role → is_large (text ++ with_feed line) ≡ large
        → ◌≡◌ {A = Result Heading ℕ} (if long then Err 17 else after_line text line role (heading_in (text ++ with_feed line) (next ∷ parts))) (Ok heading)
        → (heading_in (text ++ with_feed line) (next ∷ parts) ≡ Ok heading → Found (text ++ with_feed line) heading) → Found text heading
    go true role large a b d f ih = absurd cc
    go false (Ends version) large a b d f ih =
        let same : record { text = text; separator = line; version = version } ≡ heading = cc in
        subst (Found text) same (record { reopened = at-separator text; own = record { clean = clean.0; short = a; role = b } })
    go false Faulty large a b d f ih = absurd (no-fault (is_large (text ++ with_feed line)) heading f)
    go false Text true a b d f ih =
        let k : ◌≡◌ {A = Result Heading ℕ} (Err 17) (Ok heading) = ap (λ l. if l then Err 17 else heading_in (text ++ with_feed line) (next ∷ parts)) (sym d) ∙ f in absurd cc
    go false Text false a b d f ih =
        let k : heading_in (text ++ with_feed line) (next ∷ parts) ≡ Ok heading = ap (λ l. if l then Err 17 else heading_in (text ++ with_feed line) (next ∷ parts)) (sym d) ∙ f in
        let r = ih k in
        record { reopened = with-line text line heading.text clean.0 a b d r.reopened; own = r.own }

-- the header text of a job, in front of this separator
pub again : (job : List ℕ) (heading : Heading) (separator : List ℕ) (version : Figures) (more : List ℕ) → heading_in [] (parts_of job) ≡ Ok heading → IsSeparator separator version
    → heading_in [] (parts_of ((heading.text ++ with_feed separator) ++ more)) ≡ Ok (record { text = heading.text; separator = separator; version = version })
unfolding parts_of
again job heading separator version more e s =
    let r = (found [] (slice_split is_feed job) heading (clean-parts job) e).reopened in
    let same : heading.text ++ (with_feed separator ++ more) ≡ r.front ++ (with_feed separator ++ more) = ap (λ l. l ++ (with_feed separator ++ more)) r.is in
    ap (λ l. heading_in [] (slice_split is_feed l)) (append_assoc heading.text (with_feed separator) more ∙ same) ∙ r.again separator version more s

pub own-separator : (job : List ℕ) (heading : Heading) → heading_in [] (parts_of job) ≡ Ok heading → IsSeparator heading.separator heading.version
unfolding parts_of
own-separator job heading e = (found [] (slice_split is_feed job) heading (clean-parts job) e).own

-- The header text of a job that was accepted, in front of any separator of the same version, opens whatever it begins.
pub reopens-with : (h : Header) (job : List ℕ) (heading : Heading) (separator more : List ℕ) → heading_in [] (parts_of job) ≡ Ok heading → header_stated heading.version heading.text ≡ Ok h
    → IsSeparator separator heading.version → opening_of ((heading.text ++ with_feed separator) ++ more) ≡ Accepts h (heading.text ++ with_feed separator) more
reopens-with h job heading separator more e stated s =
    let whole = heading.text ++ with_feed separator in
    ap (with_heading (whole ++ more)) (again job heading separator heading.version more e s)
    ∙ ap (λ l. judged whole l (header_stated heading.version heading.text)) (drop_at whole more (length whole) refl)
    ∙ ap (judged whole more) stated

-- The opening of a job opens whatever it begins.
pub reopens : (h : Header) (job text rest more : List ℕ) → opening_of job ≡ Accepts h text rest → opening_of (text ++ more) ≡ Accepts h text more
reopens h job text rest more e = go (heading_in [] (parts_of job)) refl e
  where
    go : (r : Result Heading ℕ) → heading_in [] (parts_of job) ≡ r → with_heading job r ≡ Accepts h text rest → opening_of (text ++ more) ≡ Accepts h text more
    go (Err reason) is f = absurd cc
    go (Ok heading) is f = stated (header_stated heading.version heading.text) refl f
      where
        stated : (s : Result Header HeaderFault) → header_stated heading.version heading.text ≡ s → judged (opening_text heading) (behind (opening_text heading) job) s ≡ Accepts h text rest → opening_of (text ++ more) ≡ Accepts h text more
        stated (Err fault) was g = absurd cc
        stated (Ok header) was g =
            let one : header ≡ h = cc in
            let two : opening_text heading ≡ text = cc in
            subst (λ t. opening_of (t ++ more) ≡ Accepts h t more) two (reopens-with h job heading heading.separator more is (was ∙ ap Ok one) (own-separator job heading is))
