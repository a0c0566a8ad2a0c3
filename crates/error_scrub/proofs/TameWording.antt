-- A tame line, change by change, is one in words.
use Rattle.std.proofs.Common.{◌≡◌, ◌∙◌, ℕ, suc, ◌==◌, ◌&&◌, ◌||◌, ◌⊎◌, inl, inr, not, Bool, true, false, cond, List, [], ◌∷◌, ◌++◌, refl, sym, ap, subst, eq-eqb, eqb-true, ne_eqb, arith}
use Rattle.error_scrub.specs.Changes.{Change, wrote, turns, scrubs}
use Rattle.error_scrub.specs.Tame.{turns_since, is_tame}
use Rattle.error_scrub.specs.TameWording.{NoneWrites, SomeScrubs, IsTameInWords}

both : (x y : Bool) → (x && y) ≡ true → (x ≡ true) × (y ≡ true)
both true y h = (refl, h)
both false y h = (cc, cc)

-- the numbers of a line and a device are their own
own : (line device : ℕ) → (line == line && device == device) ≡ true
own line device = let a = eq-eqb line line refl in let b = eq-eqb device device refl in rw (a, b) refl

-- ---- From tests to words

-- the line is scrubbed after a turned bit, or that bit counts
abbrev Counts : ℕ → ℕ → List Change → Type 0
Counts line device changes = turns_since changes line device ≡ 0 → ⊥

wrote_keeps : (t : Bool) (count : ℕ) → t ≡ false → (count ≡ 0 → ⊥) → cond t 0 count ≡ 0 → ⊥
wrote_keeps true count e h = cc
wrote_keeps false count e h = h

scrub_counts : (line at count : ℕ) (Scrubs : Type 0) → Scrubs ⊎ (count ≡ 0 → ⊥) → ((line ≡ at) ⊎ Scrubs) ⊎ (cond (line == at) 0 count ≡ 0 → ⊥)
scrub_counts line at count Scrubs h = go (line == at) refl h
  where
    go : (t : Bool) → (line == at) ≡ t → Scrubs ⊎ (count ≡ 0 → ⊥) → ((line ≡ at) ⊎ Scrubs) ⊎ (cond t 0 count ≡ 0 → ⊥)
    go true e h = inl (inl (eqb-true line at e))
    go false e (inl s) = inl (inr s)
    go false e (inr c) = inr c

turn_counts : (t : Bool) (count : ℕ) → (count ≡ 0 → ⊥) → cond t (suc count) count ≡ 0 → ⊥
turn_counts true count h e = absurd (omega (arith, e))
turn_counts false count h e = h e

first_counts : (t : Bool) (count : ℕ) → t ≡ true → cond t (suc count) count ≡ 0 → ⊥
first_counts true count e f = absurd (omega (arith, f))
first_counts false count e f = cc

scrubbed_or_counts : (line device first : ℕ) (between older : List Change) → NoneWrites line between → SomeScrubs line between ⊎ Counts line device (between ++ (turns line device first ∷ older))
scrubbed_or_counts line device first [] older none = inr (first_counts (line == line && device == device) (turns_since older line device) (own line device))
scrubbed_or_counts line device first (wrote at bytes ∷ between) older none = go (scrubbed_or_counts line device first between older none.1)
  where
    go : SomeScrubs line between ⊎ Counts line device (between ++ (turns line device first ∷ older)) → SomeScrubs line between ⊎ Counts line device (wrote at bytes ∷ (between ++ (turns line device first ∷ older)))
    go (inl s) = inl s
    go (inr c) = inr (wrote_keeps (line == at) (turns_since (between ++ (turns line device first ∷ older)) line device) (ne_eqb line at none.0) c)
scrubbed_or_counts line device first (turns at of bit ∷ between) older none = go (scrubbed_or_counts line device first between older none)
  where
    go : SomeScrubs line between ⊎ Counts line device (between ++ (turns line device first ∷ older)) → SomeScrubs line between ⊎ Counts line device (turns at of bit ∷ (between ++ (turns line device first ∷ older)))
    go (inl s) = inl s
    go (inr c) = inr (turn_counts (line == at && device == of) (turns_since (between ++ (turns line device first ∷ older)) line device) c)
scrubbed_or_counts line device first (scrubs at ∷ between) older none =
    scrub_counts line at (turns_since (between ++ (turns line device first ∷ older)) line device) (SomeScrubs line between) (scrubbed_or_counts line device first between older none)

wrote_step : (t tame : Bool) → t ≡ false → (t || tame) ≡ true → tame ≡ true
wrote_step true tame e h = cc
wrote_step false tame e h = h

-- the older changes are tame too, where none of these wrote the line
older_tame : (line device : ℕ) (newer rest : List Change) → NoneWrites line newer → is_tame (newer ++ rest) line device ≡ true → is_tame rest line device ≡ true
older_tame line device [] rest none h = h
older_tame line device (wrote at bytes ∷ newer) rest none h = older_tame line device newer rest none.1 (wrote_step (line == at) (is_tame (newer ++ rest) line device) (ne_eqb line at none.0) h)
older_tame line device (turns at of bit ∷ newer) rest none h = older_tame line device newer rest none (both (is_tame (newer ++ rest) line device) _ h).0
older_tame line device (scrubs at ∷ newer) rest none h = older_tame line device newer rest none h

none_before : (t b : Bool) → t ≡ true → not (t && not b) ≡ true → b ≡ true
none_before true true e h = refl
none_before true false e h = cc
none_before false b e h = cc

pub tame_in_words : (changes : List Change) (line device : ℕ) → is_tame changes line device ≡ true → IsTameInWords changes line device
tame_in_words changes line device h = λ newer between older second first is none_newer none_between.
    let rest : List Change = between ++ (turns line device first ∷ older) in
    let k = older_tame line device newer (turns line device second ∷ rest) none_newer (subst (λ (l : List Change). is_tame l line device ≡ true) is h) in
    let zero_is : (turns_since rest line device == 0) ≡ true = none_before (line == line && device == device) (turns_since rest line device == 0) (own line device) (both (is_tame rest line device) _ k).1 in
    go between rest (scrubbed_or_counts line device first between older none_between) (eqb-true (turns_since rest line device) 0 zero_is)
  where
    go : (between rest : List Change) → SomeScrubs line between ⊎ Counts line device rest → turns_since rest line device ≡ 0 → SomeScrubs line between
    go between rest (inl s) e = s
    go between rest (inr c) e = absurd (c e)

-- ---- From words to tests

-- a bit of the line and the device was turned, and nothing rewrote the line after it
record TurnedSince (line device : ℕ) (changes : List Change) : Type 0 where
  bit : ℕ
  between : List Change
  older : List Change
  is : changes ≡ between ++ (turns line device bit ∷ older)
  none_writes : NoneWrites line between
  unscrubbed : SomeScrubs line between → ⊥

turned_since : (line device : ℕ) (changes : List Change) → (turns_since changes line device ≡ 0 → ⊥) → TurnedSince line device changes
turned_since line device [] h = absurd (h refl)
turned_since line device (wrote at bytes ∷ changes) h = go (line == at) refl h (λ k. turned_since line device changes k)
  where
    go : (t : Bool) → (line == at) ≡ t → (cond t 0 (turns_since changes line device) ≡ 0 → ⊥) → ((turns_since changes line device ≡ 0 → ⊥) → TurnedSince line device changes) → TurnedSince line device (wrote at bytes ∷ changes)
    go true e k ih = absurd (k refl)
    go false e k ih = let o = ih k in record {
      bit = o.bit;
      between = wrote at bytes ∷ o.between;
      older = o.older;
      is = ap (λ (l : List Change). wrote at bytes ∷ l) o.is;
      none_writes = (λ same. let f = eq-eqb line at same in cc, o.none_writes);
      unscrubbed = o.unscrubbed;
    }
turned_since line device (scrubs at ∷ changes) h = go (line == at) refl h (λ k. turned_since line device changes k)
  where
    none : (line == at) ≡ false → (between : List Change) → (SomeScrubs line between → ⊥) → (line ≡ at) ⊎ SomeScrubs line between → ⊥
    none e between f (inl same) = let g = eq-eqb line at same in cc
    none e between f (inr s) = f s

    go : (t : Bool) → (line == at) ≡ t → (cond t 0 (turns_since changes line device) ≡ 0 → ⊥) → ((turns_since changes line device ≡ 0 → ⊥) → TurnedSince line device changes) → TurnedSince line device (scrubs at ∷ changes)
    go true e k ih = absurd (k refl)
    go false e k ih = let o = ih k in record {
      bit = o.bit;
      between = scrubs at ∷ o.between;
      older = o.older;
      is = ap (λ (l : List Change). scrubs at ∷ l) o.is;
      none_writes = o.none_writes;
      unscrubbed = none e o.between o.unscrubbed;
    }
turned_since line device (turns at of bit ∷ changes) h = go (line == at && device == of) refl h (λ k. turned_since line device changes k)
  where
    go : (t : Bool) → (line == at && device == of) ≡ t → (cond t (suc (turns_since changes line device)) (turns_since changes line device) ≡ 0 → ⊥) → ((turns_since changes line device ≡ 0 → ⊥) → TurnedSince line device changes) → TurnedSince line device (turns at of bit ∷ changes)
    go true e k ih =
        let p = both (line == at) (device == of) e in
        let a : at ≡ line = sym (eqb-true line at p.0) in
        let d : of ≡ device = sym (eqb-true device of p.1) in record {
          bit = bit;
          between = [];
          older = changes;
          is = ap (λ (n : ℕ). turns n of bit ∷ changes) a ∙ ap (λ (n : ℕ). turns line n bit ∷ changes) d;
          none_writes = tt;
          unscrubbed = λ s. s;
        }
    go false e k ih = let o = ih k in record {
      bit = o.bit;
      between = turns at of bit ∷ o.between;
      older = o.older;
      is = ap (λ (l : List Change). turns at of bit ∷ l) o.is;
      none_writes = o.none_writes;
      unscrubbed = o.unscrubbed;
    }

turn_step : (t tame b : Bool) → tame ≡ true → (t ≡ true → b ≡ false → ⊥) → (tame && not (t && not b)) ≡ true
turn_step true tame true e h = rw e refl
turn_step true tame false e h = absurd (h refl refl)
turn_step false tame b e h = rw e refl

pub tame_of_words : (changes : List Change) (line device : ℕ) → IsTameInWords changes line device → is_tame changes line device ≡ true
tame_of_words [] line device w = refl
tame_of_words (wrote at bytes ∷ changes) line device w =
    go (line == at) refl (λ e. tame_of_words changes line device (λ newer between older second first is none_newer none_between.
    w (wrote at bytes ∷ newer) between older second first (ap (λ (l : List Change). wrote at bytes ∷ l) is) (λ same. let f = eq-eqb line at same in cc, none_newer) none_between))
  where
    go : (t : Bool) → (line == at) ≡ t → ((line == at) ≡ false → is_tame changes line device ≡ true) → (t || is_tame changes line device) ≡ true
    go true e rest = refl
    go false e rest = rest e
tame_of_words (scrubs at ∷ changes) line device w =
    tame_of_words changes line device (λ newer between older second first is none_newer none_between.
    w (scrubs at ∷ newer) between older second first (ap (λ (l : List Change). scrubs at ∷ l) is) none_newer none_between)
tame_of_words (turns at of bit ∷ changes) line device w =
    turn_step (line == at && device == of) (is_tame changes line device) (turns_since changes line device == 0)
    (tame_of_words changes line device (λ newer between older second first is none_newer none_between.
    w (turns at of bit ∷ newer) between older second first (ap (λ (l : List Change). turns at of bit ∷ l) is) none_newer none_between))
    (λ same some.
    let p = both (line == at) (device == of) same in
    let o = turned_since line device changes (λ none. let f = eq-eqb (turns_since changes line device) 0 none in cc) in
    let here : turns at of bit ∷ changes ≡ turns line device bit ∷ (o.between ++ (turns line device o.bit ∷ o.older))
    = ap (λ (n : ℕ). turns n of bit ∷ changes) (sym (eqb-true line at p.0)) ∙ ap (λ (n : ℕ). turns line n bit ∷ changes) (sym (eqb-true device of p.1)) ∙ ap (λ (l : List Change). turns line device bit ∷ l) o.is in
    o.unscrubbed (w [] o.between o.older bit o.bit here tt o.none_writes))
