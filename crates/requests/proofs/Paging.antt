-- The open page is kept.
use Rattle.std.proofs.Common.{◌≡◌, ◌≢◌, ◌∙◌, ℕ, ◌<◌, ◌⊎◌, inl, inr, ◌==◌, ◌&&◌, ◌||◌, not, Bool, true, false, cond, Option, Some, None, is_none, IsSome, List, ◌∷◌, ◌++◌, slice_get, refl, sym, ap, subst, eq-eqb, eqb-true}
use Rattle.std.specs.List.{remove}
use Rattle.command_words.specs.Command.{bank_number, is_at, covers}
use Rattle.command_words.specs.declared.command.Command.{Command}
use Rattle.command_words.specs.declared.command.Command.TheVariants.{Act, PrePb, PreSb, RefAb, RefSb, RfmAb, RfmSb, Ecs}
use Rattle.command_words.specs.Kinds.{Effect, Opens, Closes, Manages, Refreshes, Leaves, effect, is_scrub, needs_closed}
use Rattle.speed_bin.specs.Log.{Log, Issued, open_at, open_after}
use Rattle.speed_bin.specs.Page.{last_row, keeps_page, reopens}
use Rattle.speed_bin.specs.Rules.{rule_5}
use Rattle.speed_bin.proofs.Tests.{joined, when_not, none_from_test, all_below_at, all_below_from}
use Rattle.requests.specs.declared.waiting.Waiting.{Waiting}
use Rattle.requests.specs.Queue.{hits, in_bank, oldest}
use Rattle.requests.specs.Choice.{IsOldestRow, IsMissed}
use Rattle.requests.specs.Page.{is_managing, Another, IsPaged, Excuses}
use Rattle.requests.proofs.Oldest.{oldest-other, oldest-more, oldest-remove, holds}

-- ---- The last row of a bank, after a command

pub last_after : Effect → Bool → Option ℕ → Option ℕ
last_after (Opens row) scrub before = Some row
last_after Closes scrub before = before
last_after Manages scrub before = None
last_after Refreshes scrub before = None
last_after Leaves scrub before = cond scrub None before

pub last_row_is : (b : ℕ) (place : Issued) (log : Log) → last_row b (place ∷ log) ≡ last_after (effect b place.command) (is_scrub place.command) (last_row b log)
unfolding last_after
last_row_is b place log = go (effect b place.command) refl
  where
    go : (e : Effect) → effect b place.command ≡ e → last_row b (place ∷ log) ≡ last_after e (is_scrub place.command) (last_row b log)
    go (Opens r) p = rw p refl
    go Closes p = rw p refl
    go Manages p = rw p refl
    go Refreshes p = rw p refl
    go Leaves p = rw p refl

-- ---- The page, after a command

opens_other : (e : Effect) (o : Option ℕ) → ((row : ℕ) → e ≡ Opens row → o ≡ Some row → ⊥) → not (reopens e o) ≡ true
opens_other (Opens row) None other = refl
opens_other (Opens row) (Some last) other = go (row == last) refl
  where
    go : (t : Bool) → (row == last) ≡ t → not t ≡ true
    go true p = absurd (other row refl (ap (λ (n : ℕ). Some n) (sym (eqb-true row last p))))
    go false p = refl
opens_other Closes o other = refl
opens_other Manages o other = refl
opens_other Refreshes o other = refl
opens_other Leaves o other = refl

pub page_step : (place : Issued) (log : Log) → keeps_page log ≡ true → ((b row : ℕ) → b < 32 → effect b place.command ≡ Opens row → last_row b log ≡ Some row → ⊥) → keeps_page (place ∷ log) ≡ true
page_step place log h other = joined _ _ h (all_below_from 32 _ (λ b low. opens_other (effect b place.command) (last_row b log) (λ row. other b row low)))

-- ---- What covers closed banks alone

-- a test that chooses between an effect and none
either : (t : Bool) (e : Effect) → is_managing (cond t e Leaves) false ≡ true → (t ≡ true) × (is_managing e false ≡ true)
either true e h = (refl, h)
either false e h = cc

pub managing_covers : (b : ℕ) (command : Command) → is_managing (effect b command) (is_scrub command) ≡ true → (needs_closed command ≡ true) × (covers command b ≡ true)
managing_covers b RefAb h = (refl, refl)
managing_covers b (RefSb address) h = (refl, (either (is_at address b) _ h).0)
managing_covers b RfmAb h = (refl, refl)
managing_covers b (RfmSb address) h = (refl, (either (is_at address b) _ h).0)
managing_covers b Ecs h = (refl, refl)
managing_covers b (Act bank row) h = let e = (either (bank_number bank == b) _ h).1 in absurd (cc)
managing_covers b (PrePb bank) h = let e = (either (bank_number bank == b) _ h).1 in absurd (cc)
managing_covers b (PreSb address) h = let e = (either (is_at address b) _ h).1 in absurd (cc)
managing_covers b _ h = absurd (cc)

-- rule 5: what is managed is closed
pub managed_closed : (b : ℕ) (command : Command) (log : Log) → b < 32 → is_managing (effect b command) (is_scrub command) ≡ true → rule_5 command log ≡ true → open_at b log ≡ None
managed_closed b command log low m k =
    let p = managing_covers b command m in
    let each = when_not _ _ k p.0 in
    let own = all_below_at 32 (λ i. not (covers command i) || is_none (open_at i log)) b each low in
    none_from_test _ (when_not _ _ own p.1)

-- what needs nothing closed manages nothing
pub manages_nothing : (b : ℕ) (command : Command) → needs_closed command ≡ false → is_managing (effect b command) (is_scrub command) ≡ true → ⊥
manages_nothing b command f m = let k = (managing_covers b command m).0 in let n : true ≡ false = sym k ∙ f in cc

-- ---- One more place

open_step : (e : Effect) (scrub : Bool) (o l : Option ℕ) (row : ℕ) → ((r : ℕ) → o ≡ Some r → l ≡ Some r) → (is_managing e scrub ≡ true → o ≡ None) → open_after e o ≡ Some row → last_after e scrub l ≡ Some row
unfolding last_after
open_step (Opens r) scrub o l row h m e = e
open_step Closes scrub o l row h m e = cc
open_step Manages scrub o l row h m e = let f = m refl in cc
open_step Refreshes scrub o l row h m e = let f = m refl in cc
open_step Leaves true o l row h m e = let f = m refl in cc
open_step Leaves false o l row h m e = h row e

closed_step : (e : Effect) (scrub : Bool) (o l : Option ℕ) (row : ℕ) (Excuse : Type 0) → ((r : ℕ) → o ≡ Some r → l ≡ Some r) → ((r : ℕ) → o ≡ Some r → e ≡ Closes → l ≡ Some row → r ≡ row → Excuse) → (o ≡ None → l ≡ Some row → is_managing e scrub ≡ false → Excuse) → open_after e o ≡ None → last_after e scrub l ≡ Some row → Excuse
unfolding last_after
closed_step (Opens r) scrub o l row Excuse h closing stays e f = cc
closed_step Closes scrub None l row Excuse h closing stays e f = stays refl f refl
closed_step Closes scrub (Some r) l row Excuse h closing stays e f = let g = h r refl in closing r refl refl f (cc)
closed_step Manages scrub o l row Excuse h closing stays e f = cc
closed_step Refreshes scrub o l row Excuse h closing stays e f = cc
closed_step Leaves true o l row Excuse h closing stays e f = cc
closed_step Leaves false o l row Excuse h closing stays e f = stays e f refl

pub paged-step : (excused later : ℕ → Bool) (ws vs : List Waiting) (log : Log) (place : Issued) → IsPaged excused ws log
    → ((b : ℕ) → b < 32 → is_managing (effect b place.command) (is_scrub place.command) ≡ true → open_at b log ≡ None)
    → ((b row : ℕ) → b < 32 → open_at b log ≡ Some row → effect b place.command ≡ Closes → (later b ≡ true) ⊎ Another b row vs)
    → ((b row : ℕ) → b < 32 → open_at b log ≡ None → is_managing (effect b place.command) (is_scrub place.command) ≡ false → (excused b ≡ true) ⊎ Another b row ws → (later b ≡ true) ⊎ Another b row vs)
    → IsPaged later vs (place ∷ log)
paged-step excused later ws vs log place p managed closing stays = record {
  open_last = λ b row low e. last_row_is b place log ∙ open_step (effect b place.command) (is_scrub place.command) (open_at b log) (last_row b log) row (λ r. p.open_last b r low) (managed b low) e;
  another = λ b row low e f. closed_step (effect b place.command) (is_scrub place.command) (open_at b log) (last_row b log) row ((later b ≡ true) ⊎ Another b row vs)
      (λ r. p.open_last b r low)
      (λ r o c l same. subst (λ (n : ℕ). (later b ≡ true) ⊎ Another b n vs) same (closing b r low o c))
      (λ o l m. stays b row low o m (p.another b row low o l)) e (sym (last_row_is b place log) ∙ f);
}

-- ---- The oldest request of a bank

-- a missed bank's oldest request is of another row
pub missed_another : (ws : List Waiting) (b row : ℕ) (o : Option ℕ) → o ≡ Some row → IsMissed ws b o → Another b row ws
missed_another ws b row o e m = go (oldest (in_bank b) ws) refl m.some
  where
    go : (found : Option Waiting) → oldest (in_bank b) ws ≡ found → IsSome found → Another b row ws
    go None f some = absurd (cc)
    go (Some w) f some = record {
      request = w;
      oldest_of = f;
      differs = λ same.
          let t : (row == w.place.row) ≡ true = eq-eqb _ _ (sym same) in
          let s = oldest-other (in_bank b) (hits b (Some row)) ws w f (ap (λ t. t && (row == w.place.row)) (holds (in_bank b) ws w f) ∙ t) in
          let n : oldest (hits b (Some row)) ws ≡ None = subst (λ (p : Option ℕ). oldest (hits b p) ws ≡ None) e m.no_hit in
          let k : None ≡ Some s.request = sym n ∙ s.found in
          cc;
    }

pub another-offer : (b row : ℕ) (ws vs : List Waiting) → Another b row ws → Another b row (ws ++ vs)
another-offer b row ws vs a = record { request = a.request; oldest_of = oldest-more (in_bank b) ws vs a.request a.oldest_of; differs = a.differs }

pub another-remove : (b row at : ℕ) (ws : List Waiting) (w : Waiting) → slice_get ws at ≡ Some w → in_bank b w ≡ false → Another b row ws → Another b row (remove ws at)
another-remove b row at ws w here other a = record { request = a.request; oldest_of = oldest-remove (in_bank b) ws at a.request w here other a.oldest_of; differs = a.differs }

-- an ACT for the oldest request of a bank that is not excused opens another row than its last one
pub act_another : (excused : ℕ → Bool) (ws : List Waiting) (log : Log) (b row last : ℕ) → IsPaged excused ws log → b < 32 → excused b ≡ false → open_at b log ≡ None → last_row b log ≡ Some last → IsOldestRow ws b row → row ≢ last
act_another excused ws log b row last p low none closed e chosen = go (p.another b last low closed e)
  where
    go : (excused b ≡ true) ⊎ Another b last ws → row ≢ last
    go (inl x) = absurd (let k : true ≡ false = sym x ∙ none in cc)
    go (inr a) = λ same.
        let s : Some a.request ≡ Some chosen.request = sym a.oldest_of ∙ chosen.oldest_of in
        let k : a.request ≡ chosen.request = cc in
        let r : a.request.place.row ≡ last = ap (λ (w : Waiting). w.place.row) k ∙ chosen.row_is ∙ same in
        a.differs r

-- ---- Each change

-- who was excused stays so
pub keeps_excuse : (excused later : ℕ → Bool) (ws : List Waiting) (b row : ℕ) → b < 32 → Excuses excused later → (excused b ≡ true) ⊎ Another b row ws → (later b ≡ true) ⊎ Another b row ws
keeps_excuse excused later ws b row low more (inl e) = inl (more b low e)
keeps_excuse excused later ws b row low more (inr a) = inr a

pub paged-excuse : (excused later : ℕ → Bool) (ws : List Waiting) (log : Log) → IsPaged excused ws log → Excuses excused later → IsPaged later ws log
paged-excuse excused later ws log p more = record { open_last = p.open_last; another = λ b row low e f. keeps_excuse excused later ws b row low more (p.another b row low e f) }

pub paged-offer : (excused : ℕ → Bool) (ws vs : List Waiting) (log : Log) → IsPaged excused ws log → IsPaged excused (ws ++ vs) log
paged-offer excused ws vs log p = record { open_last = p.open_last; another = λ b row low e f. go b row (p.another b row low e f) }
  where
    go : (b row : ℕ) → (excused b ≡ true) ⊎ Another b row ws → (excused b ≡ true) ⊎ Another b row (ws ++ vs)
    go b row (inl e) = inl e
    go b row (inr a) = inr (another-offer b row ws vs a)
