-- Open page, place by place, is open page in words.
use Rattle.std.proofs.Common.{◌≡◌, ◌∙◌, ℕ, ◌<◌, ◌⊎◌, inl, inr, ◌==◌, not, Bool, true, false, Option, Some, None, [], ◌∷◌, ◌++◌, refl, sym, ap, subst, eq-eqb}
use Rattle.command_words.specs.Kinds.{Effect, Opens, Closes, Manages, Refreshes, Leaves, effect, is_scrub}
use Rattle.speed_bin.specs.Below.{all_below}
use Rattle.speed_bin.specs.Log.{Issued, Log}
use Rattle.speed_bin.specs.Page.{keeps_page, last_row, last_row_after, reopens}
use Rattle.speed_bin.proofs.Tests.{both, all_below_at}
use Rattle.requests.specs.Page.{is_managing}
use Rattle.requests.specs.PageWording.{NoneOpens, SomeManages, IsOpenPage}
use Rattle.requests.proofs.Paging.{page_step}

-- ---- What stands between two ACTs

stays : (e : Effect) (scrub : Bool) (o : Option ℕ) (row : ℕ) (Managed : Type 0) → ((r : ℕ) → e ≡ Opens r → ⊥) → Managed ⊎ (o ≡ Some row) → ((is_managing e scrub ≡ true) ⊎ Managed) ⊎ (last_row_after e scrub o ≡ Some row)
stays (Opens r) scrub o row Managed none h = absurd (none r refl)
stays Closes scrub o row Managed none (inl m) = inl (inr m)
stays Closes scrub o row Managed none (inr e) = inr e
stays Manages scrub o row Managed none h = inl (inl refl)
stays Refreshes scrub o row Managed none h = inl (inl refl)
stays Leaves true o row Managed none h = inl (inl refl)
stays Leaves false o row Managed none (inl m) = inl (inr m)
stays Leaves false o row Managed none (inr e) = inr e

-- the bank is managed after an ACT, or the ACT's row is its last one
managed_or_last : (b row : ℕ) (between older : Log) (first : Issued) → effect b first.command ≡ Opens row → NoneOpens b between → SomeManages b between ⊎ (last_row b (between ++ (first ∷ older)) ≡ Some row)
managed_or_last b row [] older first e none = inr (ap (λ x. last_row_after x (is_scrub first.command) (last_row b older)) e)
managed_or_last b row (place ∷ between) older first e none =
    stays (effect b place.command) (is_scrub place.command) (last_row b (between ++ (first ∷ older))) row (SomeManages b between) none.0 (managed_or_last b row between older first e none.1)

older_page : (newer rest : Log) → keeps_page (newer ++ rest) ≡ true → keeps_page rest ≡ true
older_page [] rest h = h
older_page (place ∷ newer) rest h = older_page newer rest (both (keeps_page (newer ++ rest)) _ h).0

no_reopening : (e : Effect) (o : Option ℕ) (row : ℕ) → e ≡ Opens row → o ≡ Some row → not (reopens e o) ≡ true → ⊥
no_reopening (Opens r) (Some last) row e f h = let p : r ≡ row = cc in let q : last ≡ row = cc in let s = eq-eqb r last (p ∙ sym q) in cc
no_reopening (Opens r) None row e f h = cc
no_reopening Closes o row e f h = cc
no_reopening Manages o row e f h = cc
no_reopening Refreshes o row e f h = cc
no_reopening Leaves o row e f h = cc

pub page_in_words : (log : Log) → keeps_page log ≡ true → IsOpenPage log
page_in_words log h = λ b row low newer between older second first is two one none.
    let rest : Log = between ++ (first ∷ older) in
    let kept = older_page newer (second ∷ rest) (subst (λ (l : Log). keeps_page l ≡ true) is h) in
    let each : all_below 32 (λ i. not (reopens (effect i second.command) (last_row i rest))) ≡ true = (both (keeps_page rest) _ kept).1 in
    let own : not (reopens (effect b second.command) (last_row b rest)) ≡ true = all_below_at 32 (λ i. not (reopens (effect i second.command) (last_row i rest))) b each low in
    go b row between older second first two own (managed_or_last b row between older first one none)
  where
    go : (b row : ℕ) (between older : Log) (second first : Issued) → effect b second.command ≡ Opens row → not (reopens (effect b second.command) (last_row b (between ++ (first ∷ older)))) ≡ true → SomeManages b between ⊎ (last_row b (between ++ (first ∷ older)) ≡ Some row) → SomeManages b between
    go b row between older second first two own (inl m) = m
    go b row between older second first two own (inr last) = absurd (no_reopening (effect b second.command) (last_row b (between ++ (first ∷ older))) row two last own)

-- ---- The last row of a bank, as a place

-- the bank's last ACT opened this row, and nothing managed the bank after it
record LastOpened (b row : ℕ) (log : Log) : Type 0 where
  first : Issued
  between : Log
  older : Log
  is : log ≡ between ++ (first ∷ older)
  opens : effect b first.command ≡ Opens row
  none_opens : NoneOpens b between
  unmanaged : SomeManages b between → ⊥

longer : (b row : ℕ) (place : Issued) (log : Log) → ((r : ℕ) → effect b place.command ≡ Opens r → ⊥) → (is_managing (effect b place.command) (is_scrub place.command) ≡ true → ⊥) → LastOpened b row log → LastOpened b row (place ∷ log)
longer b row place log none calm o = record {
  first = o.first;
  between = place ∷ o.between;
  older = o.older;
  is = ap (λ (l : Log). place ∷ l) o.is;
  opens = o.opens;
  none_opens = (none, o.none_opens);
  unmanaged = go;
}
  where
    go : (is_managing (effect b place.command) (is_scrub place.command) ≡ true) ⊎ SomeManages b o.between → ⊥
    go (inl m) = calm m
    go (inr m) = o.unmanaged m

last_opened : (b row : ℕ) (log : Log) → last_row b log ≡ Some row → LastOpened b row log
last_opened b row [] e = cc
last_opened b row (place ∷ log) e = go (effect b place.command) (is_scrub place.command) refl refl e (λ f. last_opened b row log f)
  where
    go : (x : Effect) (scrub : Bool) → effect b place.command ≡ x → is_scrub place.command ≡ scrub → last_row_after x scrub (last_row b log) ≡ Some row → (last_row b log ≡ Some row → LastOpened b row log) → LastOpened b row (place ∷ log)
    go (Opens r) scrub p q f ih = let same : r ≡ row = cc in record { first = place; between = []; older = log; is = refl; opens = p ∙ ap (λ (n : ℕ). Opens n) same; none_opens = tt; unmanaged = λ m. m }
    go Closes scrub p q f ih = longer b row place log (λ r k. cc) (λ m. let n : is_managing Closes (is_scrub place.command) ≡ true = rw p at m in cc) (ih f)
    go Manages scrub p q f ih = cc
    go Refreshes scrub p q f ih = cc
    go Leaves true p q f ih = cc
    go Leaves false p q f ih = longer b row place log (λ r k. cc) (λ m. let n : is_managing Leaves false ≡ true = rw (p, q) at m in cc) (ih f)

pub page_of_words : (log : Log) → IsOpenPage log → keeps_page log ≡ true
page_of_words [] w = refl
page_of_words (place ∷ log) w =
    page_step place log
    (page_of_words log (λ b row low newer between older second first is two one none. w b row low (place ∷ newer) between older second first (ap (λ (l : Log). place ∷ l) is) two one none))
    (λ b row low e last.
    let o = last_opened b row log last in
    o.unmanaged (w b row low [] o.between o.older place o.first (ap (λ (l : Log). place ∷ l) o.is) e o.opens o.none_opens))
