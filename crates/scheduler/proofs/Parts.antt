-- What is known of each kind of command that serves a request or closes banks.
use Rattle.std.proofs.Common.{◌≡◌, ℕ, zero, suc, ◌≤◌, ◌&&◌, ◌||◌, ◌==◌, Bool, true, false, Option, Some, None, is_some, List, [], ◌∷◌, ◌++◌, length, slice_get, IsTrue, refl, ap, subst, rules, nat_le, eq-eqb}
use Rattle.std.specs.List.{remove}
use Rattle.std.proofs.lemmas.Bool.{eqb-true}
use Rattle.command_words.specs.Command.{bank_number, covers}
use Rattle.command_words.specs.declared.geometry.Place.{Place}
use Rattle.speed_bin.specs.Log.{Log, open_at}
use Rattle.speed_bin.specs.Rules.{rule_10, rule_14}
use Rattle.speed_bin.specs.declared.header.Header.{Header}
use Rattle.bank_state.specs.Standing.{Fits}
use Rattle.requests.specs.Choice.{column_for, IsChosen, IsPrompt, IsSoonest}
use Rattle.requests.specs.Owed.{is_column, SparesOwed}
use Rattle.requests.specs.Queue.{Step, places, in_bank, hits, oldest}
use Rattle.speed_bin.specs.Counters.{is_row}
use Rattle.requests.specs.declared.request.Kind.{Kind}
use Rattle.requests.specs.declared.request.Kind.TheVariants.{Read, Write}
use Rattle.requests.specs.declared.waiting.Waiting.{Waiting}
use Rattle.deadlines.specs.Turns.{Takes, has_request}
use Rattle.scheduler.specs.Board.{first_at}
use Rattle.scheduler.specs.Controller.{banks_of, excused, none_wait}
use Rattle.scheduler.proofs.First.{found, bank_is}
use Rattle.speed_bin.proofs.Tests.{both}

pub length-places : (log : List Step) → length (places log) ≡ length log
length-places [] = refl
length-places (step ∷ log) = ap (λ n. suc n) (length-places log)

pub at_least : (n : ℕ) → 8 ≤ n → nat_le 8 n ≡ true
at_least n h = search rules

-- ---- Requests of the queue

pub not_empty : (ws : List Waiting) (at : ℕ) (w : Waiting) → slice_get ws at ≡ Some w → ws ≡ [] → ⊥
not_empty [] at w e f = cc
not_empty (v ∷ ws) at w e f = cc

pub some_long : (ws : List Waiting) (at : ℕ) (w : Waiting) → slice_get ws at ≡ Some w → none_wait ws ≡ false
some_long [] at w e = cc
some_long (v ∷ ws) at w e = refl

-- the bank of the request, and its open row
pub record Hit (ws : List Waiting) (b : ℕ) (o : Option ℕ) (w : Waiting) : Type 0 where
  pub bank : bank_number w.place.bank ≡ b
  pub row : o ≡ Some w.place.row
  pub oldest_hit : oldest (hits b o) ws ≡ Some w

row_is : (o : Option ℕ) (row : ℕ) → is_row o row ≡ true → o ≡ Some row
row_is None row e = cc
row_is (Some r) row e = ap (λ (n : ℕ). Some n) (eqb-true r row e)

pub hit_of : (ws : List Waiting) (b at : ℕ) (o : Option ℕ) (w : Waiting) → first_at (hits b o) ws ≡ Some at → slice_get ws at ≡ Some w → Hit ws b o w
hit_of ws b at o w e f =
    let k = found (hits b o) ws at e in
    let g : k.request ≡ w = cc (k.here, f) in
    let h = both (in_bank b w) (is_row o w.place.row) (subst (λ (x : Waiting). hits b o x ≡ true) g k.holds) in
    record { bank = bank_is b w h.0; row = row_is o w.place.row h.1; oldest_hit = subst (λ (x : Waiting). oldest (hits b o) ws ≡ Some x) g k.first }

pub record First (ws : List Waiting) (b : ℕ) (w : Waiting) : Type 0 where
  pub bank : bank_number w.place.bank ≡ b
  pub oldest_of : oldest (in_bank b) ws ≡ Some w

pub first_of : (ws : List Waiting) (b at : ℕ) (w : Waiting) → first_at (in_bank b) ws ≡ Some at → slice_get ws at ≡ Some w → First ws b w
first_of ws b at w e f =
    let k = found (in_bank b) ws at e in
    let g : k.request ≡ w = cc (k.here, f) in
    record { bank = bank_is b w (subst (λ (x : Waiting). in_bank b x ≡ true) g k.holds); oldest_of = subst (λ (x : Waiting). oldest (in_bank b) ws ≡ Some x) g k.first }

-- ---- What the deadlines ask of the banks of the waiting requests

record Cut (ws : List Waiting) (at : ℕ) (w : Waiting) : Type 0 where
  older : List ℕ
  newer : List ℕ
  before : banks_of ws ≡ older ++ (bank_number w.place.bank ∷ newer)
  left : banks_of (remove ws at) ≡ older ++ newer

cut : (ws : List Waiting) (at : ℕ) (w : Waiting) → slice_get ws at ≡ Some w → Cut ws at w
cut [] at w e = cc
cut (v ∷ ws) zero w e = let f : v ≡ w = cc in record { older = []; newer = banks_of ws; before = ap (λ (x : Waiting). bank_number x.place.bank ∷ banks_of ws) f; left = refl }
cut (v ∷ ws) (suc at) w e = let k = cut ws at w e in record { older = bank_number v.place.bank ∷ k.older; newer = k.newer; before = ap (λ bs. bank_number v.place.bank ∷ bs) k.before; left = ap (λ bs. bank_number v.place.bank ∷ bs) k.left }

column_covers : (kind : Kind) (place : Place) → covers (column_for kind place) (bank_number place.bank) ≡ true
column_covers Read place = eq-eqb (bank_number place.bank) (bank_number place.bank) refl
column_covers Write place = eq-eqb (bank_number place.bank) (bank_number place.bank) refl

pub takes_of : (ws : List Waiting) (at : ℕ) (w : Waiting) → slice_get ws at ≡ Some w → Takes (column_for w.request.kind w.place) (banks_of ws) (banks_of (remove ws at))
takes_of ws at w here = let k = cut ws at w here in record {
  bank = bank_number w.place.bank;
  older = k.older;
  newer = k.newer;
  covered = column_covers w.request.kind w.place;
  before = k.before;
  left = k.left;
}

pub has_of : (ws : List Waiting) (at : ℕ) (w : Waiting) → slice_get ws at ≡ Some w → has_request (banks_of ws) (bank_number w.place.bank) ≡ true
unfolding has_request
has_of [] at w e = cc
has_of (v ∷ ws) zero w e = let f : v ≡ w = cc in let g : (bank_number v.place.bank == bank_number w.place.bank) ≡ true = eq-eqb (bank_number v.place.bank) (bank_number w.place.bank) (ap (λ (x : Waiting). bank_number x.place.bank) f) in ap (λ t. t || has_request (banks_of ws) (bank_number w.place.bank)) g
has_of (v ∷ ws) (suc at) w e = go (bank_number v.place.bank == bank_number w.place.bank) (has_of ws at w e)
  where
    go : (t : Bool) → has_request (banks_of ws) (bank_number w.place.bank) ≡ true → (t || has_request (banks_of ws) (bank_number w.place.bank)) ≡ true
    go true h = refl
    go false h = h

-- ---- Columns

pub column_is : (kind : Kind) (place : Place) → is_column (column_for kind place) ≡ true
column_is Read place = refl
column_is Write place = refl

pub column_covers_bank : (kind : Kind) (place : Place) (b : ℕ) → bank_number place.bank ≡ b → covers (column_for kind place) b ≡ true
column_covers_bank Read place b e = eq-eqb (bank_number place.bank) b e
column_covers_bank Write place b e = eq-eqb (bank_number place.bank) b e

pub column_fits : (kind : Kind) (place : Place) (log : Log) (row : ℕ) → open_at (bank_number place.bank) log ≡ Some row → Fits (column_for kind place) log
column_fits Read place log row e = record { fourth = ap is_some e; fifth = refl }
column_fits Write place log row e = record { fourth = ap is_some e; fifth = refl }

pub column_spares : (kind : Kind) (place : Place) (log : Log) → SparesOwed (column_for kind place) log
column_spares Read place log = λ b low e. cc
column_spares Write place log = λ b low e. cc

pub column_ninth : (kind : Kind) (place : Place) (h : Header) (log : Log) → IsTrue (Rattle.speed_bin.specs.Rules.rule_9 h (column_for kind place) log)
column_ninth Read place h log = refl
column_ninth Write place h log = refl

pub column_tenth : (kind : Kind) (place : Place) (h : Header) (log : Log) → IsTrue (rule_10 h (column_for kind place) log)
column_tenth Read place h log = refl
column_tenth Write place h log = refl

pub column_twelfth : (kind : Kind) (place : Place) (h : Header) (clock : ℕ) (log : Log) → IsTrue (Rattle.speed_bin.specs.Rules.rule_12 h clock (column_for kind place) log)
column_twelfth Read place h clock log = refl
column_twelfth Write place h clock log = refl

pub column_fourteenth : (kind : Kind) (place : Place) (h : Header) (log : Log) → 8 ≤ length log → IsTrue (rule_14 h (column_for kind place) log)
column_fourteenth Read place h log started = at_least _ started
column_fourteenth Write place h log started = at_least _ started

pub column_chosen : (kind : Kind) (h : Header) (w : Waiting) (ws : List Waiting) (log : Log) (clock : ℕ) → w.request.kind ≡ kind → oldest (hits (bank_number w.place.bank) (open_at (bank_number w.place.bank) log)) ws ≡ Some w → IsChosen h ws log clock (column_for kind w.place) (Some w.id)
column_chosen Read h w ws log clock e g = record { request = w; oldest_hit = g; number = refl; kind_is = e; column_is = refl }
column_chosen Write h w ws log clock e g = record { request = w; oldest_hit = g; number = refl; kind_is = e; column_is = refl }

pub column_prompt : (kind : Kind) (place : Place) (h : Header) (from : ℕ) (log : Log) (clock : ℕ) → IsSoonest h log from (column_for kind place) clock → IsPrompt h from log clock (column_for kind place)
column_prompt Read place h from log clock s = s
column_prompt Write place h from log clock s = s

-- ---- Excuses

pub never_excused : (finished : Bool) (ws : List Waiting) (b at : ℕ) (w : Waiting) → slice_get ws at ≡ Some w → excused None finished ws b ≡ false
never_excused finished ws b at w here = go finished (none_wait ws) (some_long ws at w here)
  where
    go : (f t : Bool) → t ≡ false → (f && t) ≡ false
    go true t e = e
    go false t e = refl
