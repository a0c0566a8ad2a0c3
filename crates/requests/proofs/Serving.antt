-- Each column serves the next request of its line.
use Rattle.std.proofs.Common.{◌≡◌, ◌∙◌, ℕ, zero, suc, ◌+◌, ◌-◌, ◌<◌, ◌≤◌, ◌==◌, ◌&&◌, nat_lt, Bool, true, false, cond, Option, Some, None, List, [], ◌∷◌, ◌++◌, length, slice_get, refl, sym, ap, subst, arith, length-append}
use Rattle.std.specs.List.{filter, remove}
use Rattle.std.proofs.lemmas.List.Elements.{filter-append}
use Rattle.command_words.specs.declared.place.Bank.{Bank}
use Rattle.command_words.specs.declared.command.Command.{Command}
use Rattle.command_words.specs.declared.command.Command.TheVariants.{Rd, Wr}
use Rattle.speed_bin.specs.declared.header.Header.{Header}
use Rattle.speed_bin.proofs.Tests.{or_false}
use Rattle.requests.specs.declared.request.Kind.{Kind}
use Rattle.requests.specs.declared.request.Kind.TheVariants.{Read, Write}
use Rattle.requests.specs.declared.request.Request.{Request}
use Rattle.requests.specs.declared.waiting.Waiting.{Waiting}
use Rattle.requests.specs.Queue.{Step, numbered, waiting, waiting_as, is_number, is_served, oldest, is_of_line}
use Rattle.speed_bin.specs.Header.{shape_of}
use Rattle.requests.specs.Owed.{is_column}
use Rattle.requests.specs.Order.{served, earlier, Serves, IsServing, AllServing, IsInOrder}
use Rattle.requests.proofs.Queue.{Rising, rising-offered, rising-filter, rising-waiting, numbered-append}
use Rattle.requests.proofs.Order.{append-nil, filter-first, served-offer}
use Rattle.requests.proofs.Windows.{below, above, drops_all}

-- ---- Before a request of its line stand those with smaller numbers

filter-and : (p q : Waiting → Bool) (ws : List Waiting) → filter (λ w. p w && q w) ws ≡ filter q (filter p ws)
filter-and p q [] = refl
filter-and p q (w ∷ ws) = go (p w) (q w) refl refl (filter-and p q ws)
  where
    go : (a b : Bool) → p w ≡ a → q w ≡ b → filter (λ v. p v && q v) ws ≡ filter q (filter p ws) → cond (p w && q w) (w ∷ filter (λ v. p v && q v) ws) (filter (λ v. p v && q v) ws) ≡ filter q (cond (p w) (w ∷ filter p ws) (filter p ws))
    go true true e f ih = rw (e, f) (ap (λ vs. w ∷ vs) ih)
    go true false e f ih = rw (e, f) ih
    go false b e f ih = rw e ih

-- in a list of rising numbers, what stands behind has a greater number
rising-later : (n m : ℕ) (us vs : List Waiting) (w : Waiting) → Rising n m (us ++ w ∷ vs) → n ≤ w.id
rising-later n m [] vs w h = h.0
rising-later n m (u ∷ us) vs w h = let i = rising-later (u.id + 1) m us vs w h.2 in let a = h.0 in omega (arith, i, a)

filter-smaller : (n m : ℕ) (us vs : List Waiting) (w : Waiting) → Rising n m (us ++ w ∷ vs) → filter (λ v. nat_lt v.id w.id) (us ++ w ∷ vs) ≡ us
filter-smaller n m [] vs w h =
    ap (λ t. cond t (w ∷ filter (λ v. nat_lt v.id w.id) vs) (filter (λ v. nat_lt v.id w.id) vs)) (above w.id w.id (omega arith))
    ∙ drops_all (w.id + 1) m w.id vs h.2 (omega arith)
filter-smaller n m (u ∷ us) vs w h =
    let less : u.id < w.id = (let i = rising-later (u.id + 1) m us vs w h.2 in omega (arith, i)) in
    ap (λ t. cond t (u ∷ filter (λ v. nat_lt v.id w.id) (us ++ w ∷ vs)) (filter (λ v. nat_lt v.id w.id) (us ++ w ∷ vs))) (below u.id w.id less)
    ∙ ap (λ xs. u ∷ xs) (filter-smaller (u.id + 1) m us vs w h.2)

-- of its line exactly the requests before it were served
pub served_before : (h : Header) (offered : List Request) (log : List Step) (at : ℕ) (w : Waiting) → IsInOrder h offered log → slice_get (waiting h offered log) at ≡ Some w → oldest (is_of_line w.request.line) (waiting h offered log) ≡ Some w → filter (is_of_line w.request.line) (served h offered log) ≡ earlier h offered w.request.line w.id
served_before h offered log at w order here first =
    let test = is_of_line w.request.line in
    let m = length offered + 1 in
    let us = filter test (served h offered log) in
    let vs = filter test (remove (waiting h offered log) at) in
    let all : us ++ w ∷ vs ≡ filter test (numbered h 1 offered) = ap (λ xs. us ++ xs) (sym (filter-first test 1 m (waiting h offered log) at w (rising-waiting h offered log) here first)) ∙ order w.request.line in
    let rise : Rising 1 m (us ++ w ∷ vs) = subst (λ (xs : List Waiting). Rising 1 m xs) (sym all) (rising-filter test 1 m (numbered h 1 offered) (rising-offered h offered)) in
    sym (filter-smaller 1 m us vs w rise)
    ∙ ap (λ xs. filter (λ v. nat_lt v.id w.id) xs) all
    ∙ sym (filter-and test (λ v. nat_lt v.id w.id) (numbered h 1 offered))

-- ---- An offer changes nothing of it

get-more : (rs ss : List Request) (at : ℕ) (r : Request) → slice_get rs at ≡ Some r → slice_get (rs ++ ss) at ≡ Some r
get-more [] ss at r e = cc
get-more (q ∷ rs) ss zero r e = e
get-more (q ∷ rs) ss (suc at) r e = get-more rs ss at r e

false_and : (s t : Bool) → t ≡ false → (s && t) ≡ false
false_and true t e = e
false_and false t e = refl

earlier-offer : (h : Header) (offered : List Request) (r : Request) (line number : ℕ) → number ≤ length offered → earlier h (offered ++ r ∷ []) line number ≡ earlier h offered line number
earlier-offer h offered r line number low =
    let test : Waiting → Bool = λ w. is_of_line line w && nat_lt w.id number in
    let w = waiting_as (shape_of h) (length offered + 1) r in
    let id : length offered + 1 ≡ 1 + length offered = omega arith in
    let n : test w ≡ false = false_and (r.line == line) (nat_lt (length offered + 1) number) (above (length offered + 1) number (omega (arith, low))) in
    ap (λ ws. filter test ws) (numbered-append h 1 offered r (length offered + 1) id)
    ∙ filter-append test (numbered h 1 offered) (w ∷ [])
    ∙ ap (λ t. filter test (numbered h 1 offered) ++ cond t (w ∷ []) []) n
    ∙ append-nil (filter test (numbered h 1 offered))

serves-offer : (h : Header) (offered : List Request) (log : List Step) (r : Request) (kind : Kind) (bank : Bank) (column : ℕ) (id : Option ℕ) → is_served (length offered + 1) log ≡ false → Serves h offered log kind bank column id → Serves h (offered ++ r ∷ []) log kind bank column id
serves-offer h offered log r kind bank column id new s = record {
  number = s.number;
  is_id = s.is_id;
  from = s.from;
  upto = (let u = s.upto in let l = length-append offered (r ∷ []) in omega (arith, u, l));
  request = s.request;
  offers = get-more offered (r ∷ []) (s.number - 1) s.request s.offers;
  kind_is = s.kind_is;
  row = s.row;
  is_open = s.is_open;
  line_is = s.line_is;
  next = ap (λ ws. filter (is_of_line s.request.line) ws) (served-offer h offered log r new) ∙ s.next ∙ sym (earlier-offer h offered r s.request.line s.number s.upto);
}

serving-one : (h : Header) (offered : List Request) (log : List Step) (r : Request) (command : Command) (id : Option ℕ) → is_served (length offered + 1) log ≡ false → IsServing h offered log command id → IsServing h (offered ++ r ∷ []) log command id
serving-one h offered log r (Rd bank column) id new s = serves-offer h offered log r Read bank column id new s
serving-one h offered log r (Wr bank column) id new s = serves-offer h offered log r Write bank column id new s
serving-one h offered log r _ id new s = s

pub serving-offer : (h : Header) (offered : List Request) (log : List Step) (r : Request) → is_served (length offered + 1) log ≡ false → AllServing h offered log → AllServing h (offered ++ r ∷ []) log
serving-offer h offered [] r new s = tt
serving-offer h offered (step ∷ log) r new s =
    let p = or_false (is_number (length offered + 1) step.id) (is_served (length offered + 1) log) new in
    (serving-offer h offered log r p.1 s.0, serving-one h offered log r step.issued.command step.id p.1 s.1)

-- ---- A command that is no column

pub serving-none : (h : Header) (offered : List Request) (log : List Step) (command : Command) → is_column command ≡ false → IsServing h offered log command None
serving-none h offered log (Rd bank column) f = cc
serving-none h offered log (Wr bank column) f = cc
serving-none h offered log _ f = refl
