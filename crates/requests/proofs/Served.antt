-- What a waiting request is, and which line a column serves.
use Rattle.std.proofs.Common.{◌≡◌, ◌∙◌, ℕ, zero, suc, ◌+◌, ◌-◌, ◌*◌, ◌/◌, ◌%◌, ◌<◌, not, Bool, true, false, cond, Option, Some, None, List, [], ◌∷◌, length, slice_get, refl, sym, ap, subst, arith, eqb-true, inl, inr}
use Rattle.command_words.specs.Command.{bank_number, IsBank}
use Rattle.command_words.specs.Geometry.{Shape, IsGroups, lines_of}
use Rattle.command_words.specs.Place.{place_of, IsInside}
use Rattle.command_words.specs.declared.place.Bank.{Bank}
use Rattle.command_words.specs.declared.geometry.Place.{Place}
use Rattle.command_words.specs.declared.command.Command.{Command}
use Rattle.speed_bin.specs.Log.{Log, open_at}
use Rattle.speed_bin.specs.declared.header.Header.{Header}
use Rattle.speed_bin.proofs.Tests.{both}
use Rattle.requests.specs.declared.request.Kind.{Kind}
use Rattle.requests.specs.declared.request.Kind.TheVariants.{Read, Write}
use Rattle.requests.specs.declared.request.Request.{Request}
use Rattle.requests.specs.declared.waiting.Waiting.{Waiting}
use Rattle.requests.specs.Queue.{Step, places, waiting, numbered, in_bank, hits, oldest, is_served, AreInside}
use Rattle.speed_bin.specs.Header.{shape_of}
use Rattle.speed_bin.specs.Counters.{is_row}
use Rattle.requests.specs.Choice.{column_for}
use Rattle.requests.specs.Order.{IsInOrder, Serves, IsServing}
use Rattle.requests.specs.Requested.{IsQueued}
use Rattle.requests.proofs.Oldest.{holds}
use Rattle.requests.proofs.Queue.{rising-waiting, rising-at, unserved, Stands, filtered-stands}
use Rattle.requests.proofs.Order.{placed-waiting, its_line}
use Rattle.requests.proofs.Serving.{served_before}

-- ---- Numbers of places

-- the parts of a line's number, with so many groups
record Parts (k : ℕ) : Type 0 where
  -- a line's number is made of its parts
  line_back : (n g a r c : ℕ) → g ≡ n % k → a ≡ n / k % 4 → r ≡ n / k / 4 / 64 → c ≡ n / k / 4 % 64 → ((r * 64 + c) * 4 + a) * k + g ≡ n
  row_inside : (n rows : ℕ) → n < rows * 256 * k → n / k / 4 / 64 < rows
  bank_inside : (n : ℕ) → n % k * 4 + n / k % 4 < 32
  bank_own : (n : ℕ) → n % k * 4 + n / k % 4 < k * 4
  address_inside : (n : ℕ) → n / k % 4 < 4
  group_inside : (n : ℕ) → n % k < k
  group_few : (n : ℕ) → n % k < 8

of_four : Parts 4
of_four = record {
  line_back = λ n g a r c p q s t. omega (arith, p, q, s, t);
  row_inside = λ n rows h. omega (arith, h);
  bank_inside = λ n. omega arith;
  bank_own = λ n. omega arith;
  address_inside = λ n. omega arith;
  group_inside = λ n. omega arith;
  group_few = λ n. omega arith;
}

of_eight : Parts 8
of_eight = record {
  line_back = λ n g a r c p q s t. omega (arith, p, q, s, t);
  row_inside = λ n rows h. omega (arith, h);
  bank_inside = λ n. omega arith;
  bank_own = λ n. omega arith;
  address_inside = λ n. omega arith;
  group_inside = λ n. omega arith;
  group_few = λ n. omega arith;
}

parts : (k : ℕ) → IsGroups k → Parts k
parts k (inl e) = subst Parts (sym e) of_four
parts k (inr e) = subst Parts (sym e) of_eight

groups_same : (g a k b : ℕ) → a < 4 → b < 4 → g * 4 + a ≡ k * 4 + b → g ≡ k
groups_same g a k b p q e = omega (arith, p, q, e)

addresses_same : (g a k b : ℕ) → a < 4 → b < 4 → g * 4 + a ≡ k * 4 + b → a ≡ b
addresses_same g a k b p q e = omega (arith, p, q, e)

-- ---- A request of the queue

pub record Numbered (h : Header) (n : ℕ) (rs : List Request) (at : ℕ) (w : Waiting) : Type 0 where
  pub offers : slice_get rs at ≡ Some w.request
  pub number : w.id ≡ n + at
  pub placed : w.place ≡ place_of w.request.line (shape_of h)

numbered-at : (h : Header) (n : ℕ) (rs : List Request) (at : ℕ) (w : Waiting) → slice_get (numbered h n rs) at ≡ Some w → Numbered h n rs at w
numbered-at h n [] at w e = cc
numbered-at h n (r ∷ rs) zero w e = record {
  offers = ap (λ (o : Option Waiting). request_of o) e;
  number = ap (λ (o : Option Waiting). number_of n o) (sym e) ∙ (omega arith);
  placed = ap (λ (o : Option Waiting). place_in r o) (sym e) ∙ ap (λ (o : Option Waiting). line_in h r o) e;
}
  where
    request_of : Option Waiting → Option Request
    request_of None = None
    request_of (Some v) = Some v.request

    number_of : ℕ → Option Waiting → ℕ
    number_of m None = m
    number_of m (Some v) = v.id

    place_in : Request → Option Waiting → Place
    place_in q None = place_of q.line (shape_of h)
    place_in q (Some v) = v.place

    line_in : Header → Request → Option Waiting → Place
    line_in g q None = place_of q.line (shape_of g)
    line_in g q (Some v) = place_of v.request.line (shape_of g)
numbered-at h n (r ∷ rs) (suc at) w e =
    let k = numbered-at h (n + 1) rs at w e in
    record { offers = k.offers; number = (let i = k.number in omega (arith, i)); placed = k.placed }

inside-at : (h : Header) (rs : List Request) (at : ℕ) (r : Request) → AreInside h rs → slice_get rs at ≡ Some r → r.line < lines_of (shape_of h)
inside-at h [] at r i e = cc
inside-at h (q ∷ rs) zero r i e = let k : q ≡ r = cc in subst (λ (x : Request). x.line < lines_of (shape_of h)) k i.0
inside-at h (q ∷ rs) (suc at) r i e = inside-at h rs at r i.1 e

pub waits_lem : (h : Header) (offered : List Request) (log : List Step) (at : ℕ) (w : Waiting) → IsGroups h.version.groups → AreInside h offered → slice_get (waiting h offered log) at ≡ Some w → IsQueued h offered log w
waits_lem h offered log at w groups inside here =
    let p = parts h.version.groups groups in
    let rise = rising-at 1 (length offered + 1) (waiting h offered log) at w (rising-waiting h offered log) here in
    let s = filtered-stands (λ v. not (is_served v.id log)) (numbered h 1 offered) at w here in
    let n = numbered-at h 1 offered s.index w s.here in
    let index : s.index ≡ w.id - 1 = (let i = n.number in omega (arith, i)) in
    let low = inside-at h offered s.index w.request inside n.offers in
    record {
      from = rise.from;
      upto = (let b = rise.below in omega (arith, b));
      offers = subst (λ (i : ℕ). slice_get offered i ≡ Some w.request) index n.offers;
      unserved = unserved h offered log at w here;
      placed = n.placed;
      inside = subst (λ (p : Place). IsInside p (shape_of h)) (sym n.placed) (record { row = p.row_inside w.request.line h.settings.rows low; group = p.group_inside w.request.line });
      bank = subst (λ (p : Place). bank_number p.bank < 32) (sym n.placed) (p.bank_inside w.request.line);
      own = subst (λ (q : Place). bank_number q.bank < h.version.groups * 4) (sym n.placed) (p.bank_own w.request.line);
    }

-- ---- What a column serves

pub oldest-stands : (test : Waiting → Bool) (ws : List Waiting) (w : Waiting) → oldest test ws ≡ Some w → Stands ws w
oldest-stands test [] w e = cc
oldest-stands test (v ∷ ws) w e = go (test v) e (oldest-stands test ws w)
  where
    go : (t : Bool) → cond t (Some v) (oldest test ws) ≡ Some w → (oldest test ws ≡ Some w → Stands ws w) → Stands (v ∷ ws) w
    go true f ih = record { index = zero; here = f }
    go false f ih = let s = ih f in record { index = suc s.index; here = s.here }

row_is : (o : Option ℕ) (row : ℕ) → is_row o row ≡ true → o ≡ Some row
row_is None row e = cc
row_is (Some r) row e = ap (λ (n : ℕ). Some n) (eqb-true r row e)

-- the request at its place in the list, as the oldest hit of its bank
pub serves_at : (h : Header) (offered : List Request) (log : List Step) (at : ℕ) (w : Waiting) (kind : Kind) (bank : Bank) (column : ℕ) (id : Option ℕ) → IsGroups h.version.groups → AreInside h offered → IsInOrder h offered log → IsBank bank → slice_get (waiting h offered log) at ≡ Some w → oldest (hits (bank_number bank) (open_at (bank_number bank) (places log))) (waiting h offered log) ≡ Some w → w.request.kind ≡ kind → w.place.column ≡ column → id ≡ Some w.id → Serves h offered log kind bank column id
serves_at h offered log at w kind bank column id groups inside order range here hit kind_is column_is is_id =
    let o = open_at (bank_number bank) (places log) in
    let p = parts h.version.groups groups in
    let k = h.version.groups in
    let q = waits_lem h offered log at w groups inside here in
    let meets = both (in_bank (bank_number bank) w) (is_row o w.place.row) (holds (hits (bank_number bank) o) (waiting h offered log) w hit) in
    let same : bank_number w.place.bank ≡ bank_number bank = eqb-true _ _ meets.0 in
    let n = w.request.line in
    let group : w.place.bank.group ≡ n % k = ap (λ (p : Place). p.bank.group) q.placed in
    let address : w.place.bank.address ≡ n / k % 4 = ap (λ (p : Place). p.bank.address) q.placed in
    let row : w.place.row ≡ n / k / 4 / 64 = ap (λ (p : Place). p.row) q.placed in
    let place_column : w.place.column ≡ n / k / 4 % 64 = ap (λ (p : Place). p.column) q.placed in
    let low : w.place.bank.address < 4 = subst (λ (a : ℕ). a < 4) (sym address) (p.address_inside n) in
    let g = groups_same bank.group bank.address w.place.bank.group w.place.bank.address range.address low (sym same) in
    let a = addresses_same bank.group bank.address w.place.bank.group w.place.bank.address range.address low (sym same) in
    record {
      number = w.id;
      is_id = is_id;
      from = q.from;
      upto = q.upto;
      request = w.request;
      offers = q.offers;
      kind_is = kind_is;
      row = w.place.row;
      is_open = row_is o w.place.row meets.1;
      line_is = p.line_back n bank.group bank.address w.place.row column (g ∙ group) (a ∙ address) row (sym column_is ∙ place_column);
      next = served_before h offered log at w order here (its_line (shape_of h) (waiting h offered log) (bank_number bank) o w (placed-waiting h offered log) hit);
    }

-- the bank of a place is in range
bank_of_line : (g : Shape) (w : Waiting) → IsGroups g.groups → w.place ≡ place_of w.request.line g → IsBank w.place.bank
bank_of_line g w e p = subst (λ (q : Place). IsBank q.bank) (sym p) (record { group = (parts g.groups e).group_few w.request.line; address = (parts g.groups e).address_inside w.request.line })

own_range : (h : Header) (offered : List Request) (log : List Step) (at : ℕ) (w : Waiting) → IsGroups h.version.groups → AreInside h offered → slice_get (waiting h offered log) at ≡ Some w → IsBank w.place.bank
own_range h offered log at w groups inside here = let q = waits_lem h offered log at w groups inside here in bank_of_line (shape_of h) w groups q.placed

own_hit : (b : ℕ) (log : Log) (ws : List Waiting) (w : Waiting) → oldest (hits b (open_at b log)) ws ≡ Some w → oldest (hits (bank_number w.place.bank) (open_at (bank_number w.place.bank) log)) ws ≡ Some w
own_hit b log ws w hit =
    let own : bank_number w.place.bank ≡ b = eqb-true _ _ (both (in_bank b w) (is_row (open_at b log) w.place.row) (holds (hits b (open_at b log)) ws w hit)).0 in
    subst (λ (i : ℕ). oldest (hits i (open_at i log)) ws ≡ Some w) (sym own) hit

pub serving_at : (h : Header) (offered : List Request) (log : List Step) (at b : ℕ) (w : Waiting) (command : Command) → IsGroups h.version.groups → AreInside h offered → IsInOrder h offered log → slice_get (waiting h offered log) at ≡ Some w → oldest (hits b (open_at b (places log))) (waiting h offered log) ≡ Some w → command ≡ column_for w.request.kind w.place → IsServing h offered log command (Some w.id)
serving_at h offered log at b w command groups inside order here hit is =
    subst (λ (c : Command). IsServing h offered log c (Some w.id)) (sym is) (go w.request.kind refl)
  where
    go : (kind : Kind) → w.request.kind ≡ kind → IsServing h offered log (column_for kind w.place) (Some w.id)
    go Read e = serves_at h offered log at w Read w.place.bank w.place.column (Some w.id) groups inside order (own_range h offered log at w groups inside here) here (own_hit b (places log) (waiting h offered log) w hit) e refl refl
    go Write e = serves_at h offered log at w Write w.place.bank w.place.column (Some w.id) groups inside order (own_range h offered log at w groups inside here) here (own_hit b (places log) (waiting h offered log) w hit) e refl refl
