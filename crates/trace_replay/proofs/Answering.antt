-- The D lines that are due: those of the reads before which no request is unserved.
use Rattle.std.proofs.Common.{◌≡◌, ◌∙◌, ℕ, ◌+◌, ◌<◌, Bool, true, false, cond, Option, Some, None, List, [], ◌∷◌, ◌++◌, map, length, drop, refl, sym, ap, subst, arith, append_assoc, append-nil}
use Rattle.std.specs.List.{flat_map}
use Rattle.std.specs.Io.KnownBytes.{Appends}
use Rattle.std.proofs.KnownBytes.{Appends-trans, Appends-nil}
use Rattle.std.proofs.lemmas.Grind.{flat_map-append}
use Rattle.ddr_io.specs.Sink.{AppendsPrefix}
use Rattle.ddr_text.specs.Spelling.{spelled}
use Rattle.ddr_text.specs.declared.lines.TraceLine.{TraceLine}
use Rattle.ddr_text.specs.declared.lines.ReportLine.{ReportLine}
use Rattle.requests.specs.declared.request.Kind.{Kind}
use Rattle.requests.specs.declared.request.Kind.TheVariants.{Read as Reads, Write as Writes}
use Rattle.speed_bin.specs.declared.header.Header.{Header}
use Rattle.reports.specs.Requests.{Request}
use Rattle.reports.specs.Runs.{Run, is_served, ready, held}
use Rattle.reports.specs.Readings.{reading_of}
use Rattle.reports.specs.Report.{answers}
use Rattle.trace_replay.specs.RequestBuffer.{Kept, first_served, has_ended, without_first}
use Rattle.trace_replay.specs.ReplayState.{outcome_of, kept_as, kept_of, lines_for, answer_lines}
use Rattle.trace_replay.specs.declared.request_buffer.HeldRequest.{HeldRequest}
use Rattle.ddr_text.proofs.Prefixes.{prefix-behind, prefix-longer}

-- these lines are written of the answers that are due, and these requests are kept still
pub record Remains (h : Header) (trace : List TraceLine) (run : Run) (before : ℕ) (rs : List Request) (kept : Kept) (old new : Option (List ℕ)) : Type 0 where
  pub taken : ℕ
  pub left : List Request
  pub done : List ReportLine
  pub is_kept : kept ≡ kept_of h trace run taken left
  pub total : taken + length (ready left run) ≡ before + length (ready rs run)
  pub still : held left run ≡ held rs run
  pub lines : answers h trace run (ready rs run) ≡ done ++ answers h trace run (ready left run)
  pub wrote : Appends old new (flat_map spelled done)

pub remains-all : (h : Header) (trace : List TraceLine) (run : Run) (before : ℕ) (rs : List Request) (kept : Kept) (old : Option (List ℕ)) → kept ≡ kept_of h trace run before rs → Remains h trace run before rs kept old old
remains-all h trace run before rs kept old e = record { taken = before; left = rs; done = []; is_kept = e; total = refl; still = refl; lines = refl; wrote = Appends-nil old }

-- ---- The first one

-- what is due begins with the D line of the first one
answers-one : (h : Header) (trace : List TraceLine) (run : Run) (number line : ℕ) (kind : Kind) (rs : List Request) → is_served number run ≡ true
    → answers h trace run (record { number = number; line = line; kind = kind } ∷ rs) ≡ answer_lines (kept_as h trace run (record { number = number; line = line; kind = kind })) ++ answers h trace run rs
answers-one h trace run number line Reads rs e = ap (λ b. lines_for number line (outcome_of Reads b (reading_of h trace run (record { number = number; line = line; kind = Reads }))) ++ answers h trace run rs) (sym e)
answers-one h trace run number line Writes rs e = ap (λ b. lines_for number line (outcome_of Writes b (reading_of h trace run (record { number = number; line = line; kind = Writes }))) ++ answers h trace run rs) (sym e)

-- it is served exactly where something came of it
ended-is : (h : Header) (trace : List TraceLine) (run : Run) (number line : ℕ) (kind : Kind) → has_ended (kept_as h trace run (record { number = number; line = line; kind = kind })).outcome ≡ is_served number run
ended-is h trace run number line kind = go kind (is_served number run)
  where
    go : (k : Kind) (b : Bool) → has_ended (outcome_of k b (reading_of h trace run (record { number = number; line = line; kind = kind }))) ≡ b
    go k false = refl
    go Reads true = refl
    go Writes true = refl

first-of : (h : Header) (trace : List TraceLine) (run : Run) (r : Request) (rs : List Request) (b : Bool) → is_served r.number run ≡ b → first_served (map (kept_as h trace run) (r ∷ rs)) ≡ cond b (Some (kept_as h trace run r)) None
first-of h trace run r rs b e = ap (λ t. cond t (Some (kept_as h trace run r)) None) (ended-is h trace run r.number r.line r.kind ∙ e)

-- the first one is taken out, and its D line is written
remains-served : (h : Header) (trace : List TraceLine) (run : Run) (before : ℕ) (rs : List Request) (kept : Kept) (old mid new : Option (List ℕ)) (r : Request) (rest : List Request) (m : Remains h trace run before rs kept old mid) → m.left ≡ r ∷ rest → is_served r.number run ≡ true
    → Appends mid new (flat_map spelled (answer_lines (kept_as h trace run r))) → Remains h trace run before rs (without_first kept) old new
remains-served h trace run before rs kept old mid new r rest m e s w =
    let due : ready m.left run ≡ r ∷ ready rest run = ap (λ l. ready l run) e ∙ ap (λ b. cond b (r ∷ ready rest run) []) s in
    let others : held m.left run ≡ held rest run = ap (λ l. held l run) e ∙ ap (λ b. cond b (held rest run) (r ∷ rest)) s in
    let many : length (ready m.left run) ≡ length (ready rest run) + 1 = ap length due ∙ omega arith in
    record {
      taken = m.taken + 1;
      left = rest;
      done = m.done ++ answer_lines (kept_as h trace run r);
      is_kept = ap without_first (m.is_kept ∙ ap (kept_of h trace run m.taken) e);
      total = omega (arith, many, m.total);
      still = sym others ∙ m.still;
      lines = m.lines ∙ ap (λ l. m.done ++ answers h trace run l) due ∙ ap (λ l. m.done ++ l) (answers-one h trace run r.number r.line r.kind (ready rest run) s)
          ∙ sym (append_assoc m.done (answer_lines (kept_as h trace run r)) (answers h trace run (ready rest run)));
      wrote = subst (Appends old new) (sym (flat_map-append spelled m.done (answer_lines (kept_as h trace run r)))) (Appends-trans old mid new (flat_map spelled m.done) (flat_map spelled (answer_lines (kept_as h trace run r))) m.wrote w);
    }

-- the D line of the first one is cut off
cut-served : (h : Header) (trace : List TraceLine) (run : Run) (before : ℕ) (rs : List Request) (kept : Kept) (old mid new : Option (List ℕ)) (r : Request) (rest : List Request) (m : Remains h trace run before rs kept old mid) → m.left ≡ r ∷ rest → is_served r.number run ≡ true
    → AppendsPrefix mid new (flat_map spelled (answer_lines (kept_as h trace run r))) → AppendsPrefix old new (flat_map spelled (answers h trace run (ready rs run)))
cut-served h trace run before rs kept old mid new r rest m e s w =
    let due : ready m.left run ≡ r ∷ ready rest run = ap (λ l. ready l run) e ∙ ap (λ b. cond b (r ∷ ready rest run) []) s in
    let first = flat_map spelled m.done in
    let here = flat_map spelled (answer_lines (kept_as h trace run r)) in
    let behind = flat_map spelled (answers h trace run (ready rest run)) in
    let all : flat_map spelled (answers h trace run (ready rs run)) ≡ (first ++ here) ++ behind
    = ap (flat_map spelled) (m.lines ∙ ap (λ l. m.done ++ answers h trace run l) due ∙ ap (λ l. m.done ++ l) (answers-one h trace run r.number r.line r.kind (ready rest run) s))
    ∙ flat_map-append spelled m.done (answer_lines (kept_as h trace run r) ++ answers h trace run (ready rest run))
    ∙ ap (λ l. first ++ l) (flat_map-append spelled (answer_lines (kept_as h trace run r)) (answers h trace run (ready rest run)))
    ∙ sym (append_assoc first here behind) in
    subst (AppendsPrefix old new) (sym all) (prefix-longer old new (first ++ here) behind (prefix-behind old mid new first here m.wrote w))

-- ---- By what was taken out

-- what was taken out is the first of those that are left, which is served
pub record IsFirst (h : Header) (trace : List TraceLine) (run : Run) (left : List Request) (it : HeldRequest) : Type 0 where
  pub r : Request
  pub rest : List Request
  pub splits : left ≡ r ∷ rest
  pub served : is_served r.number run ≡ true
  pub is : kept_as h trace run r ≡ it

is-first : (h : Header) (trace : List TraceLine) (run : Run) (left : List Request) (it : HeldRequest) → first_served (map (kept_as h trace run) left) ≡ Some it → IsFirst h trace run left it
is-first h trace run [] it e = cc
is-first h trace run (r ∷ rest) it e = go (is_served r.number run) refl
  where
    go : (b : Bool) → is_served r.number run ≡ b → IsFirst h trace run (r ∷ rest) it
    go true s = let k : Some (kept_as h trace run r) ≡ Some it = sym (first-of h trace run r rest true s) ∙ e in record { r = r; rest = rest; splits = refl; served = s; is = cc }
    go false s = let k : None ≡ Some it = sym (first-of h trace run r rest false s) ∙ e in cc

none-first : (h : Header) (trace : List TraceLine) (run : Run) (left : List Request) → first_served (map (kept_as h trace run) left) ≡ None → (ready left run ≡ []) × (held left run ≡ left)
none-first h trace run [] e = (refl, refl)
none-first h trace run (r ∷ rest) e = go (is_served r.number run) refl
  where
    go : (b : Bool) → is_served r.number run ≡ b → (ready (r ∷ rest) run ≡ []) × (held (r ∷ rest) run ≡ r ∷ rest)
    go true s = let k : Some (kept_as h trace run r) ≡ None = sym (first-of h trace run r rest true s) ∙ e in cc
    go false s = (ap (λ b. cond b (r ∷ ready rest run) []) s, ap (λ b. cond b (held rest run) (r ∷ rest)) s)

pub remains-next : (h : Header) (trace : List TraceLine) (run : Run) (before : ℕ) (rs : List Request) (kept : Kept) (old mid new : Option (List ℕ)) (it : HeldRequest) → Some it ≡ first_served kept.items → Remains h trace run before rs kept old mid
    → Appends mid new (flat_map spelled (answer_lines it)) → Remains h trace run before rs (without_first kept) old new
remains-next h trace run before rs kept old mid new it e m w =
    let f = is-first h trace run m.left it (sym (e ∙ ap (λ (k : Kept). first_served k.items) m.is_kept)) in
    remains-served h trace run before rs kept old mid new f.r f.rest m f.splits f.served (subst (λ (v : HeldRequest). Appends mid new (flat_map spelled (answer_lines v))) (sym f.is) w)

pub remains-cut : (h : Header) (trace : List TraceLine) (run : Run) (before : ℕ) (rs : List Request) (kept : Kept) (old mid new : Option (List ℕ)) (it : HeldRequest) → Some it ≡ first_served kept.items → Remains h trace run before rs kept old mid
    → AppendsPrefix mid new (flat_map spelled (answer_lines it)) → AppendsPrefix old new (flat_map spelled (answers h trace run (ready rs run)))
remains-cut h trace run before rs kept old mid new it e m w =
    let f = is-first h trace run m.left it (sym (e ∙ ap (λ (k : Kept). first_served k.items) m.is_kept)) in
    cut-served h trace run before rs kept old mid new f.r f.rest m f.splits f.served (subst (λ (v : HeldRequest). AppendsPrefix mid new (flat_map spelled (answer_lines v))) (sym f.is) w)

pub remains-kept : (h : Header) (trace : List TraceLine) (run : Run) (before : ℕ) (rs : List Request) (kept : Kept) (old new : Option (List ℕ)) → None ≡ first_served kept.items → Remains h trace run before rs kept old new
    → kept ≡ kept_of h trace run (before + length (ready rs run)) (held rs run)
remains-kept h trace run before rs kept old new e m =
    let n = none-first h trace run m.left (sym (e ∙ ap (λ (k : Kept). first_served k.items) m.is_kept)) in
    let many : m.taken ≡ before + length (ready rs run) = let k : length (ready m.left run) ≡ 0 = ap length n.0 in omega (arith, k, m.total) in
    m.is_kept ∙ ap (λ n. kept_of h trace run n m.left) many ∙ ap (kept_of h trace run (before + length (ready rs run))) (sym n.1 ∙ m.still)

pub remains-wrote : (h : Header) (trace : List TraceLine) (run : Run) (before : ℕ) (rs : List Request) (kept : Kept) (old new : Option (List ℕ)) → None ≡ first_served kept.items → Remains h trace run before rs kept old new
    → Appends old new (flat_map spelled (answers h trace run (ready rs run)))
remains-wrote h trace run before rs kept old new e m =
    let n = none-first h trace run m.left (sym (e ∙ ap (λ (k : Kept). first_served k.items) m.is_kept)) in
    let all : answers h trace run (ready rs run) ≡ m.done = m.lines ∙ ap (λ l. m.done ++ answers h trace run l) n.0 ∙ append-nil m.done in
    subst (λ l. Appends old new (flat_map spelled l)) (sym all) m.wrote

-- less is kept
pub fewer-kept : (kept : Kept) (it : HeldRequest) → Some it ≡ first_served kept.items → length (drop 1 kept.items) < length kept.items
fewer-kept kept it e = go kept.items e
  where
    go : (items : List HeldRequest) → Some it ≡ first_served items → length (drop 1 items) < length items
    go [] k = cc
    go (x ∷ xs) k = omega arith
