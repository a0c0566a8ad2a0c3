-- A job that is written line by line.
use Rattle.std.proofs.Common.{◌≡◌, ◌∙◌, ℕ, suc, ◌+◌, ◌-◌, ◌<◌, Option, List, ◌++◌, refl, sym, ap, subst, arith, append-nil, append_assoc, zero-add}
use Rattle.std.specs.List.{flat_map}
use Rattle.std.specs.Io.KnownBytes.{Appends}
use Rattle.std.proofs.KnownBytes.{Appends-trans}
use Rattle.ddr_io.specs.Sink.{AppendsPrefix}
use Rattle.ddr_text.specs.declared.lines.TraceLine.{TraceLine}
use Rattle.ddr_text.proofs.Prefixes.{prefix-behind, prefix-longer}
use Rattle.made_jobs.specs.Made.{Drawing, start, drawn, drawn_trace, made_trace, made, opening, header_text, header_lines}
use Rattle.made_jobs.specs.TraceText.{spelled_line}
use Rattle.made_jobs.specs.declared.write.TheConstants.{OPENING}

-- the constant is the header's lines and the line that ends it
pub opening_is : OPENING.now ≡ opening
unfolding opening header_text header_lines
opening_is = refl

-- the bytes that were written after i requests, and that those that are left make the job whole
pub record Written (seed requests i : ℕ) (d : Drawing) (before now : Option (List ℕ)) : Type 0 where
  pub done : List ℕ
  pub written : Appends before now done
  pub left : (n : ℕ) → i + n ≡ requests → done ++ flat_map spelled_line (drawn_trace n d) ≡ made seed requests

-- one line more
one-more : (done : List ℕ) (n : ℕ) (d : Drawing) → (done ++ spelled_line (drawn d).0) ++ flat_map spelled_line (drawn_trace n (drawn d).1) ≡ done ++ flat_map spelled_line (drawn_trace (suc n) d)
unfolding drawn_trace
one-more done n d = append_assoc done (spelled_line (drawn d).0) (flat_map spelled_line (drawn_trace n (drawn d).1))

pub written-none : (seed requests : ℕ) (before now : Option (List ℕ)) → Appends before now opening → Written seed requests 0 (start seed) before now
unfolding made made_trace
written-none seed requests before now h = record {
  done = opening;
  written = h;
  left = λ n all. ap (λ k. opening ++ flat_map spelled_line (drawn_trace k (start seed))) (sym (zero-add n) ∙ all);
}

pub written-more : (seed requests i : ℕ) (d next : Drawing) (line : TraceLine) (before now later : Option (List ℕ)) → Written seed requests i d before now → line ≡ (drawn d).0 → next ≡ (drawn d).1 → Appends now later (spelled_line line) → Written seed requests (i + 1) next before later
written-more seed requests i d next line before now later w is behind h = record {
  done = w.done ++ spelled_line (drawn d).0;
  written = Appends-trans before now later w.done (spelled_line (drawn d).0) w.written (subst (λ (l : TraceLine). Appends now later (spelled_line l)) is h);
  left = λ n all.
      let more : i + suc n ≡ requests = omega arith in
      ap (λ (e : Drawing). (w.done ++ spelled_line (drawn d).0) ++ flat_map spelled_line (drawn_trace n e)) behind ∙ one-more w.done n d ∙ w.left (suc n) more;
}

pub written-cut : (seed requests i : ℕ) (d : Drawing) (line : TraceLine) (before now later : Option (List ℕ)) → Written seed requests i d before now → i < requests → line ≡ (drawn d).0 → AppendsPrefix now later (spelled_line line) → AppendsPrefix before later (made seed requests)
written-cut seed requests i d line before now later w low is cut =
    let n = requests - suc i in
    let more : i + suc n ≡ requests = omega arith in
    let first = w.done ++ spelled_line (drawn d).0 in
    let here : AppendsPrefix now later (spelled_line (drawn d).0) = subst (λ (l : TraceLine). AppendsPrefix now later (spelled_line l)) is cut in
    subst (AppendsPrefix before later) (one-more w.done n d ∙ w.left (suc n) more)
    (prefix-longer before later first (flat_map spelled_line (drawn_trace n (drawn d).1)) (prefix-behind before now later w.done (spelled_line (drawn d).0) w.written here))

pub written-all : (seed requests i : ℕ) (d : Drawing) (before now : Option (List ℕ)) → Written seed requests i d before now → i ≡ requests → Appends before now (made seed requests)
unfolding drawn_trace
written-all seed requests i d before now w all =
    subst (Appends before now) (sym (append-nil w.done) ∙ w.left 0 (omega arith)) w.written

pub opening-cut : (seed requests : ℕ) (before now : Option (List ℕ)) → AppendsPrefix before now opening → AppendsPrefix before now (made seed requests)
unfolding made
opening-cut seed requests before now cut = prefix-longer before now opening (flat_map spelled_line (made_trace seed requests)) cut
