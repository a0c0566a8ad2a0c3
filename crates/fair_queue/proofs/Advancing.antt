-- What was read on the way of a merge, and what holds whatever follows it.
use Rattle.std.proofs.Common.{◌≡◌, ℕ, Option, Some, None, List, [], ◌∷◌, ◌++◌, refl, sym, ap, ◌∙◌, subst, append_assoc}
use Rattle.std.specs.Io.KnownBytes.{Consumes}
use Rattle.std.proofs.KnownBytes.{Consumes-nil, Consumes-trans}
use Rattle.fair_queue.specs.Merging.{Tells}
use Rattle.fair_queue.specs.Reading.{Advances, EndsAt, EndsWith, MayFollow}
use Rattle.fair_queue.specs.declared.port_lines.Ahead.{Ahead}
use Rattle.fair_queue.specs.declared.port_lines.Ahead.TheVariants.{Unknown, Waits, Bad, End}

-- ---- The ends differ

pub no-end-unknown : (ahead : Ahead) → ahead ≡ Unknown → ahead ≡ End → ⊥
no-end-unknown ahead is e = let f : Unknown ≡ End = sym is ∙ e in cc

pub no-end-waits : (ahead : Ahead) (port : ℕ) → ahead ≡ Waits port → ahead ≡ End → ⊥
no-end-waits ahead port is e = let f : Waits port ≡ End = sym is ∙ e in cc

pub no-end-bad : (ahead : Ahead) → ahead ≡ Bad → ahead ≡ End → ⊥
no-end-bad ahead is e = let f : Bad ≡ End = sym is ∙ e in cc

-- ---- One step behind the other

nothing-first : (xs ys : List ℕ) → xs ≡ [] → ys ≡ [] → xs ++ ys ≡ []
nothing-first xs ys e f = ap (λ l. l ++ ys) e ∙ f

none-follows : (left later : Option (List ℕ)) (taken more : List ℕ) → Consumes left later taken → left ≡ Some [] → (later ≡ Some [] → more ≡ []) → taken ++ more ≡ []
none-follows None later taken more took e f = let g : None ≡ Some [] = e in cc
none-follows (Some xs) None taken more took e f = absurd took
none-follows (Some xs) (Some ys) taken more took e f = let none : xs ≡ [] = cc in go taken ys (sym took ∙ none) f
  where
    go : (front back : List ℕ) → front ++ back ≡ [] → (Some back ≡ Some [] → more ≡ []) → front ++ more ≡ []
    go [] back n g = g (ap (λ l. Some l) n)
    go (x ∷ front) back n g = cc

-- what may follow the second step may follow the first, behind what the second took
follows-both : (mid new : Ahead) (left later : Option (List ℕ)) (taken more : List ℕ) → Consumes left later taken → (mid ≡ End → (taken ≡ []) × (new ≡ End)) → MayFollow new later more → MayFollow mid left (taken ++ more)
follows-both mid new left later taken more took over may = (λ e. nothing-first taken more (over e).0 (may.0 (over e).1), λ e. none-follows left later taken more took e may.1)

pub advances : (old mid new : Ahead) (before between after : Option (List ℕ)) (P Q R : List ℕ → List ℕ → Type 0) → Advances old mid before between P → Advances mid new between after Q
    → ((first second last : List ℕ) → P first second → Q second last → R first last) → Advances old new before after R
advances old mid new before between after P Q R p q join = record {
  taken = p.taken ++ q.taken;
  took = Consumes-trans before between after p.taken q.taken p.took q.took;
  over = λ e. (nothing-first p.taken q.taken (p.over e).0 (q.over (p.over e).1).0, (q.over (p.over e).1).1);
  holds = λ more may. subst (λ l. R l more) (sym (append_assoc p.taken q.taken more))
      (join (p.taken ++ (q.taken ++ more)) (q.taken ++ more) more (p.holds (q.taken ++ more) (follows-both mid new between after q.taken more q.took q.over may)) (q.holds more may));
}

-- nothing was read
pub advances-none : (ahead : Ahead) (left : Option (List ℕ)) (P : List ℕ → List ℕ → Type 0) → ((bytes : List ℕ) → P bytes bytes) → Advances ahead ahead left left P
advances-none ahead left P h = record { taken = []; took = Consumes-nil left; over = λ e. (refl, e); holds = λ more may. h more }

-- what holds of the bytes is told in other words
pub advances-so : (old new : Ahead) (before after : Option (List ℕ)) (P Q : List ℕ → List ℕ → Type 0) → Advances old new before after P
    → ((bytes rest : List ℕ) → MayFollow new after rest → P bytes rest → Q bytes rest) → Advances old new before after Q
advances-so old new before after P Q p f = record { taken = p.taken; took = p.took; over = p.over; holds = λ more may. f (p.taken ++ more) more may (p.holds more may) }

-- ---- What does follow

-- bytes that may follow: those that are left, or none, where these are not told
pub record Behind (start now : Option (List ℕ)) (ahead : Ahead) (taken : List ℕ) : Type 0 where
  pub rest : List ℕ
  pub may : MayFollow ahead now rest
  pub tells : Tells start (taken ++ rest)

end-left : (ahead : Ahead) (rest : List ℕ) → EndsWith ahead (Some rest) → ahead ≡ End → rest ≡ []
end-left ahead rest w e = let f : Some rest ≡ Some [] = subst (λ a. EndsWith a (Some rest)) e w in cc

pub behind : (start now : Option (List ℕ)) (ahead : Ahead) (taken : List ℕ) → Consumes start now taken → EndsAt start ahead now → Behind start now ahead taken
behind None now ahead taken took ends = record { rest = []; may = (λ e. refl, λ e. refl); tells = tt }
behind (Some bytes) None ahead taken took ends = absurd took
behind (Some bytes) (Some rest) ahead taken took ends = record { rest = rest; may = (end-left ahead rest ends, λ e. let f : Some rest ≡ Some [] = e in cc); tells = took }
