-- What one call of a reader of lines has taken from its source so far.
use Rattle.std.proofs.Common.{◌≡◌, ℕ, ◌≤◌, List, [], ◌++◌, length, sym, ap, ◌∙◌, subst, arith, append-nil, append_assoc, Option, Some, None, IfSome}
use Rattle.std.proofs.KnownBytes.{Consumes-nil, Consumes-trans, Consumes-kept}
use Rattle.std.specs.Io.KnownBytes.{Consumes, Keeps, IsAtEnd}
use Rattle.ddr_io.specs.Line.{HasNoFeed, StopsAt, TakesToFeed}
use Rattle.ddr_io.specs.declared.line_reader.Line.TheVariants.{Text, End, TooLong, Unended, Failed}

-- the reader held `start`, and holds `held` after some reads, before the last of which it had no line feed
pub record Pieces (start held : List ℕ) (left rest : Option (List ℕ)) : Type 0 where
  pub earlier : List ℕ
  pub last : List ℕ
  pub is : held ≡ start ++ earlier ++ last
  pub consumed : Consumes left rest (earlier ++ last)
  pub room : length last ≤ 4096
  pub clean : HasNoFeed start → HasNoFeed (start ++ earlier)

-- the same, opaque to the search for proofs
unfoldable pub Taken : List ℕ → List ℕ → Option (List ℕ) → Option (List ℕ) → Type 0
Taken start held left rest = Pieces start held left rest

-- nothing yet
pub Taken-none : (held : List ℕ) (left : Option (List ℕ)) → Taken held held left left
unfolding Taken
Taken-none held left = record {
  earlier = [];
  last = [];
  is = sym (append-nil (held ++ []) ∙ append-nil held);
  consumed = Consumes-nil left;
  room = omega arith;
  clean = λ clean. subst HasNoFeed (sym (append-nil held)) clean;
}

-- one more read, of a reader without a line feed
pub Taken-more : (start held more bs : List ℕ) (left mid rest : Option (List ℕ)) → Taken start held left mid → HasNoFeed held → more ≡ held ++ bs → length bs ≤ 4096 → Consumes mid rest bs → Taken start more left rest
unfolding Taken
Taken-more start held more bs left mid rest so_far clean added room consumed =
    let whole : held ≡ start ++ (so_far.earlier ++ so_far.last) = so_far.is ∙ append_assoc start so_far.earlier so_far.last in record {
      earlier = so_far.earlier ++ so_far.last;
      last = bs;
      is = added ∙ ap (λ l. l ++ bs) whole;
      consumed = Consumes-trans left mid rest (so_far.earlier ++ so_far.last) bs so_far.consumed consumed;
      room = room;
      clean = λ _. subst HasNoFeed whole clean;
    }

-- what was taken, where nothing is taken any more
pub Taken-end : (start held : List ℕ) (left mid rest : Option (List ℕ)) → Taken start held left mid → Keeps mid rest → HasNoFeed start → TakesToFeed start left rest
unfolding Taken TakesToFeed
Taken-end start held left mid rest so_far kept clean = (so_far.earlier, so_far.last, so_far.clean clean, so_far.room, Consumes-kept left mid rest (so_far.earlier ++ so_far.last) so_far.consumed kept)

-- what was taken
pub Taken-all : (start held : List ℕ) (left rest : Option (List ℕ)) → Taken start held left rest → HasNoFeed start → TakesToFeed start left rest
unfolding Taken TakesToFeed
Taken-all start held left rest so_far clean = (so_far.earlier, so_far.last, so_far.clean clean, so_far.room, so_far.consumed)

-- at the end of a source that told its bytes none is left
pub Taken-ended : (start held : List ℕ) (left mid rest : Option (List ℕ)) → Taken start held left mid → IsAtEnd mid → Keeps mid rest → IfSome left (λ _. IsAtEnd rest)
unfolding Taken
Taken-ended start held None mid rest so_far e kept = tt
Taken-ended start held (Some bytes) None rest so_far e kept = absurd so_far.consumed
Taken-ended start held (Some bytes) (Some more) None so_far e kept = absurd kept
Taken-ended start held (Some bytes) (Some more) (Some last) so_far e kept = kept ∙ e

-- what a reader of lines has where it stops
pub stops_at_end : (left rest : Option (List ℕ)) (held : List ℕ) → IfSome left (λ _. IsAtEnd rest) → StopsAt left held rest End
stops_at_end None rest held e = tt
stops_at_end (Some bytes) rest held e = e

pub stops_unended : (left rest : Option (List ℕ)) (held : List ℕ) → IfSome left (λ _. IsAtEnd rest) → StopsAt left held rest Unended
stops_unended None rest held e = tt
stops_unended (Some bytes) rest held e = e

pub stops_long : (left rest : Option (List ℕ)) (held : List ℕ) → 512 ≤ length held → StopsAt left held rest TooLong
stops_long None rest held long = tt
stops_long (Some bytes) rest held long = long

pub stops_failed : (left rest : Option (List ℕ)) (held : List ℕ) → StopsAt left held rest Failed
stops_failed None rest held = tt
stops_failed (Some bytes) rest held = tt

pub stops_text : (left rest : Option (List ℕ)) (held : List ℕ) → StopsAt left held rest Text
stops_text None rest held = tt
stops_text (Some bytes) rest held = tt
