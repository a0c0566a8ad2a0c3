-- Pieces that are written one behind the other.
use Rattle.std.specs.Prelude.{ℕ, List, ◌++◌}
use Rattle.std.specs.declared.option.Option.{Option}
use Rattle.std.specs.Io.KnownBytes.{Appends}
use Rattle.ddr_io.specs.Sink.{AppendsPrefix}

pub record PiecesFollow : Type 0 where
  -- a prefix of one piece behind another that is whole is a prefix of both
  pub behind : (a b c : Option (List ℕ)) (xs ys : List ℕ) → Appends a b xs → AppendsPrefix b c ys → AppendsPrefix a c (xs ++ ys)
  -- a prefix of a piece is one of both
  pub longer : (a b : Option (List ℕ)) (xs ys : List ℕ) → AppendsPrefix a b xs → AppendsPrefix a b (xs ++ ys)
  -- a whole piece is a prefix of itself
  pub whole : (a b : Option (List ℕ)) (xs : List ℕ) → Appends a b xs → AppendsPrefix a b xs
  -- nothing is a prefix of every piece
  pub nothing : (a : Option (List ℕ)) (xs : List ℕ) → AppendsPrefix a a xs
