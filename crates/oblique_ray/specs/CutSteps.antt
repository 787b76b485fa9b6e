-- Words of the code: pieces of a ray, and rising places.
use Rattle.std.specs.Prelude.{List, All}
use Rattle.std.specs.List.Sorted.{IsStrictlySortedBy}
use Rattle.slant_ranks.specs.Slants.{SlantSegment}
use Rattle.surd_quot.specs.declared.position.QPos.{QPos}
use Rattle.surd_quot.specs.PlaceOrder.{quotient_cmp}
use Rattle.surd_quot.specs.Range.{IsQuotientInRange}
use Rattle.oblique_ray.specs.declared.piece.Piece.{Piece}

-- places that can be searched
pub record AreRising (places : List QPos) : Type 0 where
  pub rising : IsStrictlySortedBy quotient_cmp places
  pub ranges : All IsQuotientInRange places

-- a piece of the code as a segment of a slanted ray
abbrev pub segment_of_piece : Piece → SlantSegment
segment_of_piece piece = record { instance = piece.instance; start = piece.start; end = piece.end }

-- both ends are in the range in which positions are compared
abbrev pub IsPieceInRange : Piece → Type 0
IsPieceInRange piece = IsQuotientInRange piece.start × IsQuotientInRange piece.end
