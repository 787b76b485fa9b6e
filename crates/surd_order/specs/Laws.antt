-- Laws of the order of positions, in range or not.
use Rattle.std.specs.Prelude.{◌≡◌}
use Rattle.surd_order.specs.declared.position.Pos.{Pos}
use Rattle.surd_order.specs.Order.{Precedes, SamePlace, IsExactlyOne, IsPlace}
use Rattle.surd_order.specs.Spelling.{IsSpelled}

-- of two places one precedes the other, or they are the same, and only one of the three
abbrev pub OrderIsTotal : Type 0
OrderIsTotal = (x y : Pos) → IsPlace x → IsPlace y → IsExactlyOne (Precedes x y) (SamePlace x y) (Precedes y x)

-- what precedes something that precedes a third precedes the third
abbrev pub OrderIsTransitive : Type 0
OrderIsTransitive = (x y z : Pos) → IsPlace y → IsPlace z → Precedes x y → Precedes y z → Precedes x z

-- what is the same place as something that is the same place as a third is the same place as the third
abbrev pub SamePlaceIsTransitive : Type 0
SamePlaceIsTransitive = (x y z : Pos) → SamePlace x y → SamePlace y z → SamePlace x z

-- what precedes a place precedes all that is the same place, and likewise what comes after it
pub record IsKeptBySamePlace : Type 0 where
  pub before : (x y z : Pos) → SamePlace x y → Precedes y z → Precedes x z
  pub after : (x y z : Pos) → Precedes x y → SamePlace y z → Precedes x z

-- two positions in their one spelling that are the same place are equal values
abbrev pub PlacesHaveOneSpelling : Type 0
PlacesHaveOneSpelling = (x y : Pos) → IsSpelled x → IsSpelled y → SamePlace x y → x ≡ y
