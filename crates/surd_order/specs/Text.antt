-- The text of a position.
use Rattle.std.specs.Prelude.{ℕ, pos, Bool, true, false, cond, List, ◌++◌, codes, decimal}
use Rattle.std.specs.Fmt.{signed_decimal}
use Rattle.std.specs.Ordering.{int_eq}
use Rattle.surd_order.specs.declared.position.Pos.{Pos}
use Rattle.surd_order.specs.declared.position.Pos.TheVariants.{Frac, Surd}

abbrev pub sign_text : Bool → List ℕ
sign_text true = codes "+"
sign_text false = codes "-"

-- 5, 7/2, 10-sqrt(23), 0+sqrt(2)
abbrev pub position_text : Pos → List ℕ
position_text (Frac p q) = cond (int_eq q (pos 1)) (signed_decimal p) (signed_decimal p ++ codes "/" ++ signed_decimal q)
position_text (Surd a plus k) = signed_decimal a ++ sign_text plus ++ codes "sqrt(" ++ decimal k ++ codes ")"
