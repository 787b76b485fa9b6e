-- Positions at one place have one spelling.
use Rattle.std.proofs.Common.{◌≡◌}
use Rattle.std.specs.declared.cmp.Ordering.TheVariants.{Equal}
use Rattle.surd_order.specs.declared.position.Pos.{Pos}
use Rattle.surd_order.specs.declared.position.Pos.TheVariants.{Frac, Surd}
use Rattle.surd_order.specs.Order.{IsPlace}
use Rattle.surd_order.specs.Range.{IsInRange}
use Rattle.surd_order.specs.PlaceOrder.{place_cmp}
use Rattle.surd_order.specs.Spelled.{spelled}
use Rattle.surd_order.proofs.SpelledPlaces.{is_one_spelling}
use Rattle.surd_order.proofs.PlaceOrderLaws.{places_are_compared}

pub spelled_tie : (x y : Pos) → IsPlace x → IsPlace y → place_cmp x y ≡ Equal → spelled x ≡ spelled y
spelled_tie x y place place' tie = (is_one_spelling.one x y place place').1 ((places_are_compared x y place place').same.0 tie)

pub ranged_place : (x : Pos) → IsInRange x → IsPlace x
ranged_place (Frac p q) h = h.positive
ranged_place (Surd a plus k) h = tt
