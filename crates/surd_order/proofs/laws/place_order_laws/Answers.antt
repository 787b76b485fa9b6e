use Rattle.surd_order.proofs.PlaceOrderLaws.{places_are_compared}
use Rattle.surd_order.proofs.laws.place_order_laws.Goals as goal

pub returns : goal.returns
returns c = places_are_compared
