use Rattle.surd_order.proofs.Products.{products_are_small}
use Rattle.surd_order.proofs.laws.product_laws.Goals as goal

pub returns : goal.returns
returns c = products_are_small
