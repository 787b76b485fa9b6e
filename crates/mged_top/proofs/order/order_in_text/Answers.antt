use Rattle.std.proofs.Common.{◌∙◌, ℕ, Option, Vec, Global, ap, refl}
use Rattle.std.specs.Option.{option_map}
use Rattle.mged_top.proofs.order.order_in_text.Goals as goal

pub returns-in-Ok-None-clause-refused : goal.returns-in-Ok-None-clause-refused
returns-in-Ok-None-clause-refused g =
    (refl, λ whole is. g.in-Ok-None.ensures.order whole is ∙ ap (λ (found : Option (Vec ℕ Global)). option_map (λ (o : Vec ℕ Global). o.items) found) g.in-Ok-None.field-0-is)
