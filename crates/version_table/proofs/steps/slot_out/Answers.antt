use Rattle.std.proofs.Common.{◌∙◌, ◌∷◌, ap, sym, Some}
use Rattle.atomic_table.specs.Table.{rest}
use Rattle.version_table.proofs.steps.slot_out.Goals as goal

pub exchange-requires : goal.exchange-requires
exchange-requires g c = let t = c.requires.turn in (c.requires.own.0, (Some t.0, t.1 ∙ ap (λ l. (0, Some t.0) ∷ l) (sym (ap rest t.1))))
