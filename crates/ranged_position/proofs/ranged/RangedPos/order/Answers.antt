use Rattle.ranged_position.proofs.RangedLaws.{ranged_equal}
use Rattle.ranged_position.proofs.ranged.RangedPos.order.Goals as goal

pub returns : goal.returns
returns c = rw (← c.self.view_is, ← c.other.view_is) (record {
  same = c.cmp.ensures.same;
  order = c.cmp.ensures.order;
  equal = ranged_equal c.cmp.result c.self.inside.place c.other.inside.place c.self.invariant c.other.invariant c.cmp.ensures.order;
})
