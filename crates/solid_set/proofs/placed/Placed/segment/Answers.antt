use Rattle.std.proofs.Common.{◌∙◌, sym, subst, Option}
use Rattle.surd_order.specs.declared.position.Seg.{Seg}
use Rattle.std.specs.Option.{ForSome}
use Rattle.solid_set.specs.Laws.{TellsInside, IsSegInRange}
use Rattle.solid_set.specs.HitPlaces.{TellsByHitPlaces}
use Rattle.solid_set.proofs.HitPlaceLaws.{few_hits, tells_by_hits}
use Rattle.solid_set.proofs.SurfaceLaws.{segment_tells, segment_sound}
use Rattle.solid_set.proofs.placed.Placed.segment.Goals as goal

pub returns-clause-inside : goal.returns-clause-inside
returns-clause-inside c =
    subst (λ (o : Option Seg). TellsInside c.args.self.now.surface c.args.ray.now o) (sym c.cut.ensures.value) (segment_tells c.args.self.now.surface c.args.ray.now)

pub returns-clause-sound : goal.returns-clause-sound
returns-clause-sound c = λ seg is. segment_sound c.args.self.now.surface c.args.ray.now seg (sym c.cut.ensures.value ∙ is) (c.cut.ensures.range seg is)

pub returns-clause-hits : goal.returns-clause-hits
returns-clause-hits c =
    subst (λ (o : Option Seg). TellsByHitPlaces c.args.self.now.surface c.args.ray.now o) (sym c.cut.ensures.value)
    (tells_by_hits c.args.self.now.surface c.args.ray.now (few_hits c.args.self.now.surface c.args.self.now.bounds c.args.ray.now c.args.self.now.made)
    (subst (λ (o : Option Seg). ForSome o IsSegInRange) c.cut.ensures.value c.cut.ensures.range))
