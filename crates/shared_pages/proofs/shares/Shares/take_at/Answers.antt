use Rattle.std.specs.Arc.{arc_value, arc_with_value}
use Rattle.shared_pages.proofs.MapLemmas.{map_set_over}
use Rattle.shared_pages.proofs.PlaceLemmas.{always}
use Rattle.shared_pages.proofs.shares.Shares.take_at.Goals as goal

pub returns-in-Some-clause-hole : goal.returns-in-Some-clause-hole
returns-in-Some-clause-hole g c v = map_set_over arc_value c.self.inside.items.items c.args.place (arc_with_value c.index_mut.result.now c.replace.new.dest) v c.args.self.now c.self.view_is

pub returns-clause-hole : goal.returns-clause-hole
returns-clause-hole g c = always c.again.result (λ v. map_set_over arc_value c.self.inside.items.items c.args.place c.index_mut.result.now v c.args.self.now c.self.view_is)
