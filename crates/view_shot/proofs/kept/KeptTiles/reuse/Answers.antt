use Rattle.std.proofs.Common.{◌∙◌, ap, sym, subst}
use Rattle.std.proofs.lemmas.Result.{IfOk-weaker}
use Rattle.std.specs.Map.{keys_of}
use Rattle.tile_shot.specs.Named.{NamedTile}
use Rattle.tile_shot.specs.Same.{same_name}
use Rattle.tile_shot.specs.Sameness.{name_decides}
use Rattle.view_shot.specs.Kept.{moved}
use Rattle.view_shot.specs.Steps.{AreSmall}
use Rattle.view_shot.proofs.KeptLaws.{moved_keys, small_moved}
use Rattle.view_shot.proofs.kept.KeptTiles.reuse.Goals as goal

pub invariant_of-self : goal.invariant_of-self
invariant_of-self c =
    subst AreSmall (sym (ap keys_of c.find.follows.holds-at-none ∙ moved_keys same_name c.args.name.now c.self.inside.cache)) (small_moved (keys_of c.self.inside.cache) c.args.name.now c.self.invariant)

pub returns-clause-named : goal.returns-clause-named
returns-clause-named c =
    IfOk-weaker c.share.result _ _ (λ tile is. ap (λ (t : NamedTile). t.key) is ∙ (name_decides c.in-Some.tile.now.key c.args.name.now).0 c.in-Some.ensures.named) c.share.ensures

pub returns-clause-moved : goal.returns-clause-moved
returns-clause-moved c =
    ap keys_of c.find.follows.holds-at-none ∙ moved_keys same_name c.args.name.now c.self.inside.cache ∙ ap (λ k. moved k c.args.name.now) c.self.view_is
