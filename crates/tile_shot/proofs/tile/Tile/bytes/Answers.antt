use Rattle.std.proofs.Common.{◌∙◌, List, ℕ, ap, sym, subst}
use Rattle.tile_shot.specs.Named.{NamedTile, IsShot}
use Rattle.tile_shot.proofs.ShotLaws.{shot_size}
use Rattle.tile_shot.proofs.tile.Tile.bytes.Goals as goal

pub returns-clause-size : goal.returns-clause-size
returns-clause-size c =
    let named : IsShot c.args.self.now.key c.args.self.now.bytes = subst (λ (t : NamedTile). IsShot t.key t.bytes) c.self.view_is c.self.invariant in
    shot_size c.args.self.now.key c.deref.result.now
    (subst (λ (bytes : List ℕ). IsShot c.args.self.now.key bytes) (ap (λ (t : NamedTile). t.bytes) (sym c.self.view_is) ∙ sym c.deref.ensures.value) named)
