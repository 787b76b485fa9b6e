use Rattle.std.proofs.Common.{◌≡◌, Bool, sym, subst}
use Rattle.std.specs.Bool.{Decides}
use Rattle.tile_shot.specs.Sameness.{name_decides}
use Rattle.tile_shot.proofs.key.TileKeyPartialEq.eq.Goals as goal

pub returns-clause-equal : goal.returns-clause-equal
returns-clause-equal c = subst (λ (b : Bool). Decides b (c.args.self.now ≡ c.args.other.now)) (sym c.is_same.ensures) (name_decides c.args.self.now c.args.other.now)
