use Rattle.std.proofs.Common.{◌<◌, ℕ, All, sym, subst, arith}
use Rattle.lattice_core.specs.Tiles.{tiles_of}
use Rattle.view_shot.specs.Steps.{lacking}
use Rattle.view_shot.proofs.TileLaws.{lacking_within}
use Rattle.view_shot.proofs.picture.lacking_job.Goals as goal

pub invariant_of-result : goal.invariant_of-result
invariant_of-result c =
    let within : All (λ (t : ℕ). t < tiles_of c.args.view.now) (lacking c.args.plan.now.names.items 0) = lacking_within c.args.plan.now.names.items 0 (tiles_of c.args.view.now) (omega (arith, c.requires.plan)) in
    record {
      checked = c.requires.view;
      within = subst (All (λ (t : ℕ). t < tiles_of c.args.view.now)) (sym c.in_ok-tiles.ensures.tiles) within;
      few = c.in_ok-tiles.ensures.few;
    }
