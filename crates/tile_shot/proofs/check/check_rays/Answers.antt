use Rattle.std.proofs.Common.{rules, ◌∙◌, sym, ap, subst, length}
use Rattle.lattice_core.specs.declared.tile.TileSpan.{TileSpan}
use Rattle.overlap_list.specs.Overlaps.{IsTooMany}
use Rattle.tile_shot.specs.Reports.{report_of, spots_of}
use Rattle.tile_shot.proofs.Listing.{no_rays}
use Rattle.tile_shot.proofs.RaysDone.{none_above}
use Rattle.tile_shot.proofs.check.check_rays.Goals as goal

pub loop-row-init : goal.loop-row-init
loop-row-init c = record {
  report = c.new-pairs.ensures.items ∙ sym (ap (report_of c.args.scene.now c.args.view.now) (none_above c.span-span.result) ∙ no_rays c.args.scene.now c.args.view.now);
  most = search rules;
}

pub returns-in-Err-clause-fault : goal.returns-in-Err-clause-fault
returns-in-Err-clause-fault c = subst (λ (s : TileSpan). IsTooMany (length (report_of c.args.scene.now c.args.view.now (spots_of s))) c.in-Err.fault) c.span-span.ensures.value c.in-Err.ensures.fault
