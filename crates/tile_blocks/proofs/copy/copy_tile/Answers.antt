use Rattle.std.proofs.Common.{◌≡◌, ℕ, subst, arith}
use Rattle.lattice_core.specs.declared.tile.TileSpan.{TileSpan}
use Rattle.tile_blocks.specs.Steps.{AreRowsCopied}
use Rattle.tile_blocks.proofs.TileLaws.{rows_more, copied}
use Rattle.tile_blocks.proofs.copy.copy_tile.Goals as goal

pub loop-row-preserved : goal.loop-row-preserved
loop-row-preserved g c = λ z.
    rows_more z c.args.depth c.args.view.now.w c.span-span.result c.loop-row.row c.args.part.now c.args.all.now c.loop-row.all c.copy_row.new.all c.span-span.ensures.part.in_columns
    (c.loop-row.invariant z) (c.copy_row.ensures z)

pub returns : goal.returns
returns g c = λ z.
    let last : c.loop-row.row ≡ c.span-span.result.h = omega arith in
    copied z c.args.depth c.args.view.now c.args.tile c.args.part.now c.args.all.now c.loop-row.all
    (subst (λ (s : TileSpan). AreRowsCopied z c.args.depth c.args.view.now.w s s.h c.args.part.now c.args.all.now c.loop-row.all) c.span-span.ensures.value
    (subst (λ (n : ℕ). AreRowsCopied z c.args.depth c.args.view.now.w c.span-span.result n c.args.part.now c.args.all.now c.loop-row.all) last (c.loop-row.invariant z)))
