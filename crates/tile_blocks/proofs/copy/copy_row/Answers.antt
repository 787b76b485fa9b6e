use Rattle.std.proofs.Common.{List, subst, sym}
use Rattle.tile_blocks.specs.Steps.{IsRowCopied}
use Rattle.tile_blocks.proofs.RowLaws.{row_within, row_room, row_copied}
use Rattle.tile_blocks.proofs.copy.copy_row.Goals as goal

pub put-requires-clause-part : goal.put-requires-clause-part
put-requires-clause-part g c = row_within c.args.depth c.args.span c.args.row c.args.part.now c.requires.part c.requires.row

pub put-requires-clause-all : goal.put-requires-clause-all
put-requires-clause-all g c = row_room c.args.depth c.args.w c.args.span c.args.row c.args.all.now c.requires.columns c.requires.row c.requires.all

pub returns : goal.returns
returns g c = λ z.
    subst (λ (new : List _). IsRowCopied z c.args.depth c.args.w c.args.span c.args.row c.args.part.now c.args.all.now new) (sym c.put.ensures)
    (row_copied z c.args.depth c.args.w c.args.span c.args.row c.args.part.now c.args.all.now c.requires.columns
    (row_within c.args.depth c.args.span c.args.row c.args.part.now c.requires.part c.requires.row)
    (row_room c.args.depth c.args.w c.args.span c.args.row c.args.all.now c.requires.columns c.requires.row c.requires.all))
