use Rattle.std.proofs.Common.{◌∙◌, ap, sym}
use Rattle.box_index.specs.declared.cut.Axis.TheVariants.{Y, Z}
use Rattle.box_index.specs.Lines.{has_some, in_extent}
use Rattle.box_index.proofs.Crossing.{none_in_extent}
use Rattle.box_index.proofs.line.Line.crosses_in.Goals as goal

pub returns-else-has_some : goal.returns-else-has_some
returns-else-has_some c =
    let line = c.args.self.now in
    let none = sym (ap has_some c.in_extent-in_y.ensures) ∙ sym c.has_some.ensures ∙ c.if-has_some.false in
    c.if-has_some.false ∙ sym (none_in_extent line c.args.z Z (in_extent line c.args.y Y c.args.stretch) none)
