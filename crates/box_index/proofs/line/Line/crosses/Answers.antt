use Rattle.std.proofs.Common.{◌≡◌, ◌∙◌, false, ap, sym}
use Rattle.box_index.specs.declared.cut.Axis.TheVariants.{X, Y, Z}
use Rattle.box_index.specs.Lines.{has_some, in_extent, whole_line, is_crossed}
use Rattle.box_index.proofs.Crossing.{none_in_extent}
use Rattle.box_index.proofs.line.Line.crosses.Goals as goal

pub returns-else-has_some : goal.returns-else-has_some
returns-else-has_some c =
    let line = c.args.self.now in
    let x = c.in-Span.x in
    let y = c.in-Span.y in
    let z = c.in-Span.z in
    let in_x = in_extent line x X whole_line in
    let none : has_some in_x ≡ false = sym (ap has_some (c.in_extent-in_x.ensures ∙ ap (in_extent line x X) c.whole.ensures)) ∙ sym c.has_some.ensures ∙ c.if-has_some.false in
    let all : has_some (in_extent line z Z (in_extent line y Y in_x)) ≡ false = none_in_extent line z Z (in_extent line y Y in_x) (none_in_extent line y Y in_x none) in
    c.if-has_some.false ∙ sym (ap (is_crossed line whole_line) c.in-Span.is ∙ all)
