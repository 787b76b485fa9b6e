use Rattle.session_run.proofs.PresentLaws.{last_greatest}
use Rattle.std.proofs.Common.{◌-◌, ◌∙◌, List, length, get_or, ap, arith}
use Rattle.shot_core.specs.Regions.{Region}
use Rattle.session_run.proofs.present.greatest_place.Goals as goal

pub returns-clause-most : goal.returns-clause-most
returns-clause-most c =
    let same = c.regions-regions.ensures.value in
    last_greatest c.args.scene.now c.index-regions-count.result c.place.result c.regions-regions.ensures.sound.rising
    (omega (arith, c.if-count-eq0.false, ap (length {A = Region}) same))
    (c.index-regions-count.is ∙ ap (λ (rs : List Region). get_or rs (length rs - 1) c.index-regions-count.result) same) c.place.ensures
