use Rattle.std.proofs.Common.{rules, ◌≡◌, ◌<◌, ◌∙◌, length, get_or, vec_len, ap, arith}
use Rattle.std.proofs.lemmas.List.{get_or_default}
use Rattle.shot_core.specs.Regions.{firsts_from}
use Rattle.shot_core.proofs.Numbering.{firsts_length}
use Rattle.shot_core.proofs.scene.Scene.first.Goals as goal

pub index-requires : goal.index-requires
index-requires c =
    let counted : vec_len c.self.inside.firsts ≡ length c.self.inside.firsts.items = search rules in
    omega (arith, c.requires, counted, ap length c.self.invariant.numbers, firsts_length 0 c.self.inside.regions.items, ap length c.self.view_is)

pub returns : goal.returns
returns c =
    let within : c.args.region < length c.self.inside.firsts.items = omega (arith, c.requires, ap length c.self.invariant.numbers, firsts_length 0 c.self.inside.regions.items, ap length c.self.view_is) in
    c.index.ensures ∙ get_or_default c.self.inside.firsts.items c.args.region c.index.result.now 0 within
    ∙ ap (λ l. get_or l c.args.region 0) (c.self.invariant.numbers ∙ ap (firsts_from 0) c.self.view_is)
