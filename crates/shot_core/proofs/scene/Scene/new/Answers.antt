use Rattle.std.proofs.Common.{rules, ◌≡◌, ◌∙◌, List, length, vec_len, ap, arith}
use Rattle.std.proofs.lemmas.List.{length-map}
use Rattle.shot_core.specs.Regions.{Instance, Region, instances_of}
use Rattle.shot_core.specs.Prepared.{boxes_of}
use Rattle.shot_core.proofs.scene.Scene.new.Goals as goal

pub index_of_many-requires : goal.index_of_many-requires
index_of_many-requires c =
    let counted : vec_len c.in_ok-boxes.boxes ≡ length c.in_ok-boxes.boxes.items = search rules in
    let same : length c.in_ok-boxes.boxes.items ≡ length (instances_of c.args.regions.items) =
    ap length (c.in_ok-boxes.ensures ∙ ap (λ (l : List Region). boxes_of (instances_of l)) c.deref.ensures.value) ∙ length-map (instances_of c.args.regions.items) (λ (i : Instance). i.bounds) in
    omega (arith, counted, same, c.requires.instances)
