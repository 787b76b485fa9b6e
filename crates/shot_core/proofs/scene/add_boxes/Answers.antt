use Rattle.std.proofs.Common.{◌≡◌, ◌∙◌, ◌++◌, ◌∷◌, [], List, map, take, ap, sym}
use Rattle.std.proofs.lemmas.List.{append-nil, append_assoc, map_more, take_all}
use Rattle.std.proofs.lemmas.Simd.{map-map}
use Rattle.lattice_core.specs.declared.boxes.Box3.{Box3}
use Rattle.solid_set.specs.declared.placed.Placed.{Placed}
use Rattle.shot_core.specs.Regions.{Instance}
use Rattle.shot_core.specs.Prepared.{instance_of}
use Rattle.shot_core.proofs.scene.add_boxes.Goals as goal

pub loop-solid-init : goal.loop-solid-init
loop-solid-init c = sym (append-nil c.args.boxes.now.items)

pub loop-solid-preserved : goal.loop-solid-preserved
loop-solid-preserved c =
    let box = λ (p : Placed). p.bounds in
    let solids = c.args.solids.now in
    let i = c.loop-solid.solid-index in
    let had = c.args.boxes.now.items in
    let before : List Box3 = map box (take i solids) in
    let one : c.bounds.result ≡ c.solid-item.result.bounds = c.bounds.ensures.value in
    c.in_ok-push.ensures.items ∙ ap (λ (l : List Box3). l ++ c.bounds.result ∷ []) c.loop-solid.invariant
    ∙ append_assoc had before (c.bounds.result ∷ [])
    ∙ ap (λ (b : Box3). had ++ (before ++ b ∷ [])) (one ∙ ap box c.solid-item.is)
    ∙ ap (λ (l : List Box3). had ++ l) (sym (map_more box solids i c.solid-item.result c.loop-solid-test.true))

pub returns : goal.returns
returns c =
    let box = λ (p : Placed). p.bounds in
    c.loop-solid.invariant
    ∙ ap (λ (l : List Placed). c.args.boxes.now.items ++ map box l) (take_all c.loop-solid.solid-index c.args.solids.now c.loop-solid-test.false)
    ∙ ap (λ (l : List Box3). c.args.boxes.now.items ++ l) (sym (map-map (λ (i : Instance). i.bounds) instance_of c.args.solids.now))
