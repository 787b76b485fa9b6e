use Rattle.std.proofs.Common.{◌∙◌, ℕ, List, filter, ap, subst, arith}
use Rattle.std.proofs.lemmas.Result.{IfOk-weaker}
use Rattle.box_index.specs.declared.part.Part.TheVariants.{Here, Low, High}
use Rattle.box_index.specs.Nodes.{has_part, AreNodesOf}
use Rattle.box_index.proofs.Trees.{fork_made}
use Rattle.box_index.proofs.grow.+grow.Goals as goal

pub grow-requires : goal.grow-requires
grow-requires t c = omega (arith, c.decreases, c.in-Some.ensures)

pub grow-requires-2 : goal.grow-requires-2
grow-requires-2 t c = omega (arith, c.decreases, c.in-Some.ensures)

pub grow-requires-3 : goal.grow-requires-3
grow-requires-3 t c = omega (arith, c.decreases, c.in-Some.ensures)

pub returns : goal.returns
returns t c =
    let boxes = c.args.boxes.now in
    let cut = c.in-Some.cut in
    let places = c.args.places.items in
    let given = c.deref-2.ensures.value in
    let here : AreNodesOf boxes (filter (has_part boxes cut Here) places) c.in_ok-middle.middle.items =
    subst (λ (l : List ℕ). AreNodesOf boxes l c.in_ok-middle.middle.items) (c.in_ok-here.ensures.here ∙ ap (filter (has_part boxes cut Here)) given) c.in_ok-middle.ensures in
    let low : AreNodesOf boxes (filter (has_part boxes cut Low) places) c.in_ok-low.low.items =
    subst (λ (l : List ℕ). AreNodesOf boxes l c.in_ok-low.low.items) (c.in_ok-here.ensures.low ∙ ap (filter (has_part boxes cut Low)) given) c.in_ok-low.ensures in
    let high : AreNodesOf boxes (filter (has_part boxes cut High) places) c.in_ok-high.high.items =
    subst (λ (l : List ℕ). AreNodesOf boxes l c.in_ok-high.high.items) (c.in_ok-here.ensures.high ∙ ap (filter (has_part boxes cut High)) given) c.in_ok-high.ensures in
    IfOk-weaker c.fork.result _ _ (λ nodes forked. fork_made boxes cut places c.in_ok-middle.middle.items c.in_ok-low.low.items c.in_ok-high.high.items nodes.items here low high forked) c.fork.ensures
