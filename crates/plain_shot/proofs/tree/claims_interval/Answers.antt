use Rattle.std.proofs.Common.{rules, ◌≡◌, ◌∙◌, ap, sym, [], ◌∷◌, ◌++◌, option_to_list, length}
use Rattle.std.proofs.lemmas.List.{same_from_push}
use Rattle.bool_weave.specs.Masks.{mask_holds}
use Rattle.bool_weave.proofs.Held.{can_run, alone}
use Rattle.plain_shot.specs.Steps.{spans_from}
use Rattle.plain_shot.proofs.tree.claims_interval.Goals as goal

pub run_on-requires : goal.run_on-requires
run_on-requires c =
    can_run (spans_from c.args.segments.now c.args.interval.now c.args.first) c.args.tree.now c.nodes.result.now (sym c.nodes.ensures)

pub unwrap-requires : goal.unwrap-requires
unwrap-requires c =
    let stack : c.in_ok-stack.stack.items ≡ mask_holds c.args.tree.now (spans_from c.args.segments.now c.args.interval.now c.args.first) ∷ [] =
    alone (spans_from c.args.segments.now c.args.interval.now c.args.first) c.args.tree.now c.nodes.result.now c.in_ok-stack.stack.items (sym c.nodes.ensures) c.in_ok-stack.ensures in
    let len : length c.in_ok-stack.stack.items ≡ 1 = ap length stack in
    search rules

pub returns : goal.returns
returns c =
    let stack : c.in_ok-stack.stack.items ≡ mask_holds c.args.tree.now (spans_from c.args.segments.now c.args.interval.now c.args.first) ∷ [] =
    alone (spans_from c.args.segments.now c.args.interval.now c.args.first) c.args.tree.now c.nodes.result.now c.in_ok-stack.stack.items (sym c.nodes.ensures) c.in_ok-stack.ensures in
    let popped : c.in_ok-stack.stack.items ≡ c.pop.new.self.items ++ c.unwrap.result ∷ [] =
    c.pop.ensures.items ∙ ap (λ o. c.pop.new.self.items ++ option_to_list o) c.unwrap.ensures in
    (same_from_push c.pop.new.self.items [] c.unwrap.result (mask_holds c.args.tree.now (spans_from c.args.segments.now c.args.interval.now c.args.first)) (sym popped ∙ stack)).1
