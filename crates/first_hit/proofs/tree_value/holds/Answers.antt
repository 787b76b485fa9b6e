use Rattle.std.proofs.Common.{rules, ◌≡◌, ◌∙◌, ap, sym, [], ◌∷◌, ◌++◌, option_to_list, length}
use Rattle.std.proofs.lemmas.List.{same_from_push}
use Rattle.bool_weave.specs.Masks.{mask_holds}
use Rattle.bool_weave.proofs.Held.{can_run, alone}
use Rattle.first_hit.specs.FirstSteps.{value_at}
use Rattle.first_hit.proofs.tree_value.holds.Goals as goal

pub run_on-requires : goal.run_on-requires
run_on-requires c = can_run (value_at c.args.values.now) c.args.tree.now c.nodes.result.now (sym c.nodes.ensures)

pub unwrap-requires : goal.unwrap-requires
unwrap-requires c =
    let stack : c.run_on.new.stack.items ≡ mask_holds c.args.tree.now (value_at c.args.values.now) ∷ [] =
    alone (value_at c.args.values.now) c.args.tree.now c.nodes.result.now c.run_on.new.stack.items (sym c.nodes.ensures) c.in_ok-run_on.ensures in
    let len : length c.run_on.new.stack.items ≡ 1 = ap length stack in
    search rules

pub returns : goal.returns
returns c =
    let stack : c.run_on.new.stack.items ≡ mask_holds c.args.tree.now (value_at c.args.values.now) ∷ [] =
    alone (value_at c.args.values.now) c.args.tree.now c.nodes.result.now c.run_on.new.stack.items (sym c.nodes.ensures) c.in_ok-run_on.ensures in
    let popped : c.run_on.new.stack.items ≡ c.pop.new.self.items ++ c.unwrap.result ∷ [] =
    c.pop.ensures.items ∙ ap (λ o. c.pop.new.self.items ++ option_to_list o) c.unwrap.ensures in
    (same_from_push c.pop.new.self.items [] c.unwrap.result (mask_holds c.args.tree.now (value_at c.args.values.now)) (sym popped ∙ stack)).1
