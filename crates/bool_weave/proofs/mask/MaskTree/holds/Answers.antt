use Rattle.std.proofs.Common.{rules, ◌≡◌, ◌∙◌, ap, sym, [], ◌∷◌, ◌++◌, option_to_list, length}
use Rattle.std.proofs.lemmas.List.{same_from_push}
use Rattle.bool_weave.specs.Masks.{mask_nodes, mask_holds}
use Rattle.bool_weave.specs.Tables.{at_leaf}
use Rattle.bool_weave.proofs.Held.{can_run, alone}
use Rattle.bool_weave.proofs.mask.MaskTree.holds.Goals as goal

pub run_on-requires : goal.run_on-requires
run_on-requires c =
    can_run (at_leaf c.args.table.now c.args.interval) c.args.self.now c.deref.result.now (ap mask_nodes (sym c.self.view_is) ∙ c.self.invariant.0 ∙ sym c.deref.ensures.value)

pub unwrap-requires : goal.unwrap-requires
unwrap-requires c =
    let nodes : mask_nodes c.args.self.now ≡ c.deref.result.now = ap mask_nodes (sym c.self.view_is) ∙ c.self.invariant.0 ∙ sym c.deref.ensures.value in
    let stack : c.run_on.new.stack.items ≡ mask_holds c.args.self.now (at_leaf c.args.table.now c.args.interval) ∷ [] =
    alone (at_leaf c.args.table.now c.args.interval) c.args.self.now c.deref.result.now c.run_on.new.stack.items nodes c.in_ok-run_on.ensures in
    let len : length c.run_on.new.stack.items ≡ 1 = ap length stack in
    search rules

pub returns : goal.returns
returns c =
    let nodes : mask_nodes c.args.self.now ≡ c.deref.result.now = ap mask_nodes (sym c.self.view_is) ∙ c.self.invariant.0 ∙ sym c.deref.ensures.value in
    let stack : c.run_on.new.stack.items ≡ mask_holds c.args.self.now (at_leaf c.args.table.now c.args.interval) ∷ [] =
    alone (at_leaf c.args.table.now c.args.interval) c.args.self.now c.deref.result.now c.run_on.new.stack.items nodes c.in_ok-run_on.ensures in
    let popped : c.run_on.new.stack.items ≡ c.pop.new.self.items ++ c.unwrap.result ∷ [] =
    c.pop.ensures.items ∙ ap (λ o. c.pop.new.self.items ++ option_to_list o) c.unwrap.ensures in
    (same_from_push c.pop.new.self.items [] c.unwrap.result (mask_holds c.args.self.now (at_leaf c.args.table.now c.args.interval)) (sym popped ∙ stack)).1
