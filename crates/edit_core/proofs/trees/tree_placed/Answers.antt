use Rattle.std.proofs.Common.{length, ◌≡◌}
use Rattle.comb_tree.specs.Changes.{map_members, placed}
use Rattle.edit_core.proofs.TreeSteps.{placed_fits, place_absent, place_there}
use Rattle.std.proofs.Common.{subst, ap, sym, ◌∙◌, filter, inr}
use Rattle.lattice_core.specs.declared.limit.TheConstants.{COORD}
use Rattle.lattice_core.specs.declared.placement.Placement.{Placement}
use Rattle.lattice_core.specs.Limits.{IsWithin}
use Rattle.name_core.specs.Same.{same_name}
use Rattle.comb_tree.specs.Nodes.{Comb, members}
use Rattle.edit_core.proofs.trees.tree_placed.Goals as goal

pub returns-then-place_leaf-eq0 : goal.returns-then-place_leaf-eq0
returns-then-place_leaf-eq0 c =
    let same : c.in-Ok.moved ≡ c.args.tree.now = c.in-Ok.ensures in
    let none : length (filter (λ m. same_name m.name c.args.member.now) (members c.args.tree.now)) ≡ 0 =
    ap (λ (t : Comb). length (filter (λ m. same_name m.name c.args.member.now) (members t))) (sym same) ∙ sym c.place_leaf.ensures.count ∙ c.if-place_leaf-eq0.true in
    (tt, inr (place_absent c.args.member.now c.args.tree.now none))

pub returns : goal.returns
returns c =
    let same : c.in-Ok.moved ≡ c.args.tree.now = c.in-Ok.ensures in
    let some : length (filter (λ m. same_name m.name c.args.member.now) (members c.args.tree.now)) ≡ 0 → ⊥ =
    λ e. c.if-place_leaf-eq0.false (c.place_leaf.ensures.count ∙ ap (λ (t : Comb). length (filter (λ m. same_name m.name c.args.member.now) (members t))) same ∙ e) in
    let near : IsWithin COORD c.args.placement.now.shift = subst (λ (p : Placement). IsWithin COORD p.shift) c.placement.ensures.value c.placement.ensures.near in
    let is : c.place_leaf.new.self ≡ map_members (placed c.args.member.now c.args.placement.now) c.args.tree.now =
    c.place_leaf.ensures.tree ∙ ap (λ (p : Placement). map_members (placed c.args.member.now p) c.in-Ok.moved) c.placement.ensures.value ∙ ap (map_members (placed c.args.member.now c.args.placement.now)) same in
    (place_there c.args.member.now c.args.tree.now some, placed_fits c.args.member.now c.args.placement.now c.args.tree.now c.place_leaf.new.self c.requires near is)
