-- Combinations whose tree no list gives.
use Rattle.std.proofs.Common.{◌≡◌, ◌∙◌, List, [], ◌∷◌, All, ap, sym, subst, arith}
use Rattle.std.specs.Prelude.{Some}
use Rattle.std.proofs.lemmas.Int.{ints}
use Rattle.std.proofs.lemmas.List.Elements.{All-cons, All-nil}
use Rattle.lattice_core.specs.declared.limit.TheConstants.{COORD}
use Rattle.lattice_core.specs.Limits.{IsWithin}
use Rattle.lattice_core.specs.Vectors.{zero_vector}
use Rattle.region_attr.specs.declared.attr.Attr.{Attr}
use Rattle.region_attr.specs.Ranges.{HasRanges}
use Rattle.comb_tree.specs.declared.node.CombNode.{CombNode}
use Rattle.comb_tree.specs.Nodes.{Comb, Member, comb_nodes, comb_of}
use Rattle.comb_tree.proofs.Reading.{comb_back}
use Rattle.object_set.specs.Objects.{IsComb}
use Rattle.ray_cases.specs.UnionLess.{union_less, IsUnionLess}

pub zero_within : IsWithin COORD zero_vector
zero_within = record { x = (omega (arith, ints), omega (arith, ints)); y = (omega (arith, ints), omega (arith, ints)); z = (omega (arith, ints), omega (arith, ints)) }

pub union_made : (attr : Attr) (nodes : List CombNode) (t : Comb) → IsUnionLess nodes → comb_nodes t ≡ nodes → HasRanges attr → IsComb attr t
union_made attr nodes t h is ranges =
    let same : t ≡ Some (union_less h.one h.two h.less) = sym (comb_back t) ∙ ap comb_of (is ∙ sym h.nodes_are) ∙ comb_back (Some (union_less h.one h.two h.less)) in
    let near : All (λ (m : Member). IsWithin COORD m.placement.shift) (h.one ∷ h.two ∷ h.less ∷ []) =
    All-cons (λ (m : Member). IsWithin COORD m.placement.shift) h.one (h.two ∷ h.less ∷ []) h.one_near
    (All-cons (λ (m : Member). IsWithin COORD m.placement.shift) h.two (h.less ∷ []) h.two_near
    (All-cons (λ (m : Member). IsWithin COORD m.placement.shift) h.less [] h.less_near (All-nil (λ (m : Member). IsWithin COORD m.placement.shift)))) in
    let made : IsComb attr (Some (union_less h.one h.two h.less)) = record { ranges = ranges; few = omega arith; near = near } in
    subst (λ (x : Comb). IsComb attr x) (sym same) made
