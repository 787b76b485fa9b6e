-- A tree's own nodes, on a stack of truth values.
use Rattle.std.proofs.Common.{◌≡◌, ℕ, List, [], ◌∷◌, Option, Some, Bool, IsSome, ap, sym, ◌∙◌, reverse, subst}
use Rattle.std.proofs.lemmas.List.{reverse-reverse}
use Rattle.tree_forms.specs.Trees.{joined}
use Rattle.tree_forms.specs.Stacks.{run}
use Rattle.tree_forms.proofs.Running.{tree_back, run_all}
use Rattle.bool_weave.specs.declared.mask.MaskNode.{MaskNode}
use Rattle.bool_weave.specs.Masks.{Mask, mask_nodes, mask_of, mask_holds, or_never, leaf, apply, read, node_laws, leaf_value}

pub mask_back : (t : Mask) → mask_of (mask_nodes t) ≡ t
mask_back t = ap or_never (tree_back leaf apply read node_laws (Some t))

pub nodes_kept : (t : Mask) (ns : List MaskNode) → mask_nodes t ≡ ns → mask_nodes (mask_of ns) ≡ ns
nodes_kept t ns e = ap mask_nodes (ap mask_of (sym e) ∙ mask_back t) ∙ e

-- the stack after all nodes has the tree's value alone
pub held : (values : ℕ → Bool) (t : Mask) (ns : List MaskNode) → mask_nodes t ≡ ns → run read (leaf_value values) joined ns [] ≡ Some (mask_holds t values ∷ [])
held values t ns e = ap (λ xs. run read (leaf_value values) joined xs []) (sym e) ∙ run_all leaf apply read (leaf_value values) joined node_laws t

pub can_run : (values : ℕ → Bool) (t : Mask) (ns : List MaskNode) → mask_nodes t ≡ ns → IsSome (run read (leaf_value values) joined ns [])
can_run values t ns e = subst (λ (o : Option (List Bool)). IsSome o) (sym (held values t ns e)) (Prim.search Rattle.std.proofs.Common.rules)

pub alone : (values : ℕ → Bool) (t : Mask) (ns : List MaskNode) (stack : List Bool) → mask_nodes t ≡ ns → run read (leaf_value values) joined ns [] ≡ Some (reverse stack)
    → stack ≡ mask_holds t values ∷ []
alone values t ns stack e ran =
    let top : reverse stack ≡ mask_holds t values ∷ [] = cc (ran, held values t ns e) in
    sym (reverse-reverse stack) ∙ ap reverse top
