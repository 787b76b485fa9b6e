-- What trees and lists come to, for a truth value per leaf or entry, numbered from 0 at the left.
use Rattle.std.specs.Prelude.{ℕ, ◌+◌, List, [], ◌∷◌, length, Some, None, Bool, false, ◌||◌}
use Rattle.tree_forms.specs.Trees.{joined, holds}
use Rattle.comb_tree.specs.declared.node.ListEntry.{ListEntry}
use Rattle.comb_tree.specs.Nodes.{Comb}

-- whether a combination's tree holds, for a truth value per leaf; the empty tree holds nowhere
abbrev pub comb_holds : Comb → (ℕ → Bool) → Bool
comb_holds None values = false
comb_holds (Some t) values = holds t values

-- a product that has come to `before`, and goes on with these entries
abbrev pub goes_on_from : Bool → List ListEntry → (ℕ → Bool) → Bool
goes_on_from before [] values = before
goes_on_from before (e ∷ es) values = goes_on_from (joined e.op before (values 0)) es (λ i. values (1 + i))

-- a product begins with its first member's value, and each operator joins what has come so far and the next value
abbrev pub product_holds : List ListEntry → (ℕ → Bool) → Bool
product_holds [] values = false
product_holds (e ∷ es) values = goes_on_from (values 0) es (λ i. values (1 + i))

-- some of the products holds
abbrev pub some_holds : List (List ListEntry) → (ℕ → Bool) → Bool
some_holds [] values = false
some_holds (p ∷ ps) values = product_holds p values || some_holds ps (λ i. values (length p + i))
