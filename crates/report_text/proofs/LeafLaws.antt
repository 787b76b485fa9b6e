-- The nodes of a tree, the last first, have its leaves from right to left; and the line of a leaf has no line feed.
use Rattle.std.proofs.Common.{◌≡◌, ◌++◌, ◌+◌, ◌*◌, ◌-◌, ◌<◌, ◌∷◌, [], ℕ, zero, suc, List, Some, None, Option, refl, ap, ◌∙◌, sym, append_assoc, append-nil, codes, reverse, flat_map, length, drop, get_or, replicate, arith, add-one}
use Rattle.std.proofs.Math.Seq.{drop-cons}
use Rattle.std.proofs.lemmas.List.{reverse-append, reverse-reverse}
use Rattle.name_core.specs.declared.name.Name.{Name}
use Rattle.name_core.specs.NameText.{IsName}
use Rattle.tree_forms.specs.declared.Op.{Op}
use Rattle.tree_forms.specs.declared.Op.TheVariants.{U, N, Minus, X}
use Rattle.tree_forms.specs.Trees.{Tree, Leaf, Join, postfix}
use Rattle.comb_tree.specs.Nodes.{Comb, Member, leaf, apply, comb_nodes}
use Rattle.comb_tree.specs.declared.node.CombNode.{CombNode}
use Rattle.object_set.specs.Objects.{Parts}
use Rattle.transcript.specs.Lines.{Lacks}
use Rattle.transcript.proofs.LineLaws.{lacks_append}
use Rattle.transcript.proofs.TranscriptLaws.{computed}
use Rattle.directory.specs.Walks.{Entries, object_of}
use Rattle.report_text.specs.Listings.{Listed, listed_from, listed_in, mark_in, marked, operator_text, leaf_line, with_below, lines_below, leaves_of}
use Rattle.report_text.specs.Steps.{found_at, operators_after, found_in}
use Rattle.put_form.proofs.OneLine.{name_lacks}
use Rattle.report_text.proofs.LineLaws.{mark_lacks}

-- an operator's node, its right side and its left side
nodes_back : (left right rest : List CombNode) (n : CombNode) → reverse (left ++ (right ++ n ∷ [])) ++ rest ≡ n ∷ (reverse right ++ (reverse left ++ rest))
nodes_back left right rest n =
    ap (λ nodes. nodes ++ rest) (reverse-append left (right ++ n ∷ []) ∙ ap (λ nodes. nodes ++ reverse left) (reverse-append right (n ∷ [])))
    ∙ ap (λ nodes. n ∷ nodes) (append_assoc (reverse right) (reverse left) rest)

found_operator : (o : Op) (nodes : List CombNode) (operators : List Op) → found_in (apply o ∷ nodes) operators ≡ found_in nodes (o ∷ operators)
found_operator U nodes operators = refl
found_operator N nodes operators = refl
found_operator Minus nodes operators = refl
found_operator X nodes operators = refl

-- the leaves of a tree, backwards, take the first operator that is owed
tree_found : (t : Tree Member) (rest : List CombNode) (op : Op) (operators : List Op) → found_in (reverse (postfix leaf apply t) ++ rest) (op ∷ operators) ≡ reverse (listed_from op t) ++ found_in rest operators
tree_found (Leaf m) rest op operators = refl
tree_found (Join own l r) rest op operators =
    ap (λ nodes. found_in nodes (op ∷ operators)) (nodes_back (postfix leaf apply l) (postfix leaf apply r) rest (apply own))
    ∙ found_operator own (reverse (postfix leaf apply r) ++ (reverse (postfix leaf apply l) ++ rest)) (op ∷ operators)
    ∙ tree_found r (reverse (postfix leaf apply l) ++ rest) own (op ∷ operators)
    ∙ ap (λ leaves. reverse (listed_from own r) ++ leaves) (tree_found l rest op operators)
    ∙ sym (ap (λ leaves. leaves ++ found_in rest operators) (reverse-append (listed_from op l) (listed_from own r)) ∙ append_assoc (reverse (listed_from own r)) (reverse (listed_from op l)) (found_in rest operators))

pub comb_found : (t : Comb) → reverse (found_in (reverse (comb_nodes t)) (U ∷ [])) ≡ listed_in t
comb_found None = refl
comb_found (Some t) =
    ap (λ nodes. reverse (found_in nodes (U ∷ []))) (sym (append-nil (reverse (postfix leaf apply t))))
    ∙ ap reverse (tree_found t [] U [] ∙ append-nil (reverse (listed_from U t)))
    ∙ reverse-reverse (listed_from U t)

-- one more node of those that are left
pub node_found : (nodes : List CombNode) (i j : ℕ) (n : CombNode) (found new : List Listed) (operators next : List Op)
    → (i < length nodes) × (n ≡ get_or nodes i n)
    → j ≡ i + 1
    → new ≡ found ++ found_at n operators
    → next ≡ operators_after n operators
    → new ++ found_in (drop j nodes) next ≡ found ++ found_in (drop i nodes) operators
node_found nodes i j n found new operators next here after_it more owed =
    ap (λ l. l ++ found_in (drop j nodes) next) more
    ∙ append_assoc found (found_at n operators) (found_in (drop j nodes) next)
    ∙ ap (λ s. found ++ (found_at n operators ++ found_in (drop j nodes) s)) owed
    ∙ ap (λ (k : ℕ). found ++ (found_at n operators ++ found_in (drop k nodes) (operators_after n operators))) (after_it ∙ add-one i)
    ∙ ap (λ m. found ++ found_in (m ∷ drop (suc i) nodes) operators) here.1
    ∙ ap (λ ns. found ++ found_in ns operators) (sym (drop-cons nodes i n here.0))

mark_in_lacks : (object : Option Parts) → Lacks 10 (mark_in object)
mark_in_lacks None = computed 10 (codes "?") refl
mark_in_lacks (Some object) = mark_lacks object.body

pub marked_lacks : (objects : Entries) (name : Name) → IsName name → Lacks 10 (marked objects name)
marked_lacks objects name h = lacks_append 10 name (mark_in (object_of objects name)) (name_lacks name h) (mark_in_lacks (object_of objects name))

operator_lacks : (op : Op) → Lacks 10 (operator_text op)
operator_lacks U = computed 10 (codes "u") refl
operator_lacks N = computed 10 (codes "+") refl
operator_lacks Minus = computed 10 (codes "-") refl
operator_lacks X = computed 10 (codes "^") refl

blanks_lack : (n : ℕ) → Lacks 10 (replicate n 32)
blanks_lack zero = tt
blanks_lack (suc n) = (λ e. omega (arith, e), blanks_lack n)

pub leaf_lacks : (objects : Entries) (level : ℕ) (listed : Listed) → IsName listed.name → Lacks 10 (leaf_line objects level listed)
leaf_lacks objects level listed h =
    lacks_append 10 (replicate (2 * level) 32) _ (blanks_lack (2 * level))
    (lacks_append 10 (operator_text listed.op) _ (operator_lacks listed.op)
    (lacks_append 10 (codes " ") _ (computed 10 (codes " ") refl) (marked_lacks objects listed.name h)))

-- the lines below a name, where there are levels left
pub below_levels : (levels : ℕ) (objects : Entries) (level : ℕ) (name : Name) → 0 < levels
    → lines_below levels objects level name ≡ flat_map (with_below objects level (lines_below (levels - 1) objects)) (leaves_of (object_of objects name))
below_levels zero objects level name some = absurd (omega (arith, some))
below_levels (suc more) objects level name some =
    let less : more ≡ suc more - 1 = omega arith in
    ap (λ (n : ℕ). flat_map (with_below objects level (lines_below n objects)) (leaves_of (object_of objects name))) less

-- the line of a leaf, piece by piece
pub leaf_written : (objects : Entries) (level : ℕ) (listed : Listed) (first second third whole : List ℕ) → first ≡ replicate (2 * level) 32 → second ≡ first ++ operator_text listed.op → third ≡ second ++ codes " "
    → whole ≡ third ++ marked objects listed.name → whole ≡ leaf_line objects level listed
leaf_written objects level listed first second third whole one two three four =
    four
    ∙ ap (λ text. text ++ marked objects listed.name) (three ∙ ap (λ text. text ++ codes " ") (two ∙ ap (λ text. text ++ operator_text listed.op) one))
    ∙ append_assoc (replicate (2 * level) 32 ++ operator_text listed.op) (codes " ") (marked objects listed.name)
    ∙ append_assoc (replicate (2 * level) 32) (operator_text listed.op) (codes " " ++ marked objects listed.name)
