-- How the steps of writing come to the text of an object.
use Rattle.std.proofs.Common.{◌≡◌, ◌++◌, ◌+◌, ◌<◌, ◌∷◌, [], ℕ, suc, ℤ, List, Some, None, cond, refl, ap, ◌∙◌, sym, append_assoc, append-nil, codes, reverse, length, length-append, drop, get_or, arith, add-one, ne_eqb}
use Rattle.std.proofs.Math.Seq.{drop-cons}
use Rattle.std.proofs.lemmas.List.{reverse-append, reverse-reverse}
use Rattle.tree_forms.specs.declared.Op.{Op}
use Rattle.tree_forms.specs.declared.Op.TheVariants.{U, N, Minus, X}
use Rattle.tree_forms.specs.Trees.{Tree, Leaf, Join, postfix}
use Rattle.comb_tree.specs.Nodes.{Comb, Member, leaf, apply, comb_nodes}
use Rattle.comb_tree.specs.declared.node.CombNode.{CombNode}
use Rattle.put_form.specs.declared.write_tree.Before.{Before}
use Rattle.put_form.specs.declared.write_tree.Before.TheVariants.{Operator, LeftSide}
use Rattle.word_values.specs.Kinds.{kind_at}
use Rattle.word_values.specs.declared.atoms.NumberList.{NumberList}
use Rattle.put_form.specs.Written.{number_text, words_text, number_words, node_text, tree_text, operator_text}
use Rattle.put_form.specs.WritingSteps.{placed_texts, before_text, owed, after, step_text, step_stack, walked}

-- a text that was put at the end of a line, and another behind it
pub two_more : (line first second middle all : List ℕ) → all ≡ middle ++ second → middle ≡ line ++ first → all ≡ line ++ (first ++ second)
two_more line first second middle all last before = last ∙ ap (λ text. text ++ second) before ∙ append_assoc line first second

-- and one more behind these
pub three_more : (line first second third a b all : List ℕ) → a ≡ line ++ first → b ≡ a ++ second → all ≡ b ++ third → all ≡ line ++ (first ++ (second ++ third))
three_more line first second third a b all ea eb last = simp (last, eb, ea, append_assoc)

-- and two more
pub four_more : (line first second third fourth a b c all : List ℕ) → a ≡ line ++ first → b ≡ a ++ second → c ≡ b ++ third → all ≡ c ++ fourth → all ≡ line ++ (first ++ (second ++ (third ++ fourth)))
four_more line first second third fourth a b c all ea eb ec last = simp (last, ec, eb, ea, append_assoc)

-- the numbers, each but the first after a blank
placed_more : (list : NumberList) (place : ℕ) (n : ℤ) (ns : List ℤ) → number_text (kind_at list place) n ++ placed_texts list (place + 1) ns ≡ words_text (number_words list place (n ∷ ns))
placed_more list place n [] = append-nil (number_text (kind_at list place) n)
placed_more list place n (m ∷ ns) =
    ap (λ text. number_text (kind_at list place) n ++ text)
    (ap (λ b. (cond b [] (codes " ") ++ number_text (kind_at list (place + 1)) m) ++ placed_texts list (place + 1 + 1) ns) (ne_eqb (place + 1) 0 (λ e. omega (arith, e)))
    ∙ ap (λ (text : List ℕ). 32 ∷ text) (placed_more list (place + 1) m ns))

pub all_placed : (list : NumberList) (ns : List ℤ) → placed_texts list 0 ns ≡ words_text (number_words list 0 ns)
all_placed list [] = refl
all_placed list (n ∷ ns) = placed_more list 0 n ns

-- three words in braces, put at the end of a line one by one
pub braced : (line a b c d e f g x y z : List ℕ) → a ≡ line ++ 123 ∷ [] → b ≡ a ++ x → c ≡ b ++ 32 ∷ [] → d ≡ c ++ y → e ≡ d ++ 32 ∷ [] → f ≡ e ++ z → g ≡ f ++ 125 ∷ []
    → g ≡ line ++ 123 ∷ ((x ++ 32 ∷ (y ++ 32 ∷ z)) ++ 125 ∷ [])
braced line a b c d e f g x y z ea eb ec ed ee ef eg = simp (eg, ef, ee, ed, ec, eb, ea, append_assoc)

apply_text : (o : Op) (stack : List Before) → step_text (apply o) stack ≡ codes "}"
apply_text U stack = refl
apply_text N stack = refl
apply_text Minus stack = refl
apply_text X stack = refl

apply_stack : (o : Op) (stack : List Before) → step_stack (apply o) stack ≡ LeftSide ∷ Operator o ∷ stack
apply_stack U stack = refl
apply_stack N stack = refl
apply_stack Minus stack = refl
apply_stack X stack = refl

-- an operator's node, its right side and its left side
nodes_back : (left right rest : List CombNode) (n : CombNode) → reverse (left ++ (right ++ n ∷ [])) ++ rest ≡ n ∷ (reverse right ++ (reverse left ++ rest))
nodes_back left right rest n =
    ap (λ nodes. nodes ++ rest) (reverse-append left (right ++ n ∷ []) ∙ ap (λ nodes. nodes ++ reverse left) (reverse-append right (n ∷ [])))
    ∙ ap (λ nodes. n ∷ nodes) (append_assoc (reverse right) (reverse left) rest)

text_back : (o s l b r c rest : List ℕ) → reverse (o ++ (s ++ (l ++ (b ++ (r ++ c))))) ++ rest ≡ reverse c ++ (reverse r ++ (reverse b ++ (reverse l ++ (reverse (o ++ s) ++ rest))))
text_back o s l b r c rest = simp (reverse-append, append_assoc)

walked_operator : (o : Op) (nodes : List CombNode) (stack : List Before) → walked (apply o ∷ nodes) stack ≡ codes "}" ++ walked nodes (LeftSide ∷ Operator o ∷ stack)
walked_operator o nodes stack = ap (λ text. text ++ walked nodes (step_stack (apply o) stack)) (apply_text o stack) ∙ ap (λ next. codes "}" ++ walked nodes next) (apply_stack o stack)

-- the nodes of a tree, the last first, add its text backwards and then what stands before it
tree_walked : (t : Tree Member) (rest : List CombNode) (stack : List Before) → walked (reverse (postfix leaf apply t) ++ rest) stack ≡ reverse (node_text t) ++ (owed stack ++ walked rest (after stack))
tree_walked (Leaf m) rest stack = append_assoc (reverse (node_text (Leaf m))) (owed stack) (walked rest (after stack))
tree_walked (Join o l r) rest stack =
    ap (λ nodes. walked nodes stack) (nodes_back (postfix leaf apply l) (postfix leaf apply r) rest (apply o))
    ∙ walked_operator o (reverse (postfix leaf apply r) ++ (reverse (postfix leaf apply l) ++ rest)) stack
    ∙ ap (λ text. codes "}" ++ text) (tree_walked r (reverse (postfix leaf apply l) ++ rest) (LeftSide ∷ Operator o ∷ stack))
    ∙ ap (λ text. codes "}" ++ (reverse (node_text r) ++ (reverse (codes "} {") ++ text)))
    (tree_walked l rest (Operator o ∷ stack) ∙ ap (λ text. reverse (node_text l) ++ text) (append_assoc (reverse (before_text (Operator o))) (owed stack) (walked rest (after stack))))
    ∙ sym (text_back (operator_text o) (codes " {") (node_text l) (codes "} {") (node_text r) (codes "}") (owed stack ++ walked rest (after stack)))

node_read : (t : Tree Member) → reverse (walked (reverse (postfix leaf apply t)) []) ≡ node_text t
node_read t =
    ap (λ nodes. reverse (walked nodes [])) (sym (append-nil (reverse (postfix leaf apply t))))
    ∙ ap reverse (tree_walked t [] [] ∙ append-nil (reverse (node_text t)))
    ∙ reverse-reverse (node_text t)

some_node : (t : Tree Member) → 0 < length (postfix leaf apply t)
some_node (Leaf m) = omega arith
some_node (Join o l r) = omega (arith, length-append (postfix leaf apply l) (postfix leaf apply r ++ apply o ∷ []), length-append (postfix leaf apply r) (apply o ∷ []))

-- a tree without nodes is not written
pub no_nodes : (t : Comb) → length (comb_nodes t) ≡ 0 → tree_text t ≡ []
no_nodes None none = refl
no_nodes (Some t) none = absurd (omega (arith, some_node t, none))

pub some_nodes : (t : Comb) → 0 < length (comb_nodes t) → codes " tree {" ++ (reverse (walked (reverse (comb_nodes t)) []) ++ codes "}") ≡ tree_text t
some_nodes None some = absurd (omega (arith, some))
some_nodes (Some t) some = ap (λ text. codes " tree {" ++ (text ++ codes "}")) (node_read t)

-- one more node of those that are left
pub node_more : (nodes : List CombNode) (i j : ℕ) (n : CombNode) (line new : List ℕ) (stack next : List Before)
    → (i < length nodes) × (n ≡ get_or nodes i n)
    → j ≡ i + 1
    → new ≡ line ++ step_text n stack
    → next ≡ step_stack n stack
    → new ++ walked (drop j nodes) next ≡ line ++ walked (drop i nodes) stack
node_more nodes i j n line new stack next here after_it text stacked =
    ap (λ l. l ++ walked (drop j nodes) next) text
    ∙ append_assoc line (step_text n stack) (walked (drop j nodes) next)
    ∙ ap (λ s. line ++ (step_text n stack ++ walked (drop j nodes) s)) stacked
    ∙ ap (λ (k : ℕ). line ++ (step_text n stack ++ walked (drop k nodes) (step_stack n stack))) (after_it ∙ add-one i)
    ∙ ap (λ m. line ++ walked (m ∷ drop (suc i) nodes) stack) here.1
    ∙ ap (λ ns. line ++ walked ns stack) (sym (drop-cons nodes i n here.0))
