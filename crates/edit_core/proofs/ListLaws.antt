-- The list that is read off a tree is the tree's list, and each tree that a list gives has it.
use Rattle.std.proofs.Common.{◌≡◌, List, [], ◌∷◌, ◌++◌, Option, Some, None, false, cond, refl, ap, sym, ◌∙◌, append_assoc, subst}
use Rattle.std.proofs.lemmas.List.{append-nil}
use Rattle.tree_forms.specs.declared.Op.{Op}
use Rattle.tree_forms.specs.declared.Op.TheVariants.{U, N, Minus, X}
use Rattle.tree_forms.specs.Trees.{Tree, Leaf, Join}
use Rattle.comb_tree.specs.declared.node.ListEntry.{ListEntry}
use Rattle.comb_tree.specs.Nodes.{Comb, Member}
use Rattle.comb_tree.specs.Lists.{member, is_u, united, tree_of_list, from_u, HasList}
use Rattle.comb_tree.proofs.Written.{tree_from, tree_is}
use Rattle.edit_core.specs.ListForms.{entry_of, both, one_entry, product_of, union_list, list_of}

-- both lists are there
record AreBoth (one two : Option (List ListEntry)) (l : List ListEntry) : Type 0 where
  first : List ListEntry
  second : List ListEntry
  first_is : one ≡ Some first
  second_is : two ≡ Some second
  whole : l ≡ first ++ second

taken_apart : (one two : Option (List ListEntry)) (l : List ListEntry) → both one two ≡ Some l → AreBoth one two l
taken_apart None two l h = cc
taken_apart (Some a) None l h = cc
taken_apart (Some a) (Some b) l h = record { first = a; second = b; first_is = refl; second_is = refl; whole = cc }

-- a product's list: it begins with u, and after it the tree of a list goes on from the product
record IsProduct (t : Tree Member) (l : List ListEntry) : Type 0 where
  head : ListEntry
  rest : List ListEntry
  is : l ≡ head ∷ rest
  begins : head.op ≡ U
  goes_on : (before : Comb) (more : List ListEntry) → tree_from before (Leaf (member head)) (rest ++ more) ≡ tree_from before t more

one_more : (op : Op) (t : Tree Member) (m : Member) (l : List ListEntry) (p : IsProduct t l) → is_u op ≡ false
    → IsProduct (Join op t (Leaf m)) (l ++ entry_of op m ∷ [])
one_more op t m l p not_u = record {
  head = p.head;
  rest = p.rest ++ entry_of op m ∷ [];
  is = ap (λ (x : List ListEntry). x ++ entry_of op m ∷ []) p.is;
  begins = p.begins;
  goes_on = λ before more.
      ap (tree_from before (Leaf (member p.head))) (append_assoc p.rest (entry_of op m ∷ []) more)
      ∙ p.goes_on before (entry_of op m ∷ more)
      ∙ ap (λ b. cond b (tree_from (united before (Some t)) (Leaf m) more) (tree_from before (Join op t (Leaf m)) more)) not_u;
}

last_leaf : (op : Op) (r : Tree Member) (s : List ListEntry) → one_entry op r ≡ Some s → (m : Member) × (r ≡ Leaf m) × (s ≡ entry_of op m ∷ [])
last_leaf op (Leaf m) s h = (m, refl, cc)
last_leaf op (Join o a b) s h = cc

step : (op : Op) (l r : Tree Member) (whole : List ListEntry) → is_u op ≡ false → AreBoth (product_of l) (one_entry op r) whole
    → ((own : List ListEntry) → product_of l ≡ Some own → IsProduct l own) → IsProduct (Join op l r) whole
step op l r whole not_u b below =
    let leaf = last_leaf op r b.second b.second_is in
    let grown : IsProduct (Join op l (Leaf leaf.0)) (b.first ++ entry_of op leaf.0 ∷ []) = one_more op l leaf.0 b.first (below b.first b.first_is) not_u in
    let same : whole ≡ b.first ++ entry_of op leaf.0 ∷ [] = b.whole ∙ ap (λ (s : List ListEntry). b.first ++ s) leaf.2 in
    subst (λ (x : List ListEntry). IsProduct (Join op l r) x) (sym same) (subst (λ (x : Tree Member). IsProduct (Join op l x) (b.first ++ entry_of op leaf.0 ∷ [])) (sym leaf.1) grown)

product_is : (t : Tree Member) (l : List ListEntry) → product_of t ≡ Some l → IsProduct t l
product_is (Leaf m) l h = record { head = entry_of U m; rest = []; is = cc; begins = refl; goes_on = λ before more. refl }
product_is (Join U a b) l h = cc
product_is (Join N a b) l h = step N a b l refl (taken_apart (product_of a) (one_entry N b) l h) (product_is a)
product_is (Join Minus a b) l h = step Minus a b l refl (taken_apart (product_of a) (one_entry Minus b) l h) (product_is a)
product_is (Join X a b) l h = step X a b l refl (taken_apart (product_of a) (one_entry X b) l h) (product_is a)

-- a union's list: it begins with u, alone it gives the tree, and before a further product it is the union so far
record IsUnion (t : Tree Member) (l : List ListEntry) : Type 0 where
  head : ListEntry
  rest : List ListEntry
  is : l ≡ head ∷ rest
  begins : head.op ≡ U
  alone : tree_from None (Leaf (member head)) rest ≡ Some t
  before : (next : ListEntry) (more : List ListEntry) → next.op ≡ U → tree_from None (Leaf (member head)) (rest ++ next ∷ more) ≡ tree_from (Some t) (Leaf (member next)) more

cut : (done : Comb) (t : Tree Member) (next : ListEntry) (more : List ListEntry) → next.op ≡ U → tree_from done t (next ∷ more) ≡ tree_from (united done (Some t)) (Leaf (member next)) more
cut done t next more u = ap (λ op. cond (is_u op) (tree_from (united done (Some t)) (Leaf (member next)) more) (tree_from done (Join next.op t (Leaf (member next))) more)) u

of_product : (t : Tree Member) (l : List ListEntry) → IsProduct t l → IsUnion t l
of_product t l p = record {
  head = p.head;
  rest = p.rest;
  is = p.is;
  begins = p.begins;
  alone = ap (tree_from None (Leaf (member p.head))) (sym (append-nil p.rest)) ∙ p.goes_on None [];
  before = λ next more u. p.goes_on None (next ∷ more) ∙ cut None t next more u;
}

union_step : (a b : Tree Member) (whole l s : List ListEntry) → whole ≡ l ++ s → IsUnion a l → IsProduct b s → IsUnion (Join U a b) whole
union_step a b whole l s same one two = record {
  head = one.head;
  rest = one.rest ++ s;
  is = same ∙ ap (λ (x : List ListEntry). x ++ s) one.is;
  begins = one.begins;
  alone =
      ap (λ (x : List ListEntry). tree_from None (Leaf (member one.head)) (one.rest ++ x)) two.is
      ∙ one.before two.head two.rest two.begins
      ∙ ap (tree_from (Some a) (Leaf (member two.head))) (sym (append-nil two.rest))
      ∙ two.goes_on (Some a) [];
  before = λ next more u.
      ap (tree_from None (Leaf (member one.head))) (append_assoc one.rest s (next ∷ more))
      ∙ ap (λ (x : List ListEntry). tree_from None (Leaf (member one.head)) (one.rest ++ (x ++ next ∷ more))) two.is
      ∙ one.before two.head (two.rest ++ next ∷ more) two.begins
      ∙ two.goes_on (Some a) (next ∷ more)
      ∙ cut (Some a) b next more u;
}

union_is : (t : Tree Member) (l : List ListEntry) → union_list t ≡ Some l → IsUnion t l
union_is (Leaf m) l h = of_product (Leaf m) l (product_is (Leaf m) l h)
union_is (Join U a b) l h =
    let parts = taken_apart (union_list a) (product_of b) l h in
    union_step a b l parts.first parts.second parts.whole (union_is a parts.first parts.first_is) (product_is b parts.second parts.second_is)
union_is (Join N a b) l h = of_product (Join N a b) l (product_is (Join N a b) l h)
union_is (Join Minus a b) l h = of_product (Join Minus a b) l (product_is (Join Minus a b) l h)
union_is (Join X a b) l h = of_product (Join X a b) l (product_is (Join X a b) l h)

from_u_same : (e : ListEntry) (es : List ListEntry) → e.op ≡ U → from_u (e ∷ es) ≡ e ∷ es
from_u_same e es u = ap (λ (op : Op). (record e { op = op }) ∷ es) (sym u)

has : (t : Tree Member) (l : List ListEntry) → IsUnion t l → HasList (Some t) l
has t l u = subst (λ (x : List ListEntry). HasList (Some t) x) (sym u.is) (record { tree = tree_is u.head u.rest ∙ u.alone; first = from_u_same u.head u.rest u.begins })

-- what is read off a tree is its list
pub list_is : (t : Comb) (l : List ListEntry) → list_of t ≡ Some l → HasList t l
list_is None l h = let same : l ≡ [] = cc in subst (λ (x : List ListEntry). HasList None x) (sym same) (record { tree = refl; first = refl })
list_is (Some t) l h = has t l (union_is t l h)

one_product : (t : Tree Member) (l : List ListEntry) → product_of t ≡ Some l → union_list t ≡ Some l
one_product (Leaf m) l h = h
one_product (Join U a b) l h = cc
one_product (Join N a b) l h = h
one_product (Join Minus a b) l h = h
one_product (Join X a b) l h = h

closed : (done : Comb) (t : Tree Member) (l s : List ListEntry) → list_of done ≡ Some l → product_of t ≡ Some s → list_of (united done (Some t)) ≡ Some (l ++ s)
closed None t l s h k = let none : [] ≡ l = cc in one_product t s k ∙ ap (λ (x : List ListEntry). Some (x ++ s)) none
closed (Some a) t l s h k = ap (λ x. both x (product_of t)) h ∙ ap (both (Some l)) k

one_leaf : (op : Op) (t : Tree Member) (e : ListEntry) (s : List ListEntry) → e.op ≡ op → is_u op ≡ false → product_of t ≡ Some s → product_of (Join op t (Leaf (member e))) ≡ Some (s ++ e ∷ [])
one_leaf U t e s o not_u h = cc
one_leaf N t e s o not_u h = ap (λ x. both x (Some (entry_of N (member e) ∷ []))) h ∙ ap (λ (op : Op). Some (s ++ (record e { op = op }) ∷ [])) (sym o)
one_leaf Minus t e s o not_u h = ap (λ x. both x (Some (entry_of Minus (member e) ∷ []))) h ∙ ap (λ (op : Op). Some (s ++ (record e { op = op }) ∷ [])) (sym o)
one_leaf X t e s o not_u h = ap (λ x. both x (Some (entry_of X (member e) ∷ []))) h ∙ ap (λ (op : Op). Some (s ++ (record e { op = op }) ∷ [])) (sym o)

abbrev Reads : List ListEntry → Type 0
Reads es = (done : Comb) (t : Tree Member) (l s : List ListEntry) → list_of done ≡ Some l → product_of t ≡ Some s → list_of (tree_from done t es) ≡ Some ((l ++ s) ++ es)

read_one : (op : Op) (e : ListEntry) (es : List ListEntry) (done : Comb) (t : Tree Member) (l s : List ListEntry) → Reads es → e.op ≡ op → list_of done ≡ Some l → product_of t ≡ Some s
    → list_of (cond (is_u op) (tree_from (united done (Some t)) (Leaf (member e)) es) (tree_from done (Join op t (Leaf (member e))) es)) ≡ Some ((l ++ s) ++ e ∷ es)
read_one U e es done t l s below o h k =
    below (united done (Some t)) (Leaf (member e)) (l ++ s) (entry_of U (member e) ∷ []) (closed done t l s h k) refl
    ∙ ap Some (append_assoc (l ++ s) (entry_of U (member e) ∷ []) es)
    ∙ ap (λ (op : Op). Some ((l ++ s) ++ (record e { op = op }) ∷ es)) (sym o)
read_one N e es done t l s below o h k =
    below done (Join N t (Leaf (member e))) l (s ++ e ∷ []) h (one_leaf N t e s o refl k)
    ∙ ap (λ (x : List ListEntry). Some (x ++ es)) (sym (append_assoc l s (e ∷ [])))
    ∙ ap Some (append_assoc (l ++ s) (e ∷ []) es)
read_one Minus e es done t l s below o h k =
    below done (Join Minus t (Leaf (member e))) l (s ++ e ∷ []) h (one_leaf Minus t e s o refl k)
    ∙ ap (λ (x : List ListEntry). Some (x ++ es)) (sym (append_assoc l s (e ∷ [])))
    ∙ ap Some (append_assoc (l ++ s) (e ∷ []) es)
read_one X e es done t l s below o h k =
    below done (Join X t (Leaf (member e))) l (s ++ e ∷ []) h (one_leaf X t e s o refl k)
    ∙ ap (λ (x : List ListEntry). Some (x ++ es)) (sym (append_assoc l s (e ∷ [])))
    ∙ ap Some (append_assoc (l ++ s) (e ∷ []) es)

read_from : (es : List ListEntry) → Reads es
read_from [] done t l s h k = closed done t l s h k ∙ ap Some (sym (append-nil (l ++ s)))
read_from (e ∷ es) done t l s h k = read_one e.op e es done t l s (read_from es) refl h k

-- each list's tree has it, with its first operator read as u
pub list_back : (l : List ListEntry) → list_of (tree_of_list l) ≡ Some (from_u l)
list_back [] = refl
list_back (e ∷ es) = ap list_of (tree_is e es) ∙ read_from es None (Leaf (member e)) [] (entry_of U (member e) ∷ []) refl refl
