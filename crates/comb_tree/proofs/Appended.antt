-- What a list comes to that another list is appended to.
use Rattle.std.proofs.Common.{◌≡◌, ◌+◌, ℕ, List, [], ◌∷◌, ◌++◌, Bool, true, false, cond, ◌||◌, refl, ap, sym, ◌∙◌, length, arith}
use Rattle.comb_tree.specs.declared.node.ListEntry.{ListEntry}
use Rattle.comb_tree.specs.Nodes.{Comb, members}
use Rattle.comb_tree.specs.Lists.{is_u, is_cut, onto, products, tree_of_list, HasList}
use Rattle.comb_tree.specs.Meaning.{comb_holds, product_holds, some_holds}
use Rattle.comb_tree.proofs.Changed.{list_length}
use Rattle.comb_tree.proofs.Meant.{or_assoc, from_place, counted, from_zero, list_means}

begun : Bool → ListEntry → List (List ListEntry) → List (List ListEntry)
begun b e ps = cond b ((e ∷ []) ∷ ps) (onto e ps)

-- a list that is not empty has a first product
first_product : (b : Bool) (e : ListEntry) (qs : List (List ListEntry)) → (p : List ListEntry) × (ps : List (List ListEntry)) × (begun b e qs ≡ p ∷ ps)
unfolding begun
first_product true e qs = (e ∷ [], qs, refl)
first_product false e [] = (e ∷ [], [], refl)
first_product false e (p ∷ ps) = (e ∷ p, ps, refl)

begun_more : (b : Bool) (e : ListEntry) (p : List ListEntry) (ps qs : List (List ListEntry)) → begun b e ((p ∷ ps) ++ qs) ≡ begun b e (p ∷ ps) ++ qs
unfolding begun
begun_more true e p ps qs = refl
begun_more false e p ps qs = refl

products_append : (l m : List ListEntry) → is_cut m ≡ true → products (l ++ m) ≡ products l ++ products m
unfolding begun
products_append [] m h = refl
products_append (e ∷ []) m h = ap (λ b. begun b e (products m)) h
products_append (e ∷ f ∷ es) m h =
    let one = first_product (is_cut es) f (products es) in
    ap (begun (is_u f.op) e) (products_append (f ∷ es) m h)
    ∙ ap (λ x. begun (is_u f.op) e (x ++ products m)) one.2
    ∙ begun_more (is_u f.op) e one.0 one.1 (products m)
    ∙ ap (λ x. begun (is_u f.op) e x ++ products m) (sym one.2)

abbrev total : List (List ListEntry) → ℕ
total [] = 0
total (p ∷ ps) = length p + total ps

total_begun : (b : Bool) (e : ListEntry) (ps : List (List ListEntry)) → total (begun b e ps) ≡ 1 + total ps
unfolding begun
total_begun true e ps = omega arith
total_begun false e [] = omega arith
total_begun false e (p ∷ ps) = omega arith

total_products : (l : List ListEntry) → total (products l) ≡ length l
unfolding begun
total_products [] = refl
total_products (e ∷ es) = let more : total (begun (is_cut es) e (products es)) ≡ 1 + total (products es) = total_begun (is_cut es) e (products es) in omega (arith, more, total_products es)

some_append : (ps qs : List (List ListEntry)) (v : ℕ → Bool) → some_holds (ps ++ qs) v ≡ some_holds ps v || some_holds qs (λ i. v (total ps + i))
some_append [] qs v = ap (some_holds qs) (from_zero v)
some_append (p ∷ ps) qs v =
    ap (λ b. product_holds p v || b) (some_append ps qs (from_place (length p) v) ∙ ap (λ g. some_holds ps (from_place (length p) v) || some_holds qs g) (sym (counted v (length p + total ps) (length p) (total ps) refl)))
    ∙ sym (or_assoc (product_holds p v) (some_holds ps (from_place (length p) v)) (some_holds qs (from_place (length p + total ps) v)))

-- a tree to whose list one was appended that begins with u holds where it held, or where a product of that list does
pub appended_means : (old new : Comb) (own list : List ListEntry) → HasList old own → new ≡ tree_of_list (own ++ list) → is_cut list ≡ true → (v : ℕ → Bool)
    → comb_holds new v ≡ comb_holds old v || some_holds (products list) (λ i. v (length (members old) + i))
appended_means old new own list has made cut v =
    ap (λ t. comb_holds t v) made ∙ list_means (own ++ list) v
    ∙ ap (λ ps. some_holds ps v) (products_append own list cut)
    ∙ some_append (products own) (products list) v
    ∙ ap (λ n. some_holds (products own) v || some_holds (products list) (from_place n v)) (total_products own ∙ list_length old own has)
    ∙ ap (λ b. b || some_holds (products list) (from_place (length (members old)) v)) (sym (list_means own v) ∙ ap (λ t. comb_holds t v) has.tree)
