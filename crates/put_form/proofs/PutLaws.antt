-- Combinations and objects that are given as words.
use Rattle.std.proofs.Common.{All, ◌≡◌, ◌≤◌, ◌-◌, ◌==◌, ◌&&◌, ◌||◌, ◌∷◌, [], ◌∙◌, ℕ, Bool, true, false, not, cond, bytes_eq, codes, List, get_or, length, take, drop, Option, Some, None, is_some, Result, Ok, Err, length-drop, arith, ap, sym, refl, subst}
use Rattle.std.specs.List.{list_all, list_any}
use Rattle.std.proofs.Math.Seq.{take-length}
use Rattle.std.proofs.lemmas.Bool.{and_parts, cond-true}
use Rattle.std.proofs.lemmas.List.Elements.{All-cons}
use Rattle.std.proofs.lemmas.Slice.Eq.{bytes_eq-Decides}
use Rattle.tcl_words.specs.declared.token.Token.{Token}
use Rattle.tcl_words.specs.declared.token.Word.{Word}
use Rattle.region_attr.specs.Keys.{key_of}
use Rattle.region_attr.specs.declared.key.Key.{Key}
use Rattle.comb_tree.specs.Nodes.{Comb}
use Rattle.object_set.specs.declared.object.Body.TheVariants as bodies
use Rattle.word_values.specs.declared.tree.TreeFault.{TreeFault}
use Rattle.word_values.specs.declared.tree.TreeFault.TheVariants as tree
use Rattle.put_form.specs.Pairs.{Pair, is_key, same_keys, are_distinct}
use Rattle.put_form.specs.Combs.{is_tree_key, is_comb_key, has_keys, tree_at, tree_given, tree_pair, tree_in, has_numbers, has_value, bad_pair, attr_of}
use Rattle.put_form.specs.Puts.{Put, IsPut, put_of, unless_fault, when, name_fault, name_of, number_fault, place_of, comb_with, comb_of}
use Rattle.put_form.specs.Steps.{IsPutRead}
use Rattle.put_form.specs.CombSteps.{AreFine, comb_put}
use Rattle.put_form.specs.PutSteps.{words_put}
use Rattle.put_form.specs.declared.fault.PutFault.{PutFault}
use Rattle.put_form.specs.declared.fault.PutFault.TheVariants as faults
use Rattle.put_form.proofs.ListLaws.{all_none, of_not, found_passes, found_is, none_found}

-- a key of a combination that is no attribute's is the tree's
same_bytes : (a b : List ℕ) → bytes_eq a b ≡ true → a ≡ b
same_bytes a b h = (bytes_eq-Decides a b).0 h

bytes_same : (a : List ℕ) → bytes_eq a a ≡ true
bytes_same a = (bytes_eq-Decides a a).1 refl

tree_key : (o : Option (List ℕ)) → is_key (codes "tree") o ≡ true → o ≡ Some (codes "tree")
tree_key None h = absurd cc
tree_key (Some key) h = ap (λ (k : List ℕ). Some k) (sym (same_bytes (codes "tree") key h))

known_by : (o : Option Key) (t : Bool) → o ≡ None → (is_some o || t) ≡ true → t ≡ true
known_by None t e h = h
known_by (Some key) t e h = absurd cc

only_key : (o : Option (List ℕ)) (key : List ℕ) → is_comb_key o ≡ true → o ≡ Some key → key_of key ≡ None → o ≡ Some (codes "tree")
only_key None key known is none = absurd cc
only_key (Some name) key known is none =
    let same : name ≡ key = cc in
    let other : key_of name ≡ None = ap key_of same ∙ none in
    ap (λ (k : List ℕ). Some k) (same_bytes name (codes "tree") (known_by (key_of name) (is_tree_key name) other known))

-- it is the one pair of that key
any_none : (p : Pair → Bool) (xs : List Pair) → list_any p xs ≡ false → All (λ x. p x ≡ false) xs
any_none p [] h = all_none (λ x. p x ≡ false)
any_none p (x ∷ xs) h = let e = neither (p x) (list_any p xs) h in All-cons (λ x. p x ≡ false) x xs e.0 (any_none p xs e.1)
  where
    neither : (a b : Bool) → (a || b) ≡ false → (a ≡ false) × (b ≡ false)
    neither true b h = absurd cc
    neither false b h = (refl, h)

abbrev IsOnly : List Pair → Pair → Type 0
IsOnly pairs p = (key : List ℕ) → p.key ≡ Some key → key_of key ≡ None → tree_pair pairs ≡ Some p

not_both : (o other : Option (List ℕ)) (t : Bool) → is_key (codes "tree") o ≡ t → other ≡ Some (codes "tree") → same_keys o other ≡ false → t ≡ false
not_both o other false e is h = refl
not_both o other true e is h =
    let tree : Option (List ℕ) = Some (codes "tree") in
    let clash : true ≡ false = sym (bytes_same (codes "tree")) ∙ sym (ap (λ (k : Option (List ℕ)). same_keys k tree) (tree_key o e)) ∙ ap (same_keys o) (sym is) ∙ h in
    absurd cc

past : (t : Bool) (p : Pair) (rest : Option Pair) → t ≡ false → cond t (Some p) rest ≡ rest
past true p rest e = absurd cc
past false p rest e = refl

only_tree : (pairs : List Pair) → list_all (λ (p : Pair). is_comb_key p.key) pairs ≡ true → are_distinct pairs ≡ true → All (IsOnly pairs) pairs
only_tree [] known distinct = all_none (IsOnly [])
only_tree (p ∷ rest) known distinct =
    let k = and_parts (is_comb_key p.key) (list_all (λ (q : Pair). is_comb_key q.key) rest) known in
    let d = and_parts (not (list_any (λ (other : Pair). same_keys p.key other.key) rest)) (are_distinct rest) distinct in
    let others = any_none (λ (other : Pair). same_keys p.key other.key) rest (of_not (list_any (λ (other : Pair). same_keys p.key other.key) rest) d.0) in
    let more = only_tree rest k.1 d.1 in
    let all_known = known_keys rest k.1 in
    All-cons (IsOnly (p ∷ rest)) p rest
    (λ key is none. cond-true (is_key (codes "tree") p.key) (Some p) (tree_pair rest) (ap (is_key (codes "tree")) (only_key p.key key k.0 is none)))
    (λ i e lt key is none.
    past (is_key (codes "tree") p.key) p (tree_pair rest) (not_both p.key (get_or rest i e).key (is_key (codes "tree") p.key) refl (only_key (get_or rest i e).key key (all_known i e lt) is none) (others i e lt))
    ∙ more i e lt key is none)
  where
    known_keys : (pairs : List Pair) → list_all (λ (p : Pair). is_comb_key p.key) pairs ≡ true → All (λ (p : Pair). is_comb_key p.key ≡ true) pairs
    known_keys [] h = all_none (λ (p : Pair). is_comb_key p.key ≡ true)
    known_keys (q ∷ qs) h =
        let e = and_parts (is_comb_key q.key) (list_all (λ (p : Pair). is_comb_key p.key) qs) h in All-cons (λ (p : Pair). is_comb_key p.key ≡ true) q qs e.0 (known_keys qs e.1)

pub trees_fine : (text : List ℕ) (tokens : List Token) (pairs : List Pair) (fine : Bool) → has_keys pairs ≡ true → has_numbers (tree_in text tokens pairs) ≡ fine → AreFine text tokens fine pairs
trees_fine text tokens pairs fine keys is =
    let a = and_parts (not (length pairs == 0) && list_all (λ (p : Pair). is_comb_key p.key) pairs) (are_distinct pairs) keys in
    let b = and_parts (not (length pairs == 0)) (list_all (λ (p : Pair). is_comb_key p.key) pairs) a.0 in
    let only = only_tree pairs b.1 a.1 in
    λ i d lt key at none. sym (ap (λ (o : Option Pair). has_numbers (tree_given text tokens o)) (only i d lt key at none)) ∙ is

-- a tree with a bad number is a bad pair
pair_bad : (text : List ℕ) (tokens : List Token) (p : Pair) → is_key (codes "tree") p.key ≡ true → tree_at text tokens p.value ≡ Err tree.Number → has_value text tokens p.key p.value ≡ false
pair_bad text tokens p key h = ap (λ (o : Option (List ℕ)). has_value text tokens o p.value) (tree_key p.key key) ∙ ap has_numbers h

bad_found : (text : List ℕ) (tokens : List Token) (pairs : List Pair) (p : Pair) (o : Option Pair) → tree_pair pairs ≡ Some p → tree_at text tokens p.value ≡ Err tree.Number → bad_pair text tokens pairs ≡ o → is_some o ≡ true
bad_found text tokens pairs p (Some q) at h e = refl
bad_found text tokens pairs p None at h e =
    let bad : has_value text tokens p.key p.value ≡ false = pair_bad text tokens p (found_passes (λ (q : Pair). is_key (codes "tree") q.key) pairs p at) h in
    let good : not (has_value text tokens p.key p.value) ≡ false = found_is (λ (q : Pair). not (has_value text tokens q.key q.value) ≡ false) (λ (q : Pair). is_key (codes "tree") q.key) pairs p
    (none_found (λ (q : Pair). not (has_value text tokens q.key q.value)) pairs e) at in
    let clash : true ≡ false = ap not (sym bad) ∙ good in
    absurd cc

bad_by : (text : List ℕ) (tokens : List Token) (pairs : List Pair) (o : Option Pair) → tree_pair pairs ≡ o → tree_given text tokens o ≡ Err tree.Number → is_some (bad_pair text tokens pairs) ≡ true
bad_by text tokens pairs None at h = absurd cc
bad_by text tokens pairs (Some p) at h = bad_found text tokens pairs p (bad_pair text tokens pairs) at h refl

pub bad_there : (text : List ℕ) (tokens : List Token) (pairs : List Pair) → tree_in text tokens pairs ≡ Err tree.Number → is_some (bad_pair text tokens pairs) ≡ true
bad_there text tokens pairs h = bad_by text tokens pairs (tree_pair pairs) refl h

-- combinations by what their tree is
abbrev made : List ℕ → List Token → Option (List ℕ) → List Pair → Comb → Put
made text tokens name pairs found = Ok (name_of name, record { body = bodies.Comb (attr_of text tokens pairs) found; kept = [] })

keyed : (pairs : List Pair) → has_keys pairs ≡ true → when (not (has_keys pairs)) faults.Attr ≡ None
keyed pairs h = ap (λ b. when (not b) faults.Attr) h

past_member : (a b : Option PutFault) (put : Put) → unless_fault (a ∷ None ∷ b ∷ []) put ≡ unless_fault (a ∷ b ∷ []) put
past_member None b put = refl
past_member (Some fault) b put = refl

with_keys : (text : List ℕ) (tokens : List Token) (name : Option (List ℕ)) (pairs : List Pair) (found : Result Comb TreeFault) → tree_in text tokens pairs ≡ found
    → comb_of text tokens name pairs ≡ comb_with text tokens name pairs found (place_of (tree_pair pairs))
with_keys text tokens name pairs found is = ap (λ r. comb_with text tokens name pairs r (place_of (tree_pair pairs))) is

first_past : (pairs : List Pair) (rest : List (Option PutFault)) (put : Put) → has_keys pairs ≡ true → unless_fault (when (not (has_keys pairs)) faults.Attr ∷ rest) put ≡ unless_fault rest put
first_past pairs rest put h = ap (λ (o : Option PutFault). unless_fault (o ∷ rest) put) (keyed pairs h)

pub comb_ok : (r : Put) (text : List ℕ) (tokens : List Token) (name : Option (List ℕ)) (pairs : List Pair) (found : Comb) → has_keys pairs ≡ true → tree_in text tokens pairs ≡ Ok found
    → IsPutRead r (comb_put text tokens name pairs found) → IsPutRead r (comb_of text tokens name pairs)
comb_ok r text tokens name pairs found keys is h =
    let same : comb_of text tokens name pairs ≡ comb_put text tokens name pairs found =
    with_keys text tokens name pairs (Ok found) is ∙ first_past pairs _ _ keys ∙ past_member (name_fault name) (number_fault (bad_pair text tokens pairs)) (made text tokens name pairs found) in
    subst (IsPutRead r) (sym same) h

-- objects by their first three words
put_read : (r : Put) (text : List ℕ) (tokens : List Token) (words : List Word) (put : Put) → put_of text tokens words ≡ put → IsPutRead r put → IsPut r text tokens words
put_read (Ok made) text tokens words put e h = e ∙ h
put_read (Err faults.NoType) text tokens words put e h = e ∙ h
put_read (Err faults.Attr) text tokens words put e h = e ∙ h
put_read (Err faults.Tree) text tokens words put e h = e ∙ h
put_read (Err (faults.Name n)) text tokens words put e h = e ∙ h
put_read (Err (faults.Number n)) text tokens words put e h = e ∙ h
put_read (Err (faults.Shape s)) text tokens words put e h = e ∙ h
put_read (Err faults.Memory) text tokens words put e h = tt

put_words : (text : List ℕ) (tokens : List Token) (words : List Word) (d : Word) → 3 ≤ length words → put_of text tokens words ≡ words_put text tokens (get_or words 0 d) (get_or words 1 d) (get_or words 2 d) (drop 3 words)
put_words text tokens [] d le = absurd (omega (arith, le))
put_words text tokens (a ∷ []) d le = absurd (omega (arith, le))
put_words text tokens (a ∷ b ∷ []) d le = absurd (omega (arith, le))
put_words text tokens (a ∷ b ∷ c ∷ rest) d le = refl

rest_from : (n : ℕ) (words : List Word) → take (length words - n) (drop n words) ≡ drop n words
rest_from n words =
    let len : length words - n ≡ length (drop n words) = omega (arith, length-drop {A = Word} n words) in
    ap (λ k. take k (drop n words)) len ∙ take-length (drop n words)

pub put_long : (r : Put) (text : List ℕ) (tokens : List Token) (words : List Word) (d : Word) → 3 ≤ length words
    → IsPutRead r (words_put text tokens (get_or words 0 d) (get_or words 1 d) (get_or words 2 d) (take (length words - 3) (drop 3 words))) → IsPut r text tokens words
put_long r text tokens words d le h =
    put_read r text tokens words _ (put_words text tokens words d le ∙ ap (words_put text tokens (get_or words 0 d) (get_or words 1 d) (get_or words 2 d)) (sym (rest_from 3 words))) h
