-- To note pairs in a map is to keep them.
use Rattle.std.proofs.Common.{◌≡◌, ℕ, List, None, [], ◌∷◌, ◌++◌, Bool, true, false, cond, if◌then◌else◌, ◌||◌, All, refl, ap, sym, subst, ◌∙◌, map, append_assoc}
use Rattle.std.specs.List.{IsDistinct, list_any}
use Rattle.std.specs.Map.{keys_of, lookup}
use Rattle.std.proofs.lemmas.List.{append-nil}
use Rattle.indexmap.proofs.MapLemmas.{absent_before, absent_from_lookup, insert_entry-absent}
use Rattle.std.proofs.lemmas.List.Elements.{All-head, All-tail, All-cons}
use Rattle.std.proofs.lemmas.Map.Keys.{IsDistinct-push}
use Rattle.indexmap.specs.IndexMap.{insert_entry}
use Rattle.name_core.specs.declared.name.Name.{Name}
use Rattle.name_core.specs.Same.{same_name, same_name_equiv}
use Rattle.object_set.specs.declared.kept.KeptAttr.{KeptAttr}
use Rattle.object_set.specs.TextValues.{IsTextValue}
use Rattle.object_set.specs.Objects.{IsKept, keys_of_kept}
use Rattle.object_set.specs.Keeping.{with_kept, kept_after}
use Rattle.object_set.specs.Noting.{attribute_of, noted_after}

one_noted : (b : Bool) (e : Name × List ℕ) (es more : List (Name × List ℕ)) (ks : List KeptAttr) (pair : KeptAttr) → map attribute_of more ≡ ks
    → map attribute_of (if b then (e.0, pair.value) ∷ es else e ∷ more) ≡ cond b ((record (attribute_of e) { value = pair.value }) ∷ map attribute_of es) (attribute_of e ∷ ks)
one_noted true e es more ks pair h = refl
one_noted false e es more ks pair h = ap (λ xs. attribute_of e ∷ xs) h

noted_one : (es : List (Name × List ℕ)) (pair : KeptAttr) → map attribute_of (insert_entry same_name es pair.name pair.value) ≡ with_kept (map attribute_of es) pair
noted_one [] pair = refl
noted_one (e ∷ es) pair = one_noted (same_name pair.name e.0) e es (insert_entry same_name es pair.name pair.value) (with_kept (map attribute_of es) pair) pair (noted_one es pair)

pub noted_all : (es : List (Name × List ℕ)) (pairs : List KeptAttr) → map attribute_of (noted_after es pairs) ≡ kept_after (map attribute_of es) pairs
noted_all es [] = refl
noted_all es (pair ∷ pairs) = noted_all (insert_entry same_name es pair.name pair.value) pairs ∙ ap (λ ks. kept_after ks pairs) (noted_one es pair)

-- the keys after one more pair
keys_by : (b : Bool) (k pair : KeptAttr) (ks more : List KeptAttr) → keys_of_kept more ≡ cond (list_any (same_name pair.name) (keys_of_kept ks)) (keys_of_kept ks) (keys_of_kept ks ++ pair.name ∷ [])
    → keys_of_kept (cond b ((record k { value = pair.value }) ∷ ks) (k ∷ more)) ≡ cond (b || list_any (same_name pair.name) (keys_of_kept ks)) (k.name ∷ keys_of_kept ks) ((k.name ∷ keys_of_kept ks) ++ pair.name ∷ [])
keys_by true k pair ks more h = refl
keys_by false k pair ks more h = ap (λ ns. k.name ∷ ns) h ∙ pushed (list_any (same_name pair.name) (keys_of_kept ks)) k.name (keys_of_kept ks) (keys_of_kept ks ++ pair.name ∷ [])
  where
    pushed : (b : Bool) (n : Name) (xs ys : List Name) → n ∷ cond b xs ys ≡ cond b (n ∷ xs) (n ∷ ys)
    pushed true n xs ys = refl
    pushed false n xs ys = refl

keys_after : (ks : List KeptAttr) (pair : KeptAttr) → keys_of_kept (with_kept ks pair) ≡ cond (list_any (same_name pair.name) (keys_of_kept ks)) (keys_of_kept ks) (keys_of_kept ks ++ pair.name ∷ [])
keys_after [] pair = refl
keys_after (k ∷ ks) pair = keys_by (same_name pair.name k.name) k pair ks (with_kept ks pair) (keys_after ks pair)

distinct_by : (b : Bool) (ns : List Name) (n : Name) → list_any (same_name n) ns ≡ b → IsDistinct same_name ns → IsDistinct same_name (cond b ns (ns ++ n ∷ []))
distinct_by true ns n is h = h
distinct_by false ns n is h = IsDistinct-push same_name_equiv ns n h is

distinct_after : (ks : List KeptAttr) (pair : KeptAttr) → IsDistinct same_name (keys_of_kept ks) → IsDistinct same_name (keys_of_kept (with_kept ks pair))
distinct_after ks pair h = subst (IsDistinct same_name) (sym (keys_after ks pair)) (distinct_by _ (keys_of_kept ks) pair.name refl h)

abbrev AreTexts : List KeptAttr → Type 0
AreTexts ks = All (λ (k : KeptAttr). IsTextValue k.value) ks

texts_by : (b : Bool) (k pair : KeptAttr) (ks more : List KeptAttr) → IsTextValue pair.value → AreTexts (k ∷ ks) → AreTexts more → AreTexts (cond b ((record k { value = pair.value }) ∷ ks) (k ∷ more))
texts_by true k pair ks more p h m = All-cons (λ (x : KeptAttr). IsTextValue x.value) _ ks p (All-tail (λ (x : KeptAttr). IsTextValue x.value) k ks h)
texts_by false k pair ks more p h m = All-cons (λ (x : KeptAttr). IsTextValue x.value) k more (All-head (λ (x : KeptAttr). IsTextValue x.value) k ks h) m

texts_after : (ks : List KeptAttr) (pair : KeptAttr) → IsTextValue pair.value → AreTexts ks → AreTexts (with_kept ks pair)
texts_after [] pair p h = All-cons (λ (x : KeptAttr). IsTextValue x.value) pair [] p h
texts_after (k ∷ ks) pair p h = texts_by (same_name pair.name k.name) k pair ks (with_kept ks pair) p h (texts_after ks pair p (All-tail (λ (x : KeptAttr). IsTextValue x.value) k ks h))

pub kept_lawful : (ks pairs : List KeptAttr) → IsKept ks → AreTexts pairs → IsKept (kept_after ks pairs)
kept_lawful ks [] h t = h
kept_lawful ks (pair ∷ pairs) h t =
    kept_lawful (with_kept ks pair) pairs
    (record { distinct = distinct_after ks pair h.distinct; texts = texts_after ks pair (All-head (λ (x : KeptAttr). IsTextValue x.value) pair pairs t) h.texts })
    (All-tail (λ (x : KeptAttr). IsTextValue x.value) pair pairs t)

abbrev entry_of : KeptAttr → Name × List ℕ
entry_of k = (k.name, k.value)

-- keys that differ go to the end one after the other
all_new : (es : List (Name × List ℕ)) (ks : List KeptAttr) → IsDistinct same_name (keys_of (es ++ map entry_of ks)) → noted_after es ks ≡ es ++ map entry_of ks
all_new es [] h = sym (append-nil es)
all_new es (k ∷ ks) h =
    let none : lookup (same_name k.name) es ≡ None = absent_before same_name_equiv es (map entry_of ks) (entry_of k) h in
    ap (λ xs. noted_after xs ks) (insert_entry-absent same_name k.name k.value es (absent_from_lookup (same_name k.name) es none))
    ∙ all_new (es ++ entry_of k ∷ []) ks (subst (λ (xs : List (Name × List ℕ)). IsDistinct same_name (keys_of xs)) (sym (append_assoc es (entry_of k ∷ []) (map entry_of ks))) h)
    ∙ append_assoc es (entry_of k ∷ []) (map entry_of ks)

keys_same : (ks : List KeptAttr) → keys_of (map entry_of ks) ≡ keys_of_kept ks
keys_same [] = refl
keys_same (k ∷ ks) = ap (λ ns. k.name ∷ ns) (keys_same ks)

back : (ks : List KeptAttr) → map attribute_of (map entry_of ks) ≡ ks
back [] = refl
back (k ∷ ks) = ap (λ xs. k ∷ xs) (back ks)

-- the attributes after all of them, and then each pair, were noted
pub kept_again : (ks pairs : List KeptAttr) (none one two : List (Name × List ℕ)) → IsDistinct same_name (keys_of_kept ks) → none ≡ [] → one ≡ noted_after none ks → two ≡ noted_after one pairs
    → map attribute_of two ≡ kept_after ks pairs
kept_again ks pairs none one two h empty first second =
    let start : one ≡ map entry_of ks = first ∙ ap (λ xs. noted_after xs ks) empty ∙ all_new [] ks (subst (IsDistinct same_name) (sym (keys_same ks)) h) in
    ap (map attribute_of) second ∙ noted_all one pairs ∙ ap (λ xs. kept_after xs pairs) (ap (map attribute_of) start ∙ back ks)
