-- Attributes of combinations that are given as words.
use Rattle.std.proofs.Common.{◌≡◌, ◌<◌, ◌≤◌, ◌+◌, ◌∷◌, [], ◌∙◌, ℕ, Bool, true, false, not, cond, List, get_or, length, drop, map, Option, Some, None, is_some, arith, ap, sym, refl, subst}
use Rattle.std.specs.Borrow.{Bor}
use Rattle.std.specs.Option.{option_map}
use Rattle.std.proofs.lemmas.List.{drop_more}
use Rattle.tcl_words.specs.TopWords.{atom_of}
use Rattle.tcl_words.specs.declared.token.Token.{Token}
use Rattle.tcl_words.specs.declared.token.Word.{Word}
use Rattle.region_attr.specs.Attrs.{with_value, group_attr}
use Rattle.region_attr.specs.Colours.{colour_of, colour_of_parts}
use Rattle.region_attr.specs.Keys.{key_of}
use Rattle.region_attr.specs.Ranges.{most_number, most_los}
use Rattle.region_attr.specs.Values.{truth_of, number_to}
use Rattle.region_attr.specs.declared.attr.Attr.{Attr}
use Rattle.region_attr.specs.declared.key.Key.{Key}
use Rattle.region_attr.specs.declared.key.Key.TheVariants.{Region, Id, Air, Los, Mater, Rgb, Inherit}
use Rattle.word_values.specs.Atoms.{words_in}
use Rattle.put_form.specs.Pairs.{Pair}
use Rattle.put_form.specs.Combs.{coloured, group_value, valued, attr_or, known_word, with_key, attr_from, tree_at, has_numbers, is_value, has_value, bad_pair}
use Rattle.put_form.specs.Puts.{number_fault}
use Rattle.put_form.specs.CombSteps.{known_set, pair_set, IsFine, AreFine}
use Rattle.put_form.specs.declared.fault.PutFault.TheVariants.{Number}
use Rattle.put_form.proofs.ListLaws.{found_here, found_past}

-- other than three words are no colour
pub few_parts : (words : List (Bor (List ℕ))) → length words < 3 → None ≡ colour_of_parts (map (λ (a : Bor (List ℕ)). a.now) words)
few_parts [] lt = refl
few_parts (a ∷ []) lt = refl
few_parts (a ∷ b ∷ []) lt = refl
few_parts (a ∷ b ∷ c ∷ rest) lt = absurd (omega (arith, lt))

pub many_parts : (words : List (Bor (List ℕ))) → 4 ≤ length words → None ≡ colour_of_parts (map (λ (a : Bor (List ℕ)). a.now) words)
many_parts [] le = absurd (omega (arith, le))
many_parts (a ∷ []) le = absurd (omega (arith, le))
many_parts (a ∷ b ∷ []) le = absurd (omega (arith, le))
many_parts (a ∷ b ∷ c ∷ []) le = absurd (omega (arith, le))
many_parts (a ∷ b ∷ c ∷ d ∷ rest) le = refl

-- whether a word is a value does not depend on the attributes
some_mapped : {X Y : Type 0} (f : X → Y) (o : Option X) → is_some (option_map f o) ≡ is_some o
some_mapped f None = refl
some_mapped f (Some x) = refl

atom_takes : (key : Key) (atom : List ℕ) (a b : Attr) → is_some (with_value key atom a) ≡ is_some (with_value key atom b)
atom_takes Region atom a b = some_mapped _ (truth_of atom) ∙ sym (some_mapped _ (truth_of atom))
atom_takes Id atom a b = some_mapped _ (number_to most_number atom) ∙ sym (some_mapped _ (number_to most_number atom))
atom_takes Air atom a b = some_mapped _ (number_to most_number atom) ∙ sym (some_mapped _ (number_to most_number atom))
atom_takes Los atom a b = some_mapped _ (number_to most_los atom) ∙ sym (some_mapped _ (number_to most_los atom))
atom_takes Mater atom a b = some_mapped _ (number_to most_number atom) ∙ sym (some_mapped _ (number_to most_number atom))
atom_takes Rgb atom a b = some_mapped _ (colour_of atom) ∙ sym (some_mapped _ (colour_of atom))
atom_takes Inherit atom a b = some_mapped _ (truth_of atom) ∙ sym (some_mapped _ (truth_of atom))

group_takes : (key : Key) (words : Option (List (List ℕ))) (a b : Attr) → is_some (group_value key words a) ≡ is_some (group_value key words b)
group_takes Region words a b = refl
group_takes Id words a b = refl
group_takes Air words a b = refl
group_takes Los words a b = refl
group_takes Mater words a b = refl
group_takes Rgb words a b = some_mapped _ (coloured words) ∙ sym (some_mapped _ (coloured words))
group_takes Inherit words a b = refl

valued_takes : (key : Key) (atom : Option (List ℕ)) (words : Option (List (List ℕ))) (a b : Attr) → is_some (valued key atom words a) ≡ is_some (valued key atom words b)
valued_takes key None words a b = group_takes key words a b
valued_takes key (Some atom) words a b = atom_takes key atom a b

-- a pair sets something where its value is one
some_if : (t : Bool) (attr : Attr) → is_some (cond t (Some attr) None) ≡ t
some_if true attr = refl
some_if false attr = refl

known_takes : (text : List ℕ) (tokens : List Token) (fine : Bool) (key : Option Key) (value : Word) (attr : Attr) → (key ≡ None → has_numbers (tree_at text tokens value) ≡ fine)
    → is_some (known_set text tokens fine key value attr) ≡ is_value text tokens key value
known_takes text tokens fine None value attr h = some_if fine attr ∙ sym (h refl)
known_takes text tokens fine (Some key) value attr h = valued_takes key (atom_of text tokens value) (words_in text tokens value) attr group_attr

pair_takes : (text : List ℕ) (tokens : List Token) (fine : Bool) (key : Option (List ℕ)) (value : Word) (attr : Attr)
    → ((name : List ℕ) → key ≡ Some name → key_of name ≡ None → has_numbers (tree_at text tokens value) ≡ fine)
    → is_some (pair_set text tokens fine key value attr) ≡ has_value text tokens key value
pair_takes text tokens fine None value attr h = refl
pair_takes text tokens fine (Some name) value attr h = known_takes text tokens fine (key_of name) value attr (h name refl)

-- and gives these attributes
attr_if : (t : Bool) (attr changed : Attr) → cond t (Some attr) None ≡ Some changed → attr ≡ changed
attr_if true attr changed h = cc
attr_if false attr changed h = absurd cc

known_gives : (text : List ℕ) (tokens : List Token) (fine : Bool) (key : Option Key) (value : Word) (attr changed : Attr) → known_set text tokens fine key value attr ≡ Some changed
    → known_word text tokens key value attr ≡ changed
known_gives text tokens fine None value attr changed h = attr_if fine attr changed h
known_gives text tokens fine (Some key) value attr changed h = ap (attr_or attr) h

pair_gives : (text : List ℕ) (tokens : List Token) (fine : Bool) (key : Option (List ℕ)) (value : Word) (attr changed : Attr) → pair_set text tokens fine key value attr ≡ Some changed
    → with_key text tokens key value attr ≡ changed
pair_gives text tokens fine None value attr changed h = cc
pair_gives text tokens fine (Some name) value attr changed h = known_gives text tokens fine (key_of name) value attr changed h

-- one pair more
pub attrs_more : (text : List ℕ) (tokens : List Token) (fine : Bool) (pairs : List Pair) (i : ℕ) (p : Pair) (attr changed : Attr) → i < length pairs → p ≡ get_or pairs i p
    → pair_set text tokens fine p.key p.value attr ≡ Some changed
    → attr_from text tokens (drop (i + 1) pairs) changed ≡ attr_from text tokens (drop i pairs) attr
attrs_more text tokens fine pairs i p attr changed lt at h =
    ap (attr_from text tokens (drop (i + 1) pairs)) (sym (pair_gives text tokens fine p.key p.value attr changed h))
    ∙ ap (λ (q : Pair). attr_from text tokens (drop (i + 1) pairs) (with_key text tokens q.key q.value attr)) at
    ∙ sym (ap (λ (ps : List Pair). attr_from text tokens ps attr) (drop_more pairs i p lt))

pub fine_pair : (text : List ℕ) (tokens : List Token) (fine : Bool) (pairs : List Pair) (i : ℕ) (p : Pair) → AreFine text tokens fine pairs → i < length pairs → p ≡ get_or pairs i p → IsFine text tokens fine p
fine_pair text tokens fine pairs i p all lt at = subst (IsFine text tokens fine) (sym at) (all i p lt)

value_here : (text : List ℕ) (tokens : List Token) (fine : Bool) (pairs : List Pair) (i : ℕ) (p : Pair) (attr : Attr) (o : Option Attr) → AreFine text tokens fine pairs → i < length pairs → p ≡ get_or pairs i p
    → pair_set text tokens fine p.key p.value attr ≡ o → has_value text tokens (get_or pairs i p).key (get_or pairs i p).value ≡ is_some o
value_here text tokens fine pairs i p attr o all lt at h =
    ap (λ (q : Pair). has_value text tokens q.key q.value) (sym at)
    ∙ sym (pair_takes text tokens fine p.key p.value attr (fine_pair text tokens fine pairs i p all lt at)) ∙ ap is_some h

pub bad_past : (text : List ℕ) (tokens : List Token) (fine : Bool) (pairs : List Pair) (i : ℕ) (p : Pair) (attr changed : Attr) → AreFine text tokens fine pairs → i < length pairs → p ≡ get_or pairs i p
    → pair_set text tokens fine p.key p.value attr ≡ Some changed → bad_pair text tokens (drop (i + 1) pairs) ≡ bad_pair text tokens (drop i pairs)
bad_past text tokens fine pairs i p attr changed all lt at h =
    found_past (λ (q : Pair). not (has_value text tokens q.key q.value)) pairs i p lt (ap not (value_here text tokens fine pairs i p attr (Some changed) all lt at h))

pub bad_here : (text : List ℕ) (tokens : List Token) (fine : Bool) (pairs : List Pair) (i : ℕ) (p : Pair) (attr : Attr) → AreFine text tokens fine pairs → i < length pairs → p ≡ get_or pairs i p
    → pair_set text tokens fine p.key p.value attr ≡ None → bad_pair text tokens (drop i pairs) ≡ bad_pair text tokens pairs → number_fault (bad_pair text tokens pairs) ≡ Some (Number p.place)
bad_here text tokens fine pairs i p attr all lt at h same =
    ap number_fault (sym same ∙ found_here (λ (q : Pair). not (has_value text tokens q.key q.value)) pairs i p lt (ap not (value_here text tokens fine pairs i p attr None all lt at h)))
    ∙ ap (λ (q : Pair). number_fault (Some q)) (sym at)
