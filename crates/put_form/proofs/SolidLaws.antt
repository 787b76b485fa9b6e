-- Solids by their keys and numbers.
use Rattle.std.proofs.Common.{◌≡◌, ◌<◌, ◌≤◌, ◌+◌, ◌++◌, ◌∷◌, [], ◌==◌, ◌∙◌, ℕ, ℤ, pos, Bool, true, false, not, cond, find, nat_le, List, get_or, length, take, drop, map, zero, suc, Option, Some, None, length-append, length-take-le, get_or-take, append_assoc, arith, ap, sym, refl, subst, eqb-true}
use Rattle.std.specs.Option.{option_map}
use Rattle.std.specs.Int.RustNames.{unsigned_abs}
use Rattle.std.proofs.lemmas.Bool.{leb-true}
use Rattle.std.proofs.lemmas.List.{length-map}
use Rattle.tcl_words.specs.Numbers.{number_of, tenths_of}
use Rattle.tcl_words.specs.TopWords.{atom_of}
use Rattle.tcl_words.specs.declared.token.Token.{Token}
use Rattle.tcl_words.specs.declared.token.Word.{Word}
use Rattle.word_values.specs.Atoms.{words_in, kept_to}
use Rattle.word_values.specs.Kinds.{number_as, most_of, kind_at, AllWithinKinds}
use Rattle.word_values.specs.declared.atoms.NumberKind.{NumberKind}
use Rattle.word_values.specs.declared.atoms.NumberKind.TheVariants.{Whole, Length}
use Rattle.word_values.specs.declared.atoms.NumberList.{NumberList}
use Rattle.word_values.specs.declared.atoms.NumberList.TheVariants as lists
use Rattle.word_values.specs.Solids.{number_count, solid_made}
use Rattle.word_values.specs.Solids as made
use Rattle.word_values.specs.SolidForms.{Key, keys_of, key_at, made_as}
use Rattle.word_values.specs.declared.solid.SolidKind.{SolidKind}
use Rattle.word_values.specs.declared.solid_form.SolidForm.{SolidForm}
use Rattle.word_values.proofs.SolidLaws.{same_made}
use Rattle.word_values.proofs.FormLaws.{HasPlaces, HavePlaces, total, enough, keys_more, keys_placed}
use Rattle.put_form.specs.Pairs.{Pair, pair_of}
use Rattle.put_form.specs.Solids.{of_count, single, value_atoms, value_numbers, numbers_at, key_numbers, appended, all_numbers, numbers_of, radius_in, is_good, bad_pair}
use Rattle.put_form.specs.Puts.{Put, unless_fault, name_fault, number_fault, solid_put, solid_of, solid_with}
use Rattle.put_form.specs.Steps.{IsPutRead, word_of, word_fault}
use Rattle.put_form.specs.SolidSteps.{IsOfKind, AreOfKinds, or_zero, named_solid}
use Rattle.put_form.specs.SolidSteps as steps
use Rattle.put_form.proofs.ListLaws.{found_here, found_end}

-- the numbers of one key more
appended_assoc : (done found : List (Option ℤ)) (rest : Option (List (Option ℤ))) → appended (Some (done ++ found)) rest ≡ appended (Some done) (appended (Some found) rest)
appended_assoc done found None = refl
appended_assoc done found (Some rest) = ap (λ (xs : List (Option ℤ)). Some xs) (append_assoc done found rest)

pub numbers_more : (text : List ℕ) (tokens : List Token) (pairs : List Pair) (form : SolidForm) (i : ℕ) (done found : List (Option ℤ)) → i < length (keys_of form)
    → Some found ≡ key_numbers text tokens pairs (key_at form i)
    → appended (Some (done ++ found)) (all_numbers text tokens pairs (drop (i + 1) (keys_of form))) ≡ appended (Some done) (all_numbers text tokens pairs (drop i (keys_of form)))
numbers_more text tokens pairs form i done found lt is =
    let rest : Option (List (Option ℤ)) = all_numbers text tokens pairs (drop (i + 1) (keys_of form)) in
    appended_assoc done found rest ∙ ap (λ (o : Option (List (Option ℤ))). appended (Some done) (appended o rest)) is
    ∙ sym (ap (λ (keys : List Key). appended (Some done) (all_numbers text tokens pairs keys)) (keys_more form i lt))

pub numbers_missing : (text : List ℕ) (tokens : List Token) (pairs : List Pair) (form : SolidForm) (i : ℕ) (done : List (Option ℤ)) → i < length (keys_of form)
    → None ≡ key_numbers text tokens pairs (key_at form i)
    → None ≡ appended (Some done) (all_numbers text tokens pairs (drop i (keys_of form)))
numbers_missing text tokens pairs form i done lt is =
    let rest : Option (List (Option ℤ)) = all_numbers text tokens pairs (drop (i + 1) (keys_of form)) in
    ap (λ (o : Option (List (Option ℤ))). appended (Some done) (appended o rest)) is
    ∙ sym (ap (λ (keys : List Key). appended (Some done) (all_numbers text tokens pairs keys)) (keys_more form i lt))

-- how many numbers there are
counted : (count : ℕ) (atoms found : List (List ℕ)) (t : Bool) → (length atoms == count) ≡ t → cond t (Some atoms) None ≡ Some found → length found ≡ count
counted count atoms found true e h = let same : atoms ≡ found = cc in sym (ap length same) ∙ eqb-true (length atoms) count e
counted count atoms found false e h = absurd cc

of_counted : (count : ℕ) (o : Option (List (List ℕ))) (found : List (List ℕ)) → of_count count o ≡ Some found → length found ≡ count
of_counted count None found h = absurd cc
of_counted count (Some atoms) found h = counted count atoms found (length atoms == count) refl h

single_one : (o : Option (List ℕ)) (found : List (List ℕ)) → single o ≡ Some found → length found ≡ 1
single_one None found h = absurd cc
single_one (Some atom) found h = let same : atom ∷ [] ≡ found = cc in sym (ap length same)

atoms_by : (count : ℕ) (t : Bool) (atom : Option (List ℕ)) (group : Option (List (List ℕ))) (found : List (List ℕ)) → (count == 1) ≡ t → cond t (single atom) (of_count count group) ≡ Some found → length found ≡ count
atoms_by count true atom group found e h = single_one atom found h ∙ sym (eqb-true count 1 e)
atoms_by count false atom group found e h = of_counted count group found h

mapped_some : (kind : NumberKind) (o : Option (List (List ℕ))) (found : List (Option ℤ)) → option_map (λ atoms. map (number_as kind) atoms) o ≡ Some found
    → (atoms : List (List ℕ)) × (o ≡ Some atoms) × (map (number_as kind) atoms ≡ found)
mapped_some kind None found h = absurd cc
mapped_some kind (Some atoms) found h = (atoms, refl, cc)

-- each is as large as its kind allows
kept_of_kind : (kind : NumberKind) (o : Option ℤ) → IsOfKind kind (kept_to (most_of kind) o)
kept_of_kind kind None = tt
kept_of_kind kind (Some n) = by (nat_le (unsigned_abs n) (most_of kind)) refl
  where
    by : (t : Bool) → nat_le (unsigned_abs n) (most_of kind) ≡ t → IsOfKind kind (cond t (Some n) None)
    by true e = leb-true (unsigned_abs n) (most_of kind) e
    by false e = tt

number_of_kind : (kind : NumberKind) (atom : List ℕ) → IsOfKind kind (number_as kind atom)
number_of_kind (Whole most) atom = kept_of_kind (Whole most) (number_of atom)
number_of_kind (Length most) atom = kept_of_kind (Length most) (tenths_of atom)

mapped_of_kind : (kind : NumberKind) (atoms : List (List ℕ)) (k : ℕ) → k < length (map (number_as kind) atoms) → IsOfKind kind (get_or (map (number_as kind) atoms) k None)
mapped_of_kind kind [] k lt = absurd (omega (arith, lt))
mapped_of_kind kind (atom ∷ atoms) zero lt = number_of_kind kind atom
mapped_of_kind kind (atom ∷ atoms) (suc k) lt = mapped_of_kind kind atoms k (omega (arith, lt))

-- numbers from a place of a list on
abbrev AreFrom : NumberList → ℕ → List (Option ℤ) → Type 0
AreFrom list place numbers = (k : ℕ) → k < length numbers → IsOfKind (kind_at list (place + k)) (get_or numbers k None)

from_joined : (list : NumberList) (place : ℕ) (xs ys : List (Option ℤ)) → AreFrom list place xs → AreFrom list (place + length xs) ys → AreFrom list place (xs ++ ys)
from_joined list place [] ys one two k lt =
    let sum : (place + 0) + k ≡ place + k = omega arith in
    subst (λ (n : ℕ). IsOfKind (kind_at list n) (get_or ys k None)) sum (two k lt)
from_joined list place (x ∷ xs) ys one two zero lt = one zero (omega arith)
from_joined list place (x ∷ xs) ys one two (suc k) lt =
    let sum : (j : ℕ) → place + suc j ≡ (place + 1) + j = λ j. omega arith in
    subst (λ (n : ℕ). IsOfKind (kind_at list n) (get_or (xs ++ ys) k None)) (sym (sum k))
    (from_joined list (place + 1) xs ys (λ j l. subst (λ (n : ℕ). IsOfKind (kind_at list n) (get_or xs j None)) (sum j) (one (suc j) (omega (arith, l))))
    (subst (λ (n : ℕ). AreFrom list n ys) (sum (length xs)) two) k (omega (arith, lt)))

record Fits (list : NumberList) (place room : ℕ) (numbers : List (Option ℤ)) : Type 0 where
  pub count : length numbers ≡ room
  pub kinds : AreFrom list place numbers

value_fits : (text : List ℕ) (tokens : List Token) (list : NumberList) (place : ℕ) (key : Key) (value : Word) (found : List (Option ℤ)) → HasPlaces list place key
    → value_numbers text tokens key value ≡ Some found → Fits list place key.count found
value_fits text tokens list place key value found are h =
    let m = mapped_some key.kind (value_atoms text tokens key.count value) found h in
    let len : length m.0 ≡ key.count = atoms_by key.count (key.count == 1) (atom_of text tokens value) (words_in text tokens value) m.0 refl m.1 in
    let count : length found ≡ key.count = sym (ap length m.2) ∙ length-map m.0 (number_as key.kind) ∙ len in
    let each : (k : ℕ) → k < length found → IsOfKind key.kind (get_or found k None) = subst (λ (xs : List (Option ℤ)). (k : ℕ) → k < length xs → IsOfKind key.kind (get_or xs k None)) m.2 (mapped_of_kind key.kind m.0) in
    record {
      count = count;
      kinds = λ k lt. subst (λ (kind : NumberKind). IsOfKind kind (get_or found k None)) (sym (are k (omega (arith, lt, count)))) (each k lt);
    }

key_fits : (text : List ℕ) (tokens : List Token) (list : NumberList) (place : ℕ) (key : Key) (o : Option Pair) (found : List (Option ℤ)) → HasPlaces list place key
    → numbers_at text tokens key o ≡ Some found → Fits list place key.count found
key_fits text tokens list place key None found are h = absurd cc
key_fits text tokens list place key (Some p) found are h = value_fits text tokens list place key p.value found are h

joined_some : (a b : Option (List (Option ℤ))) (found : List (Option ℤ)) → appended a b ≡ Some found
    → (x : List (Option ℤ)) × (y : List (Option ℤ)) × (a ≡ Some x) × (b ≡ Some y) × (x ++ y ≡ found)
joined_some None b found h = absurd cc
joined_some (Some x) None found h = absurd cc
joined_some (Some x) (Some y) found h = (x, y, refl, refl, cc)

none_from : (list : NumberList) (place : ℕ) → AreFrom list place []
none_from list place k lt = absurd (omega (arith, lt))

all_fit : (text : List ℕ) (tokens : List Token) (pairs : List Pair) (list : NumberList) (place : ℕ) (keys : List Key) (found : List (Option ℤ)) → HavePlaces list place keys
    → all_numbers text tokens pairs keys ≡ Some found → Fits list place (total keys) found
all_fit text tokens pairs list place [] found are h =
    let same : [] ≡ found = cc in subst (Fits list place 0) same (record { count = refl; kinds = none_from list place })
all_fit text tokens pairs list place (key ∷ keys) found are h =
    let j = joined_some (key_numbers text tokens pairs key) (all_numbers text tokens pairs keys) found h in
    let first = key_fits text tokens list place key (pair_of key.name pairs) j.0 are.0 j.2 in
    let rest = all_fit text tokens pairs list (place + key.count) keys j.1 are.1 j.3 in
    let next : AreFrom list (place + length j.0) j.1 = subst (λ (n : ℕ). AreFrom list (place + n) j.1) (sym first.count) rest.kinds in
    subst (Fits list place (total (key ∷ keys))) j.4 (record {
      count = omega (arith, length-append j.0 j.1, first.count, rest.count);
      kinds = from_joined list place j.0 j.1 first.kinds next;
    })

numbers_if : (t : Bool) (o : Option (List (Option ℤ))) (found : List (Option ℤ)) → cond t o None ≡ Some found → o ≡ Some found
numbers_if true o found h = h
numbers_if false o found h = absurd cc

numbers_fit : (text : List ℕ) (tokens : List Token) (form : SolidForm) (pairs : List Pair) (found : List (Option ℤ)) → numbers_of text tokens form pairs ≡ Some found
    → Fits (lists.Solid (made_as form)) 0 (total (keys_of form)) found
numbers_fit text tokens form pairs found h =
    all_fit text tokens pairs (lists.Solid (made_as form)) 0 (keys_of form) found (keys_placed form) (numbers_if (length pairs == length (keys_of form)) (all_numbers text tokens pairs (keys_of form)) found h)

pub numbers_enough : (text : List ℕ) (tokens : List Token) (form : SolidForm) (pairs : List Pair) (found : List (Option ℤ)) → numbers_of text tokens form pairs ≡ Some found
    → number_count (made_as form) ≤ length found
numbers_enough text tokens form pairs found h = omega (arith, enough form, (numbers_fit text tokens form pairs found h).count)

pub numbers_of_kinds : (text : List ℕ) (tokens : List Token) (form : SolidForm) (pairs : List Pair) (found : List (Option ℤ)) → numbers_of text tokens form pairs ≡ Some found
    → AreOfKinds (lists.Solid (made_as form)) found
numbers_of_kinds text tokens form pairs found h k lt =
    let sum : 0 + k ≡ k = omega arith in
    subst (λ (n : ℕ). IsOfKind (kind_at (lists.Solid (made_as form)) n) (get_or found k None)) sum ((numbers_fit text tokens form pairs found h).kinds k lt)

-- the first bad pair, by the radius
bad_same : (text : List ℕ) (tokens : List Token) (form : SolidForm) (pairs : List Pair) → find (λ p. not (steps.is_good text tokens form (radius_in text tokens pairs) p)) pairs ≡ bad_pair text tokens form pairs
bad_same text tokens form pairs = refl

bad_from : (text : List ℕ) (tokens : List Token) (form : SolidForm) (pairs : List Pair) (r : Option ℤ) (i : ℕ) → r ≡ radius_in text tokens pairs
    → find (λ p. not (steps.is_good text tokens form r p)) (drop i pairs) ≡ find (λ p. not (steps.is_good text tokens form r p)) pairs
    → find (λ p. not (steps.is_good text tokens form r p)) (drop i pairs) ≡ bad_pair text tokens form pairs
bad_from text tokens form pairs r i is h = h ∙ ap (λ (s : Option ℤ). find (λ p. not (steps.is_good text tokens form s p)) pairs) is ∙ bad_same text tokens form pairs

pub bad_found : (text : List ℕ) (tokens : List Token) (form : SolidForm) (pairs : List Pair) (r : Option ℤ) (i : ℕ) (p : Pair) → r ≡ radius_in text tokens pairs
    → find (λ p. not (steps.is_good text tokens form r p)) (drop i pairs) ≡ find (λ p. not (steps.is_good text tokens form r p)) pairs
    → i < length pairs → p ≡ get_or pairs i p → steps.is_good text tokens form r p ≡ false → Some p.place ≡ word_of (bad_pair text tokens form pairs)
bad_found text tokens form pairs r i p is h lt at bad =
    let here : find (λ p. not (steps.is_good text tokens form r p)) (drop i pairs) ≡ Some p =
    found_here (λ p. not (steps.is_good text tokens form r p)) pairs i p lt (ap (λ (q : Pair). not (steps.is_good text tokens form r q)) (sym at) ∙ ap not bad) ∙ ap (λ (q : Pair). Some q) (sym at) in
    ap word_of (sym here ∙ bad_from text tokens form pairs r i is h)

pub bad_none : (text : List ℕ) (tokens : List Token) (form : SolidForm) (pairs : List Pair) (r : Option ℤ) (i : ℕ) → r ≡ radius_in text tokens pairs
    → find (λ p. not (steps.is_good text tokens form r p)) (drop i pairs) ≡ find (λ p. not (steps.is_good text tokens form r p)) pairs
    → length pairs ≤ i → None ≡ word_of (bad_pair text tokens form pairs)
bad_none text tokens form pairs r i is h le = ap word_of (sym (found_end (λ p. not (steps.is_good text tokens form r p)) pairs i le) ∙ bad_from text tokens form pairs r i is h)

-- a number that is none counts as 0
nth_same : (numbers : List (Option ℤ)) (i : ℕ) → made.nth_number (map (λ (n : ℤ). Some n) (map or_zero numbers)) i ≡ made.nth_number numbers i
nth_same [] i = refl
nth_same (x ∷ xs) zero = refl
nth_same (x ∷ xs) (suc i) = nth_same xs i

pub zeros_made : (kind : SolidKind) (numbers : List (Option ℤ)) → solid_made kind (map (λ (n : ℤ). Some n) (map or_zero numbers)) ≡ solid_made kind numbers
zeros_made kind numbers = same_made kind (map (λ (n : ℤ). Some n) (map or_zero numbers)) numbers (nth_same numbers)

pub filled : (kind : SolidKind) (numbers : List (Option ℤ)) (whole : List ℤ) (count : ℕ) → count ≡ number_count kind → count ≤ length numbers
    → take (length (take count numbers)) whole ≡ map or_zero (take count numbers)
    → solid_made kind (map (λ (n : ℤ). Some n) (take count whole)) ≡ solid_made kind (take (number_count kind) numbers)
filled kind numbers whole count is le h =
    let len : length (take count numbers) ≡ count = length-take-le count numbers le in
    ap (λ n. solid_made kind (map (λ (n : ℤ). Some n) (take n whole))) (sym len) ∙ ap (λ (xs : List ℤ). solid_made kind (map (λ (n : ℤ). Some n) xs)) h
    ∙ zeros_made kind (take count numbers) ∙ ap (λ n. solid_made kind (take n numbers)) is

-- and the numbers that are made into a solid are as large as their kinds allow
zero_at : (numbers : List (Option ℤ)) (k : ℕ) → get_or (map or_zero numbers) k (pos 0) ≡ or_zero (get_or numbers k None)
zero_at [] k = refl
zero_at (x ∷ xs) zero = refl
zero_at (x ∷ xs) (suc k) = zero_at xs k

within_kind : (kind : NumberKind) (o : Option ℤ) → IsOfKind kind o → unsigned_abs (or_zero o) ≤ most_of kind
within_kind kind None h = omega arith
within_kind kind (Some n) h = h

zeros_within : (list : NumberList) (numbers : List (Option ℤ)) → AreOfKinds list numbers → AllWithinKinds list (map or_zero numbers)
zeros_within list numbers are k lt =
    subst (λ (n : ℤ). unsigned_abs n ≤ most_of (kind_at list k)) (sym (zero_at numbers k)) (within_kind (kind_at list k) (get_or numbers k None) (are k (omega (arith, lt, length-map numbers or_zero))))

taken_of_kinds : (list : NumberList) (numbers : List (Option ℤ)) (count : ℕ) → count ≤ length numbers → AreOfKinds list numbers → AreOfKinds list (take count numbers)
taken_of_kinds list numbers count le are k lt =
    let below : k < count = omega (arith, lt, length-take-le count numbers le) in
    subst (IsOfKind (kind_at list k)) (sym (get_or-take count numbers k None below)) (are k (omega (arith, below, le)))

pub filled_within : (list : NumberList) (numbers : List (Option ℤ)) (whole : List ℤ) (count : ℕ) → count ≤ length numbers → take (length (take count numbers)) whole ≡ map or_zero (take count numbers)
    → AreOfKinds list numbers → AllWithinKinds list (take count whole)
filled_within list numbers whole count le h are =
    let same : take count whole ≡ map or_zero (take count numbers) = ap (λ n. take n whole) (sym (length-take-le count numbers le)) ∙ h in
    subst (AllWithinKinds list) (sym same) (zeros_within list (take count numbers) (taken_of_kinds list numbers count le are))

-- the numbers that were found, and the first bad word
fault_same : (o : Option Pair) → number_fault o ≡ word_fault (word_of o)
fault_same None = refl
fault_same (Some p) = refl

pub solid_read : (r : Put) (text : List ℕ) (tokens : List Token) (form : SolidForm) (name : Option (List ℕ)) (pairs : List Pair) (numbers : List (Option ℤ)) (bad : Option ℕ)
    → Some numbers ≡ numbers_of text tokens form pairs → bad ≡ word_of (bad_pair text tokens form pairs) → IsPutRead r (named_solid name form numbers bad) → IsPutRead r (solid_of text tokens form name pairs)
solid_read r text tokens form name pairs numbers bad is at h =
    let made : Put = solid_put name (solid_made (made_as form) (take (number_count (made_as form)) numbers)) in
    let same : solid_of text tokens form name pairs ≡ named_solid name form numbers bad =
    ap (solid_with text tokens form name pairs) (sym is) ∙ ap (λ f. unless_fault (name_fault name ∷ f ∷ []) made) (fault_same (bad_pair text tokens form pairs) ∙ ap word_fault (sym at)) in
    subst (IsPutRead r) (sym same) h
