-- The written line of a solid reads as that solid.
use Rattle.std.proofs.Common.{◌≡◌, ◌∙◌, ◌≢◌, ◌≤ℤ◌, ◌<ℤ◌, ◌&&◌, ℕ, ℤ, pos, Bool, true, false, not, cond, List, [], ◌∷◌, ◌++◌, map, take, Option, Some, None, Ok, Err, is_some, IsOk, codes, refl, ap, ap₂, sym, arith, append-nil}
use Rattle.std.specs.List.{list_all}
use Rattle.std.specs.Option.{option_map}
use Rattle.std.specs.Ordering.{int_cmp, int_eq, is_lt, MatchOrdering}
use Rattle.std.specs.declared.cmp.Ordering.{Ordering}
use Rattle.std.specs.declared.cmp.Ordering.TheVariants.{Less, Equal, Greater}
use Rattle.std.proofs.lemmas.Bool.{and_parts}
use Rattle.std.proofs.lemmas.Bool.Decides.{Decides-int_eq}
use Rattle.std.proofs.lemmas.Cmp.{int_ranked}
use Rattle.lattice_core.proofs.Turning.{vector_same}
use Rattle.std.proofs.lemmas.Int.{ints}
use Rattle.lattice_core.specs.declared.limit.TheConstants.{COORD, HALF_NORMAL}
use Rattle.lattice_core.specs.declared.vector.V3.{V3}
use Rattle.lattice_core.specs.Limits.{IsAtMost, IsWithin}
use Rattle.lattice_core.specs.Vectors.{zero_vector}
use Rattle.name_core.specs.NameText.{IsName, read_name}
use Rattle.name_core.proofs.NameLaws.{accepted}
use Rattle.prim_half.specs.Halves.{HalfSpace}
use Rattle.prim_sphere.specs.Spheres.{Ball}
use Rattle.solid_set.specs.declared.solid.Solid.{Solid}
use Rattle.solid_set.specs.declared.solid.Solid.TheVariants as solids
use Rattle.object_set.specs.declared.object.Body.TheVariants as bodies
use Rattle.tcl_words.specs.Pieces.{written_after}
use Rattle.tcl_words.specs.TopWords.{top_words, atom_of}
use Rattle.tcl_words.specs.declared.token.Kind.TheVariants.{Open}
use Rattle.tcl_words.specs.declared.token.Token.{Token}
use Rattle.tcl_words.specs.declared.token.Word.{Word}
use Rattle.tcl_words.proofs.Scan.{Piece}
use Rattle.tcl_words.proofs.Written.{Good}
use Rattle.word_values.specs.Atoms.{words_in}
use Rattle.word_values.specs.Kinds.{number_as, coordinate_kind, normal_kind}
use Rattle.word_values.specs.declared.atoms.NumberKind.{NumberKind}
use Rattle.plane_geom.specs.Chords.{IsRadius}
use Rattle.prim_rcc.specs.Axes.{HasOneComponent}
use Rattle.prim_rcc.specs.Cylinders.{Cylinder}
use Rattle.plane_geom.specs.declared.fault.ShapeFault.TheVariants.{Axis, Radius, ZeroNormal}
use Rattle.word_values.specs.Solids.{solid_made, is_zero, number_count}
use Rattle.word_values.specs.SolidForms.{Key, made_as, vector_key, normal_key, number_key}
use Rattle.word_values.specs.declared.solid_form.SolidForm.{SolidForm}
use Rattle.word_values.specs.declared.solid_form.SolidForm.TheVariants.{Sphere, Half, Rcc}
use Rattle.word_values.proofs.SolidLaws.{Decides-has_one_component}
use Rattle.put_form.specs.Kinds.{kind_of}
use Rattle.put_form.specs.Pairs.{Pair, pair, pairs_of}
use Rattle.put_form.specs.Puts.{Put, put_of, kind_put, solid_of, solid_with, solid_put, unless_fault, number_fault, name_fault, when, is_put, kind_named}
use Rattle.put_form.specs.declared.fault.PutFault.{PutFault}
use Rattle.put_form.specs.declared.fault.PutFault.TheVariants.{Name}
use Rattle.put_form.specs.Solids as solid_keys
use Rattle.put_form.specs.Written.{length_text, number_text, vector_text, put_line}
use Rattle.text_laws.specs.PutAgain.{IsPutAgain}
use Rattle.put_form.proofs.NameWords.{is_word, name_word, word_good}
use Rattle.text_laws.proofs.LineNumbers.{IsOf, AreOf, of_kind_again, of_kind_word, coordinate_of, coordinates_of, components_of}
use Rattle.text_laws.proofs.LinePieces.{HasPieces, read_line, placed, HasBytes, by_places, word, atom, vector_pieces, triple_text, vector_written, vector_good}

-- ---- what the words of a line come to

-- what is put where the first word is `put`
pub put_words : (text : List ℕ) (tokens : List Token) (w0 w1 w2 : Word) (rest : List Word) (name kind : List ℕ)
    → atom_of text tokens w0 ≡ Some (codes "put") → atom_of text tokens w1 ≡ Some name → atom_of text tokens w2 ≡ Some kind
    → put_of text tokens (w0 ∷ w1 ∷ w2 ∷ rest) ≡ kind_put text tokens (Some name) (kind_of kind) (pairs_of text tokens 4 rest)
put_words text tokens w0 w1 w2 rest name kind put named kinded =
    let other : Put = Err PutFault.NoType in
    ap (λ o. cond (is_put o) (kind_put text tokens (atom_of text tokens w1) (kind_named (atom_of text tokens w2)) (pairs_of text tokens 4 rest)) other) put
    ∙ ap₂ (λ n k. kind_put text tokens n (kind_named k) (pairs_of text tokens 4 rest)) named kinded

pub name_fine : (name : List ℕ) → IsName name → name_fault (Some name) ≡ None
name_fine name is = let ok : IsOk (read_name name) = (accepted name).1 is in ap (λ b. when (not b) (Name 2)) ok

-- a solid whose numbers are all good
pub good_solid : (text : List ℕ) (tokens : List Token) (form : SolidForm) (name : List ℕ) (pairs : List Pair) (numbers : List (Option ℤ)) → IsName name
    → solid_keys.numbers_of text tokens form pairs ≡ Some numbers
    → solid_keys.bad_pair text tokens form pairs ≡ None
    → solid_of text tokens form (Some name) pairs ≡ solid_put (Some name) (solid_made (made_as form) (take (number_count (made_as form)) numbers))
good_solid text tokens form name pairs numbers is found good =
    ap (solid_with text tokens form (Some name) pairs) found
    ∙ ap₂ (λ (a b : Option PutFault). unless_fault (a ∷ b ∷ []) (solid_put (Some name) (solid_made (made_as form) (take (number_count (made_as form)) numbers)))) (name_fine name is) (ap number_fault good)

three : {a b c x y z : Option ℤ} → a ≡ x → b ≡ y → c ≡ z → Some (a ∷ b ∷ c ∷ []) ≡ Some (x ∷ y ∷ z ∷ [])
three ea eb ec = cc

-- a key of three numbers of a kind
abbrev pub three_key : List ℕ → NumberKind → Key
three_key name kind = record { name = name; count = 3; kind = kind }

pub vector_value : (text : List ℕ) (tokens : List Token) (w : Word) (name : List ℕ) (kind : NumberKind) (v : V3)
    → words_in text tokens w ≡ Some (number_text kind v.x ∷ number_text kind v.y ∷ number_text kind v.z ∷ []) → AreOf kind v
    → solid_keys.value_numbers text tokens (three_key name kind) w ≡ Some (Some v.x ∷ Some v.y ∷ Some v.z ∷ [])
vector_value text tokens w name kind v found are =
    ap (λ o. option_map (λ atoms. map (number_as kind) atoms) (solid_keys.of_count 3 o)) found
    ∙ three (of_kind_again kind v.x are.x) (of_kind_again kind v.y are.y) (of_kind_again kind v.z are.z)

number_value : (text : List ℕ) (tokens : List Token) (w : Word) (name : List ℕ) (n : ℤ) → atom_of text tokens w ≡ Some (length_text n) → IsOf coordinate_kind n
    → solid_keys.value_numbers text tokens (number_key name) w ≡ Some (Some n ∷ [])
number_value text tokens w name n found of_ =
    ap (λ o. option_map (λ atoms. map (number_as coordinate_kind) atoms) (solid_keys.single o)) found
    ∙ ap (λ (o : Option ℤ). Some (o ∷ [])) (of_kind_again coordinate_kind n of_)

pub some_three : {a b c x y z : List ℕ} → a ≡ x → b ≡ y → c ≡ z → Some (a ∷ b ∷ c ∷ []) ≡ Some (x ∷ y ∷ z ∷ [])
some_three ea eb ec = cc

abbrev pub put_solid : List ℕ → Solid → Put
put_solid name solid = Ok (name, record { body = bodies.Solid solid; kept = [] })

-- ---- a vector and a number: a sphere or a half-space

abbrev two_pieces : List ℕ → List ℕ → List ℕ → List ℕ → NumberKind → V3 → ℤ → List Piece
two_pieces name form first second kind v n = atom (codes "put") ∷ atom name ∷ atom form ∷ atom first ∷ vector_pieces kind v (atom second ∷ atom (length_text n) ∷ [])

two_good : (name form first second : List ℕ) (kind : NumberKind) (v : V3) (n : ℤ) → IsName name → is_word form ≡ true → is_word first ≡ true → is_word second ≡ true → AreOf kind v → IsOf coordinate_kind n
    → Good 0 (two_pieces name form first second kind v n)
two_good name form first second kind v n is k f s are of_ = (
  word_good (codes "put") 0 refl,
  (
    word_good name 0 (name_word name is),
    (
      word_good form 0 k,
      (word_good first 0 f, vector_good kind v (atom second ∷ atom (length_text n) ∷ []) are (word_good second 0 s, (word_good (length_text n) 0 (of_kind_word coordinate_kind n of_), refl))),
    ),
  ),
)

abbrev two_pairs : List ℕ → List ℕ → List Pair
two_pairs first second = pair (Some first) (word 4 8) 5 ∷ pair (Some second) (word 10 10) 7 ∷ []

two_put : (text : List ℕ) (start end : ℕ → ℕ) (name form first second : List ℕ) (kind : NumberKind) (v : V3) (n : ℤ) → HasBytes text start end (two_pieces name form first second kind v n)
    → put_of text (placed start end (two_pieces name form first second kind v n)) (top_words (placed start end (two_pieces name form first second kind v n)))
    ≡ kind_put text (placed start end (two_pieces name form first second kind v n)) (Some name) (kind_of form) (Some (two_pairs first second))
two_put text start end name form first second kind v n bytes =
    let tokens : List Token = placed start end (two_pieces name form first second kind v n) in
    put_words text tokens (word 0 0) (word 1 1) (word 2 2) (word 3 3 ∷ word 4 8 ∷ word 9 9 ∷ word 10 10 ∷ []) name form (ap Some (bytes 0)) (ap Some (bytes 1)) (ap Some (bytes 2))
    ∙ ap₂ (λ k l. kind_put text tokens (Some name) (kind_of form) (Some (pair k (word 4 8) 5 ∷ pair l (word 10 10) 7 ∷ []))) (ap Some (bytes 3)) (ap Some (bytes 9))

two_vector : (text : List ℕ) (start end : ℕ → ℕ) (name form first second : List ℕ) (kind : NumberKind) (v : V3) (n : ℤ) → HasBytes text start end (two_pieces name form first second kind v n) → AreOf kind v
    → solid_keys.value_numbers text (placed start end (two_pieces name form first second kind v n)) (three_key first kind) (word 4 8) ≡ Some (Some v.x ∷ Some v.y ∷ Some v.z ∷ [])
two_vector text start end name form first second kind v n bytes are =
    vector_value text (placed start end (two_pieces name form first second kind v n)) (word 4 8) first kind v (some_three (bytes 5) (bytes 6) (bytes 7)) are

two_number : (text : List ℕ) (start end : ℕ → ℕ) (name form first second : List ℕ) (kind : NumberKind) (v : V3) (n : ℤ) → HasBytes text start end (two_pieces name form first second kind v n) → IsOf coordinate_kind n
    → solid_keys.value_numbers text (placed start end (two_pieces name form first second kind v n)) (number_key second) (word 10 10) ≡ Some (Some n ∷ [])
two_number text start end name form first second kind v n bytes of_ =
    number_value text (placed start end (two_pieces name form first second kind v n)) (word 10 10) second n (ap Some (bytes 10)) of_

-- ---- a sphere

not_less_by : (r : ℤ) (o : Ordering) → o ≡ int_cmp r (pos 1) → MatchOrdering o (r <ℤ pos 1) (r ≡ pos 1) (pos 1 <ℤ r) → pos 1 ≤ℤ r → is_lt o ≡ false
not_less_by r Less is h some = absurd (omega (arith, ints, h, some))
not_less_by r Equal is h some = refl
not_less_by r Greater is h some = refl

not_less : (r : ℤ) → pos 1 ≤ℤ r → is_lt (int_cmp r (pos 1)) ≡ false
not_less r some = not_less_by r (int_cmp r (pos 1)) refl (int_ranked r (pos 1) (int_cmp r (pos 1)) refl) some

abbrev sphere_pieces : List ℕ → Ball → List Piece
sphere_pieces name s = two_pieces name (codes "sph") (codes "V") (codes "r") coordinate_kind s.centre s.radius

sphere_written : (name : List ℕ) (s : Ball) → put_line name (bodies.Solid (solids.Sphere s)) ≡ written_after Open (sphere_pieces name s)
sphere_written name s =
    ap (λ (text : List ℕ). codes "put " ++ (name ++ (codes " sph V " ++ text)))
    (vector_written coordinate_kind s.centre (codes " r " ++ length_text s.radius)
    ∙ ap (λ (radius : List ℕ). triple_text (number_text coordinate_kind s.centre.x) (number_text coordinate_kind s.centre.y) (number_text coordinate_kind s.centre.z) (codes " r " ++ radius)) (sym (append-nil (length_text s.radius))))

sphere_put : (text : List ℕ) (start end : ℕ → ℕ) (name : List ℕ) (s : Ball) → HasBytes text start end (sphere_pieces name s) → IsName name → IsWithin COORD s.centre → IsAtMost COORD s.radius → pos 1 ≤ℤ s.radius
    → put_of text (placed start end (sphere_pieces name s)) (top_words (placed start end (sphere_pieces name s))) ≡ put_solid name (solids.Sphere s)
sphere_put text start end name s bytes is within small some =
    let tokens : List Token = placed start end (sphere_pieces name s) in
    let c : V3 = s.centre in
    let v : solid_keys.value_numbers text tokens (vector_key (codes "V")) (word 4 8) ≡ Some (Some c.x ∷ Some c.y ∷ Some c.z ∷ []) = two_vector text start end name (codes "sph") (codes "V") (codes "r") coordinate_kind c s.radius bytes (coordinates_of c within) in
    let r : solid_keys.value_numbers text tokens (number_key (codes "r")) (word 10 10) ≡ Some (Some s.radius ∷ []) = two_number text start end name (codes "sph") (codes "V") (codes "r") coordinate_kind c s.radius bytes (coordinate_of s.radius small) in
    let pairs : List Pair = two_pairs (codes "V") (codes "r") in
    two_put text start end name (codes "sph") (codes "V") (codes "r") coordinate_kind c s.radius bytes
    ∙ good_solid text tokens Sphere name pairs (Some c.x ∷ Some c.y ∷ Some c.z ∷ Some s.radius ∷ []) is
    (ap₂ (λ a b. solid_keys.appended a (solid_keys.appended b (Some []))) v r)
    (ap₂ (λ a b. cond (not (list_all is_some (solid_keys.or_no_numbers a) && true)) (Some (pair (Some (codes "V")) (word 4 8) 5)) (cond (not (list_all is_some (solid_keys.or_no_numbers b) && true)) (Some (pair (Some (codes "r")) (word 10 10) 7)) None)) v r)
    ∙ ap (λ b. solid_put (Some name) (cond b (Err Radius) (Ok (solids.Sphere s)))) (not_less s.radius some)

pub sphere_again : (name : List ℕ) (s : Ball) → IsName name → IsWithin COORD s.centre → IsRadius s.radius → IsPutAgain name (bodies.Solid (solids.Sphere s))
sphere_again name s is within radius =
    let small : IsAtMost COORD s.radius = (omega (arith, ints, radius.some), radius.size) in
    let line : List ℕ = put_line name (bodies.Solid (solids.Sphere s)) in
    let have : HasPieces line (sphere_pieces name s) = read_line line (sphere_pieces name s) (sphere_written name s) (two_good name (codes "sph") (codes "V") (codes "r") coordinate_kind s.centre s.radius is refl refl refl (coordinates_of s.centre within) (coordinate_of s.radius small)) in
    (have.tokens, have.read, by_places (λ ts. put_of line ts (top_words ts) ≡ put_solid name (solids.Sphere s)) line have.tokens (sphere_pieces name s) have.are (λ start end bytes. sphere_put line start end name s bytes is within small radius.some))

-- ---- a half-space

abbrev half_pieces : List ℕ → HalfSpace → List Piece
half_pieces name s = two_pieces name (codes "half") (codes "N") (codes "d") normal_kind s.normal s.distance

half_written : (name : List ℕ) (s : HalfSpace) → put_line name (bodies.Solid (solids.Half s)) ≡ written_after Open (half_pieces name s)
half_written name s =
    ap (λ (text : List ℕ). codes "put " ++ (name ++ (codes " half N " ++ text)))
    (vector_written normal_kind s.normal (codes " d " ++ length_text s.distance)
    ∙ ap (λ (distance : List ℕ). triple_text (number_text normal_kind s.normal.x) (number_text normal_kind s.normal.y) (number_text normal_kind s.normal.z) (codes " d " ++ distance)) (sym (append-nil (length_text s.distance))))

not_true : (b : Bool) → (b ≡ true → ⊥) → b ≡ false
not_true true h = absurd (h refl)
not_true false h = refl

pub zero_all : (v : V3) → is_zero v ≡ true → v ≡ zero_vector
zero_all v h =
    let one = and_parts (int_eq v.x (pos 0) && int_eq v.y (pos 0)) (int_eq v.z (pos 0)) h in
    let two = and_parts (int_eq v.x (pos 0)) (int_eq v.y (pos 0)) one.0 in
    vector_same ((Decides-int_eq v.x (pos 0)).0 two.0) ((Decides-int_eq v.y (pos 0)).0 two.1) ((Decides-int_eq v.z (pos 0)).0 one.1)

half_put : (text : List ℕ) (start end : ℕ → ℕ) (name : List ℕ) (s : HalfSpace) → HasBytes text start end (half_pieces name s) → IsName name → IsWithin HALF_NORMAL s.normal → IsAtMost COORD s.distance → s.normal ≢ zero_vector
    → put_of text (placed start end (half_pieces name s)) (top_words (placed start end (half_pieces name s))) ≡ put_solid name (solids.Half s)
half_put text start end name s bytes is within small direction =
    let tokens : List Token = placed start end (half_pieces name s) in
    let n : V3 = s.normal in
    let v : solid_keys.value_numbers text tokens (normal_key (codes "N")) (word 4 8) ≡ Some (Some n.x ∷ Some n.y ∷ Some n.z ∷ []) = two_vector text start end name (codes "half") (codes "N") (codes "d") normal_kind n s.distance bytes (components_of n within) in
    let d : solid_keys.value_numbers text tokens (number_key (codes "d")) (word 10 10) ≡ Some (Some s.distance ∷ []) = two_number text start end name (codes "half") (codes "N") (codes "d") normal_kind n s.distance bytes (coordinate_of s.distance small) in
    let pairs : List Pair = two_pairs (codes "N") (codes "d") in
    two_put text start end name (codes "half") (codes "N") (codes "d") normal_kind n s.distance bytes
    ∙ good_solid text tokens Half name pairs (Some n.x ∷ Some n.y ∷ Some n.z ∷ Some s.distance ∷ []) is
    (ap₂ (λ a b. solid_keys.appended a (solid_keys.appended b (Some []))) v d)
    (ap₂ (λ a b. cond (not (list_all is_some (solid_keys.or_no_numbers a) && true)) (Some (pair (Some (codes "N")) (word 4 8) 5)) (cond (not (list_all is_some (solid_keys.or_no_numbers b) && true)) (Some (pair (Some (codes "d")) (word 10 10) 7)) None)) v d)
    ∙ ap (λ b. solid_put (Some name) (cond b (Err ZeroNormal) (Ok (solids.Half s)))) (not_true (is_zero n) (λ h. direction (zero_all n h)))

pub half_again : (name : List ℕ) (s : HalfSpace) → IsName name → IsWithin HALF_NORMAL s.normal → IsAtMost COORD s.distance → s.normal ≢ zero_vector → IsPutAgain name (bodies.Solid (solids.Half s))
half_again name s is within small direction =
    let line : List ℕ = put_line name (bodies.Solid (solids.Half s)) in
    let have : HasPieces line (half_pieces name s) = read_line line (half_pieces name s) (half_written name s) (two_good name (codes "half") (codes "N") (codes "d") normal_kind s.normal s.distance is refl refl refl (components_of s.normal within) (coordinate_of s.distance small)) in
    (have.tokens, have.read, by_places (λ ts. put_of line ts (top_words ts) ≡ put_solid name (solids.Half s)) line have.tokens (half_pieces name s) have.are (λ start end bytes. half_put line start end name s bytes is within small direction))

-- ---- a cylinder

abbrev radius_pieces : Cylinder → List Piece
radius_pieces c = atom (codes "r") ∷ atom (length_text c.radius) ∷ []

abbrev height_pieces : Cylinder → List Piece
height_pieces c = atom (codes "H") ∷ vector_pieces coordinate_kind c.height (radius_pieces c)

abbrev rcc_pieces : List ℕ → Cylinder → List Piece
rcc_pieces name c = atom (codes "put") ∷ atom name ∷ atom (codes "rcc") ∷ atom (codes "V") ∷ vector_pieces coordinate_kind c.base (height_pieces c)

rcc_written : (name : List ℕ) (c : Cylinder) → put_line name (bodies.Solid (solids.Rcc c)) ≡ written_after Open (rcc_pieces name c)
rcc_written name c =
    ap (λ (text : List ℕ). codes "put " ++ (name ++ (codes " rcc V " ++ text)))
    (vector_written coordinate_kind c.base (codes " H " ++ (vector_text coordinate_kind c.height ++ (codes " r " ++ length_text c.radius)))
    ∙ ap (λ (height : List ℕ). triple_text (length_text c.base.x) (length_text c.base.y) (length_text c.base.z) (codes " H " ++ height))
    (vector_written coordinate_kind c.height (codes " r " ++ length_text c.radius)
    ∙ ap (λ (radius : List ℕ). triple_text (length_text c.height.x) (length_text c.height.y) (length_text c.height.z) (codes " r " ++ radius)) (sym (append-nil (length_text c.radius)))))

rcc_good : (name : List ℕ) (c : Cylinder) → IsName name → AreOf coordinate_kind c.base → AreOf coordinate_kind c.height → IsOf coordinate_kind c.radius → Good 0 (rcc_pieces name c)
rcc_good name c is base height radius =
    let third : Good 0 (radius_pieces c) = (word_good (codes "r") 0 refl, (word_good (length_text c.radius) 0 (of_kind_word coordinate_kind c.radius radius), refl)) in
    let second : Good 0 (height_pieces c) = (word_good (codes "H") 0 refl, vector_good coordinate_kind c.height (radius_pieces c) height third) in
    let first : Good 0 (vector_pieces coordinate_kind c.base (height_pieces c)) = vector_good coordinate_kind c.base (height_pieces c) base second in
    (word_good (codes "put") 0 refl, (word_good name 0 (name_word name is), (word_good (codes "rcc") 0 refl, (word_good (codes "V") 0 refl, first))))

abbrev rcc_pairs : Option (List ℕ) → Option (List ℕ) → Option (List ℕ) → List Pair
rcc_pairs first second third = pair first (word 4 8) 5 ∷ pair second (word 10 14) 7 ∷ pair third (word 16 16) 9 ∷ []

abbrev three_numbers : Option (List (Option ℤ)) → Option (List (Option ℤ)) → Option (List (Option ℤ)) → Option (List (Option ℤ))
three_numbers a b c = solid_keys.appended a (solid_keys.appended b (solid_keys.appended c (Some [])))

abbrev unless_good : List ℕ → Word → ℕ → Option (List (Option ℤ)) → Option Pair → Option Pair
unless_good key w place numbers rest = cond (not (list_all is_some (solid_keys.or_no_numbers numbers) && true)) (Some (pair (Some key) w place)) rest

abbrev three_bad : Option (List (Option ℤ)) → Option (List (Option ℤ)) → Option (List (Option ℤ)) → Option Pair
three_bad a b c = unless_good (codes "V") (word 4 8) 5 a (unless_good (codes "H") (word 10 14) 7 b (unless_good (codes "r") (word 16 16) 9 c None))

same_three : {X Y : Type 0} (f : X → X → X → Y) {a b c x y z : X} → a ≡ x → b ≡ y → c ≡ z → f a b c ≡ f x y z
same_three f ea eb ec = cc

rcc_put : (text : List ℕ) (start end : ℕ → ℕ) (name : List ℕ) (c : Cylinder) → HasBytes text start end (rcc_pieces name c) → IsName name → IsWithin COORD c.base → IsWithin COORD c.height → HasOneComponent c.height
    → IsAtMost COORD c.radius → pos 1 ≤ℤ c.radius → put_of text (placed start end (rcc_pieces name c)) (top_words (placed start end (rcc_pieces name c))) ≡ put_solid name (solids.Rcc c)
rcc_put text start end name c bytes is base height axis small some =
    let tokens : List Token = placed start end (rcc_pieces name c) in
    let v : solid_keys.value_numbers text tokens (vector_key (codes "V")) (word 4 8) ≡ Some (Some c.base.x ∷ Some c.base.y ∷ Some c.base.z ∷ []) =
    vector_value text tokens (word 4 8) (codes "V") coordinate_kind c.base (some_three (bytes 5) (bytes 6) (bytes 7)) (coordinates_of c.base base) in
    let h : solid_keys.value_numbers text tokens (vector_key (codes "H")) (word 10 14) ≡ Some (Some c.height.x ∷ Some c.height.y ∷ Some c.height.z ∷ []) =
    vector_value text tokens (word 10 14) (codes "H") coordinate_kind c.height (some_three (bytes 11) (bytes 12) (bytes 13)) (coordinates_of c.height height) in
    let r : solid_keys.value_numbers text tokens (number_key (codes "r")) (word 16 16) ≡ Some (Some c.radius ∷ []) =
    number_value text tokens (word 16 16) (codes "r") c.radius (ap Some (bytes 16)) (coordinate_of c.radius small) in
    put_words text tokens (word 0 0) (word 1 1) (word 2 2) (word 3 3 ∷ word 4 8 ∷ word 9 9 ∷ word 10 14 ∷ word 15 15 ∷ word 16 16 ∷ []) name (codes "rcc") (ap Some (bytes 0)) (ap Some (bytes 1)) (ap Some (bytes 2))
    ∙ same_three (λ k l m. kind_put text tokens (Some name) (kind_of (codes "rcc")) (Some (rcc_pairs k l m))) (ap Some (bytes 3)) (ap Some (bytes 9)) (ap Some (bytes 15))
    ∙ good_solid text tokens Rcc name (rcc_pairs (Some (codes "V")) (Some (codes "H")) (Some (codes "r")))
    (Some c.base.x ∷ Some c.base.y ∷ Some c.base.z ∷ Some c.height.x ∷ Some c.height.y ∷ Some c.height.z ∷ Some c.radius ∷ []) is
    (same_three three_numbers v h r)
    (same_three three_bad v h r)
    ∙ ap₂ (λ a b. solid_put (Some name) (cond a (cond b (Err Radius) (Ok (solids.Rcc c))) (Err Axis))) ((Decides-has_one_component c.height).1 axis) (not_less c.radius some)

pub rcc_again : (name : List ℕ) (c : Cylinder) → IsName name → IsWithin COORD c.base → IsWithin COORD c.height → HasOneComponent c.height → IsRadius c.radius → IsPutAgain name (bodies.Solid (solids.Rcc c))
rcc_again name c is base height axis radius =
    let small : IsAtMost COORD c.radius = (omega (arith, ints, radius.some), radius.size) in
    let line : List ℕ = put_line name (bodies.Solid (solids.Rcc c)) in
    let have : HasPieces line (rcc_pieces name c) = read_line line (rcc_pieces name c) (rcc_written name c) (rcc_good name c is (coordinates_of c.base base) (coordinates_of c.height height) (coordinate_of c.radius small)) in
    (have.tokens, have.read, by_places (λ ts. put_of line ts (top_words ts) ≡ put_solid name (solids.Rcc c)) line have.tokens (rcc_pieces name c) have.are (λ start end bytes. rcc_put line start end name c bytes is base height axis small radius.some))
