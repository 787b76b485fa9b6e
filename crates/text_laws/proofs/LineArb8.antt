-- The written line of a solid of eight vertices reads as that solid.
use Rattle.std.proofs.Common.{◌≡◌, ◌∙◌, ◌&&◌, ◌+◌, ◌<◌, ◌^◌, length, All, decimal, ℕ, ℤ, true, not, cond, List, [], ◌∷◌, ◌++◌, Option, Some, None, is_some, codes, refl, ap, arith}
use Rattle.std.specs.List.{list_all}
use Rattle.std.proofs.lemmas.List.Elements.{All-head, All-tail}
use Rattle.std.proofs.lemmas.Fmt.{decimal_digit}
use Rattle.lattice_core.specs.declared.limit.TheConstants.{COORD}
use Rattle.lattice_core.specs.declared.vector.V3.{V3}
use Rattle.lattice_core.specs.Limits.{IsWithin}
use Rattle.lattice_core.specs.Vectors.{zero_vector}
use Rattle.name_core.specs.NameText.{IsName}
use Rattle.prim_arb8.specs.Faces.{first_fault, cases_of}
use Rattle.prim_arb8.specs.Solids.{EightVertices}
use Rattle.solid_set.specs.declared.solid.Solid.TheVariants as solids
use Rattle.object_set.specs.declared.object.Body.TheVariants as bodies
use Rattle.tcl_words.specs.Pieces.{written_after}
use Rattle.tcl_words.specs.TopWords.{top_words}
use Rattle.tcl_words.specs.declared.token.Kind.TheVariants.{Open, Close}
use Rattle.tcl_words.specs.declared.token.Token.{Token}
use Rattle.tcl_words.specs.declared.token.Word.{Word}
use Rattle.tcl_words.proofs.Scan.{Piece}
use Rattle.tcl_words.proofs.Written.{Good}
use Rattle.word_values.specs.Kinds.{coordinate_kind}
use Rattle.word_values.specs.Solids.{unless_faulty}
use Rattle.word_values.specs.SolidForms.{vector_key}
use Rattle.word_values.specs.declared.solid_form.SolidForm.TheVariants.{Arb8}
use Rattle.put_form.specs.Pairs.{Pair, pair}
use Rattle.put_form.specs.Puts.{put_of, kind_put, solid_put}
use Rattle.put_form.specs.declared.kind.Kind.TheVariants as kinds
use Rattle.put_form.specs.Solids as solid_keys
use Rattle.put_form.specs.Written.{length_text, put_line, vertices_text}
use Rattle.text_laws.specs.PutAgain.{IsPutAgain}
use Rattle.text_laws.proofs.LineSolids.{put_words, good_solid, vector_value, some_three, put_solid}
use Rattle.put_form.proofs.NameWords.{name_word, word_good}
use Rattle.text_laws.proofs.LineNumbers.{coordinates_of, lettered_word}
use Rattle.text_laws.proofs.LinePieces.{HasPieces, read_line, placed, HasBytes, by_places, word, atom, vector_pieces, triple_text, vector_written, vector_good}

-- the vertices with their keys
abbrev vertex_pieces : ℕ → List V3 → List Piece
vertex_pieces number [] = []
vertex_pieces number (v ∷ rest) = atom (86 ∷ decimal number) ∷ vector_pieces coordinate_kind v (vertex_pieces (number + 1) rest)

vertices_written : (number : ℕ) (vs : List V3) → vertices_text number vs ≡ written_after Close (vertex_pieces number vs)
vertices_written number [] = refl
vertices_written number (v ∷ rest) =
    ap (λ (text : List ℕ). 32 ∷ 86 ∷ (decimal number ++ 32 ∷ text))
    (vector_written coordinate_kind v (vertices_text (number + 1) rest) ∙ ap (triple_text (length_text v.x) (length_text v.y) (length_text v.z)) (vertices_written (number + 1) rest))

vertices_good : (number : ℕ) (vs : List V3) → number + length vs < 2 ^ 64 → All (IsWithin COORD) vs → Good 0 (vertex_pieces number vs)
vertices_good number [] few within = refl
vertices_good number (v ∷ rest) few within = (
  word_good (86 ∷ decimal number) 0 (lettered_word 86 number refl (omega (arith, few))),
  vector_good coordinate_kind v (vertex_pieces (number + 1) rest) (coordinates_of v (All-head (IsWithin COORD) v rest within)) (vertices_good (number + 1) rest (omega (arith, few)) (All-tail (IsWithin COORD) v rest within)),
)

abbrev arb8_pieces : List ℕ → List V3 → List Piece
arb8_pieces name vs = atom (codes "put") ∷ atom name ∷ atom (codes "arb8") ∷ vertex_pieces 1 vs

same_eight : {X Y : Type 0} (f : X → X → X → X → X → X → X → X → Y) {a1 a2 a3 a4 a5 a6 a7 a8 b1 b2 b3 b4 b5 b6 b7 b8 : X}
    → a1 ≡ b1 → a2 ≡ b2 → a3 ≡ b3 → a4 ≡ b4 → a5 ≡ b5 → a6 ≡ b6 → a7 ≡ b7 → a8 ≡ b8
    → f a1 a2 a3 a4 a5 a6 a7 a8 ≡ f b1 b2 b3 b4 b5 b6 b7 b8
same_eight f e1 e2 e3 e4 e5 e6 e7 e8 = cc

key_is : (n : ℕ) {bytes : List ℕ} → n < 10 → bytes ≡ 86 ∷ decimal n → Some bytes ≡ Some (86 ∷ (48 + n) ∷ [])
key_is n small is = ap Some (is ∙ ap (λ (ds : List ℕ). 86 ∷ ds) (decimal_digit n small))

abbrev eight_pairs : Option (List ℕ) → Option (List ℕ) → Option (List ℕ) → Option (List ℕ) → Option (List ℕ) → Option (List ℕ) → Option (List ℕ) → Option (List ℕ) → List Pair
eight_pairs k1 k2 k3 k4 k5 k6 k7 k8 =
    pair k1 (word 4 8) 5 ∷ pair k2 (word 10 14) 7 ∷ pair k3 (word 16 20) 9 ∷ pair k4 (word 22 26) 11 ∷ pair k5 (word 28 32) 13 ∷ pair k6 (word 34 38) 15 ∷ pair k7 (word 40 44) 17 ∷ pair k8 (word 46 50) 19 ∷ []

abbrev eight_keys : List Pair
eight_keys = eight_pairs (Some (codes "V1")) (Some (codes "V2")) (Some (codes "V3")) (Some (codes "V4")) (Some (codes "V5")) (Some (codes "V6")) (Some (codes "V7")) (Some (codes "V8"))

abbrev eight_words : List Word
eight_words = word 3 3 ∷ word 4 8 ∷ word 9 9 ∷ word 10 14 ∷ word 15 15 ∷ word 16 20 ∷ word 21 21 ∷ word 22 26 ∷ word 27 27 ∷ word 28 32 ∷ word 33 33 ∷ word 34 38 ∷ word 39 39 ∷ word 40 44 ∷ word 45 45 ∷ word 46 50 ∷ []

abbrev numbers_of_vector : V3 → List (Option ℤ)
numbers_of_vector v = Some v.x ∷ Some v.y ∷ Some v.z ∷ []

abbrev eight_numbers : Option (List (Option ℤ)) → Option (List (Option ℤ)) → Option (List (Option ℤ)) → Option (List (Option ℤ)) → Option (List (Option ℤ)) → Option (List (Option ℤ)) → Option (List (Option ℤ)) → Option (List (Option ℤ)) → Option (List (Option ℤ))
eight_numbers n1 n2 n3 n4 n5 n6 n7 n8 = solid_keys.appended n1 (solid_keys.appended n2 (solid_keys.appended n3 (solid_keys.appended n4 (solid_keys.appended n5 (solid_keys.appended n6 (solid_keys.appended n7 (solid_keys.appended n8 (Some []))))))))

abbrev unless_good : Pair → Option (List (Option ℤ)) → Option Pair → Option Pair
unless_good p numbers rest = cond (not (list_all is_some (solid_keys.or_no_numbers numbers) && true)) (Some p) rest

abbrev eight_bad : Option (List (Option ℤ)) → Option (List (Option ℤ)) → Option (List (Option ℤ)) → Option (List (Option ℤ)) → Option (List (Option ℤ)) → Option (List (Option ℤ)) → Option (List (Option ℤ)) → Option (List (Option ℤ)) → Option Pair
eight_bad n1 n2 n3 n4 n5 n6 n7 n8 =
    unless_good (pair (Some (codes "V1")) (word 4 8) 5) n1 (unless_good (pair (Some (codes "V2")) (word 10 14) 7) n2 (unless_good (pair (Some (codes "V3")) (word 16 20) 9) n3 (unless_good (pair (Some (codes "V4")) (word 22 26) 11) n4 (unless_good (pair (Some (codes "V5")) (word 28 32) 13) n5 (unless_good (pair (Some (codes "V6")) (word 34 38) 15) n6 (unless_good (pair (Some (codes "V7")) (word 40 44) 17) n7 (unless_good (pair (Some (codes "V8")) (word 46 50) 19) n8 (None))))))))

eight_put : (text : List ℕ) (start end : ℕ → ℕ) (name : List ℕ) (a b c d e f g h : V3) → HasBytes text start end (arb8_pieces name (a ∷ b ∷ c ∷ d ∷ e ∷ f ∷ g ∷ h ∷ [])) → IsName name → All (IsWithin COORD) (a ∷ b ∷ c ∷ d ∷ e ∷ f ∷ g ∷ h ∷ [])
    → first_fault (cases_of (a ∷ b ∷ c ∷ d ∷ e ∷ f ∷ g ∷ h ∷ [])) ≡ None
    → put_of text (placed start end (arb8_pieces name (a ∷ b ∷ c ∷ d ∷ e ∷ f ∷ g ∷ h ∷ []))) (top_words (placed start end (arb8_pieces name (a ∷ b ∷ c ∷ d ∷ e ∷ f ∷ g ∷ h ∷ [])))) ≡ put_solid name (solids.Arb8 (record { vertices = a ∷ b ∷ c ∷ d ∷ e ∷ f ∷ g ∷ h ∷ [] }))
eight_put text start end name a b c d e f g h bytes is within sound =
    let tokens : List Token = placed start end (arb8_pieces name (a ∷ b ∷ c ∷ d ∷ e ∷ f ∷ g ∷ h ∷ [])) in
    let n1 : solid_keys.value_numbers text tokens (vector_key (codes "V1")) (word 4 8) ≡ Some (numbers_of_vector a) = vector_value text tokens (word 4 8) (codes "V1") coordinate_kind a (some_three (bytes 5) (bytes 6) (bytes 7)) (coordinates_of a (within 0 zero_vector (omega arith))) in
    let n2 : solid_keys.value_numbers text tokens (vector_key (codes "V2")) (word 10 14) ≡ Some (numbers_of_vector b) = vector_value text tokens (word 10 14) (codes "V2") coordinate_kind b (some_three (bytes 11) (bytes 12) (bytes 13)) (coordinates_of b (within 1 zero_vector (omega arith))) in
    let n3 : solid_keys.value_numbers text tokens (vector_key (codes "V3")) (word 16 20) ≡ Some (numbers_of_vector c) = vector_value text tokens (word 16 20) (codes "V3") coordinate_kind c (some_three (bytes 17) (bytes 18) (bytes 19)) (coordinates_of c (within 2 zero_vector (omega arith))) in
    let n4 : solid_keys.value_numbers text tokens (vector_key (codes "V4")) (word 22 26) ≡ Some (numbers_of_vector d) = vector_value text tokens (word 22 26) (codes "V4") coordinate_kind d (some_three (bytes 23) (bytes 24) (bytes 25)) (coordinates_of d (within 3 zero_vector (omega arith))) in
    let n5 : solid_keys.value_numbers text tokens (vector_key (codes "V5")) (word 28 32) ≡ Some (numbers_of_vector e) = vector_value text tokens (word 28 32) (codes "V5") coordinate_kind e (some_three (bytes 29) (bytes 30) (bytes 31)) (coordinates_of e (within 4 zero_vector (omega arith))) in
    let n6 : solid_keys.value_numbers text tokens (vector_key (codes "V6")) (word 34 38) ≡ Some (numbers_of_vector f) = vector_value text tokens (word 34 38) (codes "V6") coordinate_kind f (some_three (bytes 35) (bytes 36) (bytes 37)) (coordinates_of f (within 5 zero_vector (omega arith))) in
    let n7 : solid_keys.value_numbers text tokens (vector_key (codes "V7")) (word 40 44) ≡ Some (numbers_of_vector g) = vector_value text tokens (word 40 44) (codes "V7") coordinate_kind g (some_three (bytes 41) (bytes 42) (bytes 43)) (coordinates_of g (within 6 zero_vector (omega arith))) in
    let n8 : solid_keys.value_numbers text tokens (vector_key (codes "V8")) (word 46 50) ≡ Some (numbers_of_vector h) = vector_value text tokens (word 46 50) (codes "V8") coordinate_kind h (some_three (bytes 47) (bytes 48) (bytes 49)) (coordinates_of h (within 7 zero_vector (omega arith))) in
    put_words text tokens (word 0 0) (word 1 1) (word 2 2) eight_words name (codes "arb8") (ap Some (bytes 0)) (ap Some (bytes 1)) (ap Some (bytes 2))
    ∙ same_eight (λ k1 k2 k3 k4 k5 k6 k7 k8. kind_put text tokens (Some name) (Some (kinds.Solid Arb8)) (Some (eight_pairs k1 k2 k3 k4 k5 k6 k7 k8))) (key_is 1 (omega arith) (bytes 3)) (key_is 2 (omega arith) (bytes 9)) (key_is 3 (omega arith) (bytes 15)) (key_is 4 (omega arith) (bytes 21)) (key_is 5 (omega arith) (bytes 27)) (key_is 6 (omega arith) (bytes 33)) (key_is 7 (omega arith) (bytes 39)) (key_is 8 (omega arith) (bytes 45))
    ∙ good_solid text tokens Arb8 name eight_keys (numbers_of_vector a ++ (numbers_of_vector b ++ (numbers_of_vector c ++ (numbers_of_vector d ++ (numbers_of_vector e ++ (numbers_of_vector f ++ (numbers_of_vector g ++ (numbers_of_vector h)))))))) is
    (same_eight eight_numbers n1 n2 n3 n4 n5 n6 n7 n8)
    (same_eight eight_bad n1 n2 n3 n4 n5 n6 n7 n8)
    ∙ ap (λ o. solid_put (Some name) (unless_faulty o (a ∷ b ∷ c ∷ d ∷ e ∷ f ∷ g ∷ h ∷ []))) sound

-- a list of eight
by_eight : (P : List V3 → Type 0) (vs : List V3) → length vs ≡ 8 → ((a b c d e f g h : V3) → P (a ∷ b ∷ c ∷ d ∷ e ∷ f ∷ g ∷ h ∷ [])) → P vs
by_eight P ([]) is all = absurd (omega (arith, is))
by_eight P (a ∷ []) is all = absurd (omega (arith, is))
by_eight P (a ∷ b ∷ []) is all = absurd (omega (arith, is))
by_eight P (a ∷ b ∷ c ∷ []) is all = absurd (omega (arith, is))
by_eight P (a ∷ b ∷ c ∷ d ∷ []) is all = absurd (omega (arith, is))
by_eight P (a ∷ b ∷ c ∷ d ∷ e ∷ []) is all = absurd (omega (arith, is))
by_eight P (a ∷ b ∷ c ∷ d ∷ e ∷ f ∷ []) is all = absurd (omega (arith, is))
by_eight P (a ∷ b ∷ c ∷ d ∷ e ∷ f ∷ g ∷ []) is all = absurd (omega (arith, is))
by_eight P (a ∷ b ∷ c ∷ d ∷ e ∷ f ∷ g ∷ h ∷ []) is all = all a b c d e f g h
by_eight P (a ∷ b ∷ c ∷ d ∷ e ∷ f ∷ g ∷ h ∷ i ∷ rest) is all = absurd (omega (arith, is))

abbrev IsAgain : List ℕ → List V3 → Type 0
IsAgain name vs = All (IsWithin COORD) vs → first_fault (cases_of vs) ≡ None → IsPutAgain name (bodies.Solid (solids.Arb8 (record { vertices = vs })))

eight_again : (name : List ℕ) (a b c d e f g h : V3) → IsName name → IsAgain name (a ∷ b ∷ c ∷ d ∷ e ∷ f ∷ g ∷ h ∷ [])
eight_again name a b c d e f g h is within sound =
    let vs : List V3 = a ∷ b ∷ c ∷ d ∷ e ∷ f ∷ g ∷ h ∷ [] in
    let line : List ℕ = put_line name (bodies.Solid (solids.Arb8 (record { vertices = vs }))) in
    let written : line ≡ written_after Open (arb8_pieces name vs) = ap (λ (text : List ℕ). codes "put " ++ (name ++ (codes " arb8" ++ text))) (vertices_written 1 vs) in
    let good : Good 0 (arb8_pieces name vs) = (word_good (codes "put") 0 refl, (word_good name 0 (name_word name is), (word_good (codes "arb8") 0 refl, vertices_good 1 vs (omega arith) within))) in
    let have : HasPieces line (arb8_pieces name vs) = read_line line (arb8_pieces name vs) written good in
    (have.tokens, have.read, by_places (λ ts. put_of line ts (top_words ts) ≡ put_solid name (solids.Arb8 (record { vertices = vs }))) line have.tokens (arb8_pieces name vs) have.are (λ start end bytes. eight_put line start end name a b c d e f g h bytes is within sound))

pub arb8_again : (name : List ℕ) (s : EightVertices) → IsName name → length s.vertices ≡ 8 → All (IsWithin COORD) s.vertices → first_fault (cases_of s.vertices) ≡ None → IsPutAgain name (bodies.Solid (solids.Arb8 s))
arb8_again name s is eight within sound = by_eight (IsAgain name) s.vertices eight (λ a b c d e f g h. eight_again name a b c d e f g h is) within sound
