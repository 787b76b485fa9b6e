-- The written line of a combination reads as that combination.
use Rattle.std.proofs.Common.{◌≡◌, ◌∙◌, ◌+◌, ◌-◌, ◌<◌, ◌≤◌, ◌&&◌, ◌^◌, ℕ, pos, Bool, true, false, not, cond, List, [], ◌∷◌, ◌++◌, length, take, drop, Option, Some, None, Ok, Err, is_some, codes, decimal, refl, ap, ap₂, sym, arith, append_assoc, ne_eqb}
use Rattle.std.specs.Prelude.{find}
use Rattle.std.specs.List.{list_all, slice_range, take-map, drop-map}
use Rattle.std.specs.Option.{option_map}
use Rattle.std.proofs.lemmas.Bool.{le-leb, and_parts}
use Rattle.std.proofs.Math.Seq.{take-append_seam}
use Rattle.name_core.specs.NameText.{IsName}
use Rattle.tree_forms.specs.Trees.{Tree}
use Rattle.comb_tree.specs.Nodes.{Comb as CombOf, Member}
use Rattle.region_attr.specs.Attrs.{group_attr}
use Rattle.region_attr.specs.Colours.{colour}
use Rattle.region_attr.specs.Keys.{key_of}
use Rattle.region_attr.specs.Ranges.{HasRanges}
use Rattle.region_attr.specs.Values.{truth_of, at_most, number_to}
use Rattle.region_attr.specs.declared.attr.Attr.{Attr}
use Rattle.region_attr.specs.declared.attr.Rgb.{Rgb as Colour}
use Rattle.region_attr.specs.declared.key.Key.{Key}
use Rattle.region_attr.specs.declared.key.Key.TheVariants.{Region, Id, Air, Los, Mater, Rgb, Inherit}
use Rattle.object_set.specs.declared.object.Body.TheVariants as bodies
use Rattle.tcl_words.specs.Pieces.{piece, pieces, written_after}
use Rattle.tcl_words.specs.TopWords.{atom_of}
use Rattle.tcl_words.specs.declared.token.Kind.TheVariants.{Open, Close, Atom}
use Rattle.tcl_words.specs.declared.token.Token.{Token}
use Rattle.tcl_words.specs.declared.token.Word.{Word}
use Rattle.tcl_words.proofs.Scan.{Piece}
use Rattle.tcl_words.proofs.Written.{Good}
use Rattle.word_values.specs.Atoms.{words_in}
use Rattle.word_values.specs.Groups.{words_of_tokens}
use Rattle.word_values.specs.Trees.{tree_of}
use Rattle.word_values.specs.declared.tree.TreeFault.TheVariants.{Form}
use Rattle.put_form.specs.Combs as combs
use Rattle.put_form.specs.Kinds.{kind_of}
use Rattle.put_form.specs.Pairs.{Pair, pair, pairs_of}
use Rattle.put_form.specs.Puts.{Put, put_of, kind_put, comb_of, comb_with, unless_fault, number_fault, name_fault, when, place_of}
use Rattle.put_form.specs.declared.fault.PutFault.{PutFault}
use Rattle.put_form.specs.declared.fault.PutFault.TheVariants as put_faults
use Rattle.put_form.specs.Written.{put_line, truth_text, colour_text, tree_text}
use Rattle.text_laws.specs.Fits.{IsColour, HasColour, IsFitTree}
use Rattle.text_laws.specs.PutAgain.{IsPutAgain}
use Rattle.put_form.proofs.NameWords.{is_word, name_word, word_good}
use Rattle.text_laws.proofs.LineNumbers.{decimal_word, number_again}
use Rattle.text_laws.proofs.LinePieces.{HasPieces, read_line, placed, HasBytes, by_places, word, atom, opening, closing}
use Rattle.text_laws.proofs.LineSolids.{put_words, name_fine, some_three}
use Rattle.text_laws.proofs.LineWords.{Stretch, tops, top_is, stretch_good, stretch_end, stretch_tops}
use Rattle.text_laws.proofs.LineNodes.{node_pieces, node_written, node_stretch, tree_again}

-- ---- the pieces of a combination

abbrev colour_pieces : Option Colour → List Piece → List Piece
colour_pieces None rest = rest
colour_pieces (Some c) rest = atom (codes "rgb") ∷ opening ∷ atom (decimal c.r) ∷ atom (decimal c.g) ∷ atom (decimal c.b) ∷ closing ∷ rest

abbrev tree_pieces : CombOf → List Piece
tree_pieces None = []
tree_pieces (Some t) = atom (codes "tree") ∷ opening ∷ (node_pieces t ++ (closing ∷ []))

abbrev attr_pieces : Attr → Option Colour → List Piece → List Piece
attr_pieces attr rgb rest =
    atom (codes "region") ∷ atom (truth_text attr.region) ∷ atom (codes "id") ∷ atom (decimal attr.id) ∷ atom (codes "air") ∷ atom (decimal attr.air)
    ∷ atom (codes "los") ∷ atom (decimal attr.los) ∷ atom (codes "mater") ∷ atom (decimal attr.mater)
    ∷ colour_pieces rgb (atom (codes "inherit") ∷ atom (truth_text attr.inherit) ∷ rest)

abbrev line_pieces : List ℕ → Attr → Option Colour → List Piece → List Piece
line_pieces name attr rgb rest = atom (codes "put") ∷ atom name ∷ atom (codes "comb") ∷ attr_pieces attr rgb rest

abbrev comb_pieces : List ℕ → Attr → CombOf → List Piece
comb_pieces name attr tree = line_pieces name attr attr.rgb (tree_pieces tree)

-- ---- they are written

tree_written : (tree : CombOf) → tree_text tree ≡ written_after Atom (tree_pieces tree)
tree_written None = refl
tree_written (Some t) = ap (λ (text : List ℕ). codes " tree {" ++ text) (node_written t [])

colour_line : (r g b w : List ℕ) → (codes " rgb {" ++ (r ++ (codes " " ++ (g ++ (codes " " ++ (b ++ codes "}")))))) ++ w ≡ codes " rgb {" ++ (r ++ (32 ∷ (g ++ (32 ∷ (b ++ (125 ∷ w))))))
colour_line r g b w = simp append_assoc

colour_written : (rgb : Option Colour) (rest : List Piece) → colour_text rgb ++ written_after Atom (atom (codes "inherit") ∷ rest) ≡ written_after Atom (colour_pieces rgb (atom (codes "inherit") ∷ rest))
colour_written None rest = refl
colour_written (Some c) rest = colour_line (decimal c.r) (decimal c.g) (decimal c.b) (written_after Close (atom (codes "inherit") ∷ rest))

abbrev attr_line : List ℕ → List ℕ → List ℕ → List ℕ → List ℕ → List ℕ → List ℕ
attr_line region id air los mater rest =
    codes "region " ++ (region ++ (codes " id " ++ (id ++ (codes " air " ++ (air ++ (codes " los " ++ (los ++ (codes " mater " ++ (mater ++ rest)))))))))

attr_grouped : (region id air los mater rgb inherit tree : List ℕ) → attr_line region id air los mater (rgb ++ (codes " inherit " ++ inherit)) ++ tree ≡ attr_line region id air los mater (rgb ++ (codes " inherit " ++ (inherit ++ tree)))
attr_grouped region id air los mater rgb inherit tree = simp append_assoc

comb_written : (name : List ℕ) (attr : Attr) (tree : CombOf) → put_line name (bodies.Comb attr tree) ≡ written_after Open (comb_pieces name attr tree)
comb_written name attr tree =
    ap (λ (text : List ℕ). codes "put " ++ (name ++ (codes " comb " ++ text)))
    (attr_grouped (truth_text attr.region) (decimal attr.id) (decimal attr.air) (decimal attr.los) (decimal attr.mater) (colour_text attr.rgb) (truth_text attr.inherit) (tree_text tree)
    ∙ ap (attr_line (truth_text attr.region) (decimal attr.id) (decimal attr.air) (decimal attr.los) (decimal attr.mater))
    (ap (λ (text : List ℕ). colour_text attr.rgb ++ (codes " inherit " ++ (truth_text attr.inherit ++ text))) (tree_written tree)
    ∙ colour_written attr.rgb (atom (truth_text attr.inherit) ∷ tree_pieces tree)))

-- ---- they are good

truth_word : (b : Bool) → is_word (truth_text b) ≡ true
truth_word true = refl
truth_word false = refl

tree_good : (tree : CombOf) → IsFitTree tree → Good 0 (tree_pieces tree)
tree_good None fit = refl
tree_good (Some t) fit = (
  word_good (codes "tree") 0 refl,
  ((refl, refl), stretch_good (node_pieces t) (closing ∷ []) 1 1 (node_stretch t 1 fit.0 (omega arith) (omega (arith, fit.1))) ((refl, omega arith), refl)),
)

colour_good : (rgb : Option Colour) (rest : List Piece) → HasColour rgb → Good 0 rest → Good 0 (colour_pieces rgb rest)
colour_good None rest fit good = good
colour_good (Some c) rest fit good = (
  word_good (codes "rgb") 0 refl,
  ((refl, refl), (word_good (decimal c.r) 1 (decimal_word c.r (omega (arith, fit.0))), (word_good (decimal c.g) 1 (decimal_word c.g (omega (arith, fit.1))), (word_good (decimal c.b) 1 (decimal_word c.b (omega (arith, fit.2))), ((refl, omega arith), good))))),
)

comb_good : (name : List ℕ) (attr : Attr) (tree : CombOf) → IsName name → HasRanges attr → HasColour attr.rgb → IsFitTree tree → Good 0 (comb_pieces name attr tree)
comb_good name attr tree is ranges colour fit =
    let rest : Good 0 (colour_pieces attr.rgb (atom (codes "inherit") ∷ atom (truth_text attr.inherit) ∷ tree_pieces tree)) =
    colour_good attr.rgb (atom (codes "inherit") ∷ atom (truth_text attr.inherit) ∷ tree_pieces tree) colour
    (word_good (codes "inherit") 0 refl, (word_good (truth_text attr.inherit) 0 (truth_word attr.inherit), tree_good tree fit)) in
    let mater : Good 0 (atom (codes "los") ∷ atom (decimal attr.los) ∷ atom (codes "mater") ∷ atom (decimal attr.mater) ∷ colour_pieces attr.rgb (atom (codes "inherit") ∷ atom (truth_text attr.inherit) ∷ tree_pieces tree)) =
    (word_good (codes "los") 0 refl, (word_good (decimal attr.los) 0 (decimal_word attr.los (omega (arith, ranges.los))), (word_good (codes "mater") 0 refl, (word_good (decimal attr.mater) 0 (decimal_word attr.mater (omega (arith, ranges.mater))), rest)))) in (
      word_good (codes "put") 0 refl,
      (
        word_good name 0 (name_word name is),
        (
          word_good (codes "comb") 0 refl,
          (
            word_good (codes "region") 0 refl,
            (
              word_good (truth_text attr.region) 0 (truth_word attr.region),
              (word_good (codes "id") 0 refl, (word_good (decimal attr.id) 0 (decimal_word attr.id (omega (arith, ranges.id))), (word_good (codes "air") 0 refl, (word_good (decimal attr.air) 0 (decimal_word attr.air (omega (arith, ranges.air))), mater)))),
            ),
          ),
        ),
      ),
    )

-- ---- each attribute is read

-- a word of a key sets this
abbrev Sets : List ℕ → List Token → Key → Word → (Attr → Attr) → Type 0
Sets text tokens key w f = (attr : Attr) → combs.with_word text tokens key w attr ≡ Some (f attr)

truth_again : (b : Bool) → truth_of (truth_text b) ≡ Some b
truth_again true = refl
truth_again false = refl

number_to_again : (most n : ℕ) → n ≤ most → most < 10 ^ 9 → number_to most (decimal n) ≡ Some n
number_to_again most n few limit = ap (at_most most) (number_again (pos n) (omega (arith, few, limit))) ∙ ap (λ b. cond b (Some n) None) (le-leb n most few)

region_set : (text : List ℕ) (tokens : List Token) (w : Word) (b : Bool) → atom_of text tokens w ≡ Some (truth_text b) → Sets text tokens Region w (λ attr. record attr { region = b })
region_set text tokens w b found attr = ap (λ o. combs.valued Region o (words_in text tokens w) attr) found ∙ ap (option_map (λ v. record attr { region = v })) (truth_again b)

inherit_set : (text : List ℕ) (tokens : List Token) (w : Word) (b : Bool) → atom_of text tokens w ≡ Some (truth_text b) → Sets text tokens Inherit w (λ attr. record attr { inherit = b })
inherit_set text tokens w b found attr = ap (λ o. combs.valued Inherit o (words_in text tokens w) attr) found ∙ ap (option_map (λ v. record attr { inherit = v })) (truth_again b)

id_set : (text : List ℕ) (tokens : List Token) (w : Word) (n : ℕ) → n ≤ 999999 → atom_of text tokens w ≡ Some (decimal n) → Sets text tokens Id w (λ attr. record attr { id = n })
id_set text tokens w n few found attr = ap (λ o. combs.valued Id o (words_in text tokens w) attr) found ∙ ap (option_map (λ v. record attr { id = v })) (number_to_again 999999 n few (omega arith))

air_set : (text : List ℕ) (tokens : List Token) (w : Word) (n : ℕ) → n ≤ 999999 → atom_of text tokens w ≡ Some (decimal n) → Sets text tokens Air w (λ attr. record attr { air = n })
air_set text tokens w n few found attr = ap (λ o. combs.valued Air o (words_in text tokens w) attr) found ∙ ap (option_map (λ v. record attr { air = v })) (number_to_again 999999 n few (omega arith))

los_set : (text : List ℕ) (tokens : List Token) (w : Word) (n : ℕ) → n ≤ 100 → atom_of text tokens w ≡ Some (decimal n) → Sets text tokens Los w (λ attr. record attr { los = n })
los_set text tokens w n few found attr = ap (λ o. combs.valued Los o (words_in text tokens w) attr) found ∙ ap (option_map (λ v. record attr { los = v })) (number_to_again 100 n few (omega arith))

mater_set : (text : List ℕ) (tokens : List Token) (w : Word) (n : ℕ) → n ≤ 999999 → atom_of text tokens w ≡ Some (decimal n) → Sets text tokens Mater w (λ attr. record attr { mater = n })
mater_set text tokens w n few found attr = ap (λ o. combs.valued Mater o (words_in text tokens w) attr) found ∙ ap (option_map (λ v. record attr { mater = v })) (number_to_again 999999 n few (omega arith))

same_colour : {a b c x y z : Option ℕ} → a ≡ x → b ≡ y → c ≡ z → colour a b c ≡ colour x y z
same_colour p q r = cc

colour_set : (text : List ℕ) (tokens : List Token) (w : Word) (c : Colour) → IsColour c → atom_of text tokens w ≡ None → words_in text tokens w ≡ Some (decimal c.r ∷ decimal c.g ∷ decimal c.b ∷ [])
    → Sets text tokens Rgb w (λ attr. record attr { rgb = Some c })
colour_set text tokens w c fit none found attr =
    ap (λ o. combs.valued Rgb o (words_in text tokens w) attr) none
    ∙ ap (λ o. combs.group_value Rgb o attr) found
    ∙ ap (option_map (λ v. record attr { rgb = Some v })) (same_colour (number_to_again 255 c.r fit.0 (omega arith)) (number_to_again 255 c.g fit.1 (omega arith)) (number_to_again 255 c.b fit.2 (omega arith)))

-- ---- and set, one after the other

-- a key with the place of its word, the word of its value, and what it sets
record Setting : Type 0 where
  bytes : List ℕ
  key : Key
  place : ℕ
  value : Word
  set : Attr → Attr

abbrev setting : List ℕ → Key → ℕ → Word → (Attr → Attr) → Setting
setting bytes key place value set = record { bytes = bytes; key = key; place = place; value = value; set = set }

-- the key stands there, it is known, and its value sets this
abbrev AreSet : List ℕ → List Token → List Setting → Type 0
AreSet text tokens [] = Unit {0}
AreSet text tokens (s ∷ rest) =
    (atom_of text tokens (word s.place s.place) ≡ Some s.bytes) × (key_of s.bytes ≡ Some s.key) × Sets text tokens s.key s.value s.set × AreSet text tokens rest

abbrev set_words : List Setting → List Word → List Word
set_words [] words = words
set_words (s ∷ rest) words = word s.place s.place ∷ s.value ∷ set_words rest words

abbrev set_pairs : ℕ → List Setting → List Pair → List Pair
set_pairs number [] pairs = pairs
set_pairs number (s ∷ rest) pairs = pair (Some s.bytes) s.value (number + 1) ∷ set_pairs (number + 2) rest pairs

abbrev behind : ℕ → List Setting → ℕ
behind number [] = number
behind number (s ∷ rest) = behind (number + 2) rest

abbrev all_set : List Setting → Attr → Attr
all_set [] attr = attr
all_set (s ∷ rest) attr = all_set rest (s.set attr)

pairs_next : (text : List ℕ) (tokens : List Token) (number : ℕ) (k v : Word) (rest : List Word) (bytes : List ℕ) (pairs : List Pair) → atom_of text tokens k ≡ Some bytes → pairs_of text tokens (number + 2) rest ≡ Some pairs
    → pairs_of text tokens number (k ∷ v ∷ rest) ≡ Some (pair (Some bytes) v (number + 1) ∷ pairs)
pairs_next text tokens number k v rest bytes pairs key others = ap₂ (λ o ps. option_map (λ pairs. pair o v (number + 1) ∷ pairs) ps) key others

are_paired : (text : List ℕ) (tokens : List Token) (number : ℕ) (settings : List Setting) (words : List Word) (pairs : List Pair) → AreSet text tokens settings → pairs_of text tokens (behind number settings) words ≡ Some pairs
    → pairs_of text tokens number (set_words settings words) ≡ Some (set_pairs number settings pairs)
are_paired text tokens number [] words pairs are others = others
are_paired text tokens number (s ∷ rest) words pairs are others =
    pairs_next text tokens number (word s.place s.place) s.value (set_words rest words) s.bytes (set_pairs (number + 2) rest pairs) are.0 (are_paired text tokens (number + 2) rest words pairs are.3 others)

set_attrs : (text : List ℕ) (tokens : List Token) (number : ℕ) (settings : List Setting) (pairs : List Pair) (attr : Attr) → AreSet text tokens settings
    → combs.attr_from text tokens (set_pairs number settings pairs) attr ≡ combs.attr_from text tokens pairs (all_set settings attr)
set_attrs text tokens number [] pairs attr are = refl
set_attrs text tokens number (s ∷ rest) pairs attr are =
    let others : List Pair = set_pairs (number + 2) rest pairs in
    ap (λ o. combs.attr_from text tokens others (combs.known_word text tokens o s.value attr)) are.1
    ∙ ap (λ x. combs.attr_from text tokens others (combs.attr_or attr x)) (are.2 attr)
    ∙ set_attrs text tokens (number + 2) rest pairs (s.set attr) are.3

abbrev has_value : List ℕ → List Token → Pair → Bool
has_value text tokens p = combs.has_value text tokens p.key p.value

set_values : (text : List ℕ) (tokens : List Token) (number : ℕ) (settings : List Setting) (pairs : List Pair) → AreSet text tokens settings → list_all (has_value text tokens) pairs ≡ true
    → list_all (has_value text tokens) (set_pairs number settings pairs) ≡ true
set_values text tokens number [] pairs are fine = fine
set_values text tokens number (s ∷ rest) pairs are fine =
    let others : List Pair = set_pairs (number + 2) rest pairs in
    ap (λ o. combs.is_value text tokens o s.value && list_all (has_value text tokens) others) are.1
    ∙ ap (λ o. is_some o && list_all (has_value text tokens) others) (are.2 group_attr)
    ∙ set_values text tokens (number + 2) rest pairs are.3 fine

none_bad : (p : Pair → Bool) (pairs : List Pair) → list_all p pairs ≡ true → find (λ x. not (p x)) pairs ≡ None
none_bad p [] all = refl
none_bad p (x ∷ xs) all =
    let both = and_parts (p x) (list_all p xs) all in
    ap (λ b. cond (not b) (Some x) (find (λ x. not (p x)) xs)) both.0 ∙ none_bad p xs both.1

abbrev put_comb : List ℕ → Attr → CombOf → Put
put_comb name attr tree = Ok (name, record { body = bodies.Comb attr tree; kept = [] })

-- a combination whose values are all good
good_comb : (text : List ℕ) (tokens : List Token) (name : List ℕ) (pairs : List Pair) (attr : Attr) (tree : CombOf) → IsName name
    → combs.has_keys pairs ≡ true → combs.tree_in text tokens pairs ≡ Ok tree → list_all (has_value text tokens) pairs ≡ true → combs.attr_of text tokens pairs ≡ attr
    → comb_of text tokens (Some name) pairs ≡ put_comb name attr tree
good_comb text tokens name pairs attr tree is keys found fine attrs =
    let done : Put = put_comb name (combs.attr_of text tokens pairs) tree in
    ap (λ f. comb_with text tokens (Some name) pairs f (place_of (combs.tree_pair pairs))) found
    ∙ ap (λ b. unless_fault (when (not b) put_faults.Attr ∷ None ∷ name_fault (Some name) ∷ None ∷ number_fault (combs.bad_pair text tokens pairs) ∷ []) done) keys
    ∙ ap₂ (λ (a b : Option PutFault). unless_fault (None ∷ None ∷ a ∷ None ∷ b ∷ []) done) (name_fine name is) (ap number_fault (none_bad (has_value text tokens) pairs fine))
    ∙ ap (λ a. put_comb name a tree) attrs

-- what lies between two places of the tokens
slice_pieces : (text : List ℕ) (tokens : List Token) (ps mid rest : List Piece) (a : ℕ) → pieces text tokens ≡ ps → drop a ps ≡ mid ++ rest → pieces text (slice_range tokens a (a + length mid)) ≡ mid
slice_pieces text tokens ps mid rest a are is =
    sym (take-map (piece text) ((a + length mid) - a) (drop a tokens))
    ∙ ap (take ((a + length mid) - a)) (sym (drop-map (piece text) a tokens) ∙ ap (drop a) are ∙ is)
    ∙ ap (λ (n : ℕ). take n (mid ++ rest)) (let e : (a + length mid) - a ≡ length mid = omega arith in e)
    ∙ take-append_seam mid rest

tree_found : (text : List ℕ) (tokens : List Token) (ps : List Piece) (t : Tree Member) (a : ℕ) → pieces text tokens ≡ ps → drop (a + 1) ps ≡ node_pieces t ++ (closing ∷ []) → IsFitTree (Some t)
    → combs.tree_at text tokens (word a ((a + 1) + length (node_pieces t))) ≡ Ok (Some t)
tree_found text tokens ps t a are is fit =
    let e : ℕ = (a + 1) + length (node_pieces t) in
    ap (λ b. cond b (Err Form) (tree_of (words_of_tokens text (slice_range tokens (a + 1) e)))) (ne_eqb a e (λ same. omega (arith, same)))
    ∙ tree_again text (slice_range tokens (a + 1) e) t (slice_pieces text tokens ps (node_pieces t) (closing ∷ []) (a + 1) are is) fit.0 fit.1

-- ---- the attributes of a line, whose key `inherit` stands at a place

abbrev settings : Attr → List Setting → ℕ → List Setting
settings a colour place =
    setting (codes "region") Region 3 (word 4 4) (λ attr. record attr { region = a.region })
    ∷ setting (codes "id") Id 5 (word 6 6) (λ attr. record attr { id = a.id })
    ∷ setting (codes "air") Air 7 (word 8 8) (λ attr. record attr { air = a.air })
    ∷ setting (codes "los") Los 9 (word 10 10) (λ attr. record attr { los = a.los })
    ∷ setting (codes "mater") Mater 11 (word 12 12) (λ attr. record attr { mater = a.mater })
    ∷ (colour ++ (setting (codes "inherit") Inherit place (word (place + 1) (place + 1)) (λ attr. record attr { inherit = a.inherit }) ∷ []))

abbrev colour_setting : Colour → Setting
colour_setting c = setting (codes "rgb") Rgb 13 (word 14 18) (λ attr. record attr { rgb = Some c })

-- a line without a colour, and one with a colour
abbrev plain : Attr → List Setting
plain a = settings a [] 13

abbrev coloured : Attr → Colour → List Setting
coloured a c = settings a (colour_setting c ∷ []) 19

plain_set : (text : List ℕ) (start end : ℕ → ℕ) (name : List ℕ) (a : Attr) (rest : List Piece) → HasRanges a → (let ps : List Piece = line_pieces name a None rest in HasBytes text start end ps → AreSet text (placed start end ps) (plain a))
plain_set text start end name a rest ranges bytes =
    let tokens : List Token = placed start end (line_pieces name a None rest) in (
      ap Some (bytes 3),
      refl,
      region_set text tokens (word 4 4) a.region (ap Some (bytes 4)),
      (
        ap Some (bytes 5),
        refl,
        id_set text tokens (word 6 6) a.id ranges.id (ap Some (bytes 6)),
        (
          ap Some (bytes 7),
          refl,
          air_set text tokens (word 8 8) a.air ranges.air (ap Some (bytes 8)),
          (
            ap Some (bytes 9),
            refl,
            los_set text tokens (word 10 10) a.los ranges.los (ap Some (bytes 10)),
            (
              ap Some (bytes 11),
              refl,
              mater_set text tokens (word 12 12) a.mater ranges.mater (ap Some (bytes 12)),
              (
                ap Some (bytes 13),
                refl,
                inherit_set text tokens (word 14 14) a.inherit (ap Some (bytes 14)),
                tt,
              ),
            ),
          ),
        ),
      ),
    )

coloured_set : (text : List ℕ) (start end : ℕ → ℕ) (name : List ℕ) (a : Attr) (c : Colour) (rest : List Piece) → HasRanges a → IsColour c
    → (let ps : List Piece = line_pieces name a (Some c) rest in HasBytes text start end ps → AreSet text (placed start end ps) (coloured a c))
coloured_set text start end name a c rest ranges fit bytes =
    let tokens : List Token = placed start end (line_pieces name a (Some c) rest) in (
      ap Some (bytes 3),
      refl,
      region_set text tokens (word 4 4) a.region (ap Some (bytes 4)),
      (
        ap Some (bytes 5),
        refl,
        id_set text tokens (word 6 6) a.id ranges.id (ap Some (bytes 6)),
        (
          ap Some (bytes 7),
          refl,
          air_set text tokens (word 8 8) a.air ranges.air (ap Some (bytes 8)),
          (
            ap Some (bytes 9),
            refl,
            los_set text tokens (word 10 10) a.los ranges.los (ap Some (bytes 10)),
            (
              ap Some (bytes 11),
              refl,
              mater_set text tokens (word 12 12) a.mater ranges.mater (ap Some (bytes 12)),
              (
                ap Some (bytes 13),
                refl,
                colour_set text tokens (word 14 18) c fit refl (some_three (bytes 15) (bytes 16) (bytes 17)),
                (
                  ap Some (bytes 19),
                  refl,
                  inherit_set text tokens (word 20 20) a.inherit (ap Some (bytes 20)),
                  tt,
                ),
              ),
            ),
          ),
        ),
      ),
    )

-- ---- the words of a line are that combination

abbrev line_words : List Setting → List Word → List Word
line_words all rest = word 0 0 ∷ word 1 1 ∷ word 2 2 ∷ set_words all rest

-- what follows the attributes: nothing, or a tree in the words from a place on
abbrev tree_words : ℕ → ℕ → List Word
tree_words place end = word place place ∷ word (place + 1) end ∷ []

abbrev tree_pairs : ℕ → ℕ → ℕ → List Pair
tree_pairs number place end = pair (Some (codes "tree")) (word (place + 1) end) (number + 1) ∷ []

plain_empty_put : (text : List ℕ) (start end : ℕ → ℕ) (name : List ℕ) (a : Attr) → IsName name → HasRanges a → HasBytes text start end (line_pieces name a None (tree_pieces None))
    → put_of text (placed start end (line_pieces name a None (tree_pieces None))) (line_words (plain a) []) ≡ put_comb name (record a { rgb = None }) None
plain_empty_put text start end name a is ranges bytes =
    let tokens : List Token = placed start end (line_pieces name a None (tree_pieces None)) in
    let are : AreSet text tokens (plain a) = plain_set text start end name a (tree_pieces None) ranges bytes in
    put_words text tokens (word 0 0) (word 1 1) (word 2 2) (set_words (plain a) []) name (codes "comb") (ap Some (bytes 0)) (ap Some (bytes 1)) (ap Some (bytes 2))
    ∙ ap (kind_put text tokens (Some name) (kind_of (codes "comb"))) (are_paired text tokens 4 (plain a) [] [] are refl)
    ∙ good_comb text tokens name (set_pairs 4 (plain a) []) (record a { rgb = None }) None is refl refl (set_values text tokens 4 (plain a) [] are refl) (set_attrs text tokens 4 (plain a) [] group_attr are)

plain_empty_again : (name : List ℕ) (a : Attr) → IsName name → HasRanges a → IsPutAgain name (bodies.Comb (record a { rgb = None }) None)
plain_empty_again name a is ranges =
    let ps : List Piece = (line_pieces name a None (tree_pieces None)) in
    let line : List ℕ = put_line name (bodies.Comb (record a { rgb = None }) None) in
    let lawful : HasRanges (record a { rgb = None }) = record { id = ranges.id; air = ranges.air; los = ranges.los; mater = ranges.mater } in
    let good : Good 0 ps = comb_good name (record a { rgb = None }) None is lawful tt tt in
    let have : HasPieces line ps = read_line line ps (comb_written name (record a { rgb = None }) None) good in
    let put : put_of line have.tokens (line_words (plain a) []) ≡ put_comb name (record a { rgb = None }) None =
    by_places (λ ts. put_of line ts (line_words (plain a) []) ≡ put_comb name (record a { rgb = None }) None) line have.tokens ps have.are (λ start end bytes. plain_empty_put line start end name a is ranges bytes) in
    (have.tokens, have.read, ap (put_of line have.tokens) (top_is line have.tokens ps have.are good) ∙ put)

plain_tree_put : (text : List ℕ) (start end : ℕ → ℕ) (name : List ℕ) (a : Attr) (t : Tree Member) (e : ℕ) → IsName name → HasRanges a → HasBytes text start end (line_pieces name a None (tree_pieces (Some t)))
    → combs.tree_at text (placed start end (line_pieces name a None (tree_pieces (Some t)))) (word 16 e) ≡ Ok (Some t)
    → put_of text (placed start end (line_pieces name a None (tree_pieces (Some t)))) (line_words (plain a) (tree_words 15 e)) ≡ put_comb name (record a { rgb = None }) (Some t)
plain_tree_put text start end name a t e is ranges bytes found =
    let tokens : List Token = placed start end (line_pieces name a None (tree_pieces (Some t))) in
    let are : AreSet text tokens (plain a) = plain_set text start end name a (tree_pieces (Some t)) ranges bytes in
    put_words text tokens (word 0 0) (word 1 1) (word 2 2) (set_words (plain a) (tree_words 15 e)) name (codes "comb") (ap Some (bytes 0)) (ap Some (bytes 1)) (ap Some (bytes 2))
    ∙ ap (kind_put text tokens (Some name) (kind_of (codes "comb"))) (are_paired text tokens 4 (plain a) (tree_words 15 e) (tree_pairs 16 15 e) are (ap (λ k. Some (pair k (word 16 e) 17 ∷ [])) (ap Some (bytes 15))))
    ∙ good_comb text tokens name (set_pairs 4 (plain a) (tree_pairs 16 15 e)) (record a { rgb = None }) (Some t) is refl found (set_values text tokens 4 (plain a) (tree_pairs 16 15 e) are (ap (λ f. combs.has_numbers f && true) found)) (set_attrs text tokens 4 (plain a) (tree_pairs 16 15 e) group_attr are)

plain_tree_again : (name : List ℕ) (a : Attr) (t : Tree Member) → IsName name → HasRanges a → IsFitTree (Some t) → IsPutAgain name (bodies.Comb (record a { rgb = None }) (Some t))
plain_tree_again name a t is ranges tree_fit =
    let ps : List Piece = (line_pieces name a None (tree_pieces (Some t))) in
    let line : List ℕ = put_line name (bodies.Comb (record a { rgb = None }) (Some t)) in
    let lawful : HasRanges (record a { rgb = None }) = record { id = ranges.id; air = ranges.air; los = ranges.los; mater = ranges.mater } in
    let good : Good 0 ps = comb_good name (record a { rgb = None }) (Some t) is lawful tt tree_fit in
    let have : HasPieces line ps = read_line line ps (comb_written name (record a { rgb = None }) (Some t)) good in
    let e : ℕ = (16 + 1) + length (node_pieces t) in
    let inside : Stretch 1 (node_pieces t) 1 = node_stretch t 1 tree_fit.0 (omega arith) (omega (arith, tree_fit.1)) in
    let are : tops 0 0 ps ≡ (line_words (plain a) (tree_words 15 e)) =
    ap₂ (λ (n : ℕ) (ws : List Word). line_words (plain a) (word 15 15 ∷ word 16 n ∷ ws)) (stretch_end (node_pieces t) (closing ∷ []) 17 1 1 inside) (stretch_tops (node_pieces t) (closing ∷ []) 17 1 1 (omega arith) inside) in
    let found : combs.tree_at line have.tokens (word 16 e) ≡ Ok (Some t) = tree_found line have.tokens ps t 16 have.are refl tree_fit in
    let put : put_of line have.tokens (line_words (plain a) (tree_words 15 e)) ≡ put_comb name (record a { rgb = None }) (Some t) =
    by_places (λ ts. combs.tree_at line ts (word 16 e) ≡ Ok (Some t) → put_of line ts (line_words (plain a) (tree_words 15 e)) ≡ put_comb name (record a { rgb = None }) (Some t)) line have.tokens ps have.are (λ start end bytes. plain_tree_put line start end name a t e is ranges bytes) found in
    (have.tokens, have.read, ap (put_of line have.tokens) (top_is line have.tokens ps have.are good ∙ are) ∙ put)

coloured_empty_put : (text : List ℕ) (start end : ℕ → ℕ) (name : List ℕ) (a : Attr) (c : Colour) → IsName name → HasRanges a → IsColour c → HasBytes text start end (line_pieces name a (Some c) (tree_pieces None))
    → put_of text (placed start end (line_pieces name a (Some c) (tree_pieces None))) (line_words (coloured a c) []) ≡ put_comb name (record a { rgb = Some c }) None
coloured_empty_put text start end name a c is ranges fit bytes =
    let tokens : List Token = placed start end (line_pieces name a (Some c) (tree_pieces None)) in
    let are : AreSet text tokens (coloured a c) = coloured_set text start end name a c (tree_pieces None) ranges fit bytes in
    put_words text tokens (word 0 0) (word 1 1) (word 2 2) (set_words (coloured a c) []) name (codes "comb") (ap Some (bytes 0)) (ap Some (bytes 1)) (ap Some (bytes 2))
    ∙ ap (kind_put text tokens (Some name) (kind_of (codes "comb"))) (are_paired text tokens 4 (coloured a c) [] [] are refl)
    ∙ good_comb text tokens name (set_pairs 4 (coloured a c) []) (record a { rgb = Some c }) None is refl refl (set_values text tokens 4 (coloured a c) [] are refl) (set_attrs text tokens 4 (coloured a c) [] group_attr are)

coloured_empty_again : (name : List ℕ) (a : Attr) (c : Colour) → IsName name → HasRanges a → IsColour c → IsPutAgain name (bodies.Comb (record a { rgb = Some c }) None)
coloured_empty_again name a c is ranges fit =
    let ps : List Piece = (line_pieces name a (Some c) (tree_pieces None)) in
    let line : List ℕ = put_line name (bodies.Comb (record a { rgb = Some c }) None) in
    let lawful : HasRanges (record a { rgb = Some c }) = record { id = ranges.id; air = ranges.air; los = ranges.los; mater = ranges.mater } in
    let good : Good 0 ps = comb_good name (record a { rgb = Some c }) None is lawful fit tt in
    let have : HasPieces line ps = read_line line ps (comb_written name (record a { rgb = Some c }) None) good in
    let put : put_of line have.tokens (line_words (coloured a c) []) ≡ put_comb name (record a { rgb = Some c }) None =
    by_places (λ ts. put_of line ts (line_words (coloured a c) []) ≡ put_comb name (record a { rgb = Some c }) None) line have.tokens ps have.are (λ start end bytes. coloured_empty_put line start end name a c is ranges fit bytes) in
    (have.tokens, have.read, ap (put_of line have.tokens) (top_is line have.tokens ps have.are good) ∙ put)

coloured_tree_put : (text : List ℕ) (start end : ℕ → ℕ) (name : List ℕ) (a : Attr) (c : Colour) (t : Tree Member) (e : ℕ) → IsName name → HasRanges a → IsColour c → HasBytes text start end (line_pieces name a (Some c) (tree_pieces (Some t)))
    → combs.tree_at text (placed start end (line_pieces name a (Some c) (tree_pieces (Some t)))) (word 22 e) ≡ Ok (Some t)
    → put_of text (placed start end (line_pieces name a (Some c) (tree_pieces (Some t)))) (line_words (coloured a c) (tree_words 21 e)) ≡ put_comb name (record a { rgb = Some c }) (Some t)
coloured_tree_put text start end name a c t e is ranges fit bytes found =
    let tokens : List Token = placed start end (line_pieces name a (Some c) (tree_pieces (Some t))) in
    let are : AreSet text tokens (coloured a c) = coloured_set text start end name a c (tree_pieces (Some t)) ranges fit bytes in
    put_words text tokens (word 0 0) (word 1 1) (word 2 2) (set_words (coloured a c) (tree_words 21 e)) name (codes "comb") (ap Some (bytes 0)) (ap Some (bytes 1)) (ap Some (bytes 2))
    ∙ ap (kind_put text tokens (Some name) (kind_of (codes "comb"))) (are_paired text tokens 4 (coloured a c) (tree_words 21 e) (tree_pairs 18 21 e) are (ap (λ k. Some (pair k (word 22 e) 19 ∷ [])) (ap Some (bytes 21))))
    ∙ good_comb text tokens name (set_pairs 4 (coloured a c) (tree_pairs 18 21 e)) (record a { rgb = Some c }) (Some t) is refl found (set_values text tokens 4 (coloured a c) (tree_pairs 18 21 e) are (ap (λ f. combs.has_numbers f && true) found)) (set_attrs text tokens 4 (coloured a c) (tree_pairs 18 21 e) group_attr are)

coloured_tree_again : (name : List ℕ) (a : Attr) (c : Colour) (t : Tree Member) → IsName name → HasRanges a → IsColour c → IsFitTree (Some t) → IsPutAgain name (bodies.Comb (record a { rgb = Some c }) (Some t))
coloured_tree_again name a c t is ranges fit tree_fit =
    let ps : List Piece = (line_pieces name a (Some c) (tree_pieces (Some t))) in
    let line : List ℕ = put_line name (bodies.Comb (record a { rgb = Some c }) (Some t)) in
    let lawful : HasRanges (record a { rgb = Some c }) = record { id = ranges.id; air = ranges.air; los = ranges.los; mater = ranges.mater } in
    let good : Good 0 ps = comb_good name (record a { rgb = Some c }) (Some t) is lawful fit tree_fit in
    let have : HasPieces line ps = read_line line ps (comb_written name (record a { rgb = Some c }) (Some t)) good in
    let e : ℕ = (22 + 1) + length (node_pieces t) in
    let inside : Stretch 1 (node_pieces t) 1 = node_stretch t 1 tree_fit.0 (omega arith) (omega (arith, tree_fit.1)) in
    let are : tops 0 0 ps ≡ (line_words (coloured a c) (tree_words 21 e)) =
    ap₂ (λ (n : ℕ) (ws : List Word). line_words (coloured a c) (word 21 21 ∷ word 22 n ∷ ws)) (stretch_end (node_pieces t) (closing ∷ []) 23 1 1 inside) (stretch_tops (node_pieces t) (closing ∷ []) 23 1 1 (omega arith) inside) in
    let found : combs.tree_at line have.tokens (word 22 e) ≡ Ok (Some t) = tree_found line have.tokens ps t 22 have.are refl tree_fit in
    let put : put_of line have.tokens (line_words (coloured a c) (tree_words 21 e)) ≡ put_comb name (record a { rgb = Some c }) (Some t) =
    by_places (λ ts. combs.tree_at line ts (word 22 e) ≡ Ok (Some t) → put_of line ts (line_words (coloured a c) (tree_words 21 e)) ≡ put_comb name (record a { rgb = Some c }) (Some t)) line have.tokens ps have.are (λ start end bytes. coloured_tree_put line start end name a c t e is ranges fit bytes) found in
    (have.tokens, have.read, ap (put_of line have.tokens) (top_is line have.tokens ps have.are good ∙ are) ∙ put)

-- ---- all of them

by_parts : (name : List ℕ) (a : Attr) (rgb : Option Colour) (tree : CombOf) → IsName name → HasRanges a → HasColour rgb → IsFitTree tree → IsPutAgain name (bodies.Comb (record a { rgb = rgb }) tree)
by_parts name a None None is ranges fit tree_fit = plain_empty_again name a is ranges
by_parts name a None (Some t) is ranges fit tree_fit = plain_tree_again name a t is ranges tree_fit
by_parts name a (Some c) None is ranges fit tree_fit = coloured_empty_again name a c is ranges fit
by_parts name a (Some c) (Some t) is ranges fit tree_fit = coloured_tree_again name a c t is ranges fit tree_fit

pub comb_again : (name : List ℕ) (attr : Attr) (tree : CombOf) → IsName name → HasRanges attr → HasColour attr.rgb → IsFitTree tree → IsPutAgain name (bodies.Comb attr tree)
comb_again name attr tree is ranges fit tree_fit = by_parts name attr attr.rgb tree is ranges fit tree_fit
