-- The text of a demo reads as the demo.
use Rattle.std.proofs.Common.{◌≡◌, ◌≢◌, ◌∙◌, ◌<◌, ◌+◌, ◌^◌, ◌==◌, ◌&&◌, ◌/◌, ◌%◌, ℕ, pos, zero, suc, true, List, [], ◌∷◌, All, Some, length, decimal, codes, refl, ap₂, arith, lit<, rules}
use Rattle.std.specs.Prelude.{is_none}
use Rattle.std.specs.Int.{IsInRange}
use Rattle.std.specs.List.{AllByRecursion, IsDistinct}
use Rattle.std.proofs.lemmas.Fmt.{digits_decimal, length-decimal-le}
use Rattle.std.proofs.lemmas.Int.{ints}
use Rattle.std.proofs.lemmas.List.Elements.{All-append, All-cons, All-nil}
use Rattle.lattice_core.specs.declared.limit.TheConstants.{COORD}
use Rattle.lattice_core.specs.declared.turn.Turn.{Turn}
use Rattle.lattice_core.specs.declared.vector.V3.{V3}
use Rattle.lattice_core.specs.Limits.{IsWithin, IsAtMost}
use Rattle.name_core.specs.NameText.{IsName}
use Rattle.prim_arb8.specs.Rpps.{rpp_vertices}
use Rattle.prim_sphere.specs.Spheres.{IsRadius}
use Rattle.tcl_words.specs.GroupText.{braced, is_group_text}
use Rattle.tcl_words.specs.Tokens.{tokens_of}
use Rattle.tcl_words.specs.TopWords.{top_words}
use Rattle.tcl_words.specs.declared.token.Kind.TheVariants.{Open}
use Rattle.tcl_words.specs.declared.token.Token.{Token}
use Rattle.tcl_words.proofs.Fine.{fine_words}
use Rattle.tcl_words.proofs.Scan.{Piece, scanned}
use Rattle.tcl_words.proofs.Written.{Again, Good, read_again}
use Rattle.tree_forms.specs.Trees.{leaves}
use Rattle.comb_tree.specs.Nodes.{Member, comb_nodes}
use Rattle.comb_tree.specs.declared.node.CombNode.{CombNode}
use Rattle.comb_tree.specs.declared.node.CombNode.TheVariants as nodes
use Rattle.region_attr.specs.Attrs.{group_attr}
use Rattle.object_set.specs.Named.{HasName, IsNamedEntry}
use Rattle.object_set.specs.Objects.{IsKept}
use Rattle.object_set.specs.TextValues.{IsTextValue}
use Rattle.object_set.specs.declared.kept.KeptAttr.{KeptAttr}
use Rattle.word_values.specs.Matrices.{identity}
use Rattle.put_form.proofs.NameWords.{word_good}
use Rattle.text_laws.specs.Fits.{IsFit, IsNear}
use Rattle.text_laws.specs.TextAgain.{IsEntryAgain, IsTextAgain}
use Rattle.text_laws.proofs.LineArb8.{arb8_again}
use Rattle.text_laws.proofs.LineCombs.{comb_again}
use Rattle.text_laws.proofs.LineNumbers.{decimal_word}
use Rattle.text_laws.proofs.LinePieces.{atom, by_places, closing, opening}
use Rattle.text_laws.proofs.LineSolids.{sphere_again}
use Rattle.text_laws.proofs.TextEntries.{text_is_again}
use Rattle.scene_make.specs.Demo as demo
use Rattle.scene_make.specs.Demo.{all, all_name, attr_of, centre_of, coordinate, cut, cut_name, drawn_colour, drawn_radius, drawn_turn, leaf_at, millimetres, region_name, region_of, region_tree, sphere_name, sphere_of, title_of, union_to}
use Rattle.scene_make.proofs.NameLaws.{known, lettered, model}
use Rattle.scene_make.proofs.SoundLaws.{demo_sound, of_each}
use Rattle.scene_make.proofs.UnionLaws.{union_count}

-- ---- the title

digits_differ : (b : ℕ) → (b < 48) → (ds : List ℕ) → AllByRecursion (IsInRange 48 57) ds → All (λ d. d ≢ b) ds
digits_differ b low [] each = All-nil (λ (d : ℕ). d ≢ b)
digits_differ b low (d ∷ ds) each = All-cons (λ (d : ℕ). d ≢ b) d ds (λ e. omega (arith, each.0, e, low)) (digits_differ b low ds each.1)

module _ (n : ℕ) (small : n < 2 ^ 31) where
  title_pieces : List Piece
  title_pieces = opening ∷ atom (codes "Demo") ∷ atom (decimal n) ∷ closing ∷ []

  title_good : Good 0 (opening ∷ atom (codes "Demo") ∷ atom (decimal n) ∷ closing ∷ [])
  title_good = ((refl, refl), (word_good (codes "Demo") 1 refl, (word_good (decimal n) 1 (decimal_word n (omega (arith, small))), ((refl, omega arith), refl))))

  title_again : Again 32 0 (braced (title_of n)) (opening ∷ atom (codes "Demo") ∷ atom (decimal n) ∷ closing ∷ [])
  title_again = read_again Open 32 0 (opening ∷ atom (codes "Demo") ∷ atom (decimal n) ∷ closing ∷ []) (refl, refl) title_good

  one_word : length (top_words (tokens_of (braced (title_of n)))) ≡ 1
  one_word =
      by_places (λ (ts : List Token). length (top_words ts) ≡ 1) (braced (title_of n)) (tokens_of (braced (title_of n))) (opening ∷ atom (codes "Demo") ∷ atom (decimal n) ∷ closing ∷ [])
      (scanned (braced (title_of n)) ∙ title_again.1) (λ start end bytes. refl)

  title_group : is_group_text (title_of n) ≡ true
  title_group = ap₂ (λ fault (count : ℕ). is_none fault && count == 1) (fine_words (braced (title_of n)) title_again.0) one_word

  title_text : IsTextValue (title_of n)
  title_text = record {
    short = omega (arith, length-decimal-le 10 n (lit< tt) (omega (arith, small)) (omega (arith, small)));
    one_line = All-append (λ (b : ℕ). b ≢ 10) (codes "Demo ") (decimal n) (search rules) (digits_differ 10 (omega arith) (decimal n) (digits_decimal model n (omega (arith, small))));
    no_return = All-append (λ (b : ℕ). b ≢ 13) (codes "Demo ") (decimal n) (search rules) (digits_differ 13 (omega arith) (decimal n) (digits_decimal model n (omega (arith, small))));
    group = title_group;
  }

-- ---- the names

no_kept : IsKept []
unfolding IsDistinct
no_kept = record { distinct = tt; texts = All-nil (λ (k : KeptAttr). IsTextValue k.value) }

cut_named : IsName cut_name
cut_named = known 99 (codes "ut") refl refl (omega arith)

all_named : IsName all_name
all_named = known 97 (codes "ll") refl refl (omega arith)

sphere_named : (i : ℕ) → i < 1000 → IsName (sphere_name i)
sphere_named i few = lettered 115 i refl (omega (arith, few))

region_named : (i : ℕ) → i < 1000 → IsName (region_name i)
region_named i few = lettered 114 i refl (omega (arith, few))

one_node : (node : CombNode) → HasName node → All HasName (node ∷ [])
one_node node h = All-cons HasName node [] h (All-nil HasName)

sphere_entry : (x i : ℕ) → i < 1000 → IsNamedEntry (sphere_name i, sphere_of i (drawn_radius x))
sphere_entry x i few = record { name = sphere_named i few; members = tt; keys = All-nil _; kept = no_kept }

region_entry : (x i : ℕ) → i < 1000 → IsNamedEntry (region_name i, region_of i (drawn_turn x) (drawn_colour x))
region_entry x i few = record {
  name = region_named i few;
  members = All-cons HasName (nodes.Leaf (sphere_name i) identity) (nodes.Leaf cut_name (record { turn = drawn_turn x; shift = centre_of i }) ∷ nodes.Minus ∷ []) (sphere_named i few)
      (All-cons HasName (nodes.Leaf cut_name (record { turn = drawn_turn x; shift = centre_of i })) (nodes.Minus ∷ []) cut_named (one_node nodes.Minus tt));
  keys = All-nil _;
  kept = no_kept;
}

union_named : (i : ℕ) → i < 1000 → All HasName (comb_nodes (Some (union_to i)))
unfolding union_to
union_named zero few = one_node _ (region_named 0 few)
union_named (suc i) few =
    All-append HasName (comb_nodes (Some (union_to i))) _ (union_named i (omega (arith, few)))
    (All-cons HasName (nodes.Leaf (region_name (suc i)) identity) (nodes.U ∷ []) (region_named (suc i) few) (one_node nodes.U tt))

-- ---- the lines

coordinate_within : (digit : ℕ) → digit < 10 → IsAtMost COORD (coordinate digit)
coordinate_within digit few = (omega (arith, ints, few), omega (arith, ints, few))

centre_within : (i : ℕ) → i < 1000 → IsWithin COORD (centre_of i)
centre_within i few = record { x = coordinate_within (i / 100) (omega (arith, few)); y = coordinate_within (i / 10 % 10) (omega arith); z = coordinate_within (i % 10) (omega arith) }

stands_still : IsWithin COORD identity.shift
stands_still = search rules

pub region_near : (i : ℕ) (turn : Turn) → i < 1000 → All IsNear (leaves (region_tree i turn))
region_near i turn few =
    let sphere : Member = record { name = sphere_name i; placement = identity } in
    let removed : Member = record { name = cut_name; placement = record { turn = turn; shift = centre_of i } } in
    All-cons IsNear sphere (removed ∷ []) stands_still (All-cons IsNear removed [] (centre_within i few) (All-nil IsNear))

radius_fits : (x : ℕ) → IsRadius (drawn_radius x)
radius_fits x = record { some = omega (arith, ints); size = omega (arith, ints) }

sphere_line : (x i : ℕ) → i < 1000 → IsEntryAgain (sphere_name i, sphere_of i (drawn_radius x))
sphere_line x i few = sphere_again (sphere_name i) _ (sphere_named i few) (centre_within i few) (radius_fits x)

region_line : (x i : ℕ) → i < 1000 → IsEntryAgain (region_name i, region_of i (drawn_turn x) (drawn_colour x))
region_line x i few =
    comb_again (region_name i) (attr_of (1000 + i) (drawn_colour x)) (Some (region_tree i (drawn_turn x))) (region_named i few)
    (record { id = omega (arith, few); air = omega arith; los = omega arith; mater = omega arith }) (omega arith, omega arith, omega arith)
    (((sphere_named i few, stands_still), (cut_named, centre_within i few)), omega arith)

union_fits : (i : ℕ) → i < 1000 → IsFit (union_to i)
unfolding union_to
union_fits zero few = (region_named 0 few, stands_still)
union_fits (suc i) few = (union_fits i (omega (arith, few)), (region_named (suc i) few, stands_still))

all_line : IsEntryAgain (all_name, all)
all_line = comb_again all_name group_attr (Some (union_to 999)) all_named (record { id = omega arith; air = omega arith; los = omega arith; mater = omega arith }) tt (union_fits 999 (omega arith), omega (arith, union_count 999))

Near : V3 → Type 0
Near v = IsWithin COORD v

cut_line : IsEntryAgain (cut_name, cut)
cut_line = arb8_again cut_name (record { vertices = rpp_vertices (pos 0) (millimetres (pos 80)) (pos 0) (millimetres (pos 80)) (pos 0) (millimetres (pos 80)) }) cut_named refl (search rules) refl

-- ---- the whole text

all_from : {X : Type 0} (P : X → Type 0) (xs : List X) → AllByRecursion P xs → All P xs
all_from P [] each = All-nil P
all_from P (x ∷ xs) each = All-cons P x xs each.0 (all_from P xs each.1)

pub demo_again : (n : ℕ) → n < 2 ^ 31 → IsTextAgain (demo.demo n)
demo_again n small =
    text_is_again (demo.demo n) (title_text n small) (demo_sound n)
    (all_from IsNamedEntry (demo.demo n).objects
    (of_each IsNamedEntry sphere_entry region_entry (record { name = cut_named; members = tt; keys = All-nil _; kept = no_kept }) (record { name = all_named; members = union_named 999 (omega arith); keys = All-nil _; kept = no_kept }) n))
    (of_each IsEntryAgain sphere_line region_line cut_line all_line n)
