-- Solids that are made of numbers.
use Rattle.std.proofs.Common.{◌≡◌, ◌⊎◌, ◌↔◌, ◌∙◌, ◌+◌, ◌<ℤ◌, ◌&&◌, ℕ, ℤ, pos, Bool, true, false, not, cond, List, [], ◌∷◌, Decides, Option, Some, None, Result, Ok, Err, IsErr, MatchResult, refl, inl, inr, sym, ap, arith, All}
use Rattle.std.specs.Cmp.{int_ranks}
use Rattle.std.specs.Ordering.{int_cmp, int_eq, is_lt, MatchOrdering}
use Rattle.std.specs.Result.{IsErrAnd}
use Rattle.std.specs.declared.cmp.Ordering.{Ordering}
use Rattle.std.specs.declared.cmp.Ordering.TheVariants.{Less, Equal, Greater}
use Rattle.std.proofs.lemmas.Bool.Decides.{Decides-int_eq}
use Rattle.std.proofs.lemmas.Int.{ints}
use Rattle.std.proofs.lemmas.List.Elements.{All-cons}
use Rattle.lattice_core.specs.declared.vector.V3.{V3}
use Rattle.plane_geom.specs.declared.fault.ShapeFault.{ShapeFault}
use Rattle.plane_geom.specs.declared.fault.ShapeFault.TheVariants.{Axis, Radius}
use Rattle.solid_set.specs.declared.solid.Solid.{Solid}
use Rattle.solid_set.specs.declared.solid.Solid.TheVariants as solids
use Rattle.solid_set.specs.Rpps.{IsArb8Of, vector, rpp_vertices}
use Rattle.tcl_words.specs.declared.token.Kind.TheVariants.{Atom}
use Rattle.tcl_words.proofs.Written.{GoodPiece}
use Rattle.prim_rcc.specs.Axes.{HasOneComponent}
use Rattle.prim_rcc.specs.Cylinders.{Cylinder}
use Rattle.word_values.specs.Solids.{kind_of, kind_word, nth_number, has_one_component, half_made, sphere_made, rcc_made, arb8_made, unless_faulty, solid_made}
use Rattle.word_values.specs.declared.solid.SolidKind.{SolidKind}
use Rattle.word_values.specs.declared.solid.SolidKind.TheVariants as kinds

-- nothing is of any kind
none : {X : Type 0} (P : X → Type 0) → All P []
none P i d lt = absurd (omega (arith, lt))

-- eight of a kind
pub all_eight : {X : Type 0} (P : X → Type 0) (a b c d e f g h : X) → P a → P b → P c → P d → P e → P f → P g → P h
    → All P (a ∷ b ∷ c ∷ d ∷ e ∷ f ∷ g ∷ h ∷ [])
all_eight P a b c d e f g h a' b' c' d' e' f' g' h' =
    All-cons P a (b ∷ c ∷ d ∷ e ∷ f ∷ g ∷ h ∷ []) a' (All-cons P b (c ∷ d ∷ e ∷ f ∷ g ∷ h ∷ []) b' (All-cons P c (d ∷ e ∷ f ∷ g ∷ h ∷ []) c' (All-cons P d (e ∷ f ∷ g ∷ h ∷ []) d' (All-cons P e (f ∷ g ∷ h ∷ []) e' (All-cons P f (g ∷ h ∷ []) f' (All-cons P g (h ∷ []) g' (All-cons P h ([]) h' (none P))))))))

-- a solid of eight vertices, or their fault
pub of_vertices : (made : Result Solid ShapeFault) (vertices : List V3) → IsArb8Of made vertices → made ≡ arb8_made vertices
of_vertices (Ok (solids.Arb8 solid)) vertices h = ap (λ (vs : List V3). Ok (solids.Arb8 (record { vertices = vs }))) h.1 ∙ sym (ap (λ fault. unless_faulty fault vertices) h.0)
of_vertices (Ok (solids.Sphere sphere)) vertices h = absurd h.1
of_vertices (Ok (solids.Half half)) vertices h = absurd h.1
of_vertices (Ok (solids.Rcc rcc)) vertices h = absurd h.1
of_vertices (Err fault) vertices h = sym (ap (λ found. unless_faulty found vertices) h)

-- equal ranges make equal boxes
pub same_box : {a b c d e f a' b' c' d' e' f' : ℤ} → a ≡ a' → b ≡ b' → c ≡ c' → d ≡ d' → e ≡ e' → f ≡ f' → arb8_made (rpp_vertices a b c d e f) ≡ arb8_made (rpp_vertices a' b' c' d' e' f')
same_box ea eb ec ed ee ef = cc

-- ---- the words of kinds

-- a kind is the one that its word names
pub kind_again : (kind : SolidKind) → kind_of (kind_word kind) ≡ Some kind
kind_again kinds.Half = refl
kind_again kinds.Rpp = refl
kind_again kinds.Arb8 = refl
kind_again kinds.Sphere = refl
kind_again kinds.Rcc = refl

-- the word of a kind is an atom
pub kind_good : (kind : SolidKind) → GoodPiece Atom (kind_word kind) 0
kind_good kinds.Half = (omega arith, (refl, refl, (refl, refl, (refl, refl, (refl, refl, tt)))))
kind_good kinds.Rpp = (omega arith, (refl, refl, (refl, refl, (refl, refl, tt))))
kind_good kinds.Arb8 = (omega arith, (refl, refl, (refl, refl, (refl, refl, (refl, refl, tt)))))
kind_good kinds.Sphere = (omega arith, (refl, refl, (refl, refl, (refl, refl, tt))))
kind_good kinds.Rcc = (omega arith, (refl, refl, (refl, refl, (refl, refl, tt))))

-- ---- a solid is made of the numbers at the places of its kind

abbrev vector_by : (ℕ → ℤ) → ℕ → V3
vector_by at i = vector (at i) (at (i + 1)) (at (i + 2))

abbrev made_by : SolidKind → (ℕ → ℤ) → Result Solid ShapeFault
made_by kinds.Half at = half_made (vector_by at 0) (at 3)
made_by kinds.Rpp at = arb8_made (rpp_vertices (at 0) (at 1) (at 2) (at 3) (at 4) (at 5))
made_by kinds.Arb8 at =
    arb8_made (vector_by at 0 ∷ vector_by at 3 ∷ vector_by at 6 ∷ vector_by at 9 ∷ vector_by at 12 ∷ vector_by at 15 ∷ vector_by at 18 ∷ vector_by at 21 ∷ [])
made_by kinds.Sphere at = sphere_made (vector_by at 0) (at 3)
made_by kinds.Rcc at = rcc_made (vector_by at 0) (vector_by at 3) (at 6)

by_places : (kind : SolidKind) (numbers : List (Option ℤ)) → solid_made kind numbers ≡ made_by kind (nth_number numbers)
by_places kinds.Half numbers = refl
by_places kinds.Rpp numbers = refl
by_places kinds.Arb8 numbers = refl
by_places kinds.Sphere numbers = refl
by_places kinds.Rcc numbers = refl

-- lists with the same number at each place make the same solid
pub same_made : (kind : SolidKind) (numbers others : List (Option ℤ)) → ((i : ℕ) → nth_number numbers i ≡ nth_number others i) → solid_made kind numbers ≡ solid_made kind others
same_made kind numbers others same =
    let both : nth_number numbers ≡ nth_number others = λ i k. same k i in
    by_places kind numbers ∙ ap (made_by kind) both ∙ sym (by_places kind others)

-- ---- a cylinder

abbrev one_of_three : Bool → Bool → Bool → Bool
one_of_three a b c = cond a (cond b (not c) c) (b && c)

not_decided : {P : Type 0} (t : Bool) → Decides t P → ¬ P → t ≡ false
not_decided true is none = absurd (none (is.0 refl))
not_decided false is none = refl

one_told : (v : V3) (a b c : Bool) → Decides a (v.x ≡ pos 0) → Decides b (v.y ≡ pos 0) → Decides c (v.z ≡ pos 0) → one_of_three a b c ≡ true → HasOneComponent v
one_told v true true true x y z h = absurd cc
one_told v true true false x y z h = inr (inr (x.0 refl, y.0 refl, λ e. let clash : false ≡ true = z.1 e in absurd cc))
one_told v true false true x y z h = inr (inl (x.0 refl, (λ e. let clash : false ≡ true = y.1 e in absurd cc), z.0 refl))
one_told v true false false x y z h = absurd cc
one_told v false true true x y z h = inl ((λ e. let clash : false ≡ true = x.1 e in absurd cc), y.0 refl, z.0 refl)
one_told v false true false x y z h = absurd cc
one_told v false false c x y z h = absurd cc

one_tells : (v : V3) (a b c : Bool) → Decides a (v.x ≡ pos 0) → Decides b (v.y ≡ pos 0) → Decides c (v.z ≡ pos 0) → HasOneComponent v → one_of_three a b c ≡ true
one_tells v a b c x y z (inl h) = ap (λ t. one_of_three t b c) (not_decided a x h.0) ∙ ap (λ t. one_of_three false t c) (y.1 h.1) ∙ ap (one_of_three false true) (z.1 h.2)
one_tells v a b c x y z (inr (inl h)) = ap (λ t. one_of_three t b c) (x.1 h.0) ∙ ap (λ t. one_of_three true t c) (not_decided b y h.1) ∙ ap (one_of_three true false) (z.1 h.2)
one_tells v a b c x y z (inr (inr h)) = ap (λ t. one_of_three t b c) (x.1 h.0) ∙ ap (λ t. one_of_three true t c) (y.1 h.1) ∙ ap (one_of_three true true) (not_decided c z h.2)

pub Decides-has_one_component : (v : V3) → Decides (has_one_component v) (HasOneComponent v)
Decides-has_one_component v =
    let x : Decides (int_eq v.x (pos 0)) (v.x ≡ pos 0) = Decides-int_eq v.x (pos 0) in
    let y : Decides (int_eq v.y (pos 0)) (v.y ≡ pos 0) = Decides-int_eq v.y (pos 0) in
    let z : Decides (int_eq v.z (pos 0)) (v.z ≡ pos 0) = Decides-int_eq v.z (pos 0) in
    (one_told v _ _ _ x y z, one_tells v _ _ _ x y z)

below_by : (r : ℤ) (o : Ordering) → MatchOrdering o (r <ℤ pos 1) (r ≡ pos 1) (pos 1 <ℤ r) → Decides (is_lt o) (r <ℤ pos 1)
below_by r Less h = (λ is. h, λ less. refl)
below_by r Equal h = (λ is. absurd cc, λ less. absurd (omega (arith, ints, h, less)))
below_by r Greater h = (λ is. absurd cc, λ less. absurd (omega (arith, ints, h, less)))

pub Decides-below_one : (r : ℤ) → Decides (is_lt (int_cmp r (pos 1))) (r <ℤ pos 1)
Decides-below_one r = below_by r (int_cmp r (pos 1)) (int_ranks r (pos 1))

abbrev rcc_by : Bool → Bool → Cylinder → Result Solid ShapeFault
rcc_by one below c = cond one (cond below (Err Radius) (Ok (solids.Rcc c))) (Err Axis)

same_cylinder : {a b u v : V3} {m n : ℤ} → a ≡ b → u ≡ v → m ≡ n → rcc_by true false (record { base = a; height = u; radius = m }) ≡ rcc_by true false (record { base = b; height = v; radius = n })
same_cylinder ea eu em = cc

abbrev pub as_solid : Result Cylinder ShapeFault → Result Solid ShapeFault
as_solid (Ok c) = Ok (solids.Rcc c)
as_solid (Err fault) = Err fault

rcc_decided : (made : Result Cylinder ShapeFault) (base height : V3) (radius : ℤ) (one below : Bool) → Decides one (HasOneComponent height) → Decides below (radius <ℤ pos 1)
    → (made ≡ Err Axis) ↔ (¬ HasOneComponent height) → (made ≡ Err Radius) ↔ (HasOneComponent height × (radius <ℤ pos 1))
    → MatchResult made (λ c. (c.base ≡ base) × (c.height ≡ height) × (c.radius ≡ radius)) (λ e. (e ≡ Axis) ⊎ (e ≡ Radius))
    → as_solid made ≡ rcc_by one below (record { base = base; height = height; radius = radius })
rcc_decided (Err e) base height radius one below is small axis less (inl fault) =
    let c : Cylinder = record { base = base; height = height; radius = radius } in
    let none : one ≡ false = not_decided one is (axis.0 (ap Err fault)) in
    ap Err fault ∙ sym (ap (λ t. rcc_by t below c) none)
rcc_decided (Err e) base height radius one below is small axis less (inr fault) =
    let c : Cylinder = record { base = base; height = height; radius = radius } in
    let both = less.0 (ap Err fault) in
    ap Err fault ∙ sym (ap (λ t. rcc_by t below c) (is.1 both.0) ∙ ap (λ t. rcc_by true t c) (small.1 both.1))
rcc_decided (Ok c) base height radius false below is small axis less parts =
    let clash : Ok c ≡ Err Axis = axis.1 (λ h. let e : false ≡ true = is.1 h in absurd cc) in absurd cc
rcc_decided (Ok c) base height radius true true is small axis less parts =
    let clash : Ok c ≡ Err Radius = less.1 (is.0 refl, small.0 refl) in absurd cc
rcc_decided (Ok c) base height radius true false is small axis less parts = same_cylinder parts.0 parts.1 parts.2

-- a cylinder, or its first fault
pub rcc_of : (made : Result Cylinder ShapeFault) (base height : V3) (radius : ℤ) → (made ≡ Err Axis) ↔ (¬ HasOneComponent height) → (made ≡ Err Radius) ↔ (HasOneComponent height × (radius <ℤ pos 1))
    → MatchResult made (λ c. (c.base ≡ base) × (c.height ≡ height) × (c.radius ≡ radius)) (λ e. (e ≡ Axis) ⊎ (e ≡ Radius))
    → as_solid made ≡ rcc_made base height radius
rcc_of made base height radius axis less parts = rcc_decided made base height radius _ _ (Decides-has_one_component height) (Decides-below_one radius) axis less parts

-- a fault that is passed on
pub fault_of : {G : ShapeFault → Type 0} (r : Result Solid ShapeFault) (fault : ShapeFault) → IsErr r × IsErrAnd r G → ((e : ShapeFault) → G e → e ≡ fault) → r ≡ Err fault
fault_of (Ok solid) fault h is = absurd h.1
fault_of (Err e) fault h is = ap (λ (f : ShapeFault). Err f) (is e h.1)
