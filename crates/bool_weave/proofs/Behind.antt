-- What is claimed of an interval is claimed just behind its start and just before its end.
use Rattle.std.proofs.Common.{◌≡◌, ◌<◌, ◌+◌, ◌⊎◌, ⊎_elim, ◌-◌, ℕ, zero, List, [], ◌∷◌, length, get_or, filter, flat_map, Bool, true, false, not, ◌&&◌, ◌||◌, eqb, nat_lt, Some, None, IfSome, All, Contains, ap, sym, ◌∙◌, subst, refl, inl, inr, arith}
use Rattle.std.specs.List.{list_any}
use Rattle.std.specs.Ordering.{is_lt}
use Rattle.std.specs.List.Sorted.{IsStrictlySortedBy}
use Rattle.std.specs.declared.cmp.Ordering.{Ordering}
use Rattle.std.specs.declared.cmp.Ordering.TheVariants.{Less, Equal, Greater}
use Rattle.std.proofs.lemmas.Bool.{cases_Bool, cases_lt, cases_order, and_parts, and_from, eqb-true, le-leb, lt-ltb, le-ltb, true≢false, false_from_ne_true}
use Rattle.std.proofs.lemmas.Cmp.{tied_itself}
use Rattle.std.proofs.lemmas.List.{get_or_default}
use Rattle.std.proofs.lemmas.Map.Keys.{Less-from_sorted}
use Rattle.tree_forms.specs.Trees.{Leaf, Join, joined, leaves}
use Rattle.surd_order.specs.declared.position.Pos.{Pos}
use Rattle.surd_order.specs.PlaceOrder.{place_cmp}
use Rattle.surd_order.specs.Spelling.{IsSpelled}
use Rattle.surd_order.proofs.PlaceOrderLaws.{place_cmp_total}
use Rattle.bool_weave.specs.declared.woven.Woven.{Woven}
use Rattle.bool_weave.specs.Cuts.{ray_start, places_of, cuts_of}
use Rattle.bool_weave.specs.Masks.{Mask, mask_holds}
use Rattle.bool_weave.specs.Claims.{Interval, is_before, covers, spans, claims_interval}
use Rattle.bool_weave.specs.Tables.{interval_at, is_from_to}
use Rattle.bool_weave.specs.Behind.{covers_behind, covers_before, spans_behind, spans_before, claims_behind, claims_before, ClaimsAreBesidePlaces, NothingBeyondTheCuts, HasSpelledEnds, AreSpelled, OwnInstancesTell, ClaimsBeginAtEnds}
use Rattle.bool_weave.proofs.Sorted.{Has, contains_from_has}
use Rattle.bool_weave.proofs.Cutting.{less_from, turned, tied_same, to_order, start_good, end_good, end_of_some, start_is_place, end_is_place, cuts_sorted}
use Rattle.bool_weave.proofs.Searching.{later_than}
use Rattle.bool_weave.proofs.Middles.{any_filtered}
use Rattle.bool_weave.proofs.Claimed.{all_left, all_right, nothing_from_nothing, intervals_length, intervals_at}

-- a place comes before a rising place of a higher number
pub below_number : (xs : List Pos) (x : Pos) (k : ℕ) (d : Pos) → IsStrictlySortedBy place_cmp xs → (c : Contains xs x) → k < length xs → is_before (get_or xs k d) x ≡ nat_lt k c.0
below_number xs x k d s c lt =
    let there : get_or xs c.0 d ≡ x = get_or_default xs c.0 d x c.1 ∙ c.2 in
    elim (cases_order k c.0) [
      | inl same ↦ ap (λ n. is_before (get_or xs n d) x) same ∙ ap (λ y. is_before y x) there ∙ ap is_lt (tied_itself place_cmp_total x) ∙ sym (le-ltb k c.0 (omega (arith, same)))
      | inr apart ↦ elim apart [
        | inl below ↦ ap is_lt (subst (λ y. place_cmp (get_or xs k d) y ≡ Less) there (Less-from_sorted place_cmp xs k c.0 d s below c.1)) ∙ sym (lt-ltb k c.0 below)
        | inr above ↦ ap is_lt (turned x (get_or xs k d) Less (subst (λ y. place_cmp y (get_or xs k d) ≡ Less) there (Less-from_sorted place_cmp xs c.0 k d s above lt))) ∙ sym (le-ltb k c.0 (omega (arith, above)))
      ]
    ]

pub never_itself : (x : Pos) → is_before x x ≡ false
never_itself x = ap is_lt (tied_itself place_cmp_total x)

-- no place lies between two neighbours
up_to_next : (xs : List Pos) (x : Pos) (k : ℕ) → IsStrictlySortedBy place_cmp xs → (c : Contains xs x) → k + 1 < length xs → not (is_before x (get_or xs (k + 1) ray_start)) ≡ is_before (get_or xs k ray_start) x
up_to_next xs x k s c lt = sym (later_than xs x k ray_start s c lt) ∙ sym (below_number xs x k ray_start s c (omega (arith, lt)))

twice : (b : Bool) → not (not b) ≡ b
twice true = refl
twice false = refl

none_of : (b : Bool) → (b && false) ≡ false
none_of true = refl
none_of false = refl

pub any_same : {X : Type 0} (f g : X → Bool) (xs : List X) → ((x : X) → Has xs x → f x ≡ g x) → list_any f xs ≡ list_any g xs
any_same f g [] h = refl
any_same f g (x ∷ xs) h = ap (λ b. b || list_any f xs) (h x (inl refl)) ∙ ap (λ b. g x || b) (any_same f g xs (λ y m. h y (inr m)))

pub any_none : {X : Type 0} (f : X → Bool) (xs : List X) → ((x : X) → Has xs x → f x ≡ false) → list_any f xs ≡ false
any_none f [] h = refl
any_none f (x ∷ xs) h = ap (λ b. b || list_any f xs) (h x (inl refl)) ∙ any_none f xs (λ y m. h y (inr m))

pub mask_alike : (t : Mask) (f g : ℕ → Bool) → ((i : ℕ) → f i ≡ g i) → mask_holds t f ≡ mask_holds t g
mask_alike (Leaf None) f g h = refl
mask_alike (Leaf (Some i)) f g h = h i
mask_alike (Join op l r) f g h = ap (λ b. joined op b (mask_holds r f)) (mask_alike l f g h) ∙ ap (λ b. joined op (mask_holds l g) b) (mask_alike r f g h)

pub mask_within : (t : Mask) (f g : ℕ → Bool) (count : ℕ) → All (λ leaf. IfSome leaf (λ i. i < count)) (leaves t) → ((i : ℕ) → i < count → f i ≡ g i) → mask_holds t f ≡ mask_holds t g
mask_within (Leaf None) f g count below h = refl
mask_within (Leaf (Some i)) f g count below h = h i (below zero (Some i) (omega arith))
mask_within (Join op l r) f g count below h =
    ap (λ b. joined op b (mask_holds r f)) (mask_within l f g count (all_left (λ leaf. IfSome leaf (λ i. i < count)) (leaves l) (leaves r) below) h)
    ∙ ap (λ b. joined op (mask_holds l g) b) (mask_within r f g count (all_right (λ leaf. IfSome leaf (λ i. i < count)) (leaves l) (leaves r) below) h)

-- all places are in their one spelling, so each is among the cuts
pub places_spelled : (woven : List Woven) (z : Pos) → AreSpelled woven → Has (places_of woven) z → IsSpelled z
places_spelled woven z s (inl e) = subst IsSpelled e start_good.spelled
places_spelled woven z s (inr (inl e)) = subst IsSpelled e end_good.spelled
places_spelled woven z s (inr (inr h)) =
    let w = end_of_some woven z h in
    let c = contains_from_has woven w.0 w.1 in
    let seg : HasSpelledEnds w.0.seg = subst (λ (x : Woven). HasSpelledEnds x.seg) c.2 (s c.0 w.0 c.1) in
    ⊎_elim (λ e. subst IsSpelled e seg.start) (λ e. subst IsSpelled e seg.end) w.2

pub among_cuts : (woven : List Woven) (z : Pos) → AreSpelled woven → Has (places_of woven) z → Contains (cuts_of woven) z
among_cuts woven z s h =
    contains_from_has (cuts_of woven) z (to_order z (places_of woven) (λ x y p q e. tied_same x y (places_spelled woven x s p) (places_spelled woven y s q) e) h)

module _ (woven : List Woven) (s : AreSpelled woven) where
  abbrev cut : ℕ → Pos
  cut k = get_or (cuts_of woven) k ray_start

  start_cut : (w : Woven) → Has woven w → Contains (cuts_of woven) w.seg.start
  start_cut w h = among_cuts woven w.seg.start s (inr (inr (start_is_place woven w h)))

  end_cut : (w : Woven) → Has woven w → Contains (cuts_of woven) w.seg.end
  end_cut w h = among_cuts woven w.seg.end s (inr (inr (end_is_place woven w h)))

  behind_alike : (w : Woven) (k : ℕ) → Has woven w → k + 1 < length (cuts_of woven) → covers w.seg (interval_at (cuts_of woven) k) ≡ covers_behind (cut k) w.seg
  behind_alike w k h lt = ap (λ b. not (is_before (cut k) w.seg.start) && b) (up_to_next (cuts_of woven) w.seg.end k (cuts_sorted woven) (end_cut w h) lt)

  before_alike : (w : Woven) (k : ℕ) → Has woven w → k + 1 < length (cuts_of woven) → covers w.seg (interval_at (cuts_of woven) k) ≡ covers_before (cut (k + 1)) w.seg
  before_alike w k h lt =
      ap (λ b. not b && not (is_before w.seg.end (cut (k + 1)))) (sym (up_to_next (cuts_of woven) w.seg.start k (cuts_sorted woven) (start_cut w h) lt))
      ∙ ap (λ b. b && not (is_before w.seg.end (cut (k + 1)))) (twice (is_before w.seg.start (cut (k + 1))))

  pub claimed_behind : (tree : Mask) (first k : ℕ) → k + 1 < length (cuts_of woven) → claims_interval woven tree first (interval_at (cuts_of woven) k) ≡ claims_behind woven tree first (cut k)
  claimed_behind tree first k lt =
      mask_alike tree (λ i. spans woven (interval_at (cuts_of woven) k) (first + i)) (λ i. spans_behind woven (cut k) (first + i)) (λ i.
      any_same (λ w. eqb w.instance (first + i) && covers w.seg (interval_at (cuts_of woven) k)) (λ w. eqb w.instance (first + i) && covers_behind (cut k) w.seg) woven
      (λ w h. ap (λ b. eqb w.instance (first + i) && b) (behind_alike w k h lt)))

  pub claimed_before : (tree : Mask) (first k : ℕ) → k + 1 < length (cuts_of woven) → claims_interval woven tree first (interval_at (cuts_of woven) k) ≡ claims_before woven tree first (cut (k + 1))
  claimed_before tree first k lt =
      mask_alike tree (λ i. spans woven (interval_at (cuts_of woven) k) (first + i)) (λ i. spans_before woven (cut (k + 1)) (first + i)) (λ i.
      any_same (λ w. eqb w.instance (first + i) && covers w.seg (interval_at (cuts_of woven) k)) (λ w. eqb w.instance (first + i) && covers_before (cut (k + 1)) w.seg) woven
      (λ w h. ap (λ b. eqb w.instance (first + i) && b) (before_alike w k h lt)))

  -- no place is before the first cut, and none behind the last
  not_before_first : (x : Pos) → Contains (cuts_of woven) x → is_before x (cut 0) ≡ false
  not_before_first x c =
      let there : cut c.0 ≡ x = get_or_default (cuts_of woven) c.0 ray_start x c.1 ∙ c.2 in
      elim (cases_lt 0 c.0) [
        | inl lt ↦ ap is_lt (turned (cut 0) x Less (subst (λ y. place_cmp (cut 0) y ≡ Less) there (Less-from_sorted place_cmp (cuts_of woven) 0 c.0 ray_start (cuts_sorted woven) lt c.1)))
        | inr ge ↦ let e : c.0 ≡ 0 = omega (arith, ge) in subst (λ y. is_before x y ≡ false) (sym (ap cut (sym e) ∙ there)) (never_itself x)
      ]

  not_behind_last : (x : Pos) → Contains (cuts_of woven) x → is_before (cut (length (cuts_of woven) - 1)) x ≡ false
  not_behind_last x c =
      below_number (cuts_of woven) x (length (cuts_of woven) - 1) ray_start (cuts_sorted woven) c (omega (arith, c.1)) ∙ le-ltb (length (cuts_of woven) - 1) c.0 (omega (arith, c.1))

  pub before_first : (tree : Mask) (first : ℕ) → claims_before woven tree first (cut 0) ≡ false
  before_first tree first =
      nothing_from_nothing tree (λ i. spans_before woven (cut 0) (first + i)) (λ i.
      any_none (λ w. eqb w.instance (first + i) && covers_before (cut 0) w.seg) woven (λ w h.
      ap (λ b. eqb w.instance (first + i) && (b && not (is_before w.seg.end (cut 0)))) (not_before_first w.seg.start (start_cut w h)) ∙ none_of (eqb w.instance (first + i))))

  pub behind_last : (tree : Mask) (first : ℕ) → claims_behind woven tree first (cut (length (cuts_of woven) - 1)) ≡ false
  behind_last tree first =
      let last = cut (length (cuts_of woven) - 1) in
      nothing_from_nothing tree (λ i. spans_behind woven last (first + i)) (λ i.
      any_none (λ w. eqb w.instance (first + i) && covers_behind last w.seg) woven (λ w h.
      ap (λ b. eqb w.instance (first + i) && (not (is_before last w.seg.start) && b)) (not_behind_last w.seg.end (end_cut w h))
      ∙ ap (λ b. eqb w.instance (first + i) && b) (none_of (not (is_before last w.seg.start))) ∙ none_of (eqb w.instance (first + i))))

pub claims_are_beside_places : ClaimsAreBesidePlaces
claims_are_beside_places woven tree first s k d lt =
    let within : k + 1 < length (cuts_of woven) = omega (arith, lt, intervals_length (cuts_of woven)) in
    subst (λ (i : Interval). (claims_interval woven tree first i ≡ claims_behind woven tree first i.start) × (claims_interval woven tree first i ≡ claims_before woven tree first i.end))
    (sym (intervals_at (cuts_of woven) k d within)) (claimed_behind woven s tree first k within, claimed_before woven s tree first k within)

pub nothing_beyond_the_cuts : NothingBeyondTheCuts
nothing_beyond_the_cuts woven tree first s = (before_first woven s tree first, behind_last woven s tree first)

pub own_instances_tell : OwnInstancesTell
own_instances_tell woven tree first count x below =
    let own : (w : Woven) (i : ℕ) (b : Bool) → i < count → (eqb w.instance (first + i) && b) ≡ true → is_from_to first (first + count) w ≡ true =
    λ w i b lt passed.
    let e : w.instance ≡ first + i = eqb-true w.instance (first + i) (and_parts (eqb w.instance (first + i)) b passed).0 in
    and_from _ _ (le-leb first w.instance (omega (arith, e))) (lt-ltb w.instance (first + count) (omega (arith, e, lt))) in (
      mask_within tree (λ i. spans_behind (filter (is_from_to first (first + count)) woven) x (first + i)) (λ i. spans_behind woven x (first + i)) count below (λ i lt.
          any_filtered (λ w. eqb w.instance (first + i) && covers_behind x w.seg) (is_from_to first (first + count)) woven (λ w passed. own w i (covers_behind x w.seg) lt passed)),
      mask_within tree (λ i. spans_before (filter (is_from_to first (first + count)) woven) x (first + i)) (λ i. spans_before woven x (first + i)) count below (λ i lt.
          any_filtered (λ w. eqb w.instance (first + i) && covers_before x w.seg) (is_from_to first (first + count)) woven (λ w passed. own w i (covers_before x w.seg) lt passed)),
    )

-- what is not before another comes before all that the other comes before
before_by : (r : Ordering) (x y z : Pos) → place_cmp x z ≡ r → is_lt r ≡ false → is_before x y ≡ true → is_before z y ≡ true
before_by Less x y z e h lt = absurd (true≢false h)
before_by Equal x y z e h lt = ap is_lt (sym (place_cmp_total.congr x z y e)) ∙ lt
before_by Greater x y z e h lt = ap is_lt (place_cmp_total.trans z x y (turned x z Greater e) (less_from _ lt))

pub before_through : (x y z : Pos) → is_before x z ≡ false → is_before x y ≡ true → is_before z y ≡ true
before_through x y z h lt = before_by (place_cmp x z) x y z refl h lt

-- the last of the places that come up to x
pub record IsLast (x : Pos) (ps : List Pos) (z : Pos) : Type 0 where
  pub there : Has ps z
  pub reached : is_before x z ≡ false
  pub last : (y : Pos) → Has ps y → is_before x y ≡ false → is_before z y ≡ false

-- p beside the last of the others
later_of : (x p : Pos) (ps : List Pos) → is_before x p ≡ false → (z : Pos) → IsLast x ps z → (v : Pos) × IsLast x (p ∷ ps) v
later_of x p ps here z l =
    elim (cases_Bool (is_before z p)) [
      | inl further ↦ (
        p,
        record {
          there = inl refl;
          reached = here;
          last = λ y m up. elim m [
            | inl e ↦ subst (λ v. is_before p v ≡ false) e (never_itself p)
            | inr n ↦ false_from_ne_true _ (λ is. true≢false (sym (ap is_lt (place_cmp_total.trans z p y (less_from _ further) (less_from _ is))) ∙ l.last y n up))
          ];
        },
      )
      | inr back ↦ (
        z,
        record { there = inr l.there; reached = l.reached; last = λ y m up. elim m [ inl e ↦ subst (λ v. is_before z v ≡ false) e back | inr n ↦ l.last y n up ] },
      )
    ]

pub last_up_to : (x : Pos) (ps : List Pos) → ((z : Pos) × IsLast x ps z) ⊎ ((y : Pos) → Has ps y → is_before x y ≡ true)
last_up_to x [] = inr (λ y h. absurd h)
last_up_to x (p ∷ ps) =
    elim (cases_Bool (is_before x p)) [
      | inl beyond ↦ elim (last_up_to x ps) [
        | inl l ↦ inl (
          l.0,
          record {
            there = inr l.1.there;
            reached = l.1.reached;
            last = λ y m up. elim m [ inl e ↦ absurd (true≢false (sym beyond ∙ ap (is_before x) e ∙ up)) | inr n ↦ l.1.last y n up ];
          },
        )
        | inr none ↦ inr (λ y m. elim m [ inl e ↦ ap (is_before x) (sym e) ∙ beyond | inr n ↦ none y n ])
      ]
      | inr here ↦ elim (last_up_to x ps) [
        | inl l ↦ inl (later_of x p ps here l.0 l.1)
        | inr none ↦ inl (
          p,
          record {
            there = inl refl;
            reached = here;
            last = λ y m up. elim m [ inl e ↦ subst (λ v. is_before p v ≡ false) e (never_itself p) | inr n ↦ absurd (true≢false (sym (none y n) ∙ up)) ];
          },
        )
      ]
    ]

-- no place of the list lies between the last that comes up to x and x
as_from_last : (x z y : Pos) (ps : List Pos) → IsLast x ps z → Has ps y → is_before x y ≡ is_before z y
as_from_last x z y ps l h =
    elim (cases_Bool (is_before x y)) [
      | inl beyond ↦ beyond ∙ sym (before_through x y z l.reached beyond)
      | inr up ↦ up ∙ sym (l.last y h up)
    ]

abbrev pub ends_of : List Woven → List Pos
ends_of woven = flat_map (λ (w : Woven). w.seg.start ∷ w.seg.end ∷ []) woven

-- of places with all ends among them, what is claimed behind a place is what is claimed behind the last that comes up to it,
-- and nothing is claimed before all of them
abbrev pub HoldEnds : List Woven → List Pos → Type 0
HoldEnds woven ps = (w : Woven) → Has woven w → Has ps w.seg.start × Has ps w.seg.end

ends_held : (woven : List Woven) → HoldEnds woven (ends_of woven)
ends_held woven = λ w h. (start_is_place woven w h, end_is_place woven w h)

pub places_held : (woven : List Woven) → HoldEnds woven (places_of woven)
places_held woven = λ w h. (inr (inr (start_is_place woven w h)), inr (inr (end_is_place woven w h)))

pub behind_from : (woven : List Woven) (ps : List Pos) → HoldEnds woven ps → (x z : Pos) → IsLast x ps z → (tree : Mask) (first : ℕ) → claims_behind woven tree first x ≡ claims_behind woven tree first z
behind_from woven ps held x z l tree first =
    mask_alike tree (λ i. spans_behind woven x (first + i)) (λ i. spans_behind woven z (first + i)) (λ i.
    any_same (λ w. eqb w.instance (first + i) && covers_behind x w.seg) (λ w. eqb w.instance (first + i) && covers_behind z w.seg) woven (λ w h.
    ap (λ b. eqb w.instance (first + i) && (not b && is_before x w.seg.end)) (as_from_last x z w.seg.start ps l (held w h).0)
    ∙ ap (λ b. eqb w.instance (first + i) && (not (is_before z w.seg.start) && b)) (as_from_last x z w.seg.end ps l (held w h).1)))

pub behind_none : (woven : List Woven) (ps : List Pos) → HoldEnds woven ps → (x : Pos) → ((y : Pos) → Has ps y → is_before x y ≡ true) → (tree : Mask) (first : ℕ) → claims_behind woven tree first x ≡ false
behind_none woven ps held x none tree first =
    nothing_from_nothing tree (λ i. spans_behind woven x (first + i)) (λ i.
    any_none (λ w. eqb w.instance (first + i) && covers_behind x w.seg) woven (λ w h.
    ap (λ b. eqb w.instance (first + i) && (not b && is_before x w.seg.end)) (none w.seg.start (held w h).0) ∙ none_of (eqb w.instance (first + i))))

pub claims_begin_at_ends : ClaimsBeginAtEnds
claims_begin_at_ends woven tree first x claimed =
    elim (last_up_to x (ends_of woven)) [
      | inl l ↦
          let w = end_of_some woven l.0 l.1.there in
          let c = contains_from_has woven w.0 w.1 in
          record { end = l.0; there = (c.0, w.0, c.1, c.2, w.2); reached = l.1.reached; claimed = sym (behind_from woven (ends_of woven) (ends_held woven) x l.0 l.1 tree first) ∙ claimed }
      | inr none ↦ absurd (true≢false (sym claimed ∙ behind_none woven (ends_of woven) (ends_held woven) x none tree first))
    ]
