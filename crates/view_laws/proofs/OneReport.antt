-- No other list of pairs tells what a report tells.
use Rattle.std.proofs.Common.{◌≡◌, ◌↔◌, ℕ, ℤ, List, [], ◌∷◌, length, slice_get, find, Bool, true, false, cond, Option, Some, IsTrue, ap, sym, ◌∙◌, subst, refl, inl, inr, arith}
use Rattle.std.proofs.lemmas.List.Elements.{filter_agree}
use Rattle.lattice_core.specs.declared.ray.Ray.{Ray}
use Rattle.lattice_core.specs.declared.view.View.{View}
use Rattle.lattice_core.specs.Views.{pixel_ray}
use Rattle.surd_order.specs.declared.position.Pos.{Pos}
use Rattle.surd_order.specs.declared.position.Pos.TheVariants.{Frac}
use Rattle.surd_order.specs.Order.{IsPlace, Precedes}
use Rattle.surd_order.specs.Spelling.{IsSpelled}
use Rattle.surd_order.proofs.LawProofs.{outcome, is_kept_by_same_place, places_have_one_spelling}
use Rattle.surd_order.proofs.OrderLaws.{transitive, before_fraction, not_before_fraction}
use Rattle.solid_set.specs.Segments.{ray_start, ray_end}
use Rattle.bool_weave.proofs.Cutting.{place_from}
use Rattle.bool_weave.proofs.Sorted.{Has, contains_from_has}
use Rattle.overlap_list.specs.declared.overlap.OverlapRun.{OverlapRun}
use Rattle.overlap_list.proofs.Ordered.{Rises}
use Rattle.shot_core.specs.declared.pair.Pair.{Pair}
use Rattle.shot_core.specs.OverlapPoints.{BothHoldSolid, IsTrueOverlap}
use Rattle.shot_core.specs.Pruned.{place_of}
use Rattle.shot_core.specs.Regions.{Region, HaveInstances}
use Rattle.shot_core.proofs.Pointing.{any_to}
use Rattle.tile_shot.specs.Merges.{HasLowerPair}
use Rattle.tile_shot.specs.Reports.{Spot, report_of, HaveRisingPlaces}
use Rattle.tile_shot.proofs.Merging.{rises_from_pairs}
use Rattle.tile_shot.proofs.OneRay.{all_member}
use Rattle.tile_shot.proofs.Reporting.{found}
use Rattle.view_laws.specs.ReportPoints.{OverlapSomewhere, IsWhereFirst, IsTruePair, IsTrueReport, ReportsTellPoints}
use Rattle.view_laws.proofs.Pixels.{found_has}
use Rattle.view_laws.proofs.Free.{zero_place, far_place, free_between, free_before_both}
use Rattle.view_laws.proofs.Reports.{number_same, report_told}

-- two overlaps of the same regions on a ray
module _ (regions : List Region) (ray : Ray) (rising : HaveRisingPlaces regions) where
  record AreOfSame (a b : OverlapRun) : Type 0 where
    first : IsTrueOverlap regions ray a
    second : IsTrueOverlap regions ray b
    start : IsPlace a.start
    end : IsPlace a.end
    other_start : IsPlace b.start
    other_end : IsPlace b.end
    one : place_of (slice_get regions a.one) ≡ place_of (slice_get regions b.one)
    two : place_of (slice_get regions a.two) ≡ place_of (slice_get regions b.two)

  turn : (a b : OverlapRun) → AreOfSame a b → AreOfSame b a
  turn a b h = record { first = h.second; second = h.first; start = h.other_start; end = h.other_end; other_start = h.start; other_end = h.end; one = sym h.one; two = sym h.two }

  numbers : (a b : OverlapRun) → AreOfSame a b → (a.one ≡ b.one) × (a.two ≡ b.two)
  numbers a b h =
      let f = free_between regions ray a.start a.end h.start h.end h.first.begun h.first.not_ended h.first.forward in
      let g = free_between regions ray b.start b.end h.other_start h.other_end h.second.begun h.second.not_ended h.second.forward in
      let x = h.first.between f.p f.q f.on f.free f.after f.before in
      let y = h.second.between g.p g.q g.on g.free g.after g.before in (
        number_same regions a.one b.one x.first y.first rising x.first_there y.first_there (sym (ap place_of x.first_there) ∙ h.one ∙ ap place_of y.first_there),
        number_same regions a.two b.two x.second y.second rising x.second_there y.second_there (sym (ap place_of x.second_there) ∙ h.two ∙ ap place_of y.second_there),
      )

  abbrev Both : OverlapRun → (p q : ℤ) → Type 0
  Both o p q = BothHoldSolid regions ray p q o.one o.two

  both_too : (a b : OverlapRun) (p q : ℤ) → AreOfSame a b → Both a p q → Both b p q
  both_too a b p q h both = let n = numbers a b h in subst (λ m. BothHoldSolid regions ray p q m b.two) n.0 (subst (λ m. BothHoldSolid regions ray p q a.one m) n.1 both)

  -- none begins earlier
  not_earlier : (a b : OverlapRun) → AreOfSame a b → ¬ (Precedes a.start b.start)
  not_earlier a b h = λ early.
      let f = free_before_both regions ray a.start a.end b.start h.start h.end h.other_start h.first.begun h.first.not_ended h.first.forward early in
      let x = f.point in
      h.second.before x.p x.q x.on x.free f.before_other (both_too a b x.p x.q h (h.first.between x.p x.q x.on x.free x.after x.before))

  -- and none that begins there ends earlier
  before_the_end : (a b : OverlapRun) → AreOfSame a b → Precedes a.end b.end → Precedes a.end ray_end
  before_the_end a b h early = elim (outcome b.end ray_end h.other_end far_place) [
    | inl less ↦ transitive a.end b.end ray_end h.other_end far_place early less
    | inr (inl same) ↦ is_kept_by_same_place.after a.end b.end ray_end early same
    | inr (inr past) ↦ absurd (h.second.not_ended past)
  ]

  end_begun : (a b : OverlapRun) → AreOfSame a b → ¬ (Precedes a.end ray_start)
  end_begun a b h = λ early. h.first.begun (transitive a.start a.end ray_start h.end zero_place h.first.forward early)

  not_shorter : (a b : OverlapRun) → AreOfSame a b → a.start ≡ b.start → ¬ (Precedes a.end b.end)
  not_shorter a b h same = λ early. elim h.first.ended [
    | inl at_end ↦ at_end (before_the_end a b h early)
    | inr gap ↦
        let w = gap.later in
        let f = free_before_both regions ray a.end b.end (Frac w.p w.q) h.end h.other_end w.positive (end_begun a b h) h.second.not_ended early (before_fraction a.end w.p w.q w.positive w.beyond) in
        let x = f.point in
        let z_place = x.on.positive in
        let late : Precedes (Frac x.p x.q) gap.limit = record { p = w.p; q = w.q; positive = w.positive; within = w.within; beyond = λ le. not_before_fraction (Frac x.p x.q) w.p w.q z_place w.positive le f.before_other } in
        let begun : Precedes a.start (Frac x.p x.q) = transitive a.start a.end (Frac x.p x.q) h.end z_place h.first.forward x.after in
        gap.apart x.p x.q x.on x.free x.after late
        (both_too b a x.p x.q (turn a b h) (h.second.between x.p x.q x.on x.free (subst (λ s. Precedes s (Frac x.p x.q)) same begun) x.before))
  ]

  same_start : (a b : OverlapRun) → AreOfSame a b → IsSpelled a.start → IsSpelled b.start → a.start ≡ b.start
  same_start a b h spelled spelled' = places_have_one_spelling a.start b.start spelled spelled' (record { not_before = not_earlier a b h; not_after = not_earlier b a (turn a b h) })

  same_end : (a b : OverlapRun) → AreOfSame a b → a.start ≡ b.start → IsSpelled a.end → IsSpelled b.end → a.end ≡ b.end
  same_end a b h same spelled spelled' =
      places_have_one_spelling a.end b.end spelled spelled' (record { not_before = not_shorter a b h same; not_after = not_shorter b a (turn a b h) (sym same) })

-- two tests that say the same
one_test : (P : Type 0) (a b : Bool) → (a ≡ true) ↔ P → (b ≡ true) ↔ P → a ≡ b
one_test P true true h g = refl
one_test P true false h g = sym (g.1 (h.0 refl))
one_test P false true h g = h.1 (g.0 refl)
one_test P false false h g = refl

find_agree : {X : Type 0} (f g : X → Bool) → ((x : X) → f x ≡ g x) → (xs : List X) → find f xs ≡ find g xs
find_agree f g h [] = refl
find_agree f g h (x ∷ xs) = ap (λ b. cond b (Some x) (find f xs)) (h x) ∙ ap (λ o. cond (g x) (Some x) o) (find_agree f g h xs)

same_some : {X : Type 0} (x y : X) → ◌≡◌ {A = Option X} (Some x) (Some y) → x ≡ y
same_some x y e = cc

abbrev made : ℕ → ℕ → ℕ → ℕ → ℕ → Pos → Pos → Pair
made one two rays column row start end = record { one = one; two = two; rays = rays; column = column; row = row; start = start; end = end }

module _ (regions : List Region) (view : View) (rising : HaveRisingPlaces regions) (below : HaveInstances regions) where
  module _ (spots : List Spot) where
    abbrev HasKeys : Pair → Pair → Type 0
    HasKeys x y = (x.one ≡ y.one) × (x.two ≡ y.two)

    module _ (x y : Pair) (keys : HasKeys x y) (told : IsTruePair regions view spots x) (told' : IsTruePair regions view spots y) where
      agree : (s : Spot) → told.overlap s ≡ told'.overlap s
      agree s =
          one_test (OverlapSomewhere regions (pixel_ray view s.column s.row) x.one x.two) (told.overlap s) (told'.overlap s) (told.tells s)
          (subst (λ n. IsTrue (told'.overlap s) ↔ OverlapSomewhere regions (pixel_ray view s.column s.row) n x.two) (sym keys.0)
          (subst (λ n. IsTrue (told'.overlap s) ↔ OverlapSomewhere regions (pixel_ray view s.column s.row) y.one n) (sym keys.1) (told'.tells s)))

      same_rays : x.rays ≡ y.rays
      same_rays = told.rays ∙ ap (λ (l : List Spot). length l) (filter_agree told.overlap told'.overlap agree spots) ∙ sym told'.rays

      same_spot : ◌≡◌ {A = Spot} (record { column = x.column; row = x.row }) (record { column = y.column; row = y.row })
      same_spot = same_some _ _ (sym told.first ∙ find_agree told.overlap told'.overlap agree spots ∙ told'.first)

      abbrev ray : Ray
      ray = pixel_ray view x.column x.row

      same_ray : pixel_ray view y.column y.row ≡ ray
      same_ray = ap (λ (s : Spot). pixel_ray view s.column s.row) (sym same_spot)

      there' : IsWhereFirst regions ray y
      there' = subst (λ r. IsWhereFirst regions r y) same_ray told'.there

      abbrev a : OverlapRun
      a = told.there.run

      abbrev b : OverlapRun
      b = there'.run

      a_start : a.start ≡ x.start
      a_start = ap (λ (r : OverlapRun). r.start) told.there.is

      a_end : a.end ≡ x.end
      a_end = ap (λ (r : OverlapRun). r.end) told.there.is

      b_start : b.start ≡ y.start
      b_start = ap (λ (r : OverlapRun). r.start) there'.is

      b_end : b.end ≡ y.end
      b_end = ap (λ (r : OverlapRun). r.end) there'.is

      a_start_spelled : IsSpelled a.start
      a_start_spelled = subst IsSpelled (sym a_start) told.there.start_spelled

      a_end_spelled : IsSpelled a.end
      a_end_spelled = subst IsSpelled (sym a_end) told.there.end_spelled

      b_start_spelled : IsSpelled b.start
      b_start_spelled = subst IsSpelled (sym b_start) there'.start_spelled

      b_end_spelled : IsSpelled b.end
      b_end_spelled = subst IsSpelled (sym b_end) there'.end_spelled

      of_same : AreOfSame regions ray rising a b
      of_same = record {
        first = told.there.first;
        second = there'.first;
        start = place_from a.start a_start_spelled;
        end = place_from a.end a_end_spelled;
        other_start = place_from b.start b_start_spelled;
        other_end = place_from b.end b_end_spelled;
        one = ap (λ (r : OverlapRun). r.one) told.there.is ∙ keys.0 ∙ sym (ap (λ (r : OverlapRun). r.one) there'.is);
        two = ap (λ (r : OverlapRun). r.two) told.there.is ∙ keys.1 ∙ sym (ap (λ (r : OverlapRun). r.two) there'.is);
      }

      starts : a.start ≡ b.start
      starts = same_start regions ray rising a b of_same a_start_spelled b_start_spelled

      same_pair : x ≡ y
      same_pair =
          ap (λ n. made n x.two x.rays x.column x.row x.start x.end) keys.0
          ∙ ap (λ n. made y.one n x.rays x.column x.row x.start x.end) keys.1
          ∙ ap (λ n. made y.one y.two n x.column x.row x.start x.end) same_rays
          ∙ ap (λ (s : Spot). made y.one y.two y.rays s.column s.row x.start x.end) same_spot
          ∙ ap (λ z. made y.one y.two y.rays y.column y.row z x.end) (sym a_start ∙ starts ∙ b_start)
          ∙ ap (λ z. made y.one y.two y.rays y.column y.row y.start z) (sym a_end ∙ same_end regions ray rising a b of_same starts a_end_spelled b_end_spelled ∙ b_end)

    -- each pair of one true report is in the other
    is_in : (xs ys : List Pair) → IsTrueReport regions view spots xs → IsTrueReport regions view spots ys → (x : Pair) → Has xs x → Has ys x
    is_in xs ys told told' x has =
        let t = all_member (IsTruePair regions view spots) xs x told.each has in
        let s : Spot = record { column = x.column; row = x.row } in
        let there = found_has t.overlap spots s t.first in
        let some = told'.all x.one x.two s t.order (contains_from_has spots s there) ((t.tells s).0 (found t.overlap spots s t.first)) in
        let y = any_to (λ (p : Pair). (p.one ≡ x.one) × (p.two ≡ x.two)) ys some in
        let u = all_member (IsTruePair regions view spots) ys y.0 told'.each y.1 in
        subst (Has ys) (same_pair y.0 x y.2 u t) y.1

-- rising lists with the same members are one
never_both : (a b : Pair) → HasLowerPair a b → HasLowerPair b a → ⊥
never_both a b (inl h) (inl g) = omega (arith, h, g)
never_both a b (inl h) (inr g) = omega (arith, h, g.0)
never_both a b (inr h) (inl g) = omega (arith, h.0, g)
never_both a b (inr h) (inr g) = omega (arith, h.1, g.1)

later : (x : Pair) (xs : List Pair) (z : Pair) → HasLowerPair x z → Has (x ∷ xs) z → Has xs z
later x xs z lower (inl e) = absurd (never_both x z lower (subst (λ w. HasLowerPair z w) (sym e) (subst (λ w. HasLowerPair w z) e lower)))
later x xs z lower (inr has) = has

one_list : (xs ys : List Pair) → Rises HasLowerPair xs → Rises HasLowerPair ys → ((x : Pair) → Has xs x → Has ys x) → ((y : Pair) → Has ys y → Has xs y) → xs ≡ ys
one_list [] [] r s to from = refl
one_list [] (y ∷ ys) r s to from = absurd (from y (inl refl))
one_list (x ∷ xs) [] r s to from = absurd (to x (inl refl))
one_list (x ∷ xs) (y ∷ ys) r s to from =
    let heads : x ≡ y = elim (to x (inl refl)) [
      | inl e ↦ sym e
      | inr h ↦ elim (from y (inl refl)) [ inl e ↦ e | inr g ↦ absurd (never_both x y (r.0 y g) (s.0 x h)) ]
    ] in
    let tails = one_list xs ys r.1 s.1
    (λ z h. later y ys z (subst (λ w. HasLowerPair w z) heads (r.0 z h)) (to z (inr h)))
    (λ z h. later x xs z (subst (λ w. HasLowerPair w z) (sym heads) (s.0 z h)) (from z (inr h))) in
    ap (λ w. w ∷ xs) heads ∙ ap (λ l. y ∷ l) tails

pub reports_tell_points : ReportsTellPoints
reports_tell_points regions view spots rising below =
    let own = report_told regions view rising below spots in
    record {
      told = own;
      alone = λ others told.
          one_list others (report_of regions view spots) (rises_from_pairs HasLowerPair others told.rising) (rises_from_pairs HasLowerPair (report_of regions view spots) own.rising)
          (is_in regions view rising below spots others (report_of regions view spots) told own)
          (is_in regions view rising below spots (report_of regions view spots) others own told);
    }
