-- What is seen first is seen of the regions that claim something on the ray.
use Rattle.std.proofs.Common.{◌≡◌, ◌+◌, ◌⊎◌, ℕ, zero, suc, List, [], ◌∷◌, ◌++◌, length, slice_get, map, filter, find, flat_map, Bool, true, false, cond, not, ◌&&◌, ◌||◌, Option, Some, None, ap, sym, ◌∙◌, subst, refl, inl, inr, arith}
use Rattle.std.specs.List.{list_any, position_from}
use Rattle.std.specs.Option.{option_map}
use Rattle.std.specs.Ordering.{is_lt, is_eq}
use Rattle.std.proofs.lemmas.Bool.{cases_Bool, and_parts, and_from, and_right, cond-true, cond-false, true≢false, false_from_ne_true}
use Rattle.std.proofs.lemmas.List.Elements.{All-filter}
use Rattle.std.proofs.lemmas.List.Folds.{Any-from_list_any, list_any_at}
use Rattle.std.proofs.lemmas.Iterator.Adapters.{position_from-zero}
use Rattle.lattice_core.specs.declared.ray.Ray.{Ray}
use Rattle.surd_order.specs.declared.position.Pos.{Pos}
use Rattle.surd_order.specs.Spelling.{IsSpelled}
use Rattle.surd_order.proofs.PlaceOrderLaws.{place_cmp_total}
use Rattle.bool_weave.specs.declared.woven.Woven.{Woven}
use Rattle.bool_weave.specs.Claims.{is_before}
use Rattle.bool_weave.specs.Behind.{claims_behind}
use Rattle.bool_weave.proofs.Sorted.{Has, has_from_contains, contains_from_has}
use Rattle.bool_weave.proofs.Cutting.{less_from, start_is_place, end_is_place}
use Rattle.bool_weave.proofs.Behind.{never_itself, before_through, places_spelled, ends_of, claims_begin_at_ends}
use Rattle.bool_weave.proofs.Flanks.{in_filter}
use Rattle.overlap_list.specs.Hits.{is_at, has_end_at, differ}
use Rattle.overlap_list.specs.Firsts.{is_solid_behind, start_by, some_solid_behind, IsFirstPlace}
use Rattle.overlap_list.proofs.Firsts.{tied_from}
use Rattle.overlap_list.proofs.Overlapping.{first_of}
use Rattle.shot_core.specs.declared.shot.Lit.{Lit}
use Rattle.shot_core.specs.declared.first.Seen.{Seen}
use Rattle.shot_core.specs.Regions.{Region, HasLeavesBelow, HaveInstances, has_air}
use Rattle.shot_core.specs.Shots.{woven_from, woven_of, level_on, level_of_hit}
use Rattle.shot_core.specs.FirstShots.{first_seen, seen_of, seen_by, trees_of}
use Rattle.shot_core.specs.Pruned.{SeenRegion, seen_region_of, seen_region}
use Rattle.shot_core.proofs.FirstShots.{woven_spelled, seen_at_first_place, nothing_seen_else}
use Rattle.shot_core.proofs.OwnClaims.{behind_on, solid_on, changes_on, IsSilent, own_behind, quiet_before, silent_changes, solid_is, position_agrees, any_agrees}
use Rattle.shot_core.proofs.FirstHits.{Ending, ends_among, hits_of, hits_among, face_of, ending_of, ends_are, hit_is}

-- one of the places of a list that passes, and before which no other of the list does
record IsLeast (claims : Pos → Bool) (ps : List Pos) (x : Pos) : Type 0 where
  there : Has ps x
  passes : claims x ≡ true
  early : (y : Pos) → Has ps y → claims y ≡ true → is_before y x ≡ false

least_by : (claims : Pos → Bool) (p : Pos) (ps : List Pos) (b : Pos) → IsLeast claims ps b → (x : Pos) × IsLeast claims (p ∷ ps) x
least_by claims p ps b l =
    elim (cases_Bool (claims p && is_before p b)) [
      | inl new ↦
          let parts = and_parts (claims p) (is_before p b) new in (
            p,
            record {
              there = inl refl;
              passes = parts.0;
              early = λ y h on. elim h [
                | inl e ↦ subst (λ z. is_before z p ≡ false) e (never_itself p)
                | inr m ↦ false_from_ne_true _ (λ is. true≢false (sym (ap is_lt (place_cmp_total.trans y p b (less_from _ is) (less_from _ parts.1))) ∙ l.early y m on))
              ];
            },
          )
      | inr old ↦ (
        b,
        record {
          there = inr l.there;
          passes = l.passes;
          early = λ y h on. elim h [
            | inl e ↦ subst (λ z. is_before z b ≡ false) e (false_from_ne_true _ (λ is. true≢false (sym (and_from (claims p) (is_before p b) (ap claims e ∙ on) is) ∙ old)))
            | inr m ↦ l.early y m on
          ];
        },
      )
    ]

least : (claims : Pos → Bool) (ps : List Pos) → ((x : Pos) × IsLeast claims ps x) ⊎ ((y : Pos) → Has ps y → claims y ≡ false)
least claims [] = inr (λ y h. absurd h)
least claims (p ∷ ps) =
    elim (least claims ps) [
      | inl b ↦ inl (least_by claims p ps b.0 b.1)
      | inr none ↦ elim (cases_Bool (claims p)) [
        | inl is ↦ inl (
          p,
          record {
            there = inl refl;
            passes = is;
            early = λ y h on. elim h [ inl e ↦ subst (λ z. is_before z p ≡ false) e (never_itself p) | inr m ↦ absurd (true≢false (sym on ∙ none y m)) ];
          },
        )
        | inr off ↦ inr (λ y h. elim h [ inl e ↦ ap claims (sym e) ∙ off | inr m ↦ none y m ])
      ]
    ]

-- finds in lists
find_from : {X Y : Type 0} (F : Option X → Y) (f : X → Bool) (all : List X) (n : ℕ) (xs : List X) → ((k : ℕ) → slice_get all (n + k) ≡ slice_get xs k)
    → option_map (λ r. F (slice_get all r)) (position_from f n xs) ≡ option_map (λ x. F (Some x)) (find f xs)
find_from F f all n [] at = refl
find_from {X = X} F f all n (x ∷ xs) at =
    let here : n ≡ n + 0 = omega arith in
    elim (cases_Bool (f x)) [
      | inl is ↦ ap (option_map (λ r. F (slice_get all r))) (cond-true (f x) (Some n) (position_from f (n + 1) xs) is)
          ∙ ap (λ o. Some (F o)) (ap (slice_get all) here ∙ at zero)
          ∙ sym (ap (option_map (λ (y : X). F (Some y))) (cond-true (f x) (Some x) (find f xs) is))
      | inr off ↦ ap (option_map (λ r. F (slice_get all r))) (cond-false (f x) (Some n) (position_from f (n + 1) xs) off)
          ∙ find_from F f all (n + 1) xs (λ k. let e : n + 1 + k ≡ n + suc k = omega arith in ap (slice_get all) e ∙ at (suc k))
          ∙ sym (ap (option_map (λ (y : X). F (Some y))) (cond-false (f x) (Some x) (find f xs) off))
    ]

has_map : {X Y : Type 0} (g : X → Y) (xs : List X) (x : X) → Has xs x → Has (map g xs) (g x)
has_map g [] x h = absurd h
has_map g (y ∷ ys) x (inl e) = inl (ap g e)
has_map g (y ∷ ys) x (inr m) = inr (has_map g ys x m)

abbrev HasFirst : {Y : Type 0} → List Y → Type 0
HasFirst {Y} ys = (e : Y) × (first_of ys ≡ Some e)

first_left : {Y : Type 0} (xs ys : List Y) (y : Y) → Has xs y → HasFirst (xs ++ ys)
first_left [] ys y h = absurd h
first_left (x ∷ xs) ys y h = (x, refl)

first_right : {Y : Type 0} (xs ys : List Y) → HasFirst ys → HasFirst (xs ++ ys)
first_right [] ys h = h
first_right (x ∷ xs) ys h = (x, refl)

first_flat : {X Y : Type 0} (f : X → List Y) (xs : List X) (x : X) (y : Y) → Has xs x → Has (f x) y → HasFirst (flat_map f xs)
first_flat f [] x y h m = absurd h
first_flat f (z ∷ zs) x y (inl e) m = first_left (f z) (flat_map f zs) y (subst (λ l. Has l y) (ap f (sym e)) m)
first_flat f (z ∷ zs) x y (inr h) m = first_right (f z) (flat_map f zs) (first_flat f zs x y h m)

or_true : (b : Bool) → (b || true) ≡ true
or_true true = refl
or_true false = refl

-- the first place of a ray behind which a region without air claims
pub record IsFirstOn (ray : Ray) (regions : List Region) (x : Pos) : Type 0 where
  pub spelled : IsSpelled x
  pub solid : list_any (solid_on ray x) regions ≡ true
  pub first : (y : Pos) → is_before y x ≡ true → list_any (solid_on ray y) regions ≡ false

-- what is seen there, from the region and what is hit
abbrev shown : Ray → Pos → Ending → Option Region → SeenRegion
shown ray x e o = record { region = o; start = x; face = face_of x e; level = level_on e.0 (face_of x e) ray }

abbrev of_seen : List Region → Seen → SeenRegion
of_seen regions s = record { region = slice_get regions s.region; start = s.start; face = s.hit.face; level = s.level }

without_end : (regions : List Region) (o : Option Lit) → option_map (seen_region_of regions) o ≡ option_map (of_seen regions) (option_map seen_of o)
without_end regions None = refl
without_end regions (Some l) = refl

module _ (regions : List Region) (ray : Ray) (leaves : HaveInstances regions) where
  abbrev woven : List Woven
  woven = woven_of regions ray

  some_is : (x : Pos) → some_solid_behind woven (trees_of regions) x ≡ list_any (solid_on ray x) regions
  some_is x = any_agrees (is_solid_behind woven x) (solid_on ray x) 0 regions (λ k lt. solid_is regions ray leaves x k lt)

  record IsFrom (y z : Pos) : Type 0 where
    there : Has (ends_of woven) z
    reached : is_before y z ≡ false
    solid : list_any (solid_on ray z) regions ≡ true

  begins : (y : Pos) → list_any (solid_on ray y) regions ≡ true → (z : Pos) × IsFrom y z
  begins y is =
      let a = Any-from_list_any (is_solid_behind woven y) (trees_of regions) (some_is y ∙ is) in
      let parts = and_parts (not a.1.air) (claims_behind woven a.1.tree a.1.first y) a.4 in
      let end = claims_begin_at_ends woven a.1.tree a.1.first y parts.1 in
      let w = end.there in
      let h : Has woven w.1 = has_from_contains woven w.1 (w.0, w.2, w.3) in (
        end.end,
        record {
          there = elim w.4 [
            | inl e ↦ subst (λ z. Has (ends_of woven) z) e (start_is_place woven w.1 h)
            | inr e ↦ subst (λ z. Has (ends_of woven) z) e (end_is_place woven w.1 h)
          ];
          reached = end.reached;
          solid = sym (some_is end.end)
              ∙ list_any_at (is_solid_behind woven end.end) (trees_of regions) a.0 a.1 a.2 (ap (is_solid_behind woven end.end) a.3 ∙ and_from (not a.1.air) (claims_behind woven a.1.tree a.1.first end.end) parts.0 end.claimed);
        },
      )

  -- there is a first place, or none at all
  pub decided : ((x : Pos) × IsFirstOn ray regions x) ⊎ ((x : Pos) → list_any (solid_on ray x) regions ≡ false)
  decided =
      elim (least (λ x. list_any (solid_on ray x) regions) (ends_of woven)) [
        | inl b ↦ inl (
          b.0,
          record {
            spelled = places_spelled woven b.0 (woven_spelled regions ray) (inr (inr b.1.there));
            solid = b.1.passes;
            first = λ y lt. false_from_ne_true _ (λ is.
                let z = begins y is in
                true≢false (sym (before_through y b.0 z.0 z.1.reached lt) ∙ b.1.early z.0 z.1.there z.1.solid));
          },
        )
        | inr none ↦ inr (λ y. false_from_ne_true _ (λ is. let z = begins y is in true≢false (sym z.1.solid ∙ none z.0 z.1.there)))
      ]

  -- something is hit at the first place
  module _ (x : Pos) (p : IsFirstOn ray regions x) where
    alone : (y : Pos) (r : Region) → Has regions r → not (has_air r.body) ≡ true → is_before y x ≡ true → behind_on ray y r.body ≡ false
    alone y r h dry lt =
        false_from_ne_true _ (λ is.
        let c = contains_from_has regions r h in
        true≢false (sym (list_any_at (solid_on ray y) regions c.0 r c.1 (ap (solid_on ray y) c.2 ∙ and_from (not (has_air r.body)) (behind_on ray y r.body) dry is)) ∙ p.first y lt))

    own_end : (r : Region) → Has regions r → not (has_air r.body) ≡ true → behind_on ray x r.body ≡ true → (e : Ending) × Has (ends_among ray x r.body.instances) e
    own_end r h dry claimed =
        let own = woven_from ray 0 r.body.instances in
        let end = claims_begin_at_ends own r.body.tree 0 x (own_behind ray 0 x r.body ∙ claimed) in
        let late : is_before end.end x ≡ false = false_from_ne_true _ (λ lt. true≢false (sym (sym (own_behind ray 0 end.end r.body) ∙ end.claimed) ∙ alone end.end r h dry lt)) in
        let tied : is_at end.end x ≡ true = ap is_eq (tied_from end.end x late end.reached) in
        let w = end.there in
        let there : Has own w.1 = has_from_contains own w.1 (w.0, w.2, w.3) in
        let ends : has_end_at x w.1 ≡ true = elim w.4 [
          | inl e ↦ ap (λ z. is_at z x || is_at w.1.seg.end x) e ∙ ap (λ b. b || is_at w.1.seg.end x) tied
          | inr e ↦ ap (λ z. is_at w.1.seg.start x || is_at z x) e ∙ ap (λ b. is_at w.1.seg.start x || b) tied ∙ or_true (is_at w.1.seg.start x)
        ] in (
          ending_of r.body.instances w.1,
          subst (λ (l : List Ending). Has l (ending_of r.body.instances w.1))
              (ends_are r.body.instances x ray 0 r.body.instances (λ k lt. let e : 0 + k ≡ k = omega arith in ap (slice_get r.body.instances) e))
              (has_map (ending_of r.body.instances) (filter (has_end_at x) own) w.1 (in_filter (has_end_at x) own w.1 there ends)),
        )

    pub some_hit : HasFirst (hits_among ray x regions)
    some_hit =
        let a = Any-from_list_any (solid_on ray x) regions p.solid in
        let r = a.1 in
        let h : Has regions a.1 = has_from_contains regions a.1 (a.0, a.2, a.3) in
        let parts = and_parts (not (has_air a.1.body)) (behind_on ray x a.1.body) a.4 in
        let change : changes_on ray x a.1 ≡ true =
        ap (λ b. differ b (behind_on ray x a.1.body)) (quiet_before ray x a.1.body (λ y lt. alone y a.1 h parts.0 lt)) ∙ parts.1 in
        let end = own_end a.1 h parts.0 parts.1 in
        first_flat (hits_of ray x) regions a.1 end.0 h (subst (λ (l : List Ending). Has l end.0) (sym (cond-true (changes_on ray x a.1) (ends_among ray x a.1.body.instances) [] change)) end.1)

    first_place : IsFirstPlace woven (trees_of regions) x
    first_place = record { spelled = p.spelled; solid = some_is x ∙ p.solid; first = λ y lt. some_is y ∙ p.first y lt }

    shown_go : (e : Ending) → first_of (hits_among ray x regions) ≡ Some e → (o : Option ℕ)
        → option_map (of_seen regions) (option_map (seen_by regions ray) (option_map (start_by woven (trees_of regions) x) o)) ≡ option_map (λ r. shown ray x e (slice_get regions r)) o
    shown_go e h None = refl
    shown_go e h (Some r) =
        let got = hit_is regions ray x leaves e h in
        ap (λ f. let s : SeenRegion = record { region = slice_get regions r; start = x; face = f; level = level_of_hit regions ray (start_by woven (trees_of regions) x r).hit } in Some s) got.0
        ∙ ap (λ l. let s : SeenRegion = record { region = slice_get regions r; start = x; face = face_of x e; level = l } in Some s) got.1

    -- what is seen first, without numbers
    pub seen_is : (e : Ending) → first_of (hits_among ray x regions) ≡ Some e → seen_region regions ray ≡ option_map (λ r. shown ray x e (Some r)) (find (solid_on ray x) regions)
    seen_is e h =
        without_end regions (first_seen regions ray)
        ∙ ap (option_map (of_seen regions)) (seen_at_first_place regions ray x first_place)
        ∙ ap (λ o. option_map (of_seen regions) (option_map (seen_by regions ray) (option_map (start_by woven (trees_of regions) x) o)))
        (position_from-zero (is_solid_behind woven x) (trees_of regions) ∙ position_agrees (is_solid_behind woven x) (solid_on ray x) 0 0 regions (λ k lt. solid_is regions ray leaves x k lt))
        ∙ shown_go e h (position_from (solid_on ray x) 0 regions)
        ∙ find_from (shown ray x e) (solid_on ray x) regions 0 regions (λ k. let e : 0 + k ≡ k = omega arith in ap (slice_get regions) e)

  pub none_seen : ((x : Pos) → list_any (solid_on ray x) regions ≡ false) → seen_region regions ray ≡ None
  none_seen none = ap (option_map (seen_region_of regions)) (nothing_seen_else regions ray (λ x. some_is x ∙ none x))

-- what those that are left out tell nothing of
module _ {X : Type 0} (keep : X → Bool) where
  abbrev pub LeftOut : (X → Type 0) → List X → Type 0
  LeftOut P xs = (x : X) → Has xs x → keep x ≡ false → P x

  any_left : (f : X → Bool) (xs : List X) → LeftOut (λ x. f x ≡ false) xs → list_any f (filter keep xs) ≡ list_any f xs
  any_left f [] h = refl
  any_left f (x ∷ xs) h =
      let rest = any_left f xs (λ y m. h y (inr m)) in
      elim (cases_Bool (keep x)) [
        | inl is ↦ ap (list_any f) (cond-true (keep x) (x ∷ filter keep xs) (filter keep xs) is) ∙ ap (λ b. f x || b) rest
        | inr off ↦ ap (list_any f) (cond-false (keep x) (x ∷ filter keep xs) (filter keep xs) off) ∙ rest ∙ sym (ap (λ b. b || list_any f xs) (h x (inl refl) off))
      ]

  find_left : (f : X → Bool) (xs : List X) → LeftOut (λ x. f x ≡ false) xs → find f (filter keep xs) ≡ find f xs
  find_left f [] h = refl
  find_left f (x ∷ xs) h =
      let rest = find_left f xs (λ y m. h y (inr m)) in
      elim (cases_Bool (keep x)) [
        | inl is ↦ ap (find f) (cond-true (keep x) (x ∷ filter keep xs) (filter keep xs) is) ∙ ap (λ o. cond (f x) (Some x) o) rest
        | inr off ↦ ap (find f) (cond-false (keep x) (x ∷ filter keep xs) (filter keep xs) off) ∙ rest ∙ sym (cond-false (f x) (Some x) (find f xs) (h x (inl refl) off))
      ]

  pub flat_left : {Y : Type 0} (f : X → List Y) (xs : List X) → LeftOut (λ x. f x ≡ []) xs → flat_map f (filter keep xs) ≡ flat_map f xs
  flat_left f [] h = refl
  flat_left f (x ∷ xs) h =
      let rest = flat_left f xs (λ y m. h y (inr m)) in
      elim (cases_Bool (keep x)) [
        | inl is ↦ ap (flat_map f) (cond-true (keep x) (x ∷ filter keep xs) (filter keep xs) is) ∙ ap (λ l. f x ++ l) rest
        | inr off ↦ ap (flat_map f) (cond-false (keep x) (x ∷ filter keep xs) (filter keep xs) off) ∙ rest ∙ sym (ap (λ l. l ++ flat_map f xs) (h x (inl refl) off))
      ]

module _ (regions : List Region) (ray : Ray) (leaves : HaveInstances regions) (keep : Region → Bool) (silent : LeftOut keep (IsSilent ray) regions) where
  abbrev left : List Region
  left = filter keep regions

  left_leaves : HaveInstances left
  left_leaves = All-filter keep (λ (r : Region). HasLeavesBelow (length r.body.instances) r.body.tree) regions leaves

  solid_left : (x : Pos) → list_any (solid_on ray x) left ≡ list_any (solid_on ray x) regions
  solid_left x = any_left keep (solid_on ray x) regions (λ r h off. and_right (not (has_air r.body)) (behind_on ray x r.body) (silent r h off x))

  same_first : (x : Pos) → IsFirstOn ray regions x → IsFirstOn ray left x
  same_first x p = record { spelled = p.spelled; solid = solid_left x ∙ p.solid; first = λ y lt. solid_left y ∙ p.first y lt }

  same_seen : (x : Pos) → IsFirstOn ray regions x → seen_region left ray ≡ seen_region regions ray
  same_seen x p =
      let hit = some_hit regions ray leaves x p in
      let hits : hits_among ray x left ≡ hits_among ray x regions =
      flat_left keep (hits_of ray x) regions (λ r h off. cond-false (changes_on ray x r) (ends_among ray x r.body.instances) [] (silent_changes ray x r (silent r h off))) in
      seen_is left ray left_leaves x (same_first x p) hit.0 (ap first_of hits ∙ hit.1)
      ∙ ap (option_map (λ r. shown ray x hit.0 (Some r))) (find_left keep (solid_on ray x) regions (λ r h off. and_right (not (has_air r.body)) (behind_on ray x r.body) (silent r h off x)))
      ∙ sym (seen_is regions ray leaves x p hit.0 hit.1)

  -- regions that claim nothing may be left out
  pub seen_left : seen_region left ray ≡ seen_region regions ray
  seen_left =
      elim (decided regions ray leaves) [
        | inl f ↦ same_seen f.0 f.1
        | inr none ↦ none_seen left ray left_leaves (λ x. solid_left x ∙ none x) ∙ sym (none_seen regions ray leaves none)
      ]
