-- The lowest-numbered hit of all parts is the lowest-numbered hit of all regions.
use Rattle.std.proofs.Common.{◌≡◌, ◌<◌, ◌≤◌, ◌+◌, ℕ, zero, suc, List, [], ◌∷◌, length, get_or, filter, Bool, true, false, ◌&&◌, ◌||◌, nat_le, nat_lt, Option, Some, None, All, ap, sym, ◌∙◌, subst, refl, inl, inr, arith}
use Rattle.std.specs.List.{list_any, find}
use Rattle.std.proofs.lemmas.Bool.{cases_Bool, cond-true, cond-false, true≢false, le-leb, lt-leb, lt-ltb, le-ltb, ltb-true, ltb-false}
use Rattle.lattice_core.specs.declared.ray.Ray.{Ray}
use Rattle.surd_order.specs.declared.position.Pos.{Pos}
use Rattle.bool_weave.specs.declared.woven.Woven.{Woven}
use Rattle.bool_weave.specs.Cuts.{IsSegment}
use Rattle.bool_weave.specs.Masks.{Mask}
use Rattle.bool_weave.proofs.Sorted.{Has, contains_from_has, has_append_left, has_append_right, has_append_cases}
use Rattle.bool_weave.proofs.Middles.{has_filtered}
use Rattle.overlap_list.specs.Firsts.{TreeRegion}
use Rattle.overlap_list.specs.Hits.{has_end_at, lower, lowest}
use Rattle.overlap_list.proofs.Ordered.{Rises}
use Rattle.overlap_list.proofs.Winning.{lowest_from}
use Rattle.first_hit.specs.declared.front.Part.{Part}
use Rattle.shot_core.specs.Regions.{Region, instances_of, firsts_from}
use Rattle.shot_core.specs.Shots.{woven_from}
use Rattle.shot_core.specs.Steps.{no_region}
use Rattle.shot_core.specs.FirstShots.{tree_region, trees_from}
use Rattle.first_hit.specs.FirstSteps.{first_no, body_no, part_in, IsPartIn, changes_beside, own_hit, lower_hit, part_hit, lowest_hit}
use Rattle.shot_core.proofs.Numbering.{firsts_least}
use Rattle.shot_core.proofs.Weaving.{woven_append}

some_same : (w v : Woven) → ◌≡◌ {A = Option Woven} (Some w) (Some v) → w ≡ v
some_same w v e = cc e

none_some : (v : Woven) → ◌≡◌ {A = Option Woven} None (Some v) → ⊥
none_some v e = cc e

-- what is found first
module _ (p : Woven → Bool) where
  found_there : (ws : List Woven) (w : Woven) → find p ws ≡ Some w → Has ws w × (p w ≡ true)
  found_there [] w e = absurd (none_some w e)
  found_there (v ∷ vs) w e =
      elim (cases_Bool (p v)) [
        | inl is ↦ let same : v ≡ w = some_same v w (sym (cond-true (p v) (Some v) (find p vs) is) ∙ e) in (inl same, ap p (sym same) ∙ is)
        | inr no_ ↦ let h = found_there vs w (sym (cond-false (p v) (Some v) (find p vs) no_) ∙ e) in (inr h.0, h.1)
      ]

  -- one of the elements that pass, and none of these has a lower number
  pub record IsLowestOf (ws : List Woven) (w : Woven) : Type 0 where
    pub there : Has ws w
    pub passes : p w ≡ true
    pub low : (v : Woven) → Has ws v → p v ≡ true → w.instance ≤ v.instance

  -- of rising ones the first that passes is such
  find_lowest : (ws : List Woven) → Rises (λ (v w : Woven). v.instance < w.instance) ws → (v : Woven) → Has ws v → p v ≡ true → (w : Woven) × (find p ws ≡ Some w) × (w.instance ≤ v.instance)
  find_lowest [] r v h is = absurd h
  find_lowest (u ∷ us) r v h is =
      elim (cases_Bool (p u)) [
        | inl passes ↦ (u, cond-true (p u) (Some u) (find p us) passes, elim h [ inl e ↦ omega (arith, ap (λ (w : Woven). w.instance) e) | inr m ↦ omega (arith, r.0 v m) ])
        | inr no_ ↦ elim h [
          | inl e ↦ absurd (true≢false (sym is ∙ ap p (sym e) ∙ no_))
          | inr m ↦ let f = find_lowest us r.1 v m is in (f.0, cond-false (p u) (Some u) (find p us) no_ ∙ f.1, f.2)
        ]
      ]

  lower_all : (w : Woven) (o : Option Woven) → ((v : Woven) → o ≡ Some v → w.instance ≤ v.instance) → lower w o ≡ Some w
  lower_all w None h = refl
  lower_all w (Some v) h = cond-true (nat_le w.instance v.instance) (Some w) (Some v) (le-leb w.instance v.instance (h v refl))

  -- such a one of rising ones is the lowest
  pub is_lowest : (ws : List Woven) (w : Woven) → Rises (λ (v w : Woven). v.instance < w.instance) ws → IsLowestOf ws w → lowest (filter p ws) ≡ Some w
  is_lowest [] w r i = absurd i.there
  is_lowest (u ∷ us) w r i =
      elim (cases_Bool (p u)) [
        | inl passes ↦
            let same : u ≡ w = elim i.there [ inl e ↦ e | inr m ↦ absurd (omega (arith, r.0 w m, i.low u (inl refl) passes)) ] in
            ap lowest (cond-true (p u) (u ∷ filter p us) (filter p us) passes)
            ∙ lower_all u (lowest (filter p us)) (λ v e. omega (arith, r.0 v (has_filtered p us v (lowest_from (filter p us) v e))))
            ∙ ap (λ x. Some x) same
        | inr no_ ↦
            let there : Has us w = elim i.there [ inl e ↦ absurd (true≢false (sym i.passes ∙ ap p (sym e) ∙ no_)) | inr m ↦ m ] in
            ap lowest (cond-false (p u) (u ∷ filter p us) (filter p us) no_)
            ∙ is_lowest us w r.1 (record { there = there; passes = i.passes; low = λ v m is. i.low v (inr m) is })
      ]

  pub none_lowest : (ws : List Woven) → ((v : Woven) → Has ws v → p v ≡ false) → lowest (filter p ws) ≡ None
  none_lowest [] h = refl
  none_lowest (u ∷ us) h = ap lowest (cond-false (p u) (u ∷ filter p us) (filter p us) (h u (inl refl))) ∙ none_lowest us (λ v m. h v (inr m))

-- what is woven is a segment of one region's instances, and the other way round
pub of_region : (ray : Ray) (first : ℕ) (rs : List Region) (w : Woven) → Has (woven_from ray first (instances_of rs)) w
    → (n : ℕ) × (n < length rs) × Has (woven_from ray (get_or (firsts_from first rs) n 0) (get_or rs n no_region).body.instances) w
of_region ray first [] w h = absurd h
of_region ray first (r ∷ rs) w h =
    elim (has_append_cases (woven_from ray first r.body.instances) (woven_from ray (first + length r.body.instances) (instances_of rs)) w
    (subst (λ ws. Has ws w) (woven_append ray first r.body.instances (instances_of rs)) h)) [
      | inl m ↦ (zero, omega arith, m)
      | inr m ↦ let k = of_region ray (first + length r.body.instances) rs w m in (suc k.0, omega (arith, k.1), k.2)
    ]

pub of_all : (ray : Ray) (first : ℕ) (rs : List Region) (n : ℕ) (w : Woven) → n < length rs → Has (woven_from ray (get_or (firsts_from first rs) n 0) (get_or rs n no_region).body.instances) w
    → Has (woven_from ray first (instances_of rs)) w
of_all ray first [] n w lt h = absurd (omega (arith, lt))
of_all ray first (r ∷ rs) zero w lt h =
    subst (λ ws. Has ws w) (sym (woven_append ray first r.body.instances (instances_of rs)))
    (has_append_left (woven_from ray first r.body.instances) (woven_from ray (first + length r.body.instances) (instances_of rs)) w h)
of_all ray first (r ∷ rs) (suc n) w lt h =
    subst (λ ws. Has ws w) (sym (woven_append ray first r.body.instances (instances_of rs)))
    (has_append_right (woven_from ray first r.body.instances) (woven_from ray (first + length r.body.instances) (instances_of rs)) w (of_all ray (first + length r.body.instances) rs n w (omega (arith, lt)) h))

-- of all regions only the one that has an instance tells of it
module _ (g : TreeRegion → Bool) (m : ℕ) where
  abbrev has_it : TreeRegion → Bool
  has_it t = (nat_le t.first m && nat_lt m (t.first + t.count)) && g t

  none_later : (first : ℕ) (rs : List Region) → m < first → list_any has_it (trees_from first rs) ≡ false
  none_later first [] lt = refl
  none_later first (r ∷ rs) lt =
      ap (λ b. ((b && nat_lt m (first + length r.body.instances)) && g (tree_region first r.body)) || list_any has_it (trees_from (first + length r.body.instances) rs)) (lt-leb first m lt)
      ∙ none_later (first + length r.body.instances) rs (omega (arith, lt))

  or_none : (b : Bool) → (b || false) ≡ b
  or_none true = refl
  or_none false = refl

  and_none : (b : Bool) → (b && false) ≡ false
  and_none true = refl
  and_none false = refl

  pub only_its_own : (first : ℕ) (rs : List Region) (n : ℕ) → n < length rs → get_or (firsts_from first rs) n 0 ≤ m → m < get_or (firsts_from first rs) n 0 + length (get_or rs n no_region).body.instances
      → list_any has_it (trees_from first rs) ≡ g (tree_region (get_or (firsts_from first rs) n 0) (get_or rs n no_region).body)
  only_its_own first [] n lt low high = absurd (omega (arith, lt))
  only_its_own first (r ∷ rs) zero lt low high =
      let rest = list_any has_it (trees_from (first + length r.body.instances) rs) in
      let it = g (tree_region first r.body) in
      ap (λ b. ((b && nat_lt m (first + length r.body.instances)) && it) || rest) (le-leb first m low)
      ∙ ap (λ b. (b && it) || rest) (lt-ltb m (first + length r.body.instances) high)
      ∙ ap (λ b. it || b) (none_later (first + length r.body.instances) rs high)
      ∙ or_none it
  only_its_own first (r ∷ rs) (suc n) lt low high =
      let rest = list_any has_it (trees_from (first + length r.body.instances) rs) in
      let it = g (tree_region first r.body) in
      let past : first + length r.body.instances ≤ m = omega (arith, low, firsts_least (first + length r.body.instances) rs n 0 (omega (arith, lt))) in
      ap (λ b. ((nat_le first m && b) && it) || rest) (le-ltb m (first + length r.body.instances) past)
      ∙ ap (λ b. (b && it) || rest) (and_none (nat_le first m))
      ∙ only_its_own (first + length r.body.instances) rs n (omega (arith, lt)) low high

-- a segment that is found, of a number that is at most another
pub record IsAtMost (o : Option Woven) (m : ℕ) : Type 0 where
  pub one : Woven
  pub found : o ≡ Some one
  pub most : one.instance ≤ m

lower_keeps : (best o : Option Woven) (m : ℕ) → IsAtMost best m → IsAtMost (lower_hit best o) m
lower_keeps best None m i = i
lower_keeps None (Some w) m i = absurd (none_some i.one i.found)
lower_keeps (Some b) (Some w) m i =
    let most : b.instance ≤ m = omega (arith, i.most, ap (λ (v : Woven). v.instance) (some_same b i.one i.found)) in
    elim (cases_Bool (nat_lt w.instance b.instance)) [
      | inl less ↦ record { one = w; found = cond-true (nat_lt w.instance b.instance) (Some w) (Some b) less; most = omega (arith, ltb-true w.instance b.instance less, most) }
      | inr more ↦ record { one = b; found = cond-false (nat_lt w.instance b.instance) (Some w) (Some b) more; most = most }
    ]

lower_takes : (best o : Option Woven) (m : ℕ) → IsAtMost o m → IsAtMost (lower_hit best o) m
lower_takes best None m i = absurd (none_some i.one i.found)
lower_takes None (Some w) m i = i
lower_takes (Some b) (Some w) m i =
    let most : w.instance ≤ m = omega (arith, i.most, ap (λ (v : Woven). v.instance) (some_same w i.one i.found)) in
    elim (cases_Bool (nat_lt w.instance b.instance)) [
      | inl less ↦ record { one = w; found = cond-true (nat_lt w.instance b.instance) (Some w) (Some b) less; most = most }
      | inr more ↦ record { one = b; found = cond-false (nat_lt w.instance b.instance) (Some w) (Some b) more; most = omega (arith, ltb-false w.instance b.instance more, most) }
    ]

lower_is : (P : Woven → Type 0) (best o : Option Woven) → ((w : Woven) → best ≡ Some w → P w) → ((w : Woven) → o ≡ Some w → P w) → (w : Woven) → lower_hit best o ≡ Some w → P w
lower_is P best None f g w e = f w e
lower_is P None (Some v) f g w e = g w e
lower_is P (Some b) (Some v) f g w e =
    elim (cases_Bool (nat_lt v.instance b.instance)) [
      | inl less ↦ g w (sym (cond-true (nat_lt v.instance b.instance) (Some v) (Some b) less) ∙ e)
      | inr more ↦ f w (sym (cond-false (nat_lt v.instance b.instance) (Some v) (Some b) more) ∙ e)
    ]

module _ (regions : List Region) (segments : List Woven) (x : Pos) where
  all_keep : (best : Option Woven) (ps : List Part) (m : ℕ) → IsAtMost best m → IsAtMost (lowest_hit regions segments x best ps) m
  all_keep best [] m i = i
  all_keep best (p ∷ ps) m i = all_keep (lower_hit best (part_hit regions segments x p)) ps m (lower_keeps best (part_hit regions segments x p) m i)

  pub all_take : (best : Option Woven) (ps : List Part) (p : Part) (m : ℕ) → Has ps p → IsAtMost (part_hit regions segments x p) m → IsAtMost (lowest_hit regions segments x best ps) m
  all_take best [] p m h i = absurd h
  all_take best (q ∷ qs) p m (inl e) i =
      all_keep (lower_hit best (part_hit regions segments x q)) qs m
      (lower_takes best (part_hit regions segments x q) m (subst (λ (r : Part). IsAtMost (part_hit regions segments x r) m) (sym e) i))
  all_take best (q ∷ qs) p m (inr h) i = all_take (lower_hit best (part_hit regions segments x q)) qs p m h i

  pub all_are : (P : Woven → Type 0) (best : Option Woven) (ps : List Part) → ((w : Woven) → best ≡ Some w → P w) → ((p : Part) → Has ps p → (w : Woven) → part_hit regions segments x p ≡ Some w → P w)
      → (w : Woven) → lowest_hit regions segments x best ps ≡ Some w → P w
  all_are P best [] f g w e = f w e
  all_are P best (p ∷ ps) f g w e = all_are P (lower_hit best (part_hit regions segments x p)) ps (lower_is P best (part_hit regions segments x p) f (g p (inl refl))) (λ q h. g q (inr h)) w e

-- a region's hit is one of its segments that ends at the place, and the region's claim changes there
pub record IsOwnHit (own : List Woven) (tree : Mask) (first : ℕ) (x : Pos) (w : Woven) : Type 0 where
  pub there : Has own w
  pub end : has_end_at x w ≡ true
  pub changes : changes_beside own tree first x ≡ true

pub own_hit_is : (own : List Woven) (tree : Mask) (first : ℕ) (x : Pos) (w : Woven) → own_hit own tree first x ≡ Some w → IsOwnHit own tree first x w
own_hit_is own tree first x w e =
    elim (cases_Bool (changes_beside own tree first x)) [
      | inl is ↦
          let f = found_there (has_end_at x) own w (sym (cond-true (changes_beside own tree first x) (find (has_end_at x) own) None is) ∙ e) in
          record { there = f.0; end = f.1; changes = is }
      | inr no_ ↦ absurd (none_some w (sym (cond-false (changes_beside own tree first x) (find (has_end_at x) own) None no_) ∙ e))
    ]

pub own_hit_most : (own : List Woven) (tree : Mask) (first : ℕ) (x : Pos) (v : Woven) → Rises (λ (u w : Woven). u.instance < w.instance) own → IsOwnHit own tree first x v → IsAtMost (own_hit own tree first x) v.instance
own_hit_most own tree first x v r i =
    let f = find_lowest (has_end_at x) own r v i.there i.end in
    record { one = f.0; found = cond-true (changes_beside own tree first x) (find (has_end_at x) own) None i.changes ∙ f.1; most = f.2 }

pub lowest_segment : (regions : List Region) (segments : List Woven) (x : Pos) (ps : List Part) → All (IsPartIn regions segments) ps → (w : Woven) → lowest_hit regions segments x None ps ≡ Some w → IsSegment w.seg
lowest_segment regions segments x ps all w e =
    all_are regions segments x (λ (v : Woven). IsSegment v.seg) None ps (λ v n. absurd (none_some v n))
    (λ p h v f.
    let c = contains_from_has ps p h in
    let i : IsPartIn regions segments p = subst (IsPartIn regions segments) c.2 (all c.0 p c.1) in
    let there = (own_hit_is (part_in segments p) (body_no regions p.region).tree (first_no regions p.region) x v f).there in
    let d = contains_from_has (part_in segments p) v there in
    subst (λ (u : Woven). IsSegment u.seg) d.2 (i.own d.0 v d.1).segment) w e
