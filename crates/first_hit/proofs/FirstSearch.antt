-- The earliest claimed end of a region's segments is the first place behind which the region claims.
use Rattle.std.proofs.Common.{◌≡◌, ◌<◌, ◌+◌, ◌⊎◌, ℕ, List, [], ◌∷◌, ◌++◌, length, get_or, map, drop, arith, Bool, true, false, not, ◌&&◌, ◌||◌, Option, Some, None, All, ap, sym, ◌∙◌, subst, refl, inl, inr}
use Rattle.std.specs.Option.{ForSome}
use Rattle.std.specs.Ordering.{is_lt}
use Rattle.std.proofs.Math.Bool.{or-false}
use Rattle.std.proofs.lemmas.Bool.{eq-eqb, cases_Bool, and_parts, and_from, cond-true, cond-false, true≢false, false_from_ne_true}
use Rattle.std.proofs.lemmas.List.{append-nil, append_assoc, drop_more}
use Rattle.std.proofs.lemmas.List.Elements.{All-nil, All-cons, All-append}
use Rattle.surd_order.specs.declared.position.Pos.{Pos}
use Rattle.surd_order.specs.declared.position.Seg.{Seg}
use Rattle.surd_order.specs.Range.{IsInRange}
use Rattle.surd_order.specs.Spelling.{IsSpelled}
use Rattle.surd_order.proofs.PlaceOrderLaws.{place_cmp_total}
use Rattle.bool_weave.specs.declared.woven.Woven.{Woven}
use Rattle.bool_weave.specs.Cuts.{IsSegment}
use Rattle.bool_weave.specs.Masks.{Mask}
use Rattle.bool_weave.specs.Claims.{is_before}
use Rattle.tree_forms.specs.Trees.{Leaf}
use Rattle.bool_weave.specs.Behind.{covers_behind, claims_behind}
use Rattle.bool_weave.proofs.Sorted.{Has, has_from_contains, contains_from_has}
use Rattle.bool_weave.proofs.Cutting.{less_from, less_from_precedes}
use Rattle.bool_weave.proofs.Behind.{never_itself, before_through, claims_begin_at_ends}
use Rattle.solid_set.specs.Laws.{IsSound}
use Rattle.lattice_core.specs.declared.ray.Ray.{Ray}
use Rattle.solid_set.specs.declared.placed.Placed.{Placed}
use Rattle.solid_set.specs.Segments.{segment_of}
use Rattle.shot_core.specs.Prepared.{instance_of}
use Rattle.shot_core.specs.Shots.{woven_if, woven_from}
use Rattle.first_hit.specs.FirstSteps.{IsOfBody, earlier_of, earliest_of, IsFirstClaim, IsOneAlone}

pub segment_from : (seg : Seg) → IsSound seg → IsSegment seg
segment_from seg s = record {
  ordered = s.ordered;
  begun = s.begun;
  not_ended = s.not_ended;
  start_range = s.start_range;
  start_spelled = s.start_spelled;
  end_range = s.end_range;
  end_spelled = s.end_spelled;
}

pub sound_more : (n : ℕ) (o : Option Seg) (ws : List Woven) → ForSome o IsSegment → All (λ (w : Woven). IsSegment w.seg) ws → All (λ (w : Woven). IsSegment w.seg) (ws ++ woven_if n o)
sound_more n None ws s all = subst (All (λ (w : Woven). IsSegment w.seg)) (sym (append-nil ws)) all
sound_more n (Some seg) ws s all =
    All-append (λ (w : Woven). IsSegment w.seg) ws (woven_if n (Some seg)) all (All-cons (λ (w : Woven). IsSegment w.seg) (record { instance = n; seg = seg }) [] (s seg refl) (All-nil (λ (w : Woven). IsSegment w.seg)))

-- one more segment, of the solid that comes next
pub woven_step : (ray : Ray) (first i : ℕ) (solids : List Placed) (solid d : Placed) (before after all : List Woven) → i < length solids → solid ≡ get_or solids i d
    → after ≡ before ++ woven_if (first + i) (segment_of solid.surface ray) → before ++ woven_from ray (first + i) (map instance_of (drop i solids)) ≡ all
    → after ++ woven_from ray (first + (i + 1)) (map instance_of (drop (i + 1) solids)) ≡ all
woven_step ray first i solids solid d before after all lt is step before_is =
    let rest = map instance_of (drop (i + 1) solids) in
    let next : first + (i + 1) ≡ first + i + 1 = omega arith in
    let at : drop i solids ≡ solid ∷ drop (i + 1) solids = drop_more solids i d lt ∙ ap (λ (x : Placed). x ∷ drop (i + 1) solids) (sym is) in
    ap (λ ws. ws ++ woven_from ray (first + (i + 1)) rest) step
    ∙ append_assoc before (woven_if (first + i) (segment_of solid.surface ray)) (woven_from ray (first + (i + 1)) rest)
    ∙ ap (λ n. before ++ (woven_if (first + i) (segment_of solid.surface ray) ++ woven_from ray n rest)) next
    ∙ ap (λ (l : List Placed). before ++ woven_from ray (first + i) (map instance_of l)) (sym at)
    ∙ before_is

-- the place that was found is not behind x
pub record IsUpTo (o : Option Pos) (x : Pos) : Type 0 where
  pub place : Pos
  pub found : o ≡ Some place
  pub up : is_before x place ≡ false

some_same : (x y : Pos) → ◌≡◌ {A = Option Pos} (Some x) (Some y) → x ≡ y
some_same x y e = cc

none_some : (x : Pos) → ◌≡◌ {A = Option Pos} None (Some x) → ⊥
none_some x e = cc

module _ (claims : Pos → Bool) where
  taken : (best : Option Pos) (x : Pos) → claims x ≡ true → IsUpTo (earlier_of claims best x) x
  taken None x is = record { place = x; found = cond-true (claims x) (Some x) None is; up = never_itself x }
  taken (Some b) x is =
      elim (cases_Bool (is_before x b)) [
        | inl before ↦ record { place = x; found = cond-true (is_before x b && claims x) (Some x) (Some b) (and_from (is_before x b) (claims x) before is); up = never_itself x }
        | inr up ↦ record { place = b; found = cond-false (is_before x b && claims x) (Some x) (Some b) (ap (λ t. t && claims x) up); up = up }
      ]

  kept : (best : Option Pos) (x y : Pos) → IsUpTo best y → IsUpTo (earlier_of claims best x) y
  kept None x y u = absurd (none_some u.place u.found)
  kept (Some b) x y u =
      let up : is_before y b ≡ false = ap (is_before y) (some_same b u.place u.found) ∙ u.up in
      elim (cases_Bool (is_before x b && claims x)) [
        | inl new ↦
            let before : is_before x b ≡ true = (and_parts (is_before x b) (claims x) new).0 in
            record {
              place = x;
              found = cond-true (is_before x b && claims x) (Some x) (Some b) new;
              up = false_from_ne_true _ (λ is. true≢false (sym (ap is_lt (place_cmp_total.trans y x b (less_from _ is) (less_from _ before))) ∙ up));
            }
        | inr old ↦ record { place = b; found = cond-false (is_before x b && claims x) (Some x) (Some b) old; up = up }
      ]

  all_kept : (best : Option Pos) (ws : List Woven) (y : Pos) → IsUpTo best y → IsUpTo (earliest_of claims best ws) y
  all_kept best [] y u = u
  all_kept best (w ∷ ws) y u =
      all_kept (earlier_of claims (earlier_of claims best w.seg.start) w.seg.end) ws y (kept (earlier_of claims best w.seg.start) w.seg.end y (kept best w.seg.start y u))

  all_taken : (best : Option Pos) (ws : List Woven) (w : Woven) (x : Pos) → Has ws w → (w.seg.start ≡ x) ⊎ (w.seg.end ≡ x) → claims x ≡ true → IsUpTo (earliest_of claims best ws) x
  all_taken best [] w x h end is = absurd h
  all_taken best (v ∷ vs) w x (inr h) end is = all_taken (earlier_of claims (earlier_of claims best v.seg.start) v.seg.end) vs w x h end is
  all_taken best (v ∷ vs) w x (inl e) end is =
      all_kept (earlier_of claims (earlier_of claims best v.seg.start) v.seg.end) vs x (elim end [
        | inl s ↦
            let here : v.seg.start ≡ x = ap (λ (u : Woven). u.seg.start) e ∙ s in
            kept (earlier_of claims best v.seg.start) v.seg.end x (subst (λ z. IsUpTo (earlier_of claims best z) x) (sym here) (taken best x is))
        | inr s ↦
            let here : v.seg.end ≡ x = ap (λ (u : Woven). u.seg.end) e ∙ s in
            subst (λ z. IsUpTo (earlier_of claims (earlier_of claims best v.seg.start) z) x) (sym here) (taken (earlier_of claims best v.seg.start) x is)
      ])

  module _ (Q : Pos → Type 0) where
    one_has : (best : Option Pos) (x : Pos) → ((s : Pos) → best ≡ Some s → Q s) → (claims x ≡ true → Q x) → (s : Pos) → earlier_of claims best x ≡ Some s → Q s
    one_has None x old new s e =
        elim (cases_Bool (claims x)) [
          | inl is ↦ subst Q (some_same x s (sym (cond-true (claims x) (Some x) None is) ∙ e)) (new is)
          | inr no_ ↦ absurd (none_some s (sym (cond-false (claims x) (Some x) None no_) ∙ e))
        ]
    one_has (Some b) x old new s e =
        elim (cases_Bool (is_before x b && claims x)) [
          | inl is ↦ subst Q (some_same x s (sym (cond-true (is_before x b && claims x) (Some x) (Some b) is) ∙ e)) (new (and_parts (is_before x b) (claims x) is).1)
          | inr no_ ↦ old s (sym (cond-false (is_before x b && claims x) (Some x) (Some b) no_) ∙ e)
        ]

    all_have : (best : Option Pos) (ws : List Woven) → ((s : Pos) → best ≡ Some s → Q s)
        → ((w : Woven) → Has ws w → (claims w.seg.start ≡ true → Q w.seg.start) × (claims w.seg.end ≡ true → Q w.seg.end)) → (s : Pos) → earliest_of claims best ws ≡ Some s → Q s
    all_have best [] old new s e = old s e
    all_have best (w ∷ ws) old new s e =
        all_have (earlier_of claims (earlier_of claims best w.seg.start) w.seg.end) ws
        (one_has (earlier_of claims best w.seg.start) w.seg.end (one_has best w.seg.start old (new w (inl refl)).0) (new w (inl refl)).1) (λ v h. new v (inr h)) s e

module _ (own : List Woven) (tree : Mask) (first count : ℕ) (sound : All (IsOfBody first count) own) where
  segment_at : (w : Woven) → Has own w → IsSegment w.seg
  segment_at w h = let c = contains_from_has own w h in subst (λ (v : Woven). IsSegment v.seg) c.2 (sound c.0 w c.1).segment

  abbrev claims_at_place : Pos → Bool
  claims_at_place x = claims_behind own tree first x

  up_to : (y : Pos) → claims_behind own tree first y ≡ true → (z : Pos) × (is_before y z ≡ false) × IsUpTo (earliest_of claims_at_place None own) z
  up_to y is =
      let c = claims_begin_at_ends own tree first y is in
      let w = c.there in
      (c.end, c.reached, all_taken claims_at_place None own w.1 c.end (has_from_contains own w.1 (w.0, w.2, w.3)) w.4 c.claimed)

  first_go : (o : Option Pos) → earliest_of claims_at_place None own ≡ o → IsFirstClaim own tree first o
  first_go None e = λ y.
      false_from_ne_true (claims_behind own tree first y) (λ is. let u = (up_to y is).2 in none_some u.place (sym e ∙ u.found))
  first_go (Some s) e =
      let known : (claims_behind own tree first s ≡ true) × IsInRange s × IsSpelled s =
      all_have claims_at_place (λ x. (claims_behind own tree first x ≡ true) × IsInRange x × IsSpelled x) None own (λ x h. absurd (none_some x h)) (λ w h. let seg = segment_at w h in (λ is. (is, seg.start_range, seg.start_spelled), λ is. (is, seg.end_range, seg.end_spelled))) s e in
      record {
        claimed = known.0;
        range = known.1;
        spelled = known.2;
        early = λ y before. false_from_ne_true (claims_behind own tree first y) (λ is.
            let z = up_to y is in
            let same : s ≡ z.2.place = some_same s z.2.place (sym e ∙ z.2.found) in
            true≢false (sym (before_through y s z.0 z.1 before) ∙ ap (is_before z.0) same ∙ z.2.up));
      }

  pub first_claim : IsFirstClaim own tree first (earliest_of claims_at_place None own)
  first_claim = first_go (earliest_of claims_at_place None own) refl

-- the one segment of a region that is a single solid
pub first_of_one : (own : List Woven) (tree : Mask) (first : ℕ) (w : Woven) → own ≡ w ∷ [] → w.instance ≡ first → tree ≡ Leaf (Some 0) → IsSegment w.seg → IsFirstClaim own tree first (Some w.seg.start)
first_of_one own tree first w is number alone seg =
    let here : (x : Pos) → claims_behind own tree first x ≡ covers_behind x w.seg = λ x.
    let next : w.instance ≡ first + 0 = omega (arith, number) in
    ap (λ (t : Mask). claims_behind own t first x) alone ∙ ap (λ ws. claims_behind ws (Leaf (Some 0)) first x) is
    ∙ ap (λ b. (b && covers_behind x w.seg) || false) (eq-eqb w.instance (first + 0) next) ∙ or-false (covers_behind x w.seg) in
    record {
      claimed = here w.seg.start ∙ ap (λ b. not b && is_before w.seg.start w.seg.end) (never_itself w.seg.start) ∙ ap is_lt (less_from_precedes w.seg.start w.seg.end seg.start_spelled seg.end_spelled seg.ordered);
      early = λ y before. here y ∙ ap (λ b. not b && is_before y w.seg.end) before;
      range = seg.start_range;
      spelled = seg.start_spelled;
    }

pub first_of_alone : (own : List Woven) (tree : Mask) (first count : ℕ) (d : Woven) → All (IsOfBody first count) own → IsOneAlone own first tree → IsFirstClaim own tree first (Some (get_or own 0 d).seg.start)
first_of_alone own tree first count d sound o =
    let at : get_or own 0 d ≡ o.one = ap (λ ws. get_or ws 0 d) o.is in
    let some_there : 0 < length own = omega (arith, ap length o.is) in
    let seg : IsSegment o.one.seg = subst (λ (v : Woven). IsSegment v.seg) at (sound 0 d some_there).segment in
    subst (λ (v : Woven). IsFirstClaim own tree first (Some v.seg.start)) (sym at) (first_of_one own tree first o.one o.is o.number o.alone seg)

pub single : (own : List Woven) (d : Woven) → length own ≡ 1 → own ≡ get_or own 0 d ∷ []
single [] d e = absurd (omega (arith, e))
single (w ∷ []) d e = refl
single (w ∷ v ∷ ws) d e = absurd (omega (arith, e))
