-- The segments of a region's own instances, at the end of those that were gathered.
use Rattle.std.proofs.Common.{◌≡◌, ◌<◌, ◌≤◌, ◌+◌, ◌-◌, ℕ, zero, suc, List, [], ◌∷◌, ◌++◌, length, get_or, take, drop, false, not, ◌&&◌, Option, Some, None, All, ap, sym, ◌∙◌, subst, refl, arith}
use Rattle.std.proofs.lemmas.List.{length-append, length-drop, take_all, take-append-le, drop-append-le, take-append-drop}
use Rattle.std.proofs.lemmas.List.Elements.{All-nil, All-cons, All-append, All-weaker}
use Rattle.std.proofs.lemmas.Option.{slice_get_within}
use Rattle.lattice_core.specs.declared.ray.Ray.{Ray}
use Rattle.surd_order.specs.declared.position.Pos.{Pos}
use Rattle.bool_weave.specs.declared.woven.Woven.{Woven}
use Rattle.bool_weave.specs.Cuts.{IsSegment}
use Rattle.bool_weave.specs.Masks.{Mask}
use Rattle.bool_weave.specs.Behind.{claims_behind}
use Rattle.bool_weave.proofs.Sorted.{Has, contains_from_has, has_append_left, has_append_right}
use Rattle.bool_weave.proofs.Claimed.{all_right}
use Rattle.overlap_list.proofs.Ordered.{all_from_has}
use Rattle.first_hit.specs.declared.front.Part.{Part}
use Rattle.shot_core.specs.Regions.{Instance, Region, has_air, instances_of, firsts_from}
use Rattle.shot_core.specs.Shots.{woven_from}
use Rattle.first_hit.specs.FirstSteps.{IsOfBody, IsFirstClaim, first_no, body_no, own_no, solid_no, IsFirstSolid, part_in, IsPartOf, IsPartIn}
use Rattle.shot_core.proofs.Weaving.{has_woven}

pub firsts_reach : (n : ℕ) (rs : List Region) (k : ℕ) (d : Region) → k < length rs → get_or (firsts_from n rs) k 0 + length (get_or rs k d).body.instances ≤ n + length (instances_of rs)
firsts_reach n [] k d lt = absurd (omega (arith, lt))
firsts_reach n (r ∷ rs) zero d lt = omega (arith, length-append r.body.instances (instances_of rs))
firsts_reach n (r ∷ rs) (suc k) d lt = omega (arith, firsts_reach (n + length r.body.instances) rs k d (omega (arith, lt)), length-append r.body.instances (instances_of rs))

drop_past : (before new : List Woven) → drop (length before) (before ++ new) ≡ new
drop_past [] new = refl
drop_past (w ∷ ws) new = drop_past ws new

pub own_is : (before after new : List Woven) (from : ℕ) → after ≡ before ++ new → from ≡ length before → take (length after - from) (drop from after) ≡ new
own_is before after new from e f =
    let rest : drop from after ≡ new = ap (λ n. drop n after) f ∙ ap (drop (length before)) e ∙ drop_past before new in
    ap (take (length after - from)) rest ∙ take_all (length after - from) new (omega (arith, ap length e, f, length-append before new))

pub own_sound : (ray : Ray) (first : ℕ) (xs : List Instance) (before after : List Woven) → after ≡ before ++ woven_from ray first xs → All (λ (w : Woven). IsSegment w.seg) after → All (IsOfBody first (length xs)) (woven_from ray first xs)
own_sound ray first xs before after e all =
    let own : All (λ (w : Woven). IsSegment w.seg) (woven_from ray first xs) = all_right (λ (w : Woven). IsSegment w.seg) before (woven_from ray first xs) (subst (All (λ (w : Woven). IsSegment w.seg)) e all) in
    all_from_has (IsOfBody first (length xs)) (woven_from ray first xs) (λ w h.
    let a = has_woven ray first xs w h in
    let c = contains_from_has (woven_from ray first xs) w h in
    record {
      low = omega (arith, a.number);
      high = omega (arith, a.number, slice_get_within xs a.place a.one a.there);
      segment = subst (λ (v : Woven). IsSegment v.seg) c.2 (own c.0 w c.1);
    })

-- what is first claimed by a region without air is first solid
module _ (regions : List Region) (ray : Ray) (n : ℕ) (dry : has_air (body_no regions n) ≡ false) where
  solid_is : (x : Pos) → solid_no regions ray n x ≡ claims_behind (own_no regions ray n) (body_no regions n).tree (first_no regions n) x
  solid_is x = ap (λ b. not b && claims_behind (own_no regions ray n) (body_no regions n).tree (first_no regions n) x) dry

  solid_go : (o : Option Pos) → IsFirstClaim (own_no regions ray n) (body_no regions n).tree (first_no regions n) o → IsFirstSolid regions ray n o
  solid_go None f = λ x. solid_is x ∙ f x
  solid_go (Some x) f = record { solid = solid_is x ∙ f.claimed; early = λ y before. solid_is y ∙ f.early y before; range = f.range; spelled = f.spelled }

  pub solid_from : (own : List Woven) (tree : Mask) (first : ℕ) (o : Option Pos) → own ≡ own_no regions ray n → tree ≡ (body_no regions n).tree → first ≡ first_no regions n → IsFirstClaim own tree first o → IsFirstSolid regions ray n o
  solid_from own tree first o e f g claim =
      solid_go o (subst (λ (t : Mask). IsFirstClaim (own_no regions ray n) t (first_no regions n) o) f
      (subst (λ (m : ℕ). IsFirstClaim (own_no regions ray n) tree m o) g (subst (λ ws. IsFirstClaim ws tree first o) e claim)))

has_taken : (n : ℕ) (ws : List Woven) (w : Woven) → Has (take n ws) w → Has ws w
has_taken n ws w h = subst (λ vs. Has vs w) (take-append-drop n ws) (has_append_left (take n ws) (drop n ws) w h)

has_dropped : (n : ℕ) (ws : List Woven) (w : Woven) → Has (drop n ws) w → Has ws w
has_dropped n ws w h = subst (λ vs. Has vs w) (take-append-drop n ws) (has_append_right (take n ws) (drop n ws) w h)

-- a part stays one where more segments follow
part_kept : (regions : List Region) (ray : Ray) (segments more : List Woven) (p : Part) → IsPartOf regions ray segments p → IsPartOf regions ray (segments ++ more) p
part_kept regions ray segments more p i = record {
  there = i.there;
  ordered = i.ordered;
  within = omega (arith, i.within, length-append segments more);
  own = ap (take (p.to - p.from)) (drop-append-le p.from segments more (omega (arith, i.ordered, i.within)))
      ∙ take-append-le (p.to - p.from) (drop p.from segments) more (omega (arith, i.within, length-drop p.from segments)) ∙ i.own;
}

-- with the segments of one more region, which are the next part
pub parts_next : (regions : List Region) (ray : Ray) (n : ℕ) (segments after : List Woven) (parts parts' : List Part) (from to : ℕ) → n < length regions → after ≡ segments ++ own_no regions ray n → from ≡ length segments → to ≡ length after
    → parts' ≡ parts ++ record { region = n; from = from; to = to } ∷ [] → All (IsPartOf regions ray segments) parts → All (IsPartOf regions ray after) parts'
parts_next regions ray n segments after parts parts' from to lt grown f t e all =
    let next : Part = record { region = n; from = from; to = to } in
    let new : IsPartOf regions ray after next = record {
      there = lt;
      ordered = omega (arith, f, t, ap length grown, length-append segments (own_no regions ray n));
      within = omega (arith, t);
      own = ap (λ m. take (m - from) (drop from after)) t ∙ own_is segments after (own_no regions ray n) from grown f;
    } in
    let old : All (IsPartOf regions ray after) parts =
    subst (λ ws. All (IsPartOf regions ray ws) parts) (sym grown) (All-weaker (IsPartOf regions ray segments) (IsPartOf regions ray (segments ++ own_no regions ray n)) (part_kept regions ray segments (own_no regions ray n)) parts all) in
    subst (All (IsPartOf regions ray after)) (sym e) (All-append (IsPartOf regions ray after) parts (next ∷ []) old (All-cons (IsPartOf regions ray after) next [] new (All-nil (IsPartOf regions ray after))))

-- the segments of a part are of its region's instances
pub part_within : (regions : List Region) (ray : Ray) (segments : List Woven) (p : Part) → All (λ (w : Woven). IsSegment w.seg) segments → IsPartOf regions ray segments p → IsPartIn regions segments p
part_within regions ray segments p sound i =
    let first = first_no regions p.region in
    let xs = (body_no regions p.region).instances in
    let mine : All (λ (w : Woven). IsSegment w.seg) (own_no regions ray p.region) =
    subst (All (λ (w : Woven). IsSegment w.seg)) i.own
    (all_from_has (λ (w : Woven). IsSegment w.seg) (part_in segments p) (λ w h.
    let c = contains_from_has segments w (has_dropped p.from segments w (has_taken (p.to - p.from) (drop p.from segments) w h)) in
    subst (λ (v : Woven). IsSegment v.seg) c.2 (sound c.0 w c.1))) in
    record {
      there = i.there;
      ordered = i.ordered;
      within = i.within;
      own = subst (All (IsOfBody first (length xs))) (sym i.own) (own_sound ray first xs [] (own_no regions ray p.region) refl mine);
    }
