-- Where a ray is cut: at its two ends, and at the starts and ends of the segments that are woven into it.
use Rattle.std.specs.Prelude.{◌↔◌, ◌<◌, ℤ, pos, List, All, AllPairs, Contains}
use Rattle.std.specs.declared.cmp.Ordering.{Ordering}
use Rattle.lattice_core.specs.declared.limit.TheConstants.{FAR}
use Rattle.surd_order.specs.declared.position.Pos.{Pos}
use Rattle.surd_order.specs.declared.position.Pos.TheVariants.{Frac}
use Rattle.surd_order.specs.declared.position.Seg.{Seg}
use Rattle.surd_order.specs.Order.{Precedes}
use Rattle.surd_order.specs.PlaceOrder.{place_cmp}
use Rattle.surd_order.specs.Range.{IsInRange}
use Rattle.surd_order.specs.Spelling.{IsSpelled}
use Rattle.bool_weave.specs.declared.woven.Woven.{Woven}
use Rattle.bool_weave.specs.Lines.{Line, places_along, set_beside, put_among, arranged, cuts_along}

-- where a ray begins and ends
abbrev pub ray_start : Pos
ray_start = Frac (pos 0) (pos 1)

abbrev pub end_at : ℤ → Pos
end_at far = Frac far (pos 1)

-- how far a ray goes
abbrev pub ray_length : ℤ
ray_length = FAR

abbrev pub ray_end : Pos
ray_end = end_at ray_length

-- a ray that ends so far from its origin
abbrev pub ray_up_to : ℤ → Line Woven Pos
ray_up_to far = record { order = place_cmp; from = ray_start; to = end_at far; instance = λ w. w.instance; start = λ w. w.seg.start; end = λ w. w.seg.end }

-- a segment lies on the ray, its start precedes its end, and both are in range and in their one spelling
pub record IsSegment (seg : Seg) : Type 0 where
  pub ordered : Precedes seg.start seg.end
  pub begun : ¬ (Precedes seg.start ray_start)
  pub not_ended : ¬ (Precedes ray_end seg.end)
  pub start_range : IsInRange seg.start
  pub start_spelled : IsSpelled seg.start
  pub end_range : IsInRange seg.end
  pub end_spelled : IsSpelled seg.end

-- segments of instances, in the rising order of these
pub record IsWoven (woven : List Woven) : Type 0 where
  pub rising : AllPairs (λ v w. v.instance < w.instance) woven
  pub segments : All (λ w. IsSegment w.seg) woven

-- the places at which a ray is cut, as they come
abbrev pub places_of : List Woven → List Pos
places_of woven = places_along (ray_up_to ray_length) woven

-- the cuts of a ray: these places and no others, each before the next
pub record AreCuts (woven : List Woven) (cuts : List Pos) : Type 0 where
  pub rising : AllPairs Precedes cuts
  pub members : (x : Pos) → Contains cuts x ↔ Contains (places_of woven) x

-- x before y and what follows it, or as y, or somewhere behind y
abbrev pub put_beside : Ordering → Pos → Pos → List Pos → List Pos → List Pos
put_beside answer x y ys behind = set_beside answer x y ys behind

-- rising places with one more among them, where it is not there yet
abbrev pub put_in : Pos → List Pos → List Pos
put_in x ys = put_among place_cmp x ys

-- places in their order, each once
abbrev pub in_order : List Pos → List Pos
in_order xs = arranged place_cmp xs

-- the one list of cuts of a ray that ends so far
abbrev pub cuts_up_to : ℤ → List Woven → List Pos
cuts_up_to far woven = cuts_along (ray_up_to far) woven

abbrev pub cuts_of : List Woven → List Pos
cuts_of woven = cuts_up_to ray_length woven
