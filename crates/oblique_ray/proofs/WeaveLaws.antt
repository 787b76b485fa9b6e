-- Pieces woven one after another, from rank to rank.
use Rattle.std.proofs.Common.{◌≡◌, ◌<◌, ◌+◌, ℕ, List, [], ◌∷◌, ◌++◌, length, get_or, map, take, cond, All, ap, sym, ◌∙◌, subst, arith}
use Rattle.std.specs.Ordering.{is_eq}
use Rattle.std.proofs.lemmas.List.{get_or-map, get_or-take, length-map, length-take-le, take_more}
use Rattle.lattice_core.specs.declared.limit.TheConstants.{FAR}
use Rattle.surd_order.specs.declared.position.Pos.{Pos}
use Rattle.bool_weave.specs.declared.woven.Woven.{Woven}
use Rattle.bool_weave.specs.Cuts.{ray_length, end_at, IsSegment, IsWoven}
use Rattle.bool_weave.specs.Lines.{cuts_along}
use Rattle.order_laws.specs.Ranks.{rank_among, ranked, ranked_woven, whole}
use Rattle.slant_ranks.specs.Slants.{SlantSegment, slant_up_to, woven_by_ranks}
use Rattle.surd_quot.specs.declared.position.QPos.{QPos}
use Rattle.surd_quot.specs.PlaceOrder.{quotient_cmp}
use Rattle.oblique_ray.specs.declared.piece.Piece.{Piece}
use Rattle.oblique_ray.specs.CutSteps.{segment_of_piece}
use Rattle.oblique_ray.specs.Segments.{slant_end}

abbrev pub from_rank_to_rank : ℕ → Pos → Pos → Woven
from_rank_to_rank instance start end = record { instance = instance; seg = record { start = start; start_face = 0; end = end; end_face = 0 } }

abbrev pub IsRankAmong : List QPos → QPos → Pos → Type 0
IsRankAmong cuts x place = place ≡ cond (is_eq (quotient_cmp x (slant_end FAR))) (end_at FAR) (whole (rank_among quotient_cmp cuts x))

module _ (ps : List Piece) where
  abbrev segments : List SlantSegment
  segments = map segment_of_piece ps

  abbrev ws : List Woven
  ws = woven_by_ranks FAR (map segment_of_piece ps)

  woven_length : length ws ≡ length ps
  woven_length = length-map segments (ranked_woven (slant_up_to FAR) ray_length segments) ∙ length-map ps segment_of_piece

  at_number : (k : ℕ) (d : Piece) (e : Woven) → k < length ps → get_or ws k e ≡ ranked_woven (slant_up_to FAR) ray_length segments (segment_of_piece (get_or ps k d))
  at_number k d e lt =
      get_or-map (ranked_woven (slant_up_to FAR) ray_length segments) segments k (segment_of_piece d) e (omega (arith, lt, length-map ps segment_of_piece))
      ∙ ap (ranked_woven (slant_up_to FAR) ray_length segments) (get_or-map segment_of_piece ps k d (segment_of_piece d) lt)

  is_ranked : (cuts : List QPos) (x : QPos) (place : Pos) → cuts ≡ cuts_along (slant_up_to FAR) segments → IsRankAmong cuts x place → place ≡ ranked (slant_up_to FAR) ray_length segments x
  is_ranked cuts x place made is =
      is ∙ ap (λ (cs : List QPos). cond (is_eq (quotient_cmp x (slant_end FAR))) (end_at FAR) (whole (rank_among quotient_cmp cs x))) made

  pub woven_piece : (cuts : List QPos) (k : ℕ) (d : Piece) (e : Woven) (start end : Pos) → k < length ps → cuts ≡ cuts_along (slant_up_to FAR) segments
      → IsRankAmong cuts (get_or ps k d).start start → IsRankAmong cuts (get_or ps k d).end end → from_rank_to_rank (get_or ps k d).instance start end ≡ get_or ws k e
  woven_piece cuts k d e start end lt made start_is end_is =
      let p : Piece = get_or ps k d in
      ap (λ (s : Pos). from_rank_to_rank p.instance s end) (is_ranked cuts p.start start made start_is)
      ∙ ap (λ (t : Pos). from_rank_to_rank p.instance (ranked (slant_up_to FAR) ray_length segments p.start) t) (is_ranked cuts p.end end made end_is)
      ∙ sym (at_number k d e lt)

  -- a piece comes after all before it
  pub order_met : (k : ℕ) (d : Piece) (weave : List Woven) → k < length ps → IsWoven ws → weave ≡ take k ws → All (λ w. w.instance < (get_or ps k d).instance) weave
  order_met k d weave lt sound is = subst (λ (l : List Woven). All (λ w. w.instance < (get_or ps k d).instance) l) (sym is) below
    where
      below : All (λ w. w.instance < (get_or ps k d).instance) (take k ws)
      below j e in_front =
          let before : j < k = omega (arith, in_front, length-take-le k ws (omega (arith, lt, woven_length))) in
          let same : get_or (take k ws) j e ≡ get_or ws j e = get_or-take k ws j e before in
          let number : (get_or ws k e).instance ≡ (get_or ps k d).instance = ap (λ (w : Woven). w.instance) (at_number k d e lt) in
          let less : (get_or ws j e).instance < (get_or ws k e).instance = sound.rising j k e before (omega (arith, lt, woven_length)) in
          omega (arith, ap (λ (w : Woven). w.instance) same, number, less)

  pub segment_met : (cuts : List QPos) (k : ℕ) (d : Piece) (start end : Pos) → k < length ps → cuts ≡ cuts_along (slant_up_to FAR) segments → IsWoven ws
      → IsRankAmong cuts (get_or ps k d).start start → IsRankAmong cuts (get_or ps k d).end end → IsSegment (record { start = start; start_face = 0; end = end; end_face = 0 })
  segment_met cuts k d start end lt made sound start_is end_is =
      let e : Woven = from_rank_to_rank 0 start end in
      subst (λ (w : Woven). IsSegment w.seg) (sym (woven_piece cuts k d e start end lt made start_is end_is)) (sound.segments k e (omega (arith, lt, woven_length)))

  pub one_woven : (cuts : List QPos) (k : ℕ) (d : Piece) (start end : Pos) (weave more : List Woven) → k < length ps → cuts ≡ cuts_along (slant_up_to FAR) segments → weave ≡ take k ws
      → IsRankAmong cuts (get_or ps k d).start start → IsRankAmong cuts (get_or ps k d).end end → more ≡ weave ++ from_rank_to_rank (get_or ps k d).instance start end ∷ [] → more ≡ take (k + 1) ws
  one_woven cuts k d start end weave more lt made is start_is end_is added =
      let e : Woven = from_rank_to_rank 0 start end in
      added
      ∙ ap (λ (l : List Woven). l ++ from_rank_to_rank (get_or ps k d).instance start end ∷ []) is
      ∙ ap (λ (w : Woven). take k ws ++ w ∷ []) (woven_piece cuts k d e start end lt made start_is end_is)
      ∙ sym (take_more ws k e (omega (arith, lt, woven_length)))
