use Rattle.std.proofs.Common.{◌≡◌, ◌∙◌, ℕ, ℤ, pos, Bool, false, cond, ap, sym, arith, FitsSigned}
use Rattle.std.proofs.lemmas.Int.{ints, to_z-of_z, fits_signed_from_abs}
use mir.Syntax.{w128}
use Rattle.std.specs.Ordering.{is_eq}
use Rattle.lattice_core.specs.declared.limit.TheConstants.{FAR}
use Rattle.surd_order.specs.declared.position.Pos.TheVariants.{Frac}
use Rattle.bool_weave.specs.Cuts.{end_at}
use Rattle.order_laws.specs.Ranks.{rank_among, whole}
use Rattle.surd_quot.specs.PlaceOrder.{quotient_cmp}
use Rattle.oblique_ray.specs.Segments.{slant_end}
use Rattle.oblique_ray.proofs.CutLaws.{rank_is}
use Rattle.oblique_ray.proofs.cut.ranked.Goals as goal

pub returns : goal.returns
returns c =
    let f : FitsSigned w128 c.from.result = fits_signed_from_abs w128 c.from.result (omega (arith, ints, c.from.type_inv)) in
    let rank : rank_among quotient_cmp c.args.cuts.now c.args.place.now ≡ c.rank_in.result = rank_is c.args.cuts.now c.args.place.now c.rank_in.result c.rank_in.ensures.within c.rank_in.ensures.before c.rank_in.ensures.after in
    let test : is_eq (quotient_cmp c.args.place.now (slant_end FAR)) ≡ false = ap is_eq (sym c.cmp.ensures.same) ∙ sym c.is_eq.ensures ∙ c.if-is_eq.false in
    simp to_z-of_z (ap (λ (z : ℤ). Frac z (pos 1)) c.from.ensures
    ∙ ap (λ (n : ℕ). whole n) (sym rank)
    ∙ sym (ap (λ (b : Bool). cond b (end_at FAR) (whole (rank_among quotient_cmp c.args.cuts.now c.args.place.now))) test))
