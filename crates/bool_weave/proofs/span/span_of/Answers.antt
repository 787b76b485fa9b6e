use Rattle.std.proofs.Common.{◌∙◌, ap, arith, not, ◌&&◌, nat_lt, get_or}
use Rattle.bool_weave.specs.Cuts.{ray_start}
use Rattle.bool_weave.specs.Claims.{is_before}
use Rattle.bool_weave.proofs.Searching.{number_is, later_than, not_before_number}
use Rattle.bool_weave.proofs.span.span_of.Goals as goal

pub returns-clause-covered : goal.returns-clause-covered
returns-clause-covered c k lt =
    let n = number_is c.args.cuts.now c.args.seg.now.end c.place_in-2.result c.requires.searchable.rising c.requires.end c.place_in-2.ensures.before c.place_in-2.ensures.after in
    let first = not_before_number c.args.cuts.now c.args.seg.now.start k c.place_in.result ray_start (omega (arith, lt)) c.place_in.ensures.before c.place_in.ensures.after in
    let last = ap (λ m. nat_lt k m) n ∙ later_than c.args.cuts.now c.args.seg.now.end k ray_start c.requires.searchable.rising c.requires.end lt in
    ap (λ b. b && nat_lt k c.place_in-2.result) first ∙ ap (λ b. not (is_before (get_or c.args.cuts.now k ray_start) c.args.seg.now.start) && b) last

pub returns-clause-bound : goal.returns-clause-bound
returns-clause-bound c =
    omega (arith, number_is c.args.cuts.now c.args.seg.now.end c.place_in-2.result c.requires.searchable.rising c.requires.end c.place_in-2.ensures.before c.place_in-2.ensures.after, c.requires.end.1)
