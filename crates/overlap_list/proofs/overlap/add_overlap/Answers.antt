use Rattle.std.proofs.Common.{rules, ◌≡◌, ◌∙◌, ◌++◌, ◌∷◌, [], Option, length, get_or, pos, vec_len, ap, sym, arith}
use Rattle.std.specs.List.{cons_option}
use Rattle.std.proofs.lemmas.List.{append-nil}
use Rattle.surd_order.specs.declared.position.Pos.TheVariants.{Frac}
use Rattle.bool_weave.specs.Claims.{intervals_of}
use Rattle.overlap_list.specs.declared.region.RegionClaims.{RegionClaims}
use Rattle.overlap_list.specs.declared.overlap.OverlapRun.{OverlapRun}
use Rattle.overlap_list.specs.Hits.{cut_at}
use Rattle.overlap_list.specs.Overlaps.{first_overlap}
use Rattle.overlap_list.proofs.Settling.{count_is, cut_is}
use Rattle.overlap_list.proofs.Overlapping.{pair_of, no_overlap, some_overlap}
use Rattle.overlap_list.proofs.overlap.add_overlap.Goals as goal

pub returns-in_default-clause-added : goal.returns-in_default-clause-added
returns-in_default-clause-added c =
    sym (append-nil c.args.runs.now.items)
    ∙ ap (λ o. c.args.runs.now.items ++ cons_option o []) (sym (no_overlap c.args.weave.now c.args.regions.now c.args.one c.args.two c.index-regions-one.result c.index-regions-two.result c.requires.one c.requires.two c.index-regions-one.is c.index-regions-two.is c.in_default.ensures))

pub returns-then-len-ge-MOST_PAIRS-clause-many : goal.returns-then-len-ge-MOST_PAIRS-clause-many
returns-then-len-ge-MOST_PAIRS-clause-many c =
    let row : length c.index-regions-one.result.claims ≡ length (intervals_of c.args.weave.now) = ap (λ (r : RegionClaims). length r.claims) c.index-regions-one.is ∙ c.requires.rows c.args.one c.index-regions-one.result c.requires.one in
    let one : length (cons_option (first_overlap c.args.weave.now c.args.regions.now (pair_of c.args.one c.args.two)) []) ≡ 1 =
    ap (λ (o : Option OverlapRun). length (cons_option o []))
    (some_overlap c.args.weave.now c.args.regions.now c.args.one c.args.two c.index-regions-one.result c.index-regions-two.result c.requires.one c.requires.two c.index-regions-one.is c.index-regions-two.is
    c.in-Some.stretch.from c.in-Some.stretch.to c.in-Some.ensures.0 (omega (arith, c.in-Some.ensures.1, row)) c.in-Some.ensures.2) in
    let counted : vec_len c.args.runs.now ≡ length c.args.runs.now.items = search rules in
    omega (arith, one, counted, c.if-len-ge-MOST_PAIRS.true, c.len.ensures)

pub bounds-cuts-stretch : goal.bounds-cuts-stretch
bounds-cuts-stretch c =
    let row : length c.index-regions-one.result.claims ≡ length (intervals_of c.args.weave.now) = ap (λ (r : RegionClaims). length r.claims) c.index-regions-one.is ∙ c.requires.rows c.args.one c.index-regions-one.result c.requires.one in
    omega (arith, row, c.in-Some.ensures.1, c.in-Some.ensures.0.some, count_is c.args.weave.now c.cuts-cuts.result.now c.cuts-cuts.ensures.cuts c.cuts-cuts.ensures.some)

pub bounds-cuts-stretch-2 : goal.bounds-cuts-stretch-2
bounds-cuts-stretch-2 c =
    let row : length c.index-regions-one.result.claims ≡ length (intervals_of c.args.weave.now) = ap (λ (r : RegionClaims). length r.claims) c.index-regions-one.is ∙ c.requires.rows c.args.one c.index-regions-one.result c.requires.one in
    omega (arith, row, c.in-Some.ensures.1, count_is c.args.weave.now c.cuts-cuts.result.now c.cuts-cuts.ensures.cuts c.cuts-cuts.ensures.some)

pub returns-clause-added : goal.returns-clause-added
returns-clause-added c =
    let row : length c.index-regions-one.result.claims ≡ length (intervals_of c.args.weave.now) = ap (λ (r : RegionClaims). length r.claims) c.index-regions-one.is ∙ c.requires.rows c.args.one c.index-regions-one.result c.requires.one in
    let counted = count_is c.args.weave.now c.cuts-cuts.result.now c.cuts-cuts.ensures.cuts c.cuts-cuts.ensures.some in
    let run : OverlapRun = record { one = c.args.one; two = c.args.two; start = get_or c.cuts-cuts.result.now c.in-Some.stretch.from (Frac (pos 0) (pos 0)); end = get_or c.cuts-cuts.result.now c.in-Some.stretch.to (Frac (pos 0) (pos 0)) } in
    let pushed : c.push.new.self.items ≡ c.args.runs.now.items ++ run ∷ [] = search rules in
    pushed
    ∙ ap (λ p. c.args.runs.now.items ++ (let r : OverlapRun = record { one = c.args.one; two = c.args.two; start = p; end = get_or c.cuts-cuts.result.now c.in-Some.stretch.to (Frac (pos 0) (pos 0)) } in r) ∷ [])
    (cut_is c.args.weave.now c.cuts-cuts.result.now c.in-Some.stretch.from (Frac (pos 0) (pos 0)) c.cuts-cuts.ensures.cuts (omega (arith, row, c.in-Some.ensures.1, c.in-Some.ensures.0.some, counted)))
    ∙ ap (λ p. c.args.runs.now.items ++ (let r : OverlapRun = record { one = c.args.one; two = c.args.two; start = cut_at c.args.weave.now c.in-Some.stretch.from; end = p } in r) ∷ [])
    (cut_is c.args.weave.now c.cuts-cuts.result.now c.in-Some.stretch.to (Frac (pos 0) (pos 0)) c.cuts-cuts.ensures.cuts (omega (arith, row, c.in-Some.ensures.1, counted)))
    ∙ ap (λ (o : Option OverlapRun). c.args.runs.now.items ++ cons_option o [])
    (sym (some_overlap c.args.weave.now c.args.regions.now c.args.one c.args.two c.index-regions-one.result c.index-regions-two.result c.requires.one c.requires.two c.index-regions-one.is c.index-regions-two.is
    c.in-Some.stretch.from c.in-Some.stretch.to c.in-Some.ensures.0 (omega (arith, c.in-Some.ensures.1, row)) c.in-Some.ensures.2))
