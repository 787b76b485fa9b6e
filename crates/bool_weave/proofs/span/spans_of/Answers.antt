use Rattle.std.proofs.Common.{◌≡◌, ◌≤◌, ◌+◌, ◌-◌, ◌++◌, ◌∙◌, ◌∷◌, [], length, get_or, take, replicate, vec_len, pos, arith, refl, ap, rules}
use Rattle.bool_weave.specs.declared.woven.Woven.{Woven}
use Rattle.surd_order.specs.declared.position.Pos.TheVariants.{Frac}
use Rattle.bool_weave.specs.Tables.{interval_at, no_span}
use Rattle.bool_weave.proofs.Fronts.{all_next}
use Rattle.bool_weave.proofs.Filling.{leaves_more, bound_more, behind_more}
use Rattle.bool_weave.proofs.span.spans_of.Goals as goal

-- the default that an index has
abbrev nowhere : Woven
nowhere = record { instance = 0; seg = record { start = Frac (pos 0) (pos 0); start_face = 0; end = Frac (pos 0) (pos 0); end_face = 0 } }

pub loop-one-preserved : goal.loop-one-preserved
loop-one-preserved c =
    let w : Woven = get_or c.args.woven.now c.loop-one.one-index nowhere in
    let counted : vec_len c.loop-one.table ≡ length c.loop-one.table.items = search rules in
    let first : c.args.first ≤ w.instance = c.requires.first c.loop-one.one-index nowhere c.loop-one-test.true in
    let behind : vec_len c.loop-one.table + c.args.first ≤ w.instance =
    all_next (λ (v : Woven). vec_len c.loop-one.table + c.args.first ≤ v.instance) c.args.woven.now c.loop-one.one-index nowhere c.loop-one-test.true c.loop-one.invariant.behind in
    let number : (w.instance - c.args.first) + c.args.first ≡ w.instance = omega (arith, first) in
    let short : length c.loop-one.table.items ≤ w.instance - c.args.first = omega (arith, behind, counted, first) in
    let filled : c.resize.new.self.items ≡ take (w.instance - c.args.first) c.loop-one.table.items ++ replicate ((w.instance - c.args.first) - length c.loop-one.table.items) no_span =
    c.in_ok-resize.ensures.items ∙ ap (λ v. take (w.instance - c.args.first) c.loop-one.table.items ++ replicate ((w.instance - c.args.first) - vec_len c.loop-one.table) v) c.no_span.ensures
    ∙ ap (λ n. take (w.instance - c.args.first) c.loop-one.table.items ++ replicate ((w.instance - c.args.first) - n) no_span) counted in
    let pushed : c.push.new.self.items ≡ c.resize.new.self.items ++ c.span_of.result ∷ [] = c.in_ok-push.ensures.items in
    record {
      leaves = λ k i lt. leaves_more c.loop-one.table.items c.resize.new.self.items c.push.new.self.items c.args.woven.now c.loop-one.one-index c.args.first (w.instance - c.args.first) c.span_of.result w nowhere
          (interval_at c.args.cuts.now k) k c.loop-one-test.true refl number short filled pushed (c.span_of.ensures.covered k lt) (λ i. c.loop-one.invariant.leaves k i lt) i;
      bound = bound_more c.loop-one.table.items c.resize.new.self.items c.push.new.self.items c.args.woven.now c.loop-one.one-index c.args.first (w.instance - c.args.first) c.span_of.result w nowhere
          (length c.args.cuts.now - 1) short filled pushed c.loop-one.invariant.bound (omega (arith, c.span_of.ensures.bound));
      behind = behind_more c.loop-one.table.items c.resize.new.self.items c.push.new.self.items c.args.woven.now c.loop-one.one-index c.args.first (w.instance - c.args.first) c.span_of.result w nowhere
          (vec_len c.push.new.self) c.requires.order c.loop-one-test.true refl number (c.in_ok-push.ensures.len ∙ ap (λ n. n + 1) c.in_ok-resize.ensures.len);
    }
