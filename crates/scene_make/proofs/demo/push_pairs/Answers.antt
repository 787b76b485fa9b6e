use Rattle.std.proofs.Common.{◌≡◌, ◌++◌, ◌*◌, ◌∙◌, ℕ, ap, sym, arith}
use Rattle.scene_make.specs.Draws.{after}
use Rattle.scene_make.specs.Demo.{pair_of, pairs}
use Rattle.scene_make.specs.Steps.{entries_text}
use Rattle.scene_make.proofs.TextLaws.{joined, no_pairs, pairs_more, after_more}
use Rattle.scene_make.proofs.demo.push_pairs.Goals as goal

pub loop-i-init : goal.loop-i-init
loop-i-init c = record { text = no_pairs c.args.n c.args.text.now.items; draws = c.new-draws.ensures }

pub loop-i-preserved : goal.loop-i-preserved
loop-i-preserved c =
    let n = c.args.n in
    let i = c.loop-i.i in
    record {
      text =
          joined (pairs n i) (pair_of (after n (5 * i)) i) c.args.text.now.items c.loop-i.text.items c.push_pair.new.text.items
          (c.in_ok-push_pair.ensures.text ∙ ap (λ x. c.loop-i.text.items ++ entries_text (pair_of x i)) c.loop-i.invariant.draws) c.loop-i.invariant.text
          ∙ ap (λ es. c.args.text.now.items ++ entries_text es) (sym (pairs_more n i));
      draws = c.push_pair.ensures.draws ∙ ap (λ (x : ℕ). after x 5) c.loop-i.invariant.draws ∙ sym (after_more n i);
    }

pub returns : goal.returns
returns c =
    let end : c.loop-i.i ≡ 1000 = omega (arith, c.loop-i.auto.i-end, c.loop-i-test.false) in
    c.loop-i.invariant.text ∙ ap (λ i. c.args.text.now.items ++ entries_text (pairs c.args.n i)) end
