use Rattle.std.proofs.Common.{◌∙◌, ap, sym}
use Rattle.bool_weave.specs.Masks.{mask_of}
use Rattle.bool_weave.proofs.Held.{mask_back}
use Rattle.first_hit.proofs.FirstSearch.{single}
use Rattle.first_hit.proofs.own.is_one_alone.Goals as goal

pub returns : goal.returns
returns c = λ is. record {
  one = _;
  is = single c.args.own.now _ c.if-own-ne1.false;
  number = c.if-own-first.false;
  alone = sym c.tree.ensures ∙ sym (mask_back c.tree.result.now) ∙ ap mask_of (sym c.nodes.ensures ∙ c.is_alone.ensures is);
}
