use Rattle.std.proofs.Common.{◌∙◌, ap, sym, subst}
use Rattle.object_set.specs.Objects.{IsKept}
use Rattle.object_set.specs.Keeping.{kept_after}
use Rattle.object_set.proofs.Noted.{kept_lawful}
use Rattle.object_set.proofs.object.Object.keep.Goals as goal

pub invariant_of-self : goal.invariant_of-self
invariant_of-self c = record {
  body = c.self.invariant.body;
  kept = subst IsKept (sym (c.in_ok-self-inside.ensures ∙ ap (λ ks. kept_after ks c.args.pairs.now) c.items.ensures)) (kept_lawful c.self.inside.kept c.args.pairs.now c.self.invariant.kept c.requires);
}
