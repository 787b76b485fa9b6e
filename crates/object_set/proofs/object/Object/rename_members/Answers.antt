use Rattle.std.proofs.Common.{ap, sym, subst, ◌∙◌, map}
use Rattle.object_set.specs.Objects.{Parts, IsBody, member_names}
use Rattle.object_set.specs.Renaming.{new_name}
use Rattle.object_set.proofs.Renamed.{lawful_after, names_after}
use Rattle.object_set.proofs.object.Object.rename_members.Goals as goal

pub invariant_of-self : goal.invariant_of-self
invariant_of-self c = record {
  body = subst IsBody (sym c.rename_members.ensures) (lawful_after c.args.old.now c.args.new.now c.self.inside.body c.self.invariant.body);
  kept = c.self.invariant.kept;
}

pub returns-clause-names : goal.returns-clause-names
returns-clause-names c =
    ap member_names c.rename_members.ensures
    ∙ names_after c.args.old.now c.args.new.now c.self.inside.body
    ∙ ap (λ (o : Parts). map (new_name c.args.old.now c.args.new.now) (member_names o.body)) c.self.view_is
