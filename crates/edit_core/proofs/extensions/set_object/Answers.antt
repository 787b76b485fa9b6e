use Rattle.std.proofs.Common.{◌≡◌, true, false, subst, sym, ◌∙◌, Result}
use Rattle.std.specs.Prelude.{is_some}
use Rattle.command_set.specs.declared.refusal.Refusal.{Refusal}
use Rattle.directory.specs.Walks.{object_of}
use Rattle.edit_core.specs.Edits.{set_object}
use Rattle.edit_core.specs.Outcomes.{Tells}
use Rattle.edit_core.specs.Steps.{Becomes, set_refusal}
use Rattle.edit_core.proofs.Answered.{lent_some, set_by_replace, set_by_put, set_tells, set_there, set_absent}
use Rattle.edit_core.proofs.extensions.set_object.Goals as goal

pub returns-then-is_some-clause-set : goal.returns-then-is_some-clause-set
returns-then-is_some-clause-set c =
    let d = c.args.directory.now in
    let name = c.args.name.now in
    let there : is_some (object_of d.objects name) ≡ true = lent_some c.get.result _ true c.get.ensures (sym c.if-is_some.true ∙ c.is_some.ensures) in
    let R : Result (Unit {0}) Refusal → Type 0 = λ r. Becomes (set_refusal d.objects name c.args.object) d (set_object d.objects name c.args.object) r c.replace-replaced.new.self in
    subst R (sym c.directory_answer.ensures) (set_by_replace d c.replace-replaced.new.self name c.args.object c.replace-replaced.result there c.replace-replaced.ensures.exact c.replace-replaced.ensures.title)

pub returns-then-is_some-clause-means : goal.returns-then-is_some-clause-means
returns-then-is_some-clause-means c =
    let d = c.args.directory.now in
    let name = c.args.name.now in
    let there : is_some (object_of d.objects name) ≡ true = lent_some c.get.result _ true c.get.ensures (sym c.if-is_some.true ∙ c.is_some.ensures) in
    let R : Result (Unit {0}) Refusal → Type 0 = λ r. Tells r (record d { objects = set_object d.objects name c.args.object }) in
    subst R (sym c.directory_answer.ensures) (set_tells d _ _ name c.replace-replaced.result (set_there d.objects name c.args.object there) c.replace-replaced.ensures.means)

pub returns-clause-set : goal.returns-clause-set
returns-clause-set c =
    let d = c.args.directory.now in
    let name = c.args.name.now in
    let absent : is_some (object_of d.objects name) ≡ false = lent_some c.get.result _ false c.get.ensures (sym c.if-is_some.false ∙ c.is_some.ensures) in
    let R : Result (Unit {0}) Refusal → Type 0 = λ r. Becomes (set_refusal d.objects name c.args.object) d (set_object d.objects name c.args.object) r c.put-put.new.self in
    subst R (sym c.directory_answer-2.ensures) (set_by_put d c.put-put.new.self name c.args.object c.put-put.result absent c.put-put.ensures.exact c.put-put.ensures.title)

pub returns-clause-means : goal.returns-clause-means
returns-clause-means c =
    let d = c.args.directory.now in
    let name = c.args.name.now in
    let absent : is_some (object_of d.objects name) ≡ false = lent_some c.get.result _ false c.get.ensures (sym c.if-is_some.false ∙ c.is_some.ensures) in
    let R : Result (Unit {0}) Refusal → Type 0 = λ r. Tells r (record d { objects = set_object d.objects name c.args.object }) in
    subst R (sym c.directory_answer-2.ensures) (set_tells d _ _ name c.put-put.result (set_absent d.objects name c.args.object absent) c.put-put.ensures.means)
