use Rattle.std.proofs.Common.{◌≡◌}
use Rattle.std.specs.Arc.{arc_value}
use Rattle.command_set.specs.declared.command.Edit.TheVariants.{Make}
use Rattle.edit_core.specs.Outcomes.{IsApplied, Tells}
use Rattle.std.proofs.Common.{subst, sym, refl, Result}
use Rattle.object_set.specs.Objects.{Parts}
use Rattle.command_set.specs.declared.refusal.Refusal.{Refusal}
use Rattle.directory.specs.Edits.{appended, put_fault, Follows}
use Rattle.directory.specs.Edits as of_directory
use Rattle.edit_core.proofs.Answered.{becomes, tells, make_refusal, applied}
use Rattle.edit_core.proofs.applying.make.Goals as goal

pub returns-clause-applied : goal.returns-clause-applied
returns-clause-applied c =
    let d = c.args.directory.now in
    let name = c.args.name.now in
    let same : arc_value c.in-Ok.share ≡ c.args.object.now = c.in-Ok.ensures in
    let F : Parts → Type 0 = λ o. Follows d.objects (put_fault d.objects name o) (appended d.objects name o) c.put_shared-put.result c.put_shared-put.new.self.objects in
    let R : Result (Unit {0}) Refusal → Type 0 = λ r. IsApplied r (Make name c.args.object.now) d c.put_shared-put.new.self in
    subst R (sym c.directory_answer.ensures)
    (applied d c.put_shared-put.new.self (Make name c.args.object.now) (appended d.objects name c.args.object.now) _ refl
    (becomes d c.put_shared-put.new.self (appended d.objects name c.args.object.now) name name _ _ c.put_shared-put.result (make_refusal d name c.args.object.now) (subst F same c.put_shared-put.ensures.exact) c.put_shared-put.ensures.title))

pub returns-clause-means : goal.returns-clause-means
returns-clause-means c =
    let d = c.args.directory.now in
    let name = c.args.name.now in
    let same : arc_value c.in-Ok.share ≡ c.args.object.now = c.in-Ok.ensures in
    let T : Parts → Type 0 = λ o. of_directory.Tells (appended d.objects name o) name c.put_shared-put.result in
    let R : Result (Unit {0}) Refusal → Type 0 = λ r. Tells r (record d { objects = appended d.objects name c.args.object.now }) in
    subst R (sym c.directory_answer.ensures) (tells d (appended d.objects name c.args.object.now) name name name c.put_shared-put.result (subst T same c.put_shared-put.ensures.means))
