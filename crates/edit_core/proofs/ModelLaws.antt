-- Exactly an accepted edit makes a version.
use Rattle.std.proofs.Common.{◌≡◌, ◌∙◌, true, false, refl, ap, Result, Ok, Err}
use Rattle.std.specs.Prelude.{◌↔◌, is_some, unwrap_or}
use Rattle.std.specs.Result.{result_ok}
use Rattle.command_set.specs.declared.command.Command.{Command}
use Rattle.command_set.specs.declared.command.Command.TheVariants.{Bad, Edit as IsEdit, Query as IsQuery, Shoot as IsShoot}
use Rattle.command_set.specs.declared.command.Edit.{Edit}
use Rattle.command_set.specs.declared.refusal.Refusal.{Refusal}
use Rattle.directory.specs.Listing.{Listing}
use Rattle.edit_core.specs.Refused.{edited}
use Rattle.edit_core.specs.Modelling.{next, commits, edit_reply, reply, is_look, look_stays, look_keeps_version, IsAccepted}

accepted_by : (d : Listing) (edit : Edit) (r : Result Listing Refusal) → edited d edit ≡ r → is_some (result_ok r) ≡ true → IsAccepted d (IsEdit edit)
accepted_by d edit (Ok made) makes e = record { edit = edit; made = made; is = refl; makes = makes }
accepted_by d edit (Err refusal) makes e = absurd (let wrong : false ≡ true = e in cc)

accepted : (d : Listing) (command : Command) → commits d command ≡ true → IsAccepted d command
accepted d (Bad refusal) e = absurd (let wrong : false ≡ true = e in cc)
accepted d (IsEdit edit) e = accepted_by d edit (edited d edit) refl e
accepted d (IsQuery query) e = absurd (let wrong : false ≡ true = e in cc)
accepted d (IsShoot shoot) e = absurd (let wrong : false ≡ true = e in cc)

pub commits_is : (d : Listing) (command : Command) → (commits d command ≡ true) ↔ IsAccepted d command
commits_is d command = (accepted d command, λ a. ap (commits d) a.is ∙ ap (λ (r : Result Listing Refusal). is_some (result_ok r)) a.makes)

pub accepted_makes : (d made : Listing) (edit : Edit) → edited d edit ≡ Ok made → (next d (IsEdit edit) ≡ made) × (reply d (IsEdit edit) ≡ Ok tt)
accepted_makes d made edit e = (ap (λ (r : Result Listing Refusal). unwrap_or (result_ok r) d) e, ap edit_reply e)

pub refused_leaves : (d : Listing) (edit : Edit) (refusal : Refusal) → edited d edit ≡ Err refusal
    → (next d (IsEdit edit) ≡ d) × (commits d (IsEdit edit) ≡ false) × (reply d (IsEdit edit) ≡ Err refusal)
refused_leaves d edit refusal e =
    (ap (λ (r : Result Listing Refusal). unwrap_or (result_ok r) d) e, ap (λ (r : Result Listing Refusal). is_some (result_ok r)) e, ap edit_reply e)

look_is_answered : (d : Listing) (command : Command) → is_look command ≡ true → reply d command ≡ Ok tt
look_is_answered d (Bad refusal) e = refl
look_is_answered d (IsEdit edit) e = absurd (let wrong : false ≡ true = e in cc)
look_is_answered d (IsQuery query) e = refl
look_is_answered d (IsShoot shoot) e = refl

pub look_leaves : (d : Listing) (command : Command) → is_look command ≡ true → (next d command ≡ d) × (commits d command ≡ false) × (reply d command ≡ Ok tt)
look_leaves d command e = (look_stays d command e, look_keeps_version d command e, look_is_answered d command e)
