-- Directories and commands as a machine: what a command makes of a directory, and what it is answered.
use Rattle.std.specs.Prelude.{◌≡◌, Bool, true, false, refl, Option, None, is_some, unwrap_or, Result, Ok, Err}
use Rattle.std.specs.Result.{result_ok}
use Rattle.command_set.specs.declared.command.Command.{Command}
use Rattle.command_set.specs.declared.command.Command.TheVariants.{Bad, Edit as IsEdit, Query as IsQuery, Shoot as IsShoot}
use Rattle.command_set.specs.declared.command.Edit.{Edit}
use Rattle.command_set.specs.declared.refusal.Refusal.{Refusal}
use Rattle.directory.specs.Listing.{Listing}
use Rattle.edit_core.specs.Refused.{edited}

-- the new directory, exactly where the command is an edit that is accepted
abbrev pub directory_made : Listing → Command → Option Listing
directory_made d (Bad refusal) = None
directory_made d (IsEdit edit) = result_ok (edited d edit)
directory_made d (IsQuery query) = None
directory_made d (IsShoot shoot) = None

-- the directory after a command: the new one, or else the same
abbrev pub next : Listing → Command → Listing
next d command = unwrap_or (directory_made d command) d

-- whether a command makes a new version
abbrev pub commits : Listing → Command → Bool
commits d command = is_some (directory_made d command)

-- accepted, or refused, and the directory let go
abbrev pub edit_reply : Result Listing Refusal → Result (Unit {0}) Refusal
edit_reply (Ok made) = Ok tt
edit_reply (Err refusal) = Err refusal

-- why an edit is refused; whatever is no edit has nothing to be refused for
abbrev pub reply : Listing → Command → Result (Unit {0}) Refusal
reply d (Bad refusal) = Ok tt
reply d (IsEdit edit) = edit_reply (edited d edit)
reply d (IsQuery query) = Ok tt
reply d (IsShoot shoot) = Ok tt

-- whether a command only looks at the directory: each does but an edit
abbrev pub is_look : Command → Bool
is_look (Bad refusal) = true
is_look (IsEdit edit) = false
is_look (IsQuery query) = true
is_look (IsShoot shoot) = true

-- a look changes nothing
pub look_stays : (d : Listing) (command : Command) → is_look command ≡ true → next d command ≡ d
look_stays d (Bad refusal) is = refl
look_stays d (IsEdit edit) is = absurd (let wrong : false ≡ true = is in cc)
look_stays d (IsQuery query) is = refl
look_stays d (IsShoot shoot) is = refl

-- a look makes no version
pub look_keeps_version : (d : Listing) (command : Command) → is_look command ≡ true → commits d command ≡ false
look_keeps_version d (Bad refusal) is = refl
look_keeps_version d (IsEdit edit) is = absurd (let wrong : false ≡ true = is in cc)
look_keeps_version d (IsQuery query) is = refl
look_keeps_version d (IsShoot shoot) is = refl

-- the command is an edit, which makes a directory
pub record IsAccepted (d : Listing) (command : Command) : Type 0 where
  pub edit : Edit
  pub made : Listing
  pub is : command ≡ IsEdit edit
  pub makes : edited d edit ≡ Ok made
