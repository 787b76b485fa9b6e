-- What a cycle and a depth are that an edit is refused for, by the walks of the list that it makes.
use Rattle.std.specs.Prelude.{◌≡◌, ◌<◌, ℕ, List, [], ◌∷◌, Option, None, Some}
use Rattle.std.specs.List.{Contains}
use Rattle.name_core.specs.declared.name.Name.{Name}
use Rattle.command_set.specs.declared.command.Edit.{Edit}
use Rattle.command_set.specs.declared.refusal.Refusal.{Refusal}
use Rattle.directory.specs.Listing.{Listing}
use Rattle.directory.specs.Walks.{HasCycleThrough, IsGreatestDepth, IsSound, most_depth}
use Rattle.edit_core.specs.Edits.{made}
use Rattle.edit_core.specs.Refused.{first_refusal, exists, missing, not_comb, not_list, absent, heads, too_many, full, edited_name}

-- the refusals that are looked for before the resulting list is
abbrev pub earlier_refusals : Listing → Edit → List (Option Refusal)
earlier_refusals d edit = exists d edit ∷ missing d edit ∷ not_comb d edit ∷ not_list d edit ∷ absent d edit ∷ heads d edit ∷ too_many d edit ∷ full d edit ∷ []

-- the first of them that holds
abbrev pub earlier : Listing → Edit → Option Refusal
earlier d edit = first_refusal (earlier_refusals d edit)

-- no earlier refusal holds, and in the resulting list a walk begins and ends at the edited name
pub record ClosesCycle (d : Listing) (edit : Edit) (name : Name) : Type 0 where
  pub late : earlier d edit ≡ None
  pub is : edited_name edit ≡ Some name
  pub cycle : HasCycleThrough (made d edit).objects name

-- no earlier refusal holds, and in the resulting list no walk ends where it began, and so many combinations, over 16, are the most on a walk
pub record GoesTooDeep (d : Listing) (edit : Edit) (depth : ℕ) : Type 0 where
  pub late : earlier d edit ≡ None
  pub acyclic : (name : Name) → ¬ (HasCycleThrough (made d edit).objects name)
  pub greatest : IsGreatestDepth (made d edit).objects depth
  pub over : most_depth < depth

-- no earlier refusal holds, and the directory that the edit makes is sound
pub record StaysSound (d : Listing) (edit : Edit) (new : Listing) : Type 0 where
  pub late : earlier d edit ≡ None
  pub is : new ≡ made d edit
  pub sound : IsSound new.objects

-- one of the names is the edited one
abbrev pub PassesEdited : Edit → List Name → Type 0
PassesEdited edit names = (name : Name) × (edited_name edit ≡ Some name) × Contains names name
