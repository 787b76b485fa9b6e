-- Scenes that sessions keep.
use Rattle.std.specs.Prelude.{◌≡◌, ◌⊎◌, ◌+◌, ◌≤◌, ℕ, List, Ok, IfSome}
use Rattle.std.specs.Arc.{arc_value}
use Rattle.std.specs.HashMap.{get}
use Rattle.name_core.specs.declared.name.Name.{Name}
use Rattle.name_core.specs.Same.{same_name}
use Rattle.directory.specs.Walks.{Entries}
use Rattle.scene_prep.specs.Outcomes.{IsSceneOf}
use Rattle.session_run.specs.declared.answer.Book.{Book}
use Rattle.session_run.specs.declared.keep.KeptScene.{KeptScene}
use Rattle.session_run.specs.declared.keep.Keep.{Keep}

-- a scene was not prepared later than at this version, and if it was at this one it is that of its names in the directory
pub record IsOf (version : ℕ) (directory : Entries) (kept : KeptScene) : Type 0 where
  pub not_later : kept.version ≤ version
  pub scene_is : kept.version ≡ version → IsSceneOf (Ok (arc_value kept.scene)) directory kept.names.items

-- a kept scene is that of these names in the directory of this version
abbrev pub IsKeptOf : KeptScene → ℕ → Entries → List Name → Type 0
IsKeptOf kept version directory names = IsOf version directory kept × IsSceneOf (Ok (arc_value kept.scene)) directory names

-- what a session keeps can be used with the directory of this version, the large scene and each small one
pub record IsCurrent (keep : Keep) (version : ℕ) (directory : Entries) : Type 0 where
  pub large : IfSome keep.large (IsOf version directory)
  pub small : (name : Name) → IfSome (get same_name keep.small name) (IsOf version directory)

-- an edit was accepted, which gives the next version, or nothing has changed
abbrev pub Moves : Book → Book → Type 0
Moves old new = (new.version ≡ old.version + 1) ⊎ (new ≡ old)
