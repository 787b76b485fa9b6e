-- What preparing a list of names answers.
use Rattle.std.specs.Prelude.{◌≡◌, List, not, find, nat_lt, cond, is_some, Option, Some, None, Result, Ok, Err}
use Rattle.std.specs.Option.{option_or, option_map}
use Rattle.name_core.specs.declared.name.Name.{Name}
use Rattle.directory.specs.Walks.{Entries, object_of}
use Rattle.scene_prep.specs.declared.fault.PrepFault.{PrepFault}
use Rattle.scene_prep.specs.declared.fault.PrepFault.TheVariants.{Missing, TooMany, Memory}
use Rattle.scene_prep.specs.Sizes.{names_size, most_size, told_size}
use Rattle.shot_core.specs.Regions.{Region}
use Rattle.scene_prep.specs.Scenes.{scene_of}

-- the first of the names that is not there
abbrev pub first_missing : Entries → List Name → Option Name
first_missing directory names = find (λ name. not (is_some (object_of directory name))) names

abbrev pub too_many : Entries → List Name → Option PrepFault
too_many directory names = cond (nat_lt most_size (names_size directory names)) (Some (TooMany (told_size (names_size directory names)))) None

-- why the names are not prepared: a missing name first, then their size
abbrev pub prep_fault : Entries → List Name → Option PrepFault
prep_fault directory names = option_or (option_map Missing (first_missing directory names)) (too_many directory names)

-- their scene, or why there is none; want of memory may stand in the place of any answer
abbrev pub IsSceneOf : Result (List Region) PrepFault → Entries → List Name → Type 0
IsSceneOf (Ok scene) directory names = (prep_fault directory names ≡ None) × (scene ≡ scene_of directory names)
IsSceneOf (Err (Missing name)) directory names = prep_fault directory names ≡ Some (Missing name)
IsSceneOf (Err (TooMany size)) directory names = prep_fault directory names ≡ Some (TooMany size)
IsSceneOf (Err Memory) directory names = Unit {0}
