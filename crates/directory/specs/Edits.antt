-- What each edit makes of the list, and the first fault for which it is refused.
use Rattle.std.specs.Prelude.{◌≡◌, ◌<◌, ℕ, nat_le, nat_lt, List, [], ◌∷◌, length, not, Bool, cond, Option, None, Some, is_some, Result, Ok, Err}
use Rattle.name_core.specs.declared.name.Name.{Name}
use Rattle.object_set.specs.Objects.{Parts}
pub use Rattle.object_pages.specs.Changes.{appended, replaced, removed, without_all, renamed_all, references_of}
use Rattle.directory.specs.declared.fault.DirFault.{DirFault}
use Rattle.directory.specs.declared.fault.DirFault.TheVariants.{Exists, Missing, Full, Cycle, Deep, Memory}
use Rattle.directory.specs.Walks.{Entries, object_of, HasCycleThrough, IsGreatestDepth, IsSound, most_objects, most_depth, unbounded, deepest}

-- the first fault of those that hold
abbrev pub first_of : List (Option DirFault) → Option DirFault
first_of [] = None
first_of (None ∷ rest) = first_of rest
first_of (Some fault ∷ rest) = Some fault

abbrev pub when : Bool → DirFault → Option DirFault
when holds fault = cond holds (Some fault) None

-- why a list of this greatest depth may not stand, where a is the edited name
abbrev pub judged_by : ℕ → Name → Option DirFault
judged_by depth a = first_of (when (nat_le unbounded depth) (Cycle a) ∷ when (nat_lt most_depth depth) (Deep depth) ∷ [])

abbrev pub judged : Entries → Name → Option DirFault
judged dir a = judged_by (deepest dir) a

-- why a pair is not added: the name is there, the list is full, or the list with it may not stand
abbrev pub put_fault : Entries → Name → Parts → Option DirFault
put_fault dir a o = first_of (when (is_some (object_of dir a)) Exists ∷ when (nat_le most_objects (length dir)) Full ∷ judged (appended dir a o) a ∷ [])

-- why an object is not replaced: the name is not there, or the list with the new one may not stand
abbrev pub replace_fault : Entries → Name → Parts → Option DirFault
replace_fault dir a o = first_of (when (not (is_some (object_of dir a))) Missing ∷ judged (replaced dir a o) a ∷ [])

-- why a pair is not taken out: the name is not there
abbrev pub remove_fault : Entries → Name → Option DirFault
remove_fault dir a = when (not (is_some (object_of dir a))) Missing

-- why a name is not replaced: the new one is there, the old one is not, or the renamed list may not stand
abbrev pub rename_fault : Entries → Name → Name → Option DirFault
rename_fault dir a b = first_of (when (is_some (object_of dir b)) Exists ∷ when (not (is_some (object_of dir a))) Missing ∷ judged (renamed_all dir a b) b ∷ [])

-- want of memory may stand in the place of any answer
abbrev pub IsCause : Option DirFault → DirFault → Type 0
IsCause fault Memory = Unit {0}
IsCause fault Exists = fault ≡ Some Exists
IsCause fault Missing = fault ≡ Some Missing
IsCause fault Full = fault ≡ Some Full
IsCause fault (Cycle a) = fault ≡ Some (Cycle a)
IsCause fault (Deep n) = fault ≡ Some (Deep n)

-- the answer of an edit with this first fault, and the list that it leaves: the one that it makes, or the old one
abbrev pub Follows : Entries → Option DirFault → Entries → Result (Unit {0}) DirFault → Entries → Type 0
Follows old fault made (Ok u) after = (fault ≡ None) × (after ≡ made)
Follows old fault made (Err why) after = IsCause fault why × (after ≡ old)

-- what an answer tells of the list that the edit makes, where a is the edited name there
abbrev pub Tells : Entries → Name → Result (Unit {0}) DirFault → Type 0
Tells made a (Ok u) = IsSound made
Tells made a (Err (Cycle b)) = (b ≡ a) × HasCycleThrough made a
Tells made a (Err (Deep n)) = ((b : Name) → ¬ (HasCycleThrough made b)) × (most_depth < n) × IsGreatestDepth made n
Tells made a (Err Exists) = Unit {0}
Tells made a (Err Missing) = Unit {0}
Tells made a (Err Full) = Unit {0}
Tells made a (Err Memory) = Unit {0}

-- what an edit with this first fault gives: the list that it makes, or why there is none
abbrev pub Makes : Option DirFault → Entries → Result Entries DirFault → Type 0
Makes fault made (Ok after) = (fault ≡ None) × (after ≡ made)
Makes fault made (Err why) = IsCause fault why
