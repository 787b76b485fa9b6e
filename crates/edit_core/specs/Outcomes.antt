-- What applying an edit did.
use Rattle.std.specs.Prelude.{◌≡◌, ◌<◌, Result, Ok, Err}
use Rattle.name_core.specs.declared.name.Name.{Name}
use Rattle.command_set.specs.declared.command.Edit.{Edit}
use Rattle.command_set.specs.declared.refusal.Refusal.{Refusal}
use Rattle.command_set.specs.declared.refusal.Refusal.TheVariants.{Memory, Cycle, Deep}
use Rattle.directory.specs.Listing.{Listing}
use Rattle.directory.specs.Walks.{HasCycleThrough, IsGreatestDepth, IsSound, most_depth}
use Rattle.edit_core.specs.Edits.{made}
use Rattle.edit_core.specs.Refused.{edited}

-- it was applied, or there was no memory and all stayed, or it was refused and all stayed
abbrev pub IsApplied : Result (Unit {0}) Refusal → Edit → Listing → Listing → Type 0
IsApplied (Ok done) edit old new = edited old edit ≡ Ok new
IsApplied (Err Memory) edit old new = new ≡ old
IsApplied (Err refusal) edit old new = (edited old edit ≡ Err refusal) × (new ≡ old)

-- what an answer tells of the directory that the edit makes: a cycle through the name, or the depth, or soundness
abbrev pub Tells : Result (Unit {0}) Refusal → Listing → Type 0
Tells (Ok done) made = IsSound made.objects
Tells (Err (Cycle name)) made = HasCycleThrough made.objects name
Tells (Err (Deep depth)) made = ((name : Name) → ¬ (HasCycleThrough made.objects name)) × (most_depth < depth) × IsGreatestDepth made.objects depth
Tells (Err refusal) made = Unit {0}
