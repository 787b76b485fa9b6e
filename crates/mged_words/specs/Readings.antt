-- What reading names, lines and a script gave.
use Rattle.std.specs.Prelude.{◌≡◌, ℕ, ℤ, List, [], ◌∷◌, Option, Some, None, Result, Ok, Err, map, take, drop, is_none, unwrap_or, true, false}
use Rattle.lattice_core.specs.declared.placement.Placement.{Placement}
use Rattle.lattice_core.specs.declared.ray.Dir.{Dir}
use Rattle.lattice_core.specs.declared.view.View.{View}
use Rattle.slant_ray.specs.declared.ray.SlantRay.{SlantRay}
use Rattle.word_values.specs.Matrices.{placement_read, identity}
use Rattle.region_attr.specs.Attrs.{is_setting}
use Rattle.region_attr.specs.Keys.{key_of}
use Rattle.region_attr.specs.declared.attr.AttrFault.{AttrFault}
use Rattle.region_attr.specs.declared.attr.AttrFault.TheVariants.{UnknownKey, BadValue}
use Rattle.command_set.specs.Lawful.{KeyAndValue}
use Rattle.command_set.specs.declared.command.Command.{Command}
use Rattle.command_set.specs.declared.command.Command.TheVariants.{Bad}
use Rattle.command_set.specs.declared.refusal.Refusal.{Refusal}
use Rattle.put_form.specs.declared.fault.PutFault.{PutFault}
use Rattle.mged_words.specs.Commands.{refusal_of_put, numbers_fault, placement_fault, slant_by, slant_numbers, slant_refusal, view_numbers, view_of, view_refusal}
use Rattle.mged_words.specs.Entries.{command_entry}
use Rattle.mged_words.specs.Scripts.{script_of}
use Rattle.mged_words.specs.declared.command.ScriptCommand.{ScriptCommand}
use Rattle.mged_words.specs.declared.fault.LineFault.{LineFault}
use Rattle.mged_words.specs.declared.fault.LineFault.TheVariants as line
use Rattle.mged_words.specs.declared.script.ScriptFault.{ScriptFault}
use Rattle.mged_words.specs.declared.script.ScriptFault.TheVariants.{At, Memory}

-- a refusal was answered where one holds, unless memory ran out
abbrev pub HasFault : {T : Type 0} → Result T LineFault → Option Refusal → Type 0
HasFault (Ok value) fault = fault ≡ None
HasFault (Err (line.Refused refusal)) fault = fault ≡ Some refusal
HasFault (Err line.Memory) fault = Unit {0}

-- why the words of an object are refused, as the fault of their line
abbrev pub line_fault_of : PutFault → LineFault
line_fault_of PutFault.Memory = line.Memory
line_fault_of fault = line.Refused (refusal_of_put fault)

-- what a call gave is that command, or its refusal, unless memory ran out
abbrev pub IsRead : Result Command LineFault → Command → Type 0
IsRead (Ok made) command = made ≡ command
IsRead (Err (line.Refused refusal)) command = Bad refusal ≡ command
IsRead (Err line.Memory) command = Unit {0}

-- the first refusal that holds, else what was read
abbrev pub or_refused : {T : Type 0} → List (Option Refusal) → T → Result T Refusal
or_refused [] value = Ok value
or_refused (Some refusal ∷ rest) value = Err refusal
or_refused (None ∷ rest) value = or_refused rest value

-- the placement of sixteen numbers, after the names before them were read
abbrev pub matrix_read : ℕ → List (Option ℤ) → Result Placement Refusal
matrix_read step numbers = or_refused (numbers_fault 4 step numbers ∷ placement_fault 4 (placement_read numbers) ∷ []) (unwrap_or (placement_read numbers) identity)

-- the six numbers of a view, of which the first three are those of its corner
abbrev pub six_numbers : List (List ℕ) → List (Option ℤ)
six_numbers atoms = view_numbers (take 3 atoms) (drop 3 atoms)

-- a view, where it has no fault
abbrev pub view_unless_fault : View → Result View Refusal
view_unless_fault view = or_refused (view_refusal view ∷ []) view

-- the view of six numbers, of which the first has this word
abbrev pub view_read : ℕ → Dir → List (Option ℤ) → Result View Refusal
view_read word dir numbers = or_refused (numbers_fault word 1 numbers ∷ view_refusal (view_of dir numbers) ∷ []) (view_of dir numbers)

-- the six numbers of a ray in a lattice direction, of which the first three are those of its origin
abbrev pub six_steps : List (List ℕ) → List (Option ℤ)
six_steps atoms = slant_numbers (take 3 atoms) (drop 3 atoms)

-- the ray of six numbers, of which the first is word 2
abbrev pub slant_read : List (Option ℤ) → Result SlantRay Refusal
slant_read numbers = or_refused (numbers_fault 2 1 numbers ∷ slant_refusal (slant_by numbers) ∷ []) (slant_by numbers)

-- what a call gave is the setting of a key and a value, or why there is none
abbrev pub IsSettingRead : Result KeyAndValue AttrFault → List ℕ → List ℕ → Type 0
IsSettingRead (Ok setting) key value = (setting ≡ record { key = key; value = value }) × (is_none (key_of key) ≡ false) × (is_setting key value ≡ true)
IsSettingRead (Err UnknownKey) key value = is_none (key_of key) ≡ true
IsSettingRead (Err BadValue) key value = (is_none (key_of key) ≡ false) × (is_setting key value ≡ false)

-- what a call gave is what the script is read as, unless memory ran out
abbrev pub IsScript : Result (List ScriptCommand) ScriptFault → List ℕ → Type 0
IsScript (Ok commands) text = script_of text ≡ Ok (map command_entry commands)
IsScript (Err (At flaw)) text = script_of text ≡ Err flaw
IsScript (Err Memory) text = Unit {0}
