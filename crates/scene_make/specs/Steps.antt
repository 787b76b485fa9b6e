-- The steps in which the text of a demo is put together.
use Rattle.std.specs.Prelude.{ℕ, zero, suc, List, [], ◌∷◌, ◌++◌}
use Rattle.tree_forms.specs.declared.Op.TheVariants.{U}
use Rattle.comb_tree.specs.declared.node.ListEntry.{ListEntry}
use Rattle.word_values.specs.Matrices.{identity}
use Rattle.directory.specs.Walks.{Entries}
use Rattle.transcript.specs.Lines.{text_of}
use Rattle.asc_form.specs.Written.{objects_lines}
use Rattle.scene_make.specs.Demo.{region_name}

-- the lines of objects
abbrev pub entries_text : Entries → List ℕ
entries_text objects = text_of (objects_lines objects)

abbrev pub region_entry : ℕ → ListEntry
region_entry i = record { op = U; name = region_name i; placement = identity }

-- the first so many regions, each with u
unfoldable pub entries_to : ℕ → List ListEntry
entries_to zero = []
entries_to (suc i) = entries_to i ++ region_entry i ∷ []
