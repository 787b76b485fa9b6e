-- The words of the code: attributes in a map from keys to values.
use Rattle.std.specs.Prelude.{ℕ, List, [], ◌∷◌}
use Rattle.indexmap.specs.IndexMap.{insert_entry}
use Rattle.name_core.specs.declared.name.Name.{Name}
use Rattle.name_core.specs.Same.{same_name}
use Rattle.object_set.specs.declared.kept.KeptAttr.{KeptAttr}

abbrev pub attribute_of : Name × List ℕ → KeptAttr
attribute_of entry = record { name = entry.0; value = entry.1 }

-- each pair is inserted in turn
abbrev pub noted_after : List (Name × List ℕ) → List KeptAttr → List (Name × List ℕ)
noted_after entries [] = entries
noted_after entries (pair ∷ pairs) = noted_after (insert_entry same_name entries pair.name pair.value) pairs
