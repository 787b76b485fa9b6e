-- The kinds of objects.
use Rattle.std.specs.Prelude.{ℕ, List, Option, None, Some, codes, bytes_eq, if◌then◌else◌}
use Rattle.word_values.specs.SolidForms.{form_of}
use Rattle.word_values.specs.declared.solid_form.SolidForm.{SolidForm}
use Rattle.put_form.specs.declared.kind.Kind.{Kind}
use Rattle.put_form.specs.declared.kind.Kind.TheVariants.{Solid, Comb}

-- `comb`, where the word is no form of a solid
abbrev pub comb_of : List ℕ → Option Kind
comb_of word = if bytes_eq word (codes "comb") then Some Comb else None

abbrev pub kind_with : List ℕ → Option SolidForm → Option Kind
kind_with word None = comb_of word
kind_with word (Some form) = Some (Solid form)

-- the kind that a word names
abbrev pub kind_of : List ℕ → Option Kind
kind_of word = kind_with word (form_of word)
