-- The one written text of a directory.
use Rattle.std.specs.Prelude.{ℕ, List, ◌∷◌, ◌++◌, codes, flat_map}
use Rattle.transcript.specs.Lines.{text_of}
use Rattle.put_form.specs.Written.{object_lines}
use Rattle.directory.specs.Listing.{Listing}
use Rattle.directory.specs.Walks.{Entries}

abbrev pub title_line : List ℕ → List ℕ
title_line title = codes "title {" ++ (title ++ codes "}")

abbrev pub objects_lines : Entries → List (List ℕ)
objects_lines objects = flat_map (λ e. object_lines e.0 e.1) objects

-- the title, the unit, and the lines of each object in order, each line ended by a line feed
abbrev pub written : Listing → List ℕ
written d = text_of (title_line d.title ∷ codes "units mm" ∷ objects_lines d.objects)
