-- Solids that are given by keys: the word of each form, its keys, and what is made of their numbers.
use Rattle.std.specs.Prelude.{ℕ, List, [], ◌∷◌, Option, None, Some, codes, bytes_eq, find, slice_index_or, if◌then◌else◌}
use Rattle.word_values.specs.Kinds.{coordinate_kind, normal_kind}
use Rattle.word_values.specs.declared.atoms.NumberKind.{NumberKind}
use Rattle.word_values.specs.declared.solid.SolidKind.{SolidKind}
use Rattle.word_values.specs.declared.solid.SolidKind.TheVariants as made
use Rattle.word_values.specs.declared.solid_form.SolidForm.{SolidForm}
use Rattle.word_values.specs.declared.solid_form.SolidForm.TheVariants.{Sphere, Ellipsoid, Half, Arb8, Rcc}

-- the form that a word names
abbrev pub form_of : List ℕ → Option SolidForm
form_of word =
    if bytes_eq word (codes "sph") then Some Sphere
    else (if bytes_eq word (codes "ell") then Some Ellipsoid
    else (if bytes_eq word (codes "half") then Some Half
    else (if bytes_eq word (codes "arb8") then Some Arb8
    else (if bytes_eq word (codes "rcc") then Some Rcc else None))))

-- a key, how many numbers its value has, one atom or a group of three, and of which kind they are
pub record Key : Type 0 where
  pub name : List ℕ
  pub count : ℕ
  pub kind : NumberKind

-- three lengths
abbrev pub vector_key : List ℕ → Key
vector_key name = record { name = name; count = 3; kind = coordinate_kind }

-- three whole numbers
abbrev pub normal_key : List ℕ → Key
normal_key name = record { name = name; count = 3; kind = normal_kind }

-- one length
abbrev pub number_key : List ℕ → Key
number_key name = record { name = name; count = 1; kind = coordinate_kind }

-- the keys of a solid: it has them all, in any order
abbrev pub keys_of : SolidForm → List Key
keys_of Sphere = vector_key (codes "V") ∷ number_key (codes "r") ∷ []
keys_of Ellipsoid = vector_key (codes "V") ∷ vector_key (codes "A") ∷ vector_key (codes "B") ∷ vector_key (codes "C") ∷ []
keys_of Half = normal_key (codes "N") ∷ number_key (codes "d") ∷ []
keys_of Arb8 =
    vector_key (codes "V1") ∷ vector_key (codes "V2") ∷ vector_key (codes "V3") ∷ vector_key (codes "V4")
    ∷ vector_key (codes "V5") ∷ vector_key (codes "V6") ∷ vector_key (codes "V7") ∷ vector_key (codes "V8") ∷ []
keys_of Rcc = vector_key (codes "V") ∷ vector_key (codes "H") ∷ number_key (codes "r") ∷ []

-- what is made of its numbers: an ellipsoid is read as a sphere
abbrev pub made_as : SolidForm → SolidKind
made_as Sphere = made.Sphere
made_as Ellipsoid = made.Sphere
made_as Half = made.Half
made_as Arb8 = made.Arb8
made_as Rcc = made.Rcc

-- the key at a place, counted from 0
abbrev pub key_at : SolidForm → ℕ → Key
key_at form place = slice_index_or (keys_of form) place (number_key [])

-- the key of a name
abbrev pub key_in : List Key → Option (List ℕ) → Option Key
key_in keys None = None
key_in keys (Some name) = find (λ (key : Key). bytes_eq key.name name) keys
