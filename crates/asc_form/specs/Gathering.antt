-- The words of the code: attributes are gathered by name while a text is read, and the objects keep them at the end.
use Rattle.std.specs.Prelude.{◌≡◌, List, [], ◌∷◌, ◌++◌, map, cond, All, Option, None, Some}
use Rattle.std.specs.Map.{lookup}
use Rattle.name_core.specs.Same.{same_name}
use Rattle.name_core.specs.declared.name.Name.{Name}
use Rattle.object_set.specs.Keeping.{kept_after}
use Rattle.object_set.specs.Objects.{Parts, member_names}
use Rattle.object_set.specs.TextValues.{IsTextValue}
use Rattle.object_set.specs.declared.kept.KeptAttr.{KeptAttr}
use Rattle.directory.specs.Listing.{Listing}
use Rattle.directory.specs.Walks.{Entries, object_of, body_weight}

-- names, and the attributes that each is to keep, in the order in which they were read
abbrev pub Gathered : Type 0
Gathered = List (Name × List KeptAttr)

abbrev pub pairs_in : Option (List KeptAttr) → List KeptAttr
pairs_in None = []
pairs_in (Some pairs) = pairs

-- what was gathered for a name
abbrev pub gathered_of : Gathered → Name → List KeptAttr
gathered_of gathered a = pairs_in (lookup (same_name a) gathered)

abbrev pub keeping : Parts → List KeptAttr → Parts
keeping object pairs = record object { kept = kept_after object.kept pairs }

-- each object keeps what there is for its name
abbrev pub settled_by : (Name → List KeptAttr) → Entries → Entries
settled_by pairs objects = map (λ e. (e.0, keeping e.1 (pairs e.0))) objects

abbrev pub settled : Entries → Gathered → Entries
settled objects gathered = settled_by (gathered_of gathered) objects

abbrev pub AreTexts : List KeptAttr → Type 0
AreTexts pairs = All (λ (k : KeptAttr). IsTextValue k.value) pairs

-- something was gathered only for names that are there, and the values are texts
pub record IsGathered (objects : Entries) (gathered : Gathered) : Type 0 where
  pub there : (a : Name) → object_of objects a ≡ None → lookup (same_name a) gathered ≡ None
  pub texts : (a : Name) → AreTexts (gathered_of gathered a)

-- these are there for one name now
abbrev pub Puts : Name → List KeptAttr → Gathered → Gathered → Type 0
Puts name pairs old new = (a : Name) → lookup (same_name a) new ≡ cond (same_name name a) (Some pairs) (lookup (same_name a) old)

-- one name was gathered for once more
abbrev pub Gathers : Name → List KeptAttr → Gathered → Gathered → Type 0
Gathers name pairs old new = (a : Name) → gathered_of new a ≡ cond (same_name a name) (gathered_of old name ++ pairs) (gathered_of old a)

-- a name's object keeps what was gathered for it, and the others are as before
pub record Settles (name : Name) (pairs : List KeptAttr) (old new : Listing) : Type 0 where
  pub title : new.title ≡ old.title
  pub objects : (rest : Gathered) → lookup (same_name name) rest ≡ None → settled new.objects rest ≡ settled old.objects ((name, pairs) ∷ rest)
  pub there : (rest : Gathered) → IsGathered old.objects ((name, pairs) ∷ rest) → lookup (same_name name) rest ≡ None → IsGathered new.objects rest

-- two objects are of one kind and name the same names
abbrev pub HaveSameMembers : Parts → Parts → Type 0
HaveSameMembers o p = (member_names o.body ≡ member_names p.body) × (body_weight o.body ≡ body_weight p.body)

-- a is there, and the object is of its kind and names the same names
abbrev pub KeepsNames : Entries → Name → Parts → Type 0
KeepsNames dir a o = (p : Parts) × (object_of dir a ≡ Some p) × HaveSameMembers o p
