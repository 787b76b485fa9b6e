-- Attributes that are kept anew.
use Rattle.std.specs.Prelude.{List, [], ◌∷◌, cond}
use Rattle.name_core.specs.Same.{same_name}
use Rattle.object_set.specs.declared.kept.KeptAttr.{KeptAttr}

-- a key that is there keeps its place and takes the new value, another goes to the end
abbrev pub with_kept : List KeptAttr → KeptAttr → List KeptAttr
with_kept [] pair = pair ∷ []
with_kept (k ∷ ks) pair = cond (same_name pair.name k.name) ((record k { value = pair.value }) ∷ ks) (k ∷ with_kept ks pair)

-- each pair in turn
abbrev pub kept_after : List KeptAttr → List KeptAttr → List KeptAttr
kept_after kept [] = kept
kept_after kept (pair ∷ pairs) = kept_after (with_kept kept pair) pairs
