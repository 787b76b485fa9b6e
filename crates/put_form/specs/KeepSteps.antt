-- The words of the code: attributes to be kept.
use Rattle.std.specs.Prelude.{ℕ, List, map, find, not, Result}
use Rattle.tcl_words.specs.declared.token.Token.{Token}
use Rattle.object_set.specs.declared.kept.KeptAttr.{KeptAttr}
use Rattle.put_form.specs.Pairs.{Pair}
use Rattle.put_form.specs.Keeps.{kept_or, unnamed_at, is_named, kept_attr}
use Rattle.put_form.specs.declared.fault.PutFault.{PutFault}

-- the attributes of pairs that are in their form, or the first key that is no name
abbrev pub kept_named : List ℕ → List Token → List Pair → Result (List KeptAttr) PutFault
kept_named text tokens pairs = kept_or (unnamed_at (find (λ (p : Pair). not (is_named p)) pairs)) (map (kept_attr text tokens) pairs)
