-- Attributes that are kept of an object: the faults in their order.
use Rattle.std.proofs.Common.{◌≡◌, ◌≢◌, ◌∷◌, [], ℕ, Bool, true, false, not, List, Option, Some, None, Result, Ok, Err, refl, sym, subst}
use Rattle.std.specs.Prelude.{◌&&◌, is_some, is_none, is_ok, if◌then◌else◌}
use Rattle.name_core.specs.NameText.{read_name}
use Rattle.name_core.specs.declared.name.Name.{Name as NameOf}
use Rattle.object_set.specs.Objects.{Parts}
use Rattle.object_set.specs.declared.kept.KeptAttr.{KeptAttr}
use Rattle.put_form.specs.Keeps.{IsKeptRead}
use Rattle.put_form.specs.declared.fault.PutFault.{PutFault}
use Rattle.put_form.specs.declared.fault.PutFault.TheVariants as put
use Rattle.directory.specs.Listing.{Listing}
use Rattle.directory.specs.Walks.{Entries, object_of}
use Rattle.asc_form.specs.Progress.{Progress}
use Rattle.asc_form.specs.Reading.{unless_kind, when, keep_with, names_nothing, is_name}
use Rattle.asc_form.specs.Steps.{IsMade, named, if_named, unkept, of_put}
use Rattle.asc_form.specs.declared.fault.AscKind.{AscKind}
use Rattle.asc_form.specs.declared.fault.AscKind.TheVariants.{Attr, Name}
use Rattle.asc_form.specs.declared.kinds.CommandFault.{CommandFault}
use Rattle.asc_form.specs.declared.kinds.CommandFault.TheVariants.{Faulty}

-- ---- the faults in their order
pub unkept_other : (found : Result NameOf AscKind) (fault : PutFault) → fault ≢ put.Attr → fault ≢ PutFault.Memory → if_named found (of_put fault) ≡ unkept found fault
unkept_other found put.NoType form memory = refl
unkept_other found put.Attr form memory = absurd (form refl)
unkept_other found put.Tree form memory = refl
unkept_other found (put.Name word) form memory = refl
unkept_other found (put.Number word) form memory = refl
unkept_other found (put.Shape shape) form memory = refl
unkept_other found PutFault.Memory form memory = absurd (memory refl)

refused_by : (n : Bool) (o : Option Parts) (word : NameOf) (kind : AscKind) (made : Listing) (p : Progress)
    → IsMade (unless_kind (None ∷ when (n && is_none o) Attr ∷ when (not n) Name ∷ Some kind ∷ []) made) p (Err (if_named (if n then (if is_some o then Ok word else Err Attr) else Err Name) (Faulty kind))) p
refused_by true (Some o) word kind made p = (refl, refl)
refused_by true None word kind made p = (refl, refl)
refused_by false o word kind made p = (refl, refl)

refused : (es : Entries) (word : Option (List ℕ)) (kind : AscKind) (made : Listing) (p : Progress)
    → IsMade (unless_kind (None ∷ when (names_nothing es word) Attr ∷ when (not (is_name word)) Name ∷ Some kind ∷ []) made) p (Err (if_named (named es word) (Faulty kind))) p
refused es None kind made p = (refl, refl)
refused es (Some word) kind made p = refused_by (is_ok (read_name word)) (object_of es word) word kind made p

by_read : (p : Progress) (word : Option (List ℕ)) (fault : CommandFault) (read pairs : Result (List KeptAttr) PutFault) → pairs ≡ read → IsMade (keep_with p.made word read) p (Err fault) p → IsMade (keep_with p.made word pairs) p (Err fault) p
by_read p word fault read pairs is h = subst (λ r. IsMade (keep_with p.made word r) p (Err fault) p) (sym is) h

pub unkept_is : (p : Progress) (word : Option (List ℕ)) (fault : PutFault) (pairs : Result (List KeptAttr) PutFault) → IsKeptRead (Err fault) pairs
    → IsMade (keep_with p.made word pairs) p (Err (unkept (named p.made.objects word) fault)) p
unkept_is p word put.NoType pairs h = by_read p word _ (Err put.NoType) pairs h (refused p.made.objects word _ _ p)
unkept_is p word put.Attr pairs h = by_read p word (Faulty Attr) (Err put.Attr) pairs h (refl, refl)
unkept_is p word put.Tree pairs h = by_read p word _ (Err put.Tree) pairs h (refused p.made.objects word _ _ p)
unkept_is p word (put.Name place) pairs h = by_read p word _ (Err (put.Name place)) pairs h (refused p.made.objects word _ _ p)
unkept_is p word (put.Number place) pairs h = by_read p word _ (Err (put.Number place)) pairs h (refused p.made.objects word _ _ p)
unkept_is p word (put.Shape shape) pairs h = by_read p word _ (Err (put.Shape shape)) pairs h (refused p.made.objects word _ _ p)
unkept_is p word PutFault.Memory pairs h = tt
