use Rattle.std.proofs.Common.{◌≡◌, ◌<◌, ◌≤◌, ◌+◌, ◌∙◌, ℕ, List, [], ◌∷◌, ◌++◌, take, length, length-append, refl, ap, sym, subst, arith, add-one, Option, Some, None, false}
use Rattle.std.specs.Prelude.{slice_get, is_some, nat_le}
use Rattle.std.specs.List.{IsDistinct}
use Rattle.std.specs.Map.{keys_of}
use Rattle.std.proofs.lemmas.Bool.{lt-leb}
use Rattle.std.proofs.lemmas.List.{length-take-le}
use Rattle.std.proofs.Math.Seq.{take-length}
use Rattle.name_core.specs.declared.name.Name.{Name}
use Rattle.name_core.specs.Same.{same_name}
use Rattle.object_set.specs.Objects.{Parts}
use Rattle.directory.specs.Drafts.{gather_fault, IsFirstRefused}
use Rattle.directory.specs.Edits.{appended, judged, put_fault, first_of, when}
use Rattle.directory.specs.Walks.{Entries, IsSound, object_of, deepest, most_depth, most_objects}
use Rattle.directory.specs.declared.fault.DirFault.{DirFault}
use Rattle.directory.specs.declared.fault.DirFault.TheVariants.{Exists, Full}
use Rattle.directory.proofs.AloneLemmas.{greatest_sound, judged_none_by}
use Rattle.directory.proofs.FindLemmas.{at_within}
use Rattle.object_pages.proofs.EntryLemmas.{take_one_more}
use Rattle.directory.proofs.TakeLemmas.{front_at, front_taken, last_at, taken_distinct, taken_sound}
use Rattle.directory.proofs.TellLemmas.{first_past, judged_sound, put_rest}
use Rattle.directory.proofs.WholeLemmas.{copy_fresh}

-- A list that is gathered, and its first pair that may not be put behind those before it.

-- ---- the faults of a pair that is gathered
by_gathering : (b c : Option DirFault) (rest : List (Option DirFault)) (fault : DirFault) → first_of (b ∷ c ∷ []) ≡ Some fault → first_of (b ∷ c ∷ rest) ≡ Some fault
by_gathering (Some f) c rest fault e = e
by_gathering None (Some f) rest fault e = e
by_gathering None None rest fault e = cc

-- to put a pair is to gather it, and then to judge the list
pub gather_put : (es : Entries) (a : Name) (o : Parts) (fault : DirFault) → gather_fault es a ≡ Some fault → put_fault es a o ≡ Some fault
gather_put es a o fault e = by_gathering (when (is_some (object_of es a)) Exists) (when (nat_le most_objects (length es)) Full) _ fault e

-- a pair that is gathered has a new name, and there is room for it
pub gather_none : (es : Entries) (a : Name) → is_some (object_of es a) ≡ false → length es < most_objects → gather_fault es a ≡ None
gather_none es a none room = first_past (is_some (object_of es a)) Exists _ none ∙ first_past (nat_le most_objects (length es)) Full _ (lt-leb most_objects (length es) room)

-- ---- a list that may stand, and one that may not
pub stands_sound : (es : Entries) → deepest es ≤ most_depth → length es ≤ most_objects → IsDistinct same_name (keys_of es) → IsSound es
stands_sound es le small distinct = judged_sound es [] (judged_none_by (deepest es) [] le) small distinct

pub refused_at : (es : Entries) (i : ℕ) (k : Name) (o : Parts) (fault : DirFault) → IsDistinct same_name (keys_of es) → length es ≤ most_objects → slice_get es i ≡ Some (k, o)
    → deepest (take i es) ≤ most_depth → judged (take (i + 1) es) k ≡ Some fault → IsFirstRefused es i fault
refused_at es i k o fault distinct small at le e =
    let within : i < length es = at_within es i k o at in
    let len : length (take i es) ≡ i = length-take-le i es (omega (arith, within)) in
    let none : object_of (take i es) k ≡ None = copy_fresh es (take i es) i k o distinct at refl in
    let one : take (i + 1) es ≡ appended (take i es) k o = rw add-one (take_one_more es i (k, o) at) in
    record {
      name = k;
      object = o;
      there = at;
      before = stands_sound (take i es) le (omega (arith, len, within, small)) (taken_distinct es i distinct);
      refused = sym (put_rest (take i es) k o (ap is_some none) (omega (arith, len, within, small))) ∙ ap (λ (l : Entries). judged l k) (sym one) ∙ e;
    }

-- ---- a list with a pair more
pub first_within : (es : Entries) (i : ℕ) (fault : DirFault) → IsFirstRefused es i fault → i < length es
first_within es i fault h = at_within es i h.name h.object h.there

whole_front : (es fs : Entries) → take (length es) (es ++ fs) ≡ es
whole_front es fs = front_taken es fs (length es) (omega arith) ∙ take-length es

pub put_sound : (es : Entries) (a : Name) (o : Parts) → IsSound (appended es a o) → IsSound es × (put_fault es a o ≡ None)
put_sound es a o sound =
    let none : object_of es a ≡ None = copy_fresh (appended es a o) es (length es) a o sound.distinct (last_at es (a, o)) (sym (whole_front es ((a, o) ∷ []))) in
    let room : length es < most_objects = omega (arith, sound.small, length-append es ((a, o) ∷ [])) in (
      subst (λ (l : Entries). IsSound l) (whole_front es ((a, o) ∷ [])) (taken_sound (appended es a o) (length es) sound),
      sym (put_rest es a o (ap is_some none) room) ∙ judged_none_by (deepest (appended es a o)) a (greatest_sound (appended es a o) sound),
    )

pub first_before : (es : Entries) (e : Name × Parts) (i : ℕ) (fault : DirFault) → i < length es → IsFirstRefused (es ++ e ∷ []) i fault → IsFirstRefused es i fault
first_before es e i fault lt h =
    let front : take i (es ++ e ∷ []) ≡ take i es = front_taken es (e ∷ []) i (omega (arith, lt)) in
    record {
      name = h.name;
      object = h.object;
      there = sym (front_at es (e ∷ []) i lt) ∙ h.there;
      before = subst (λ (l : Entries). IsSound l) front h.before;
      refused = ap (λ (l : Entries). put_fault l h.name h.object) (sym front) ∙ h.refused;
    }

pair_of : (p q : Name × Parts) → Some p ≡ Some q → p ≡ q
pair_of p q e = cc

pub first_last : (es : Entries) (a : Name) (o : Parts) (fault : DirFault) → IsFirstRefused (appended es a o) (length es) fault → IsSound es × (put_fault es a o ≡ Some fault)
first_last es a o fault h =
    let front : take (length es) (appended es a o) ≡ es = whole_front es ((a, o) ∷ []) in
    let same : ◌≡◌ {A = Name × Parts} (a, o) (h.name, h.object) = pair_of (a, o) (h.name, h.object) (sym (last_at es (a, o)) ∙ h.there) in (
      subst (λ (l : Entries). IsSound l) front h.before,
      ap (λ (p : Name × Parts). put_fault es p.0 p.1) same ∙ ap (λ (l : Entries). put_fault l h.name h.object) (sym front) ∙ h.refused,
    )
