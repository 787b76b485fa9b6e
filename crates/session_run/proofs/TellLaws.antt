-- No edit is refused for want of memory by what it asks: whatever its names are, the text of its refusal is another one.
use Rattle.std.proofs.Common.{◌≡◌, ◌++◌, ◌&&◌, Bool, true, false, not, nat_le, nat_lt, List, [], ◌∷◌, Option, Some, None, is_none, find, length, bytes_eq, codes, refl}
use Rattle.std.specs.List.{AllByRecursion, list_any}
use Rattle.std.specs.Option.{option_map}
use Rattle.name_core.specs.declared.name.Name.{Name}
use Rattle.name_core.specs.Same.{same_name}
use Rattle.comb_tree.specs.Nodes.{members}
use Rattle.comb_tree.specs.Changes.{is_among, first_absent, first_lost_head}
use Rattle.command_set.specs.Refusals.{refusal_text}
use Rattle.command_set.specs.declared.command.Edit.{Edit}
use Rattle.command_set.specs.declared.command.Edit.TheVariants.{Make, Region, Group, Remove, Kill, RenameAll, Place, Title, Keep, Set}
use Rattle.command_set.specs.declared.refusal.Refusal.{Refusal}
use Rattle.command_set.specs.declared.refusal.Refusal.TheVariants.{Exists, Missing, NotComb, NotList, Absent, Heads, Members, Full}
use Rattle.directory.specs.declared.fault.DirFault.{DirFault}
use Rattle.directory.specs.declared.fault.DirFault.TheVariants as faults
use Rattle.directory.specs.Listing.{Listing}
use Rattle.directory.specs.Walks.{most_objects}
use Rattle.directory.specs.Edits.{judged}
use Rattle.edit_core.specs.ListForms.{list_of}
use Rattle.edit_core.specs.Edits.{object_at, tree_at, own_list, made}
use Rattle.edit_core.specs.Refused.{refusal_of, first_refusal, exists, missing, not_comb, not_list, absent, heads, too_many, full, too_deep, at_name, when, is_there, is_solid, fresh, wanted, combination, listed, put, edited_name, of_judgement}

-- it does not say memory
abbrev pub IsOther : Refusal → Type 0
IsOther refusal = bytes_eq (refusal_text refusal) (codes "memory") ≡ false

abbrev pub MayBeOther : Option Refusal → Type 0
MayBeOther None = Unit {0}
MayBeOther (Some refusal) = IsOther refusal

when_other : (t : Bool) (refusal : Refusal) → IsOther refusal → MayBeOther (when t refusal)
when_other true refusal h = h
when_other false refusal h = tt

at_other : (name : Option Name) (case : Name → Option Refusal) → ((n : Name) → MayBeOther (case n)) → MayBeOther (at_name name case)
at_other None case h = tt
at_other (Some n) case h = h n

of_name : (name : Option Name) (refusal : Name → Refusal) → ((n : Name) → IsOther (refusal n)) → MayBeOther (option_map refusal name)
of_name None refusal h = tt
of_name (Some n) refusal h = h n

judged_other : (fault : Option DirFault) → MayBeOther (of_judgement fault)
judged_other None = tt
judged_other (Some (faults.Cycle name)) = refl
judged_other (Some (faults.Deep depth)) = refl
judged_other (Some faults.Exists) = tt
judged_other (Some faults.Missing) = tt
judged_other (Some faults.Full) = tt
judged_other (Some faults.Memory) = tt

absent_other : (d : Listing) (edit : Edit) → MayBeOther (absent d edit)
absent_other d (Make name object) = tt
absent_other d (Region name list) = tt
absent_other d (Group name list) = tt
absent_other d (Remove comb names) = of_name (first_absent names (own_list (object_at d comb))) Absent (λ n. refl)
absent_other d (Kill names) = tt
absent_other d (RenameAll old new) = tt
absent_other d (Place comb member placement) = when_other (not (list_any (λ m. same_name m.name member) (members (tree_at (object_at d comb))))) (Absent member) refl
absent_other d (Title text) = tt
absent_other d (Keep name pairs) = tt
absent_other d (Set name setting) = tt

heads_other : (d : Listing) (edit : Edit) → MayBeOther (heads d edit)
heads_other d (Make name object) = tt
heads_other d (Region name list) = tt
heads_other d (Group name list) = tt
heads_other d (Remove comb names) = of_name (first_lost_head (is_among names) (own_list (object_at d comb))) Heads (λ n. refl)
heads_other d (Kill names) = tt
heads_other d (RenameAll old new) = tt
heads_other d (Place comb member placement) = tt
heads_other d (Title text) = tt
heads_other d (Keep name pairs) = tt
heads_other d (Set name setting) = tt

many_other : (d : Listing) (edit : Edit) → MayBeOther (too_many d edit)
many_other d (Make name object) = tt
many_other d (Region name list) = let n = length (own_list (object_at d name) ++ list) in when_other (nat_lt 4096 n) (Members n) refl
many_other d (Group name list) = let n = length (own_list (object_at d name) ++ list) in when_other (nat_lt 4096 n) (Members n) refl
many_other d (Remove comb names) = tt
many_other d (Kill names) = tt
many_other d (RenameAll old new) = tt
many_other d (Place comb member placement) = tt
many_other d (Title text) = tt
many_other d (Keep name pairs) = tt
many_other d (Set name setting) = tt

first_other : (refusals : List (Option Refusal)) → AllByRecursion MayBeOther refusals → MayBeOther (first_refusal refusals)
first_other [] h = tt
first_other (None ∷ rest) h = first_other rest h.1
first_other (Some refusal ∷ rest) h = h.0

pub refusal_other : (d : Listing) (edit : Edit) → MayBeOther (refusal_of d edit)
refusal_other d edit =
    first_other (exists d edit ∷ missing d edit ∷ not_comb d edit ∷ not_list d edit ∷ absent d edit ∷ heads d edit ∷ too_many d edit ∷ full d edit ∷ too_deep d edit ∷ []) (
      at_other (fresh edit) (λ name. when (is_there d name) (Exists name)) (λ n. when_other (is_there d n) (Exists n) refl),
      (
        of_name (find (λ name. not (is_there d name)) (wanted edit)) Missing (λ n. refl),
        (
          at_other (combination edit) (λ name. when (is_solid (object_at d name)) (NotComb name)) (λ n. when_other (is_solid (object_at d n)) (NotComb n) refl),
          (
            at_other (listed edit) (λ name. when (is_none (list_of (tree_at (object_at d name)))) (NotList name)) (λ n. when_other (is_none (list_of (tree_at (object_at d n)))) (NotList n) refl),
            (
              absent_other d edit,
              (
                heads_other d edit,
                (
                  many_other d edit,
                  (
                    at_other (put edit) (λ name. when (not (is_there d name) && nat_le most_objects (length d.objects)) Full) (λ n. when_other (not (is_there d n) && nat_le most_objects (length d.objects)) Full refl),
                    (at_other (edited_name edit) (λ name. of_judgement (judged (made d edit).objects name)) (λ n. judged_other (judged (made d edit).objects n)), tt),
                  ),
                ),
              ),
            ),
          ),
        ),
      ),
    )
