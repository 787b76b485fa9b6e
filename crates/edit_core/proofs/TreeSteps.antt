-- What the calls on trees answer, in the words of the edits.
use Rattle.std.proofs.Common.{◌≡◌, ◌≤◌, ◌<◌, ◌+◌, ◌∙◌, ℕ, zero, suc, List, [], ◌∷◌, ◌++◌, length, map, filter, Bool, true, false, not, cond, Option, Some, None, Result, Ok, Err, inl, inr, All, refl, ap, sym, subst, arith}
use Rattle.std.specs.Prelude.{◌||◌, is_none, unwrap_or}
use Rattle.std.specs.Option.{option_map}
use Rattle.std.specs.List.{Contains, list_any}
use Rattle.std.proofs.lemmas.List.{length-map, get_or-map, map-append}
use Rattle.std.proofs.lemmas.List.Elements.{All-map, All-append, All-filter}
use Rattle.std.proofs.lemmas.Bool.{lt-leb, le-leb}
use Rattle.tree_forms.specs.Trees.{Tree, Leaf, Join, leaves, map_leaves}
use Rattle.name_core.specs.declared.name.Name.{Name}
use Rattle.name_core.specs.Same.{same_name}
use Rattle.lattice_core.specs.declared.limit.TheConstants.{COORD}
use Rattle.lattice_core.specs.declared.placement.Placement.{Placement}
use Rattle.lattice_core.specs.Limits.{IsWithin}
use Rattle.comb_tree.specs.declared.node.ListEntry.{ListEntry}
use Rattle.comb_tree.specs.declared.fault.TreeFault.{TreeFault}
use Rattle.comb_tree.specs.declared.fault.TreeFault.TheVariants as fault
use Rattle.comb_tree.specs.Nodes.{Comb, Member, members}
use Rattle.comb_tree.specs.Lists.{member, tree_of_list, HasListForm, HasList}
use Rattle.comb_tree.specs.Changes.{map_members, placed, stays, without, is_among, first_absent, first_lost_head}
use Rattle.comb_tree.specs.Outcomes.{IsAppended, IsRemoved}
use Rattle.comb_tree.proofs.Written.{members_of_list}
use Rattle.command_set.specs.Lawful.{AreNear}
use Rattle.command_set.specs.declared.refusal.Refusal.{Refusal}
use Rattle.command_set.specs.declared.refusal.Refusal.TheVariants.{NotList, Absent, Heads, Members}
use Rattle.edit_core.specs.ListForms.{list_of}
use Rattle.edit_core.specs.Refused.{first_refusal, when, over_members}
use Rattle.edit_core.specs.Steps.{tree_answer, Answers, list_or_empty, names_in, IsLawful, IsTree, IsLess, append_refusal, remove_refusal, place_refusal}
use Rattle.edit_core.proofs.ListLaws.{list_is, list_back}

abbrev pub Near : Member → Type 0
Near m = IsWithin COORD m.placement.shift

-- ---- the list that a tree has
pub list_found : (t : Comb) (l : List ListEntry) → HasList t l → list_of t ≡ Some l
list_found t l h = ap list_of (sym h.tree) ∙ list_back l ∙ ap (λ (x : List ListEntry). Some x) h.first

none_by : (t : Comb) (o : Option (List ListEntry)) → list_of t ≡ o → (HasListForm t → ⊥) → o ≡ None
none_by t None e none = refl
none_by t (Some l) e none = absurd (none (l, (list_is t l e).tree))

pub no_list : (t : Comb) → (HasListForm t → ⊥) → list_of t ≡ None
no_list t none = none_by t (list_of t) refl none

-- ---- lawful trees
pub lawful_list : (l : List ListEntry) → length l ≤ 4096 → AreNear l → IsLawful (tree_of_list l)
lawful_list l few near = record {
  few = subst (λ (ms : List Member). length ms ≤ 4096) (sym (members_of_list l)) (subst (λ (n : ℕ). n ≤ 4096) (sym (length-map l member)) few);
  near = subst (λ (ms : List Member). All Near ms) (sym (members_of_list l)) (All-map Near member l near);
}

all_unmap : (l : List ListEntry) → All Near (map member l) → AreNear l
all_unmap l h = λ k d lt. subst Near (get_or-map member l k d (member d) lt) (h k (member d) (subst (λ (n : ℕ). k < n) (sym (length-map l member)) lt))

pub near_list : (t : Comb) (l : List ListEntry) → HasList t l → IsLawful t → AreNear l
near_list t l h lawful =
    let same : members t ≡ map member l = ap members (sym h.tree) ∙ members_of_list l in
    all_unmap l (subst (λ (ms : List Member). All Near ms) same lawful.near)

few_list : (t : Comb) (l : List ListEntry) → HasList t l → IsLawful t → length l ≤ 4096
few_list t l h lawful =
    let same : members t ≡ map member l = ap members (sym h.tree) ∙ members_of_list l in
    let len : length (members t) ≡ length l = ap length same ∙ length-map l member in
    subst (λ (n : ℕ). n ≤ 4096) len lawful.few

-- ---- how many members there may be
pub few_members : (n : ℕ) → n ≤ 4096 → over_members n ≡ None
few_members n le = ap (λ (b : Bool). when b (Members n)) (lt-leb (4096 + 1) n (omega (arith, le)))

pub many_members : (n m : ℕ) → m ≡ n → 4096 < m → over_members n ≡ Some (Members m)
many_members n m e lt = ap (λ (b : Bool). when b (Members n)) (le-leb (4096 + 1) n (omega (arith, e, lt))) ∙ ap (λ (x : ℕ). Some (Members x)) (sym e)

only_none : (a : Option Refusal) → a ≡ None → first_refusal (a ∷ []) ≡ None
only_none a e = ap (λ (x : Option Refusal). first_refusal (x ∷ [])) e

only_some : (a : Option Refusal) (r : Refusal) → a ≡ Some r → first_refusal (a ∷ []) ≡ Some r
only_some a r e = ap (λ (x : Option Refusal). first_refusal (x ∷ [])) e

-- ---- the tree of a list
pub made_tree : (l : List ListEntry) (t : Comb) → t ≡ tree_of_list l → length l ≤ 4096 → AreNear l → IsTree (tree_of_list l) t
made_tree l t is few near = record { is = is; lawful = subst (λ (x : Comb). IsLawful x) (sym is) (lawful_list l few near) }

pub few_only : (n : ℕ) → n ≤ 4096 → first_refusal (over_members n ∷ []) ≡ None
few_only n le = only_none (over_members n) (few_members n le)

-- ---- appending
append_listed : (name : Name) (list own : List ListEntry) (old : Comb) → list_of old ≡ Some own → append_refusal name list old ≡ first_refusal (over_members (length (own ++ list)) ∷ [])
append_listed name list own old e = ap (λ (o : Option (List ListEntry)). first_refusal (when (is_none o) (NotList name) ∷ over_members (length (unwrap_or o [] ++ list)) ∷ [])) e

unlisted : (name : Name) (rest : List (Option Refusal)) (old : Comb) → list_of old ≡ None → first_refusal (when (is_none (list_of old)) (NotList name) ∷ rest) ≡ Some (NotList name)
unlisted name rest old e = ap (λ (o : Option (List ListEntry)). first_refusal (when (is_none o) (NotList name) ∷ rest)) e

pub append_answers : (name : Name) (list : List ListEntry) (old new : Comb) (r : Result (Unit {0}) TreeFault) → IsLawful old → AreNear list → IsAppended r old list new
    → Answers (append_refusal name list old) (IsTree (tree_of_list (list_or_empty old ++ list))) (tree_answer name r new)
append_answers name list old new (Ok u) lawful near h =
    let own = h.0 in
    let found = list_found old own h.1 in
    let is : new ≡ tree_of_list (list_or_empty old ++ list) = h.2 ∙ ap (λ (o : Option (List ListEntry)). tree_of_list (unwrap_or o [] ++ list)) (sym found) in
    let fits : IsLawful new = subst (λ (x : Comb). IsLawful x) (sym h.2) (lawful_list (own ++ list) h.3 (All-append (λ (e : ListEntry). IsWithin COORD e.placement.shift) own list (near_list old own h.1 lawful) near)) in
    (append_listed name list own old found ∙ few_only (length (own ++ list)) h.3, record { is = is; lawful = fits })
append_answers name list old new (Err fault.NotList) lawful near h = (tt, inr (unlisted name _ old (no_list old h.0)))
append_answers name list old new (Err (fault.Members n)) lawful near h =
    (tt, inr (append_listed name list h.0 old (list_found old h.0 h.1) ∙ only_some _ (Members n) (many_members (length (h.0 ++ list)) n h.2 h.3)))
append_answers name list old new (Err fault.Memory) lawful near h = (tt, inl refl)
append_answers name list old new (Err (fault.Absent n)) lawful near h = absurd h
append_answers name list old new (Err (fault.Heads n)) lawful near h = absurd h

-- ---- removing
remove_listed : (name : Name) (names : List Name) (own : List ListEntry) (old : Comb) → list_of old ≡ Some own
    → remove_refusal name names old ≡ first_refusal (option_map Absent (first_absent names own) ∷ option_map Heads (first_lost_head (is_among names) own) ∷ [])
remove_listed name names own old e =
    ap (λ (o : Option (List ListEntry)). first_refusal (when (is_none o) (NotList name) ∷ option_map Absent (first_absent names (unwrap_or o [])) ∷ option_map Heads (first_lost_head (is_among names) (unwrap_or o [])) ∷ [])) e

abbrev two : Option Name → Option Name → Option Refusal
two absent head = first_refusal (option_map Absent absent ∷ option_map Heads head ∷ [])

two_is : (absent head a h : Option Name) → absent ≡ a → head ≡ h → two absent head ≡ two a h
two_is absent head a h e f = ap (λ (x : Option Name). two x head) e ∙ ap (λ (x : Option Name). two a x) f

abbrev pub named : List Member → List Name
named ms = map (λ m. m.name) ms

fewer_step : (b : Bool) (m : Member) (rest less : List Member) (a : Name) → (Contains (named less) a → Contains (named rest) a) → Contains (named (cond b (m ∷ less) less)) a → Contains (named (m ∷ rest)) a
fewer_step true m rest less a below (zero, lt, is) = (0, omega arith, is)
fewer_step true m rest less a below (suc i, lt, is) = let r = below (i, omega (arith, lt), is) in (suc r.0, omega (arith, r.1), r.2)
fewer_step false m rest less a below c = let r = below c in (suc r.0, omega (arith, r.1), r.2)

pull : (b : Bool) (e : ListEntry) (less : List ListEntry) → map member (cond b (e ∷ less) less) ≡ cond b (member e ∷ map member less) (map member less)
pull true e less = refl
pull false e less = refl

pub fewer : (gone : Name → Bool) (l : List ListEntry) (a : Name) → Contains (named (map member (without gone l))) a → Contains (named (map member l)) a
fewer gone [] a c = c
fewer gone (e ∷ es) a c =
    fewer_step (stays gone e) (member e) (map member es) (map member (without gone es)) a (fewer gone es a) (subst (λ (ms : List Member). Contains (named ms) a) (pull (stays gone e) e (without gone es)) c)

pub names_listed : (t : Comb) (l : List ListEntry) → t ≡ tree_of_list l → names_in t ≡ named (map member l)
names_listed t l e = ap names_in e ∙ ap named (members_of_list l)

length_filter_step : (b : Bool) (e : ListEntry) (less : List ListEntry) (n : ℕ) → length less ≤ n → length (cond b (e ∷ less) less) ≤ n + 1
length_filter_step true e less n le = omega (arith, le)
length_filter_step false e less n le = omega (arith, le)

without_short : (gone : Name → Bool) (l : List ListEntry) → length (without gone l) ≤ length l
without_short gone [] = omega arith
without_short gone (e ∷ es) = let step = length_filter_step (stays gone e) e (without gone es) (length es) (without_short gone es) in omega (arith, step)

pub remove_answers : (name : Name) (names : List Name) (old new : Comb) (r : Result (Unit {0}) TreeFault) → IsLawful old → IsRemoved r old names new
    → Answers (remove_refusal name names old) (IsLess old (tree_of_list (without (is_among names) (list_or_empty old)))) (tree_answer name r new)
remove_answers name names old new (Ok u) lawful h =
    let own = h.0 in
    let gone = is_among names in
    let found = list_found old own h.1 in
    let short : length (without gone own) ≤ 4096 = omega (arith, without_short gone own, few_list old own h.1 lawful) in
    let near : AreNear (without gone own) = All-filter (stays gone) (λ (e : ListEntry). IsWithin COORD e.placement.shift) own (near_list old own h.1 lawful) in (
      remove_listed name names own old found ∙ two_is _ _ None None h.2 h.3,
      record {
        is = h.4 ∙ ap (λ (o : Option (List ListEntry)). tree_of_list (without gone (unwrap_or o []))) (sym found);
        lawful = subst (λ (x : Comb). IsLawful x) (sym h.4) (lawful_list (without gone own) short near);
        names = λ a c. subst (λ (ns : List Name). Contains ns a) (sym (names_listed old own (sym h.1.tree))) (fewer gone own a (subst (λ (ns : List Name). Contains ns a) (names_listed new (without gone own) h.4) c));
      },
    )
remove_answers name names old new (Err fault.NotList) lawful h = (tt, inr (unlisted name _ old (no_list old h.0)))
remove_answers name names old new (Err (fault.Absent n)) lawful h =
    (tt, inr (remove_listed name names h.0 old (list_found old h.0 h.1) ∙ ap (λ (x : Option Name). two x (first_lost_head (is_among names) h.0)) h.2))
remove_answers name names old new (Err (fault.Heads n)) lawful h =
    (tt, inr (remove_listed name names h.0 old (list_found old h.0 h.1) ∙ two_is _ _ None (Some n) h.2 h.3))
remove_answers name names old new (Err fault.Memory) lawful h = (tt, inl refl)
remove_answers name names old new (Err (fault.Members n)) lawful h = absurd h

-- ---- placing
map_leaves_of : (f : Member → Member) (t : Tree Member) → leaves (map_leaves f t) ≡ map f (leaves t)
map_leaves_of f (Leaf m) = refl
map_leaves_of f (Join op l r) = ap (λ (xs : List Member). xs ++ leaves (map_leaves f r)) (map_leaves_of f l) ∙ ap (λ (xs : List Member). map f (leaves l) ++ xs) (map_leaves_of f r) ∙ sym (map-append f (leaves l) (leaves r))

pub members_of : (f : Member → Member) (t : Comb) → members (map_members f t) ≡ map f (members t)
members_of f None = refl
members_of f (Some t) = map_leaves_of f t

near_placed : (b : Bool) (by : Placement) (m : Member) → IsWithin COORD by.shift → Near m → Near (cond b (record m { placement = by }) m)
near_placed true by m near h = near
near_placed false by m near h = h

name_placed : (b : Bool) (by : Placement) (m : Member) → (cond b (record m { placement = by }) m).name ≡ m.name
name_placed true by m = refl
name_placed false by m = refl

pub names_placed : (name : Name) (by : Placement) (ms : List Member) → named (map (placed name by) ms) ≡ named ms
names_placed name by [] = refl
names_placed name by (m ∷ ms) = ap (λ (n : Name). n ∷ named (map (placed name by) ms)) (name_placed (same_name m.name name) by m) ∙ ap (λ (ns : List Name). m.name ∷ ns) (names_placed name by ms)

pub placed_fits : (name : Name) (by : Placement) (old new : Comb) → IsLawful old → IsWithin COORD by.shift → new ≡ map_members (placed name by) old → IsLess old (map_members (placed name by) old) new
placed_fits name by old new lawful near is =
    let same : members new ≡ map (placed name by) (members old) = ap members is ∙ members_of (placed name by) old in
    record {
      is = is;
      lawful = record {
        few = subst (λ (n : ℕ). n ≤ 4096) (sym (ap length same ∙ length-map (members old) (placed name by))) lawful.few;
        near = subst (λ (ms : List Member). All Near ms) (sym same) (All-map Near (placed name by) (members old) (λ k d lt. near_placed _ by _ near (lawful.near k d lt)));
      };
      names = λ a c. subst (λ (ns : List Name). Contains ns a) (ap named same ∙ names_placed name by (members old)) c;
    }

count_step : (b : Bool) (m : Member) (less : List Member) (any : Bool) → (length less ≡ 0 → any ≡ false) → length (cond b (m ∷ less) less) ≡ 0 → (b || any) ≡ false
count_step true m less any below e = absurd (omega (arith, e))
count_step false m less any below e = below e

none_named : (p : Member → Bool) (ms : List Member) → length (filter p ms) ≡ 0 → list_any p ms ≡ false
none_named p [] e = refl
none_named p (m ∷ ms) e = count_step (p m) m (filter p ms) (list_any p ms) (none_named p ms) e

some_step : (b : Bool) (m : Member) (less : List Member) (any : Bool) → ((length less ≡ 0 → ⊥) → any ≡ true) → (length (cond b (m ∷ less) less) ≡ 0 → ⊥) → (b || any) ≡ true
some_step true m less any below e = refl
some_step false m less any below e = below e

some_named : (p : Member → Bool) (ms : List Member) → (length (filter p ms) ≡ 0 → ⊥) → list_any p ms ≡ true
some_named p [] e = absurd (e refl)
some_named p (m ∷ ms) e = some_step (p m) m (filter p ms) (list_any p ms) (some_named p ms) e

abbrev at : Name → Member → Bool
at name m = same_name m.name name

pub place_absent : (name : Name) (old : Comb) → length (filter (at name) (members old)) ≡ 0 → place_refusal name old ≡ Some (Absent name)
place_absent name old e = ap (λ (b : Bool). when (not b) (Absent name)) (none_named (at name) (members old) e)

pub place_there : (name : Name) (old : Comb) → (length (filter (at name) (members old)) ≡ 0 → ⊥) → place_refusal name old ≡ None
place_there name old e = ap (λ (b : Bool). when (not b) (Absent name)) (some_named (at name) (members old) e)
