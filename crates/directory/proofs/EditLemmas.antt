use Rattle.std.proofs.Common.{◌≡◌, ◌≢◌, ◌⊎◌, inl, inr, ◌≤◌, ◌∙◌, zero, suc, List, [], ◌∷◌, ◌++◌, map, length, refl, ap, sym, subst, arith, Option, None, Some}
use Rattle.std.specs.List.{Contains, IsDistinct}
use Rattle.std.specs.Map.{keys_of}
use Rattle.std.specs.Option.{option_map}
use Rattle.name_core.specs.declared.name.Name.{Name}
use Rattle.name_core.specs.Same.{same_name}
use Rattle.object_set.specs.Objects.{Parts, member_names}
use Rattle.object_set.specs.Renaming.{new_name, renamed_body, renamed_object}
use Rattle.object_set.specs.declared.object.Body.{Body}
use Rattle.object_set.specs.declared.object.Body.TheVariants.{Solid, Comb}
use Rattle.object_set.proofs.Renamed.{names_after}
use Rattle.directory.specs.Walks.{Entries, members_of, body_weight, comb_weight, object_of, Refers, IsWalk, combinations, IsSound, most_objects}
use Rattle.directory.specs.Edits.{appended, replaced, removed, renamed_all}
use Rattle.directory.proofs.WalkLemmas.{AddsOnlyAt}
use Rattle.shared_pages.proofs.NameLemmas.{name_tells}
use Rattle.object_pages.proofs.EntryLemmas.{same_or_apart, push_other, replace_other, remove_look, rename_gone, rename_kept}

pub same_away : (a : Name) (old new : Entries) → ((x : Name) → x ≢ a → object_of new x ≡ object_of old x) → AddsOnlyAt a old new
same_away a old new h = record {
  weight = λ x apart. let e : comb_weight (object_of new x) ≡ comb_weight (object_of old x) = ap comb_weight (h x apart) in omega arith;
  refers = λ x y apart _ r. subst (λ (o : Option Parts). Contains (members_of o) y) (h x apart) r;
}

pub push_adds : (dir : Entries) (a : Name) (o : Parts) → AddsOnlyAt a dir (appended dir a o)
push_adds dir a o = same_away a dir (dir ++ (a, o) ∷ []) (push_other dir a o)

pub replace_adds : (es : Entries) (a : Name) (o : Parts) → AddsOnlyAt a es (replaced es a o)
replace_adds es a o = same_away a es (replaced es a o) (replace_other es a o)

-- ---- a directory with fewer references
pub record IsWithin (old new : Entries) : Type 0 where
  pub weight : (x : Name) → comb_weight (object_of new x) ≤ comb_weight (object_of old x)
  pub refers : (x y : Name) → Refers new x y → Refers old x y

pub within_walk : (old new : Entries) → IsWithin old new → (w : List Name) → IsWalk new w → IsWalk old w
within_walk old new h [] k = tt
within_walk old new h (x ∷ []) k = (tt, tt)
within_walk old new h (x ∷ y ∷ w) k = (h.refers x y k.0, within_walk old new h (y ∷ w) k.1)

pub within_combinations : (old new : Entries) → IsWithin old new → (w : List Name) → combinations new w ≤ combinations old w
within_combinations old new h [] = omega arith
within_combinations old new h (x ∷ w) = omega (arith, h.weight x, within_combinations old new h w)

pub within_sound : (old new : Entries) → IsWithin old new → IsSound old → length new ≤ most_objects → IsDistinct same_name (keys_of new) → IsSound new
within_sound old new h sound small distinct = record {
  acyclic = λ a c. sound.acyclic a (c.0, within_walk old new h ((a ∷ c.0) ++ a ∷ []) c.1);
  shallow = λ w k. omega (arith, within_combinations old new h w, sound.shallow w (within_walk old new h w k));
  small = small;
  distinct = distinct;
}

pub weight_of : (o p : Option Parts) → (o ≡ p) ⊎ (o ≡ None) → comb_weight o ≤ comb_weight p
weight_of o p (inl e) = let same : comb_weight o ≡ comb_weight p = ap comb_weight e in omega arith
weight_of o p (inr e) = let same : comb_weight o ≡ 0 = ap comb_weight e in omega arith

pub refers_of : (o p : Option Parts) (y : Name) → (o ≡ p) ⊎ (o ≡ None) → Contains (members_of o) y → Contains (members_of p) y
refers_of o p y (inl e) c = subst (λ (q : Option Parts). Contains (members_of q) y) e c
refers_of o p y (inr e) c = let none : Contains [] y = subst (λ (q : Option Parts). Contains (members_of q) y) e c in absurd (omega (arith, none.1))

pub remove_within : (es : Entries) (a : Name) → IsDistinct same_name (keys_of es) → IsWithin es (removed es a)
remove_within es a h = record {
  weight = λ x. weight_of _ _ (remove_look es a x h);
  refers = λ x y c. refers_of _ _ y (remove_look es a x h) c;
}

body_renamed : (a b : Name) (o : Body) → body_weight (renamed_body a b o) ≡ body_weight o
body_renamed a b (Solid s) = refl
body_renamed a b (Comb attr tree) = refl

rename_weight : (a b : Name) (o : Option Parts) → comb_weight (option_map (renamed_object a b) o) ≡ comb_weight o
rename_weight a b None = refl
rename_weight a b (Some o) = body_renamed a b o.body

rename_member : (a b : Name) (names : List Name) (y : Name) → y ≢ b → Contains (map (new_name a b) names) y → Contains names y
rename_member a b [] y apart c = absurd (omega (arith, c.1))
rename_member a b (x ∷ names) y apart (zero, lt, is) =
    elim (name_tells x a) [
      | inl t ↦ absurd (apart (sym (rw t.0 at is)))
      | inr t ↦ (0, omega arith, rw t.0 at is)
    ]
rename_member a b (x ∷ names) y apart (suc i, lt, is) = let r = rename_member a b names y apart (i, omega arith, is) in (suc r.0, omega (arith, r.1), r.2)

rename_names : (a b : Name) (o : Option Parts) (y : Name) → y ≢ b → Contains (members_of (option_map (renamed_object a b) o)) y → Contains (members_of o) y
rename_names a b None y apart c = c
rename_names a b (Some o) y apart c =
    rename_member a b (member_names o.body) y apart (subst (λ (l : List Name). Contains l y) (names_after a b o.body) c)

pub rename_adds : (es : Entries) (a b : Name) → AddsOnlyAt b es (renamed_all es a b)
rename_adds es a b = record {
  weight = λ x apart. elim (same_or_apart x a) [
    | inl e ↦ let none : comb_weight (object_of (renamed_all es a b) x) ≡ 0 = ap comb_weight (rename_gone es a b x apart e) in omega arith
    | inr away ↦ let same : comb_weight (object_of (renamed_all es a b) x) ≡ comb_weight (object_of es x) = ap comb_weight (rename_kept es a b x apart away) ∙ rename_weight a b (object_of es x) in omega arith
  ];
  refers = λ x y apart beside c. elim (same_or_apart x a) [
    | inl e ↦ let none : Contains [] y = subst (λ (o : Option Parts). Contains (members_of o) y) (rename_gone es a b x apart e) c in absurd (omega (arith, none.1))
    | inr away ↦ rename_names a b (object_of es x) y beside (subst (λ (o : Option Parts). Contains (members_of o) y) (rename_kept es a b x apart away) c)
  ];
}
