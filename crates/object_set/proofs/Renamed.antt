-- A tree whose members got another name is as long, and its leaves are as near.
use Rattle.std.proofs.Common.{◌≡◌, ◌≤◌, ◌++◌, ◌∷◌, [], List, Some, None, Bool, true, false, cond, All, refl, ap, sym, subst, ◌∙◌, length, map}
use Rattle.std.proofs.lemmas.List.{length-map, map-append}
use Rattle.std.proofs.lemmas.List.Elements.{All-map}
use Rattle.tree_forms.specs.Trees.{Tree, Leaf, Join, leaves, map_leaves}
use Rattle.name_core.specs.declared.name.Name.{Name}
use Rattle.name_core.specs.Same.{same_name}
use Rattle.lattice_core.specs.declared.limit.TheConstants.{COORD}
use Rattle.lattice_core.specs.Limits.{IsWithin}
use Rattle.region_attr.specs.declared.attr.Attr.{Attr}
use Rattle.comb_tree.specs.Nodes.{Comb, Member, members}
use Rattle.comb_tree.specs.Changes.{map_members, renamed}
use Rattle.object_set.specs.declared.object.Body.{Body}
use Rattle.object_set.specs.declared.object.Body.TheVariants as body
use Rattle.object_set.specs.Objects.{IsComb, IsBody, member_names}
use Rattle.object_set.specs.Renaming.{new_name, renamed_body}

map_leaves_of : (f : Member → Member) (t : Tree Member) → leaves (map_leaves f t) ≡ map f (leaves t)
map_leaves_of f (Leaf m) = refl
map_leaves_of f (Join op l r) = ap (λ xs. xs ++ leaves (map_leaves f r)) (map_leaves_of f l) ∙ ap (λ xs. map f (leaves l) ++ xs) (map_leaves_of f r) ∙ sym (map-append f (leaves l) (leaves r))

members_of : (f : Member → Member) (t : Comb) → members (map_members f t) ≡ map f (members t)
members_of f None = refl
members_of f (Some t) = map_leaves_of f t

near_after : (b : Bool) (new : Name) (m : Member) → IsWithin COORD m.placement.shift → IsWithin COORD (cond b (record m { name = new }) m).placement.shift
near_after true new m h = h
near_after false new m h = h

named_after : (b : Bool) (new : Name) (m : Member) → (cond b (record m { name = new }) m).name ≡ cond b new m.name
named_after true new m = refl
named_after false new m = refl

names_of_map : (old new : Name) (ms : List Member) → map (λ m. m.name) (map (renamed old new) ms) ≡ map (new_name old new) (map (λ m. m.name) ms)
names_of_map old new [] = refl
names_of_map old new (m ∷ ms) =
    ap (λ n. n ∷ map (λ x. x.name) (map (renamed old new) ms)) (named_after (same_name m.name old) new m)
    ∙ ap (λ ns. new_name old new m.name ∷ ns) (names_of_map old new ms)

comb_after : (old new : Name) (attr : Attr) (t : Comb) → IsComb attr t → IsComb attr (map_members (renamed old new) t)
comb_after old new attr t h = record {
  ranges = h.ranges;
  few = subst (λ (ms : List Member). length ms ≤ 4096) (sym (members_of (renamed old new) t)) (subst (λ n. n ≤ 4096) (sym (length-map (members t) (renamed old new))) h.few);
  near =
      subst (λ (ms : List Member). All (λ (m : Member). IsWithin COORD m.placement.shift) ms) (sym (members_of (renamed old new) t))
      (All-map (λ (m : Member). IsWithin COORD m.placement.shift) (renamed old new) (members t)
      (λ k d lt. near_after _ new _ (h.near k d lt)));
}

pub lawful_after : (old new : Name) (b : Body) → IsBody b → IsBody (renamed_body old new b)
lawful_after old new (body.Solid solid) h = h
lawful_after old new (body.Comb attr tree) h = comb_after old new attr tree h

pub names_after : (old new : Name) (b : Body) → member_names (renamed_body old new b) ≡ map (new_name old new) (member_names b)
names_after old new (body.Solid solid) = refl
names_after old new (body.Comb attr tree) = ap (map (λ m. m.name)) (members_of (renamed old new) tree) ∙ names_of_map old new (members tree)
