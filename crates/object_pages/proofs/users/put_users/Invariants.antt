use Rattle.std.proofs.Common.{◌≡◌, true, take}
use Rattle.name_core.specs.declared.name.Name.{Name}
use Rattle.comb_tree.specs.Changes.{is_among}
use Rattle.object_pages.specs.Entries.{HoldsUsers}
use Rattle.object_pages.proofs.users.put_users.Given as goal

abbrev pub invariant-loop-place : goal.invariant-loop-place
invariant-loop-place l = record {
  users : HoldsUsers (take l.place l.pairs) l.name l.names;
  kept : (x : Name) → is_among l.initial.names x ≡ true → is_among l.names x ≡ true;
}
