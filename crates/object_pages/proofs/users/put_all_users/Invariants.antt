use Rattle.std.proofs.Common.{◌≡◌, ◌<◌, ℕ, true, Some}
use Rattle.std.specs.Prelude.{slice_get}
use Rattle.std.specs.Option.{option_map}
use Rattle.name_core.specs.declared.name.Name.{Name}
use Rattle.comb_tree.specs.Changes.{is_among}
use Rattle.shared_pages.specs.Pages.{page_of}
use Rattle.object_pages.specs.Entries.{HoldsUsers}
use Rattle.object_pages.proofs.users.put_all_users.Given as goal

abbrev pub invariant-loop-place : goal.invariant-loop-place
invariant-loop-place l = record {
  users : (i n : ℕ) → i < l.place → option_map (λ c. c.0) (slice_get l.tally i) ≡ Some n → HoldsUsers (page_of l.pages n) l.name l.names;
  kept : (x : Name) → is_among l.initial.names x ≡ true → is_among l.names x ≡ true;
}
