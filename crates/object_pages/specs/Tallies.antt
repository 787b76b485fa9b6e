-- How many leaves of each page name a name.
use Rattle.std.specs.Prelude.{◌≡◌, ◌+◌, ℕ, List, [], ◌∷◌, cond, nat_eq, unwrap_or, Option, Some, None}
use Rattle.std.specs.Arc.{arc_value}
use Rattle.std.specs.declared.sync.Arc.{Arc}
use Rattle.std.specs.Map.{lookup}
use Rattle.name_core.specs.declared.name.Name.{Name}
use Rattle.name_core.specs.Same.{same_name}
use Rattle.object_set.specs.Objects.{Parts}
use Rattle.shared_pages.specs.Pages.{Pages as AllPages, page_of}
use Rattle.shared_pages.specs.Buckets.{Shelves, value_of}
use Rattle.object_pages.specs.Entries.{Entries}
use Rattle.object_pages.specs.Changes.{references_of, renamed_all}
use Rattle.object_pages.specs.Members.{times}

-- pages of names with their objects
abbrev pub Pages : Type 0
Pages = AllPages Parts

-- the count at a page's number, 0 where it has none
abbrev pub count_on : List (ℕ × ℕ) → ℕ → ℕ
count_on counts number = unwrap_or (lookup (nat_eq number) counts) 0

-- one page with its count, or all counts where they are shared
abbrev pub counts_shared : {Z : Type 0} → ℕ → ℕ → Option (Arc (List (ℕ × ℕ)) Z) → List (ℕ × ℕ)
counts_shared page leaves None = (page, leaves) ∷ []
counts_shared page leaves (Some all) = arc_value all

-- the counts that are kept for a name
abbrev pub tally_of : Shelves (List (ℕ × ℕ)) → Name → List (ℕ × ℕ)
tally_of tallies a = unwrap_or (value_of tallies a) []

-- the count that is kept for a at the page's number, 0 where there is none
abbrev pub leaves_on : Shelves (List (ℕ × ℕ)) → Name → ℕ → ℕ
leaves_on tallies a number = count_on (tally_of tallies a) number

-- the counts are those of the references to a, page by page
abbrev pub AreReferences : Pages → Name → List (ℕ × ℕ) → Type 0
AreReferences pages a counts = (number : ℕ) → count_on counts number ≡ references_of (page_of pages number) a

-- on this page the names after take the place of the names before, and nothing else changes
abbrev pub Exchanges : ℕ → List Name → List Name → Shelves (List (ℕ × ℕ)) → Shelves (List (ℕ × ℕ)) → Type 0
Exchanges page before after old new =
    (a : Name) (n : ℕ) → leaves_on new a n + cond (nat_eq page n) (times before a) 0 ≡ leaves_on old a n + cond (nat_eq page n) (times after a) 0

-- b has its own counts and those of a, a has none left, and each other name keeps its own
abbrev pub MovesCounts : Name → Name → Shelves (List (ℕ × ℕ)) → Shelves (List (ℕ × ℕ)) → Type 0
MovesCounts a b old new =
    (x : Name) (n : ℕ) → leaves_on new x n ≡ cond (same_name b x) (leaves_on old b n + leaves_on old a n) (cond (same_name a x) 0 (leaves_on old x n))

-- new has these pairs on one page, and on the others what old has
abbrev pub ChangesPage : ℕ → Entries → Pages → Pages → Type 0
ChangesPage at pairs old new = (number : ℕ) → page_of new number ≡ cond (nat_eq at number) pairs (page_of old number)

-- on each page b takes the place of a, as a name and in leaves
abbrev pub RenamesPages : Name → Name → Pages → Pages → Type 0
RenamesPages a b old new = (number : ℕ) → page_of new number ≡ renamed_all (page_of old number) a b
