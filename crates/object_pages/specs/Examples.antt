-- A few counts of leaves, and what the definitions say of them.
use Rattle.std.specs.Prelude.{◌≡◌, ℕ, List, [], ◌∷◌, None, refl}
use Rattle.object_pages.specs.Tallies.{count_on, counts_shared}

-- 2 leaves on page 4, and one on page 7
abbrev pub counts : List (ℕ × ℕ)
counts = (4, 2) ∷ (7, 1) ∷ []

pub on_a_page : count_on counts 7 ≡ 1
on_a_page = refl

pub on_another : count_on counts 5 ≡ 0
on_another = refl

pub one_page_alone : counts_shared {Z = ℕ} 4 2 None ≡ (4, 2) ∷ []
one_page_alone = refl
