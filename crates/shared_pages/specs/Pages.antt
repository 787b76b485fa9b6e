-- Pairs on pages, each page under its number.
use Rattle.std.specs.Prelude.{◌≡◌, ◌<◌, ◌≤◌, ◌+◌, ℕ, zero, suc, cond, nat_eq, nat_lt, List, [], ◌∷◌, ◌++◌, length, slice_get, slice_set, remove, Option, Some, None}
use Rattle.std.specs.Option.{unwrap_or}
use Rattle.std.specs.List.{AllByRecursion}
use Rattle.std.specs.Map.{lookup, remove_entry, set_value}
use Rattle.name_core.specs.declared.name.Name.{Name}

-- so many pairs stand on a page at most
abbrev pub most_pairs : ℕ
most_pairs = 8

-- pages in order, each with its number and its pairs
abbrev pub Pages : Type 0 → Type 0
Pages V = List (ℕ × List (Name × V))

module _ {V : Type 0} where
  -- all pairs, one page after the other
  abbrev pub pairs_of : Pages V → List (Name × V)
  pairs_of [] = []
  pairs_of (p ∷ pages) = p.1 ++ pairs_of pages

  -- the pairs of the page of a number, none where there is no such page
  abbrev pub page_of : Pages V → ℕ → List (Name × V)
  page_of pages n = unwrap_or (lookup (nat_eq n) pages) []

  -- the pairs of the page at a place, none past the end
  abbrev pub pairs_at : Pages V → ℕ → List (Name × V)
  pairs_at [] i = []
  pairs_at (p ∷ pages) zero = p.1
  pairs_at (p ∷ pages) (suc i) = pairs_at pages i

  -- the pages with these pairs on the page of the number, which is dropped where it has none left
  abbrev pub set_page : Pages V → ℕ → List (Name × V) → Pages V
  set_page pages n [] = remove_entry (nat_eq n) pages
  set_page pages n (pair ∷ pairs) = set_value (nat_eq n) pages (pair ∷ pairs)

  -- the pages with a page of this number and these pairs at the place, where they had another one, or without it where there are no pairs
  abbrev pub put_at : Pages V → ℕ → ℕ → List (Name × V) → Pages V
  put_at pages i n [] = remove pages i
  put_at pages i n (pair ∷ pairs) = slice_set pages i (n, pair ∷ pairs)

  -- the number of the last page
  abbrev pub last_number : Pages V → ℕ
  last_number [] = 0
  last_number (p ∷ []) = p.0
  last_number (p ∷ q ∷ pages) = last_number (q ∷ pages)

  -- the page on which a pair after this page stands: this one, or a new one of the next number where it is full
  abbrev pub page_after : ℕ × List (Name × V) → Name → V → ℕ × List (Name × V)
  page_after p a v = cond (nat_lt (length p.1) most_pairs) (p.0, p.1 ++ (a, v) ∷ []) (p.0 + 1, (a, v) ∷ [])

  -- the pages with a pair more at the end: on the last page, or on a new one of the next number where that is full
  abbrev pub pushed : Pages V → Name → V → Pages V
  pushed [] a v = (0, (a, v) ∷ []) ∷ []
  pushed (p ∷ []) a v = cond (nat_lt (length p.1) most_pairs) (page_after p a v ∷ []) (p ∷ page_after p a v ∷ [])
  pushed (p ∷ q ∷ pages) a v = p ∷ pushed (q ∷ pages) a v

  -- the numbers rise, and the first is not less than this
  abbrev pub RiseFrom : ℕ → Pages V → Type 0
  RiseFrom least [] = Unit {0}
  RiseFrom least (p ∷ pages) = (least ≤ p.0) × RiseFrom (p.0 + 1) pages

  -- a page has 1 to 8 pairs
  abbrev pub IsFilled : ℕ × List (Name × V) → Type 0
  IsFilled p = (0 < length p.1) × (length p.1 ≤ most_pairs)

  -- what a list of pages keeps: the numbers rise, no page is empty or too long, and this many pairs stand on them
  pub record ArePages (pages : Pages V) (count : ℕ) : Type 0 where
    pub rise : RiseFrom 0 pages
    pub filled : AllByRecursion IsFilled pages
    pub count_is : count ≡ length (pairs_of pages)

  -- where the page of the number stands, or that there is none
  abbrev pub IsPlace : Pages V → ℕ → Option ℕ → Type 0
  IsPlace pages n (Some i) = (pairs : List (Name × V)) × (slice_get pages i ≡ Some (n, pairs))
  IsPlace pages n None = lookup (nat_eq n) pages ≡ None

  -- the numbers of the pages before the place are less
  abbrev pub AreBelow : Pages V → ℕ → ℕ → Type 0
  AreBelow pages n i = (k : ℕ) (p : ℕ × List (Name × V)) → slice_get pages k ≡ Some p → k < i → p.0 < n

  -- those from the place on are not
  abbrev pub AreFrom : Pages V → ℕ → ℕ → Type 0
  AreFrom pages n i = (k : ℕ) (p : ℕ × List (Name × V)) → slice_get pages k ≡ Some p → i ≤ k → n ≤ p.0

  -- so many pages have lesser numbers, no more than there are
  abbrev pub StandsFrom : Pages V → ℕ → ℕ → Type 0
  StandsFrom pages n i = (i ≤ length pages) × AreBelow pages n i × AreFrom pages n i
