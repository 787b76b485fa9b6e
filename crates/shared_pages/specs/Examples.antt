-- A few pairs on pages and in buckets, and what the definitions say of them. A name is one to four bytes, and a value a number.
use Rattle.std.proofs.Common.{lit≤, lit<}
use Rattle.std.specs.Prelude.{◌≡◌, ℕ, List, [], ◌∷◌, ◌++◌, replicate, Some, None, refl}
use Rattle.name_core.specs.declared.name.Name.{Name}
use Rattle.shared_pages.specs.Buckets.{Shelves, name_number, shelf_of, row_of, bucket_of, value_of}
use Rattle.shared_pages.specs.Groups.{Groups, pages_in, firsts, group_put, AreGroups, CountsPairs}
use Rattle.shared_pages.specs.Opened.{rejoined, HasPlaces}
use Rattle.shared_pages.specs.Pages.{Pages, pairs_of, page_of, set_page, page_after, pushed, last_number}

abbrev named : ℕ → Name
named n = n ∷ []

abbrev one : ℕ → ℕ → List (Name × ℕ)
one n v = (named n, v) ∷ []

-- 12 buckets without pairs
abbrev bucketless : List (List (Name × ℕ))
bucketless = replicate 12 []

-- ---- two pages
abbrev pub two : Pages ℕ
two = (0, (named 65, 1) ∷ (named 66, 2) ∷ []) ∷ (4, one 67 3) ∷ []

pub all_pairs : pairs_of two ≡ (named 65, 1) ∷ (named 66, 2) ∷ (named 67, 3) ∷ []
all_pairs = refl

pub first_page : page_of two 0 ≡ (named 65, 1) ∷ (named 66, 2) ∷ []
first_page = refl

pub second_page : page_of two 4 ≡ one 67 3
second_page = refl

pub no_such_page : page_of two 1 ≡ []
no_such_page = refl

pub one_more : pushed two (named 68) 9 ≡ (0, (named 65, 1) ∷ (named 66, 2) ∷ []) ∷ (4, (named 67, 3) ∷ (named 68, 9) ∷ []) ∷ []
one_more = refl

pub where_it_stands : last_number (pushed two (named 68) 9) ≡ 4
where_it_stands = refl

pub in_its_place : set_page two 0 (one 66 8) ≡ (0, one 66 8) ∷ (4, one 67 3) ∷ []
in_its_place = refl

-- ---- a page that has no pairs left is dropped, and the others keep their numbers
abbrev pub three : Pages ℕ
three = (0, one 65 1) ∷ (4, one 66 2) ∷ (7, one 67 3) ∷ []

pub without_the_first : set_page three 0 [] ≡ (4, one 66 2) ∷ (7, one 67 3) ∷ []
without_the_first = refl

pub without_the_middle : set_page three 4 [] ≡ (0, one 65 1) ∷ (7, one 67 3) ∷ []
without_the_middle = refl

pub without_the_last : set_page three 7 [] ≡ (0, one 65 1) ∷ (4, one 66 2) ∷ []
without_the_last = refl

-- ---- a page holds 8 pairs
pub one_fits : page_after (4, replicate 7 (named 65, 1)) (named 66) 2 ≡ (4, replicate 7 (named 65, 1) ++ one 66 2)
one_fits = refl

pub none_fits : page_after (4, replicate 8 (named 65, 1)) (named 66) 2 ≡ (5, one 66 2)
none_fits = refl

pub behind_a_full_page : pushed ((4, replicate 8 (named 65, 1)) ∷ []) (named 66) 2 ≡ (4, replicate 8 (named 65, 1)) ∷ (5, one 66 2) ∷ []
behind_a_full_page = refl

-- ---- two groups of pages, and a tail behind them
abbrev pub closed : Groups ℕ
closed = ((0, one 65 1) ∷ (4, one 66 2) ∷ []) ∷ ((7, one 67 3) ∷ []) ∷ []

abbrev pub tail : Pages ℕ
tail = (8, (named 68, 4) ∷ (named 69, 5) ∷ []) ∷ []

pub all_pages : pages_in closed ≡ three
all_pages = refl

pub the_first_of_each : firsts closed ≡ (0, one 65 1) ∷ (7, one 67 3) ∷ []
the_first_of_each = refl

pub a_group_without_pages_is_dropped : group_put closed 0 [] ≡ ((7, one 67 3) ∷ []) ∷ []
a_group_without_pages_is_dropped = refl

pub pairs_that_are_counted : CountsPairs three (Some 3)
pairs_that_are_counted = refl

pub pairs_that_are_not : CountsPairs three None
pairs_that_are_not = tt

-- 5 pairs stand on the pages of the groups and of the tail
pub what_a_list_keeps : AreGroups closed tail 5
what_a_list_keeps = record {
  pages = record {
    rise = (lit≤ tt, (lit≤ tt, (lit≤ tt, (lit≤ tt, tt))));
    filled = ((lit< tt, lit≤ tt), ((lit< tt, lit≤ tt), ((lit< tt, lit≤ tt), ((lit< tt, lit≤ tt), tt))));
    count_is = refl;
  };
  filled = (lit< tt, (lit< tt, tt));
}

-- ---- where a name stands
pub number_of_a_name : name_number (65 ∷ 66 ∷ []) ≡ 2081
number_of_a_name = refl

pub its_shelf : shelf_of (65 ∷ 66 ∷ []) ≡ 1
its_shelf = refl

pub its_row : row_of (65 ∷ 66 ∷ []) ≡ 2
its_row = refl

pub its_bucket : bucket_of (65 ∷ 66 ∷ []) ≡ 8
its_bucket = refl

-- the number of these three bytes is 64,578, which is 252 times 256, 4 times 16, and 2; and 252 is 15 times 16, and 12
pub bucket_of_three_bytes : bucket_of (65 ∷ 66 ∷ 67 ∷ []) ≡ 12
bucket_of_three_bytes = refl

-- that of these four would be 2,001,986 = 30 times 65,521, and 36,356
pub number_of_four_bytes : name_number (65 ∷ 66 ∷ 67 ∷ 68 ∷ []) ≡ 36356
number_of_four_bytes = refl

-- 65 stands on shelf 1, in row 4, in bucket 0
abbrev pub of_one : Shelves ℕ
of_one = [] ∷ ([] ∷ [] ∷ [] ∷ [] ∷ (one 65 3 ∷ []) ∷ []) ∷ []

pub a_value : value_of of_one (named 65) ≡ Some 3
a_value = refl

pub no_value : value_of of_one (named 66) ≡ None
no_value = refl

-- ---- two names that stand in one bucket, and one that does not
abbrev pub of_three : ℕ → Shelves ℕ
of_three v = ([] ∷ [] ∷ (bucketless ++ ((97 ∷ 97 ∷ [], v) ∷ (98 ∷ 66 ∷ [], 6) ∷ []) ∷ []) ∷ []) ∷ ([] ∷ [] ∷ [] ∷ [] ∷ (one 65 3 ∷ []) ∷ []) ∷ []

pub first_in_its_bucket : value_of (of_three 5) (97 ∷ 97 ∷ []) ≡ Some 5
first_in_its_bucket = refl

pub second_in_its_bucket : value_of (of_three 5) (98 ∷ 66 ∷ []) ≡ Some 6
second_in_its_bucket = refl

pub in_another_bucket : value_of (of_three 5) (named 65) ≡ Some 3
in_another_bucket = refl

-- ---- a map that is open at 65: its bucket, its row and its shelf stand apart, and what stands in their places meanwhile does not count
abbrev pub shelves : Shelves ℕ
shelves = [] ∷ (([] ∷ []) ∷ []) ∷ ([] ∷ [] ∷ [] ∷ [] ∷ (one 66 9 ∷ []) ∷ []) ∷ []

abbrev pub shelf : List (List (List (Name × ℕ)))
shelf = [] ∷ [] ∷ [] ∷ [] ∷ (one 65 77 ∷ []) ∷ []

abbrev pub row : List (List (Name × ℕ))
row = one 65 99 ∷ []

pub places_of_65 : HasPlaces shelves 1 shelf 4 row 0 (named 65)
places_of_65 = record { shelf_is = refl; row_is = refl; bucket_is = refl; among_shelves = lit< tt; on_shelf = lit< tt; in_row = lit< tt }

abbrev pub closed_with : List (Name × ℕ) → Shelves ℕ
closed_with bucket = rejoined shelves 1 shelf 4 row 0 bucket

pub put_back : closed_with (one 65 3) ≡ [] ∷ ([] ∷ [] ∷ [] ∷ [] ∷ (one 65 3 ∷ []) ∷ []) ∷ ([] ∷ [] ∷ [] ∷ [] ∷ (one 66 9 ∷ []) ∷ []) ∷ []
put_back = refl

pub with_its_value : value_of (closed_with (one 65 3)) (named 65) ≡ Some 3
with_its_value = refl

pub without_its_value : value_of (closed_with []) (named 65) ≡ None
without_its_value = refl

pub another_name : value_of (closed_with []) (named 66) ≡ Some 9
another_name = refl
