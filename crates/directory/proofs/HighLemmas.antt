use Rattle.std.proofs.Common.{◌≡◌, inl, inr, ◌<◌, ◌≤◌, ◌∙◌, ℕ, max, true, List, [], ◌∷◌, map, refl, ap, sym, arith}
use Rattle.std.specs.Map.{keys_of}
use Rattle.std.proofs.lemmas.Bool.{cases_lt}
use Rattle.name_core.specs.declared.name.Name.{Name}
use Rattle.directory.specs.Walks.{Entries, IsSound, greatest_of, depth_within, most_depth, unbounded, deepest}
use Rattle.directory.specs.Edits.{judged_by, judged}
use Rattle.comb_tree.specs.Changes.{is_among}
use Rattle.directory.specs.Closed.{IsClosed, moved_depths, IsLowBut}
use Rattle.shared_pages.proofs.NameLemmas.{name_tells}
use Rattle.object_pages.proofs.EntryLemmas.{same_or_apart}
use Rattle.directory.proofs.WalkLemmas.{greatest_bound, within_all}
use Rattle.directory.proofs.AloneLemmas.{sound_depth, judged_none_by}
use Rattle.directory.proofs.ClosedLemmas.{closed_depths}
use Rattle.object_pages.proofs.NamesLemmas.{in_or_not}
use Rattle.directory.proofs.RenamedLemmas.{moved_new, moved_old, moved_other}

-- ---- which depths may be over 16
pub low_sound : (es : Entries) (depths : Name → ℕ) → IsSound es → IsClosed es depths → IsLowBut depths []
low_sound es depths sound h a out = omega (arith, closed_depths es depths h a, sound_depth es unbounded a sound)

pub low_same : (depths others : Name → ℕ) (high : List Name) → ((x : Name) → others x ≡ depths x) → IsLowBut depths high → IsLowBut others high
low_same depths others high same low x out = omega (arith, same x, low x out)

pub low_moved : (depths : Name → ℕ) (a b : Name) → IsLowBut depths [] → IsLowBut (moved_depths depths a b) []
low_moved depths a b low x out =
    elim (same_or_apart x b) [
      | inl e ↦ omega (arith, moved_new depths a b x e, low a refl)
      | inr apart ↦ elim (same_or_apart x a) [
        | inl e ↦ omega (arith, moved_old depths a b x apart e)
        | inr away ↦ omega (arith, moved_other depths a b x apart away, low x refl)
      ]
    ]

-- ---- the verdict from those names alone
greatest_in : (f : Name → ℕ) (names : List Name) (x : Name) → is_among names x ≡ true → f x ≤ greatest_of (map f names)
greatest_in f [] x h = cc
greatest_in f (y ∷ names) x h =
    elim (name_tells x y) [
      | inl t ↦ let same : f x ≡ f y = ap f t.1 in omega arith
      | inr t ↦ omega (arith, greatest_in f names x (rw t.0 at h))
    ]

high_bound : (es : Entries) (depths : Name → ℕ) (high : List Name) → IsClosed es depths → IsLowBut depths high → (a : Name) → depth_within unbounded es a ≤ max most_depth (greatest_of (map depths high))
high_bound es depths high h low a =
    elim (in_or_not high a) [
      | inl inside ↦ omega (arith, closed_depths es depths h a, greatest_in depths high a inside)
      | inr out ↦ omega (arith, closed_depths es depths h a, low a out)
    ]

deepest_most : (es : Entries) (depths : Name → ℕ) (high : List Name) → IsClosed es depths → IsLowBut depths high → deepest es ≤ max most_depth (greatest_of (map depths high))
deepest_most es depths high h low = greatest_bound (depth_within unbounded es) (max most_depth (greatest_of (map depths high))) (high_bound es depths high h low) (keys_of es)

deepest_least : (es : Entries) (depths : Name → ℕ) (high : List Name) → IsClosed es depths → greatest_of (map depths high) ≤ deepest es
deepest_least es depths high h = greatest_bound depths (deepest es) (λ a. omega (arith, closed_depths es depths h a, within_all unbounded es a)) high

-- the greatest of them is the greatest depth, where it is over 16
pub deepest_high : (es : Entries) (depths : Name → ℕ) (high : List Name) → IsClosed es depths → IsLowBut depths high → most_depth < greatest_of (map depths high) → deepest es ≡ greatest_of (map depths high)
deepest_high es depths high h low over = omega (arith, deepest_most es depths high h low, deepest_least es depths high h)

pub deepest_low : (es : Entries) (depths : Name → ℕ) (high : List Name) → IsClosed es depths → IsLowBut depths high → greatest_of (map depths high) ≤ most_depth → deepest es ≤ most_depth
deepest_low es depths high h low le = omega (arith, deepest_most es depths high h low)

-- and it alone decides
pub judged_high : (es : Entries) (a : Name) (depths : Name → ℕ) (high : List Name) → IsClosed es depths → IsLowBut depths high → judged es a ≡ judged_by (greatest_of (map depths high)) a
judged_high es a depths high h low =
    elim (cases_lt most_depth (greatest_of (map depths high))) [
      | inl over ↦ ap (λ (n : ℕ). judged_by n a) (deepest_high es depths high h low over)
      | inr le ↦ judged_none_by (deepest es) a (deepest_low es depths high h low le) ∙ sym (judged_none_by (greatest_of (map depths high)) a le)
    ]
