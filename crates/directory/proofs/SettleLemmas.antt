use Rattle.std.proofs.Common.{◌≡◌, inl, inr, ◌≤◌, ◌+◌, ◌∙◌, ℕ, zero, suc, cond, List, [], ◌∷◌, ◌++◌, take, map, length, refl, ap, sym, subst, add-one, Option, None, Some}
use Rattle.std.specs.Prelude.{is_some, slice_get, slice_index}
use Rattle.std.specs.List.{IsDistinct}
use Rattle.std.specs.Map.{keys_of}
use Rattle.std.proofs.lemmas.List.{take_all}
use Rattle.name_core.specs.declared.name.Name.{Name}
use Rattle.name_core.specs.Same.{same_name}
use Rattle.object_set.specs.Objects.{Parts}
use Rattle.shared_pages.specs.Buckets.{Shelves}
use Rattle.object_pages.proofs.EntryLemmas.{same_or_apart, push_here, push_other, take_one_more}
use Rattle.directory.specs.Closed.{relaxed}
use Rattle.directory.specs.Depths.{depth_kept, AreDepths}
use Rattle.directory.specs.Places.{known_depths}
use Rattle.directory.specs.Walks.{Entries, object_of, depth_within, unbounded}
use Rattle.directory.proofs.ClosedLemmas.{relaxed_here, relaxed_away}
use Rattle.directory.proofs.WalkLemmas.{missing_zero}
use Rattle.directory.proofs.WholeLemmas.{fresh, copy_fresh}

-- A list that is put on pages pair by pair, and depths by place that are put by name.

-- ---- the list
pub next_fresh : (list rest es : Entries) (k : Name) (o : Parts) → IsDistinct same_name (keys_of es) → list ++ (k, o) ∷ rest ≡ es → object_of list k ≡ None
next_fresh list rest es k o distinct is = fresh list k o rest (subst (λ (l : Entries). IsDistinct same_name (keys_of l)) (sym is) distinct)

-- ---- the depths
-- the depths of the first pairs are kept, and no others
abbrev pub HaveDepths : Entries → ℕ → Shelves ℕ → Type 0
HaveDepths es i levels = (a : Name) → depth_kept levels a ≡ cond (is_some (object_of (take i es) a)) (depth_within unbounded es a) 0

known_in : (f : Name → ℕ) (es : Entries) (i : ℕ) (k : Name) (o : Parts) → slice_get es i ≡ Some (k, o) → slice_index (map f (keys_of es)) i ≡ f k
known_in f [] i k o at = cc
known_in f (e ∷ es) zero k o at = let same : e ≡ (k, o) = cc in ap (λ (p : Name × Parts). f p.0) same
known_in f (e ∷ es) (suc i) k o at = known_in f es i k o at

pub known_at : (es : Entries) (depths : List ℕ) (i : ℕ) (k : Name) (o : Parts) → depths ≡ known_depths es → slice_get es i ≡ Some (k, o) → slice_index depths i ≡ depth_within unbounded es k
known_at es depths i k o known at = ap (λ (l : List ℕ). slice_index l i) known ∙ known_in (depth_within unbounded es) es i k o at

depth_missing : (es : Entries) (levels : Shelves ℕ) (i : ℕ) (k : Name) → object_of (take i es) k ≡ None → HaveDepths es i levels → depth_kept levels k ≡ 0
depth_missing es levels i k none have = have k ∙ ap (λ (o : Option Parts). cond (is_some o) (depth_within unbounded es k) 0) none

pub depths_next : (es : Entries) (levels now : Shelves ℕ) (i : ℕ) (k : Name) (o : Parts) (depth : ℕ) → IsDistinct same_name (keys_of es) → slice_get es i ≡ Some (k, o) → depth ≡ depth_within unbounded es k
    → HaveDepths es i levels → ((a : Name) → depth_kept now a ≡ relaxed (depth_kept levels) k depth a) → HaveDepths es (i + 1) now
depths_next es levels now i k o depth distinct at is have sets a =
    let none : object_of (take i es) k ≡ None = copy_fresh es (take i es) i k o distinct at refl in
    let one : take (i + 1) es ≡ take i es ++ (k, o) ∷ [] = rw add-one (take_one_more es i (k, o) at) in
    elim (same_or_apart a k) [
      | inl e ↦
          let here : object_of (take (i + 1) es) a ≡ Some o = ap (λ (l : Entries). object_of l a) one ∙ ap (object_of (take i es ++ (k, o) ∷ [])) e ∙ push_here (take i es) k o none in
          sets a ∙ relaxed_here (depth_kept levels) k depth a e ∙ is ∙ ap (depth_within unbounded es) (sym e) ∙ sym (ap (λ (p : Option Parts). cond (is_some p) (depth_within unbounded es a) 0) here)
      | inr apart ↦
          let same : object_of (take (i + 1) es) a ≡ object_of (take i es) a = ap (λ (l : Entries). object_of l a) one ∙ push_other (take i es) k o a apart in
          sets a ∙ relaxed_away (depth_kept levels) k depth a apart ∙ have a ∙ sym (ap (λ (p : Option Parts). cond (is_some p) (depth_within unbounded es a) 0) same)
    ]

-- a name that is not there yet has the depth 0
pub depths_skip : (es : Entries) (levels : Shelves ℕ) (i : ℕ) (k : Name) (o : Parts) (depth : ℕ) → IsDistinct same_name (keys_of es) → slice_get es i ≡ Some (k, o) → depth ≡ depth_within unbounded es k → depth ≡ 0
    → HaveDepths es i levels → HaveDepths es (i + 1) levels
depths_skip es levels i k o depth distinct at is zero_ have =
    depths_next es levels levels i k o depth distinct at is have (λ a. elim (same_or_apart a k) [
      | inl e ↦
          ap (depth_kept levels) e ∙ depth_missing es levels i k (copy_fresh es (take i es) i k o distinct at refl) have ∙ sym zero_ ∙ sym (relaxed_here (depth_kept levels) k depth a e)
      | inr apart ↦ sym (relaxed_away (depth_kept levels) k depth a apart)
    ])

all_depths : (es : Entries) (a : Name) (o : Option Parts) → object_of es a ≡ o → cond (is_some o) (depth_within unbounded es a) 0 ≡ depth_within unbounded es a
all_depths es a None none = sym (missing_zero unbounded es a none)
all_depths es a (Some o) there = refl

pub have_all : (es : Entries) (levels : Shelves ℕ) (i : ℕ) → length es ≤ i → HaveDepths es i levels → AreDepths es levels
have_all es levels i le have a =
    have a ∙ ap (λ (l : Entries). cond (is_some (object_of l a)) (depth_within unbounded es a) 0) (take_all i es le) ∙ all_depths es a (object_of es a) refl
