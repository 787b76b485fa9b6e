-- What is kept where the memory for a picture ran out: the steps that were done.
use Rattle.std.proofs.Common.{◌≡◌, ◌∙◌, ◌++◌, ◌+◌, ℕ, zero, suc, Bool, true, false, cond, List, [], ◌∷◌, Option, None, Some, filter, map, take, drop, length, refl, sym, ap, subst, inl, inr, arith}
use Rattle.std.specs.Option.{option_map}
use Rattle.std.specs.Prelude.{slice_get}
use Rattle.std.specs.List.{range_with_len}
use Rattle.std.proofs.Math.Seq.{take-append_seam}
use Rattle.std.proofs.lemmas.List.{length-append, map-append, take-append-drop}
use Rattle.std.proofs.lemmas.List.Elements.{filter-append}
use Rattle.lattice_core.specs.declared.view.View.{View}
use Rattle.tile_shot.specs.Named.{TileName, NamedTile, is_small_name}
use Rattle.view_shot.specs.Kept.{AreMovedInPart, ArePutInPart, IsPartWay, in_turn, moved, put_in, reused, shot}
use Rattle.view_shot.specs.Steps.{HasPut, IsNotKept, found, if_kept, lacking, with_small}
use Rattle.view_shot.proofs.TileLaws.{IsLeft, found_are, key_of, lacking_are, there}

-- one list of steps and then another
pub in_turn_both : (step : List TileName → TileName → List TileName) (kept xs ys : List TileName) → in_turn step kept (xs ++ ys) ≡ in_turn step (in_turn step kept xs) ys
in_turn_both step kept [] ys = refl
in_turn_both step kept (x ∷ xs) ys = in_turn_both step (step kept x) xs ys

pub found_both : (xs ys : List (Option TileName)) → found (xs ++ ys) ≡ found xs ++ found ys
found_both [] ys = refl
found_both (None ∷ xs) ys = found_both xs ys
found_both (Some name ∷ xs) ys = ap (λ l. name ∷ l) (found_both xs ys)

lacking_both : (xs ys : List (Option TileName)) (from : ℕ) → lacking (xs ++ ys) from ≡ lacking xs from ++ lacking ys (from + length xs)
lacking_both [] ys from = let e : from ≡ from + 0 = omega arith in ap (lacking ys) e
lacking_both (None ∷ xs) ys from =
    let e : from + 1 + length xs ≡ from + suc (length xs) = omega arith in
    ap (λ l. from ∷ l) (lacking_both xs ys (from + 1) ∙ ap (λ n. lacking xs (from + 1) ++ lacking ys n) e)
lacking_both (Some name ∷ xs) ys from =
    let e : from + 1 + length xs ≡ from + suc (length xs) = omega arith in
    lacking_both xs ys (from + 1) ∙ ap (λ n. lacking xs (from + 1) ++ lacking ys n) e

-- the part of a list before an element, and with it
taken_with : {X : Type 0} (xs : List X) (i : ℕ) (x : X) (rest : List X) → drop i xs ≡ x ∷ rest → take (suc i) xs ≡ take i xs ++ x ∷ []
taken_with [] zero x rest h = absurd cc
taken_with [] (suc i) x rest h = absurd cc
taken_with (y ∷ ys) zero x rest h = let same : y ≡ x = cc in ap (λ z. z ∷ []) same
taken_with (y ∷ ys) (suc i) x rest h = ap (λ l. y ∷ l) (taken_with ys i x rest h)

pub taken_next : {X : Type 0} (xs : List X) (i : ℕ) (x : X) (rest : List X) → drop i xs ≡ x ∷ rest → take (i + 1) xs ≡ take i xs ++ x ∷ []
taken_next xs i x rest h = let e : i + 1 ≡ suc i = omega arith in ap (λ n. take n xs) e ∙ taken_with xs i x rest h

pub taken_long : {X : Type 0} (xs : List X) (i : ℕ) (x : X) (rest : List X) → drop i xs ≡ x ∷ rest → length (take i xs) ≡ i
taken_long [] zero x rest h = refl
taken_long [] (suc i) x rest h = absurd cc
taken_long (y ∷ ys) zero x rest h = refl
taken_long (y ∷ ys) (suc i) x rest h = ap (λ n. suc n) (taken_long ys i x rest h)

-- ---- the reused tiles

-- nothing was done
pub none_moved : (kept names : List TileName) → IsPartWay kept names kept
none_moved kept names = inl (0, omega arith, refl)

-- one more was moved
pub moved_next : (kept start : List TileName) (names : List (Option TileName)) (i : ℕ) (o : Option TileName) (now : List TileName) → take (i + 1) names ≡ take i names ++ o ∷ []
    → kept ≡ in_turn moved start (found (take i names)) → now ≡ in_turn moved kept (found (o ∷ [])) → now ≡ in_turn moved start (found (take (i + 1) names))
moved_next kept start names i o now more so step =
    step ∙ ap (λ k. in_turn moved k (found (o ∷ []))) so ∙ sym (in_turn_both moved start (found (take i names)) (found (o ∷ [])))
    ∙ sym (ap (in_turn moved start) (ap found more ∙ found_both (take i names) (o ∷ [])))

pub moved_part : (start : List TileName) (names : List (Option TileName)) (i : ℕ) (left : List TileName) → left ≡ in_turn moved start (found (take i names)) → AreMovedInPart start (found names) left
moved_part start names i left is =
    let front : List TileName = found (take i names) in
    let whole : found names ≡ front ++ found (drop i names) = ap found (sym (take-append-drop i names)) ∙ found_both (take i names) (drop i names) in
    let first : take (length front) (found names) ≡ front = ap (take (length front)) whole ∙ take-append_seam front (found (drop i names)) in
    (length front, omega (arith, ap length whole, length-append front (found (drop i names))), is ∙ ap (in_turn moved start) (sym first))

all_taken : (xs : List TileName) → take (length xs) xs ≡ xs
all_taken [] = refl
all_taken (x ∷ xs) = ap (λ l. x ∷ l) (all_taken xs)

pub moved_all : (start names left : List TileName) → left ≡ in_turn moved start names → AreMovedInPart start names left
moved_all start names left is = (length names, omega arith, is ∙ ap (in_turn moved start) (sym (all_taken names)))

pub part_moved : (kept all : List TileName) (names : List (Option TileName)) (left : List TileName) → names ≡ map (if_kept kept) all → AreMovedInPart kept (found names) left → IsPartWay kept all left
part_moved kept all names left is h = inl (subst (λ ms. AreMovedInPart kept ms left) (ap found is ∙ found_are kept all) h)

-- ---- the shot ones

module _ (name : ℕ → TileName) where
  -- the small ones among those that are lacking
  abbrev pub small_of : List (Option TileName) → ℕ → List TileName
  small_of names from = filter is_small_name (map name (lacking names from))

  small_both : (xs ys : List (Option TileName)) (from : ℕ) → small_of (xs ++ ys) from ≡ small_of xs from ++ small_of ys (from + length xs)
  small_both xs ys from =
      ap (λ l. filter is_small_name (map name l)) (lacking_both xs ys from)
      ∙ ap (filter is_small_name) (map-append name (lacking xs from) (lacking ys (from + length xs)))
      ∙ filter-append is_small_name (map name (lacking xs from)) (map name (lacking ys (from + length xs)))

  -- the first of those that were shot has the name of the first lacking one
  first_name : (shots : List NamedTile) (next : ℕ) (one : NamedTile) (n : TileName) (more : List TileName) (left : List NamedTile) → slice_get shots next ≡ Some one → drop next shots ≡ left → map key_of left ≡ n ∷ more → one.key ≡ n
  first_name shots next one n more [] at here keys = absurd cc
  first_name shots next one n more (first ∷ rest) at here keys =
      let both : Some one ≡ Some first = sym at ∙ there shots next first rest here in
      let same : one ≡ first = cc in
      let named : first.key ≡ n = cc in
      ap key_of same ∙ named

  module _ (names : List (Option TileName)) (shots : List NamedTile) (end : List TileName) where
    next_name : (tile next : ℕ) (kept : List TileName) (rest : List (Option TileName)) (one : NamedTile) → drop tile names ≡ None ∷ rest → IsLeft name names shots end tile next kept → slice_get shots next ≡ Some one → one.key ≡ name tile
    next_name tile next kept rest one is left at =
        first_name shots next one (name tile) (map name (lacking rest (tile + 1))) (drop next shots) at refl (left.shots ∙ ap (λ l. map name (lacking l tile)) is)

    one_put : (t : Bool) (kept : List TileName) (n : TileName) → cond t (put_in kept n) kept ≡ in_turn put_in kept (cond t (n ∷ []) [])
    one_put true kept n = refl
    one_put false kept n = refl

    -- one more tile was put into the picture
    pub one_more : (view : View) (tile next next' : ℕ) (kept kept' : List TileName) (slot : Option NamedTile) (rest : List (Option TileName)) (old new : List ℕ) → drop tile names ≡ option_map key_of slot ∷ rest
        → IsLeft name names shots end tile next kept → HasPut view tile slot shots next next' kept kept' old new → kept' ≡ in_turn put_in kept (small_of (option_map key_of slot ∷ []) tile)
    one_more view tile next next' kept kept' (Some one) rest old new is left put = put.2
    one_more view tile next next' kept kept' None rest old new is left put =
        put.4 ∙ ap (with_small kept) (next_name tile next kept rest put.0 is left put.1) ∙ one_put (is_small_name (name tile)) kept (name tile)

  pub put_more : (names : List (Option TileName)) (start : List TileName) (tile : ℕ) (kept kept' : List TileName) (o : Option TileName) → take (tile + 1) names ≡ take tile names ++ o ∷ [] → length (take tile names) ≡ tile
      → kept ≡ in_turn put_in start (small_of (take tile names) 0) → kept' ≡ in_turn put_in kept (small_of (o ∷ []) tile) → kept' ≡ in_turn put_in start (small_of (take (tile + 1) names) 0)
  put_more names start tile kept kept' o more long so step =
      let at : 0 + length (take tile names) ≡ tile = omega (arith, long) in
      let whole : small_of (take (tile + 1) names) 0 ≡ small_of (take tile names) 0 ++ small_of (o ∷ []) tile =
      ap (λ l. small_of l 0) more ∙ small_both (take tile names) (o ∷ []) 0 ∙ ap (λ n. small_of (take tile names) 0 ++ small_of (o ∷ []) n) at in
      step ∙ ap (λ k. in_turn put_in k (small_of (o ∷ []) tile)) so ∙ sym (in_turn_both put_in start (small_of (take tile names) 0) (small_of (o ∷ []) tile)) ∙ sym (ap (in_turn put_in start) whole)

  -- a list that goes on behind a part of it
  stopped : (start xs : List TileName) (x : TileName) (ys all left : List TileName) → all ≡ xs ++ x ∷ ys → left ≡ in_turn put_in start xs → ArePutInPart start all left
  stopped start xs x ys all left is so =
      (length xs, omega (arith, ap length is, length-append xs (x ∷ ys)), so ∙ ap (in_turn put_in start) (sym (ap (take (length xs)) is ∙ take-append_seam xs (x ∷ ys))))

  small_first : (t : Bool) (n : TileName) (ns : List TileName) → t ≡ true → cond t (n ∷ ns) ns ≡ n ∷ ns
  small_first true n ns is = refl
  small_first false n ns is = absurd cc

  -- there was no memory to keep the next one
  pub part_put : (kept : List TileName) (n : ℕ) (names : List (Option TileName)) (shots : List NamedTile) (end : List TileName) (tile next : ℕ) (now left : List TileName) (slot : Option NamedTile) (rest : List (Option TileName))
      → names ≡ map (if_kept kept) (map name (range_with_len 0 n)) → drop tile names ≡ option_map key_of slot ∷ rest → length (take tile names) ≡ tile
      → IsLeft name names shots end tile next now → now ≡ in_turn put_in (in_turn moved kept (found names)) (small_of (take tile names) 0) → IsNotKept slot shots next now left
      → IsPartWay kept (map name (range_with_len 0 n)) left
  part_put kept n names shots end tile next now left (Some one) rest is here long going so stop = absurd stop
  part_put kept n names shots end tile next now left None rest is here long going so stop =
      let all : List TileName = map name (range_with_len 0 n) in
      let at : 0 + length (take tile names) ≡ tile = omega (arith, long) in
      let small : is_small_name (name tile) ≡ true = ap is_small_name (sym (next_name names shots end tile next now rest stop.0 here going stop.1)) ∙ stop.2 in
      let parts : names ≡ take tile names ++ None ∷ rest = sym (take-append-drop tile names) ∙ ap (λ l. take tile names ++ l) here in
      let whole : small_of names 0 ≡ small_of (take tile names) 0 ++ name tile ∷ small_of rest (tile + 1) =
      ap (λ l. small_of l 0) parts ∙ small_both (take tile names) (None ∷ rest) 0 ∙ ap (λ m. small_of (take tile names) 0 ++ small_of (None ∷ rest) m) at
      ∙ ap (λ l. small_of (take tile names) 0 ++ l) (small_first (is_small_name (name tile)) (name tile) (small_of rest (tile + 1)) small) in
      let shot_are : small_of names 0 ≡ filter is_small_name (shot kept all) = ap (filter is_small_name) (ap (λ l. map name (lacking l 0)) is ∙ lacking_are name kept 0 n) in
      let found_all : found names ≡ reused kept all = ap found is ∙ found_are kept all in
      inr (stopped (in_turn moved kept (reused kept all)) (small_of (take tile names) 0) (name tile) (small_of rest (tile + 1)) (filter is_small_name (shot kept all)) left
      (sym shot_are ∙ whole) (stop.3 ∙ so ∙ ap (λ ms. in_turn put_in (in_turn moved kept ms) (small_of (take tile names) 0)) found_all))
