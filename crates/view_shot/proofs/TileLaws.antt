-- The tiles of a picture by what was found of them: those that are reused, and those that are shot.
use Rattle.std.proofs.Common.{◌≡◌, ◌∙◌, ◌++◌, ◌<◌, ◌≤◌, ◌+◌, ℕ, zero, suc, Bool, true, false, not, cond, List, [], ◌∷◌, Option, None, Some, is_some, Result, Ok, Err, IfOk, filter, map, drop, length, get_or, All, refl, sym, ap, ap₂, subst, arith}
use Rattle.std.proofs.lemmas.List.{drop_more, get_or-map, length-map}
use Rattle.std.proofs.lemmas.List.FromFn.{length-map-range_with_len}
use Rattle.std.specs.List.{range_with_len}
use Rattle.std.specs.Option.{option_map}
use Rattle.std.specs.Prelude.{slice_get, slice_index_or, vec_len}
use Rattle.std.proofs.lemmas.List.Elements.{All-cons, All-nil}
use Rattle.tile_shot.specs.Same.{same_name}
use Rattle.tile_shot.specs.Named.{TileName, NamedTile, is_small_name}
use Rattle.lattice_core.specs.declared.view.View.{View}
use Rattle.std.specs.Arc.{arc_value}
use Rattle.shot_core.specs.Regions.{Region}
use Rattle.view_shot.specs.declared.job.TileJob.{TileJob}
use Rattle.view_shot.specs.Jobs.{IsShotOf}
use Rattle.view_shot.specs.Kept.{after_picture, in_turn, is_kept, moved, put_in, reused, shot, tile_name}
use Rattle.view_shot.specs.Steps.{AreFresh, AreKept, AreLacking, CanPut, HasPut, IsPut, found, if_kept, lacking, with_small}
use Rattle.view_shot.proofs.KeptLaws.{all_fresh_moved, are_kept_moved, differ, fresh_with}

-- those that were found are reused
found_step : (t : Bool) (name : TileName) (rest : List (Option TileName)) → found (cond t (Some name) None ∷ rest) ≡ cond t (name ∷ found rest) (found rest)
found_step true name rest = refl
found_step false name rest = refl

pub found_are : (kept names : List TileName) → found (map (if_kept kept) names) ≡ reused kept names
found_are kept [] = refl
found_are kept (n ∷ ns) = found_step (is_kept kept n) n (map (if_kept kept) ns) ∙ ap (λ l. cond (is_kept kept n) (n ∷ l) l) (found_are kept ns)

kept_step : (t : Bool) (kept : List TileName) (name : TileName) (rest : List (Option TileName)) → is_kept kept name ≡ t → AreKept kept (found rest) → AreKept kept (found (cond t (Some name) None ∷ rest))
kept_step true kept name rest is h = (is, h)
kept_step false kept name rest is h = h

pub found_kept : (kept names : List TileName) → AreKept kept (found (map (if_kept kept) names))
found_kept kept [] = tt
found_kept kept (n ∷ ns) = kept_step (is_kept kept n) kept n (map (if_kept kept) ns) refl (found_kept kept ns)

-- one more is looked at
pub first_kept : (kept : List TileName) (name : Option TileName) (rest : List (Option TileName)) → AreKept kept (found (name ∷ rest)) → AreKept kept (found (name ∷ []))
first_kept kept None rest h = tt
first_kept kept (Some n) rest h = (h.0, tt)

pub rest_kept : (kept : List TileName) (name : Option TileName) (rest : List (Option TileName)) → AreKept kept (found (name ∷ rest)) → AreKept (in_turn moved kept (found (name ∷ []))) (found rest)
rest_kept kept None rest h = h
rest_kept kept (Some n) rest h = are_kept_moved kept n (found rest) h.1

pub moved_one : (kept : List TileName) (name : Option TileName) (rest : List (Option TileName)) → in_turn moved (in_turn moved kept (found (name ∷ []))) (found rest) ≡ in_turn moved kept (found (name ∷ rest))
moved_one kept None rest = refl
moved_one kept (Some n) rest = refl

-- the numbers of those that are lacking
pub lacking_within : (names : List (Option TileName)) (from n : ℕ) → from + length names ≤ n → All (λ tile. tile < n) (lacking names from)
lacking_within [] from n le = All-nil _
lacking_within (None ∷ rest) from n le = All-cons (λ (tile : ℕ). tile < n) from (lacking rest (from + 1)) (omega (arith, le)) (lacking_within rest (from + 1) n (omega (arith, le)))
lacking_within (Some name ∷ rest) from n le = lacking_within rest (from + 1) n (omega (arith, le))

pub lacking_few : (names : List (Option TileName)) (from : ℕ) → length (lacking names from) ≤ length names
lacking_few [] from = omega arith
lacking_few (None ∷ rest) from = omega (arith, lacking_few rest (from + 1))
lacking_few (Some name ∷ rest) from = omega (arith, lacking_few rest (from + 1))

-- a number of a view's tile, and what names it
module _ (name : ℕ → TileName) where
  shot_step : (t : Bool) (from : ℕ) (rest : List (Option TileName)) → map name (lacking (cond t (Some (name from)) None ∷ rest) from) ≡ cond (not t) (name from ∷ map name (lacking rest (from + 1))) (map name (lacking rest (from + 1)))
  shot_step true from rest = refl
  shot_step false from rest = refl

  -- those that are lacking are shot
  pub lacking_are : (kept : List TileName) (from n : ℕ) → map name (lacking (map (if_kept kept) (map name (range_with_len from n))) from) ≡ shot kept (map name (range_with_len from n))
  lacking_are kept from zero = refl
  lacking_are kept from (suc n) =
      shot_step (is_kept kept (name from)) from (map (if_kept kept) (map name (range_with_len (from + 1) n)))
      ∙ ap (λ (l : List TileName). cond (not (is_kept kept (name from))) (name from ∷ l) l) (lacking_are kept (from + 1) n)

  -- each that was found has the name of its number
  abbrev pub AreNamed : List (Option TileName) → ℕ → Type 0
  AreNamed [] from = Unit {0}
  AreNamed (None ∷ rest) from = AreNamed rest (from + 1)
  AreNamed (Some n ∷ rest) from = (n ≡ name from) × AreNamed rest (from + 1)

  named_step : (t : Bool) (from : ℕ) (rest : List (Option TileName)) → AreNamed rest (from + 1) → AreNamed (cond t (Some (name from)) None ∷ rest) from
  named_step true from rest h = (refl, h)
  named_step false from rest h = h

  pub all_named : (kept : List TileName) (from n : ℕ) → AreNamed (map (if_kept kept) (map name (range_with_len from n))) from
  all_named kept from zero = tt
  all_named kept from (suc n) = named_step (is_kept kept (name from)) from (map (if_kept kept) (map name (range_with_len (from + 1) n))) (all_named kept (from + 1) n)

  -- no shot one is kept
  fresh_step : (t : Bool) (kept : List TileName) (from : ℕ) (rest : List (Option TileName)) → is_kept kept (name from) ≡ t → AreFresh kept (map name (lacking rest (from + 1)))
      → AreFresh kept (map name (lacking (cond t (Some (name from)) None ∷ rest) from))
  fresh_step true kept from rest is h = h
  fresh_step false kept from rest is h = (is, h)

  pub all_fresh : (kept : List TileName) (from n : ℕ) → AreFresh kept (map name (lacking (map (if_kept kept) (map name (range_with_len from n))) from))
  all_fresh kept from zero = tt
  all_fresh kept from (suc n) = fresh_step (is_kept kept (name from)) kept from (map (if_kept kept) (map name (range_with_len (from + 1) n))) refl (all_fresh kept (from + 1) n)

  module _ (numbered : (n : ℕ) → (name n).tile ≡ n) where
    apart : (i j : ℕ) → i < j → same_name (name j) (name i) ≡ false
    apart i j lt = differ (name j) (name i) (λ same. let e : j ≡ i = sym (numbered j) ∙ same ∙ numbered i in omega (arith, lt, e))

    -- one of a lower number is put in
    pub fresh_past : (kept : List TileName) (names : List (Option TileName)) (i from : ℕ) → i < from → AreFresh kept (map name (lacking names from)) → AreFresh (with_small kept (name i)) (map name (lacking names from))
    fresh_past kept [] i from lt h = tt
    fresh_past kept (None ∷ rest) i from lt h = (fresh_with kept (name i) (name from) (apart i from lt) h.0, fresh_past kept rest i (from + 1) (omega (arith, lt)) h.1)
    fresh_past kept (Some n ∷ rest) i from lt h = fresh_past kept rest i (from + 1) (omega (arith, lt)) h

-- the first of what is left of a list
pub there : {X : Type 0} (xs : List X) (i : ℕ) (x : X) (rest : List X) → drop i xs ≡ x ∷ rest → slice_get xs i ≡ Some x
there [] zero x rest h = absurd cc
there [] (suc i) x rest h = absurd cc
there (y ∷ ys) zero x rest h = let same : y ≡ x = cc in ap Some same
there (y ∷ ys) (suc i) x rest h = there ys i x rest h

behind : {X : Type 0} (xs : List X) (i : ℕ) (x : X) (rest : List X) → drop i xs ≡ x ∷ rest → drop (suc i) xs ≡ rest
behind [] zero x rest h = absurd cc
behind [] (suc i) x rest h = absurd cc
behind (y ∷ ys) zero x rest h = cc
behind (y ∷ ys) (suc i) x rest h = behind ys i x rest h

abbrev pub key_of : NamedTile → TileName
key_of t = t.key

-- What is left to do from a tile on: names are those of the tiles that are there, shot the tiles that were shot, of which so
-- many are put in, and so much is kept; in the end this is kept.
pub record IsLeft (name : ℕ → TileName) (names : List (Option TileName)) (shot : List NamedTile) (end : List TileName) (tile next : ℕ) (kept : List TileName) : Type 0 where
  pub named : AreNamed name (drop tile names) tile
  pub shots : map key_of (drop next shot) ≡ map name (lacking (drop tile names) tile)
  pub fresh : AreFresh kept (map name (lacking (drop tile names) tile))
  pub ends : in_turn put_in kept (filter is_small_name (map name (lacking (drop tile names) tile))) ≡ end

module _ (name : ℕ → TileName) (view : View) (names : List (Option TileName)) (shot : List NamedTile) (end : List TileName) where
  -- the tile of the first shot that is left
  can_put_shot : (tile next : ℕ) (kept : List TileName) (left : List NamedTile) (more : List TileName) → (name tile).view ≡ view → (name tile).tile ≡ tile → is_kept kept (name tile) ≡ false
      → drop next shot ≡ left → map key_of left ≡ name tile ∷ more → CanPut view tile None shot next kept
  can_put_shot tile next kept [] more v t fresh is keys = absurd cc
  can_put_shot tile next kept (one ∷ left) more v t fresh is keys =
      let same : one.key ≡ name tile = cc in (
        one,
        there shot next one left is,
        record { view_is = ap (λ (k : TileName). k.view) same ∙ v; tile_is = ap (λ (k : TileName). k.tile) same ∙ t },
        ap (is_kept kept) same ∙ fresh,
      )

  pub can_put : (tile next : ℕ) (kept : List TileName) (slot : Option NamedTile) (rest : List (Option TileName)) → (name tile).view ≡ view → (name tile).tile ≡ tile
      → drop tile names ≡ option_map key_of slot ∷ rest → IsLeft name names shot end tile next kept → CanPut view tile slot shot next kept
  can_put tile next kept (Some one) rest v t is left =
      let same : one.key ≡ name tile = (subst (λ l. AreNamed name l tile) is left.named).0 in
      record { view_is = ap (λ (k : TileName). k.view) same ∙ v; tile_is = ap (λ (k : TileName). k.tile) same ∙ t }
  can_put tile next kept None rest v t is left =
      can_put_shot tile next kept (drop next shot) (map name (lacking rest (tile + 1))) v t (subst (λ l. AreFresh kept (map name (lacking l tile))) is left.fresh).0 refl
      (left.shots ∙ ap (λ l. map name (lacking l tile)) is)

  -- which tile was put in, and what is left then
  pub record HasGone (tile next : ℕ) (kept : List TileName) (old new : List ℕ) : Type 0 where
    pub one : NamedTile
    pub named : one.key ≡ name tile
    pub is_put : IsPut view tile one old new
    pub left : IsLeft name names shot end (tile + 1) next kept

  small_step : (t : Bool) (kept : List TileName) (n : TileName) (ns : List TileName) → in_turn put_in kept (cond t (n ∷ filter is_small_name ns) (filter is_small_name ns)) ≡ in_turn put_in (cond t (put_in kept n) kept) (filter is_small_name ns)
  small_step true kept n ns = refl
  small_step false kept n ns = refl

  module _ (numbered : (n : ℕ) → (name n).tile ≡ n) where
    gone_shot : (tile next : ℕ) (kept : List TileName) (rest : List (Option TileName)) (one : NamedTile) (old new : List ℕ) (left : List NamedTile)
        → drop tile names ≡ None ∷ rest → drop (tile + 1) names ≡ rest → IsLeft name names shot end tile next kept
        → slice_get shot next ≡ Some one → IsPut view tile one old new
        → drop next shot ≡ left → map key_of left ≡ name tile ∷ map name (lacking rest (tile + 1))
        → HasGone tile (suc next) (with_small kept one.key) old new
    gone_shot tile next kept rest one old new [] is past left at put here keys = absurd cc
    gone_shot tile next kept rest one old new (first ∷ more) is past left at put here keys =
        let found_first : Some one ≡ Some first = sym at ∙ there shot next first more here in
        let same : one ≡ first = cc in
        let first_named : first.key ≡ name tile = cc in
        let named : one.key ≡ name tile = ap key_of same ∙ first_named in
        let others : map key_of more ≡ map name (lacking rest (tile + 1)) = cc in
        let fresh : AreFresh kept (map name (lacking rest (tile + 1))) = (subst (λ l. AreFresh kept (map name (lacking l tile))) is left.fresh).1 in
        record {
          one = one;
          named = named;
          is_put = put;
          left = record {
            named = subst (λ l. AreNamed name l (tile + 1)) (sym past) (subst (λ l. AreNamed name l tile) is left.named);
            shots = ap (map key_of) (behind shot next first more here) ∙ others ∙ ap (λ l. map name (lacking l (tile + 1))) (sym past);
            fresh = subst (λ k. AreFresh (with_small kept k) (map name (lacking (drop (tile + 1) names) (tile + 1)))) (sym named)
                (subst (λ l. AreFresh (with_small kept (name tile)) (map name (lacking l (tile + 1)))) (sym past) (fresh_past name numbered kept rest tile (tile + 1) (omega arith) fresh));
            ends = ap (λ l. in_turn put_in (with_small kept one.key) (filter is_small_name (map name (lacking l (tile + 1))))) past
                ∙ ap (λ k. in_turn put_in (with_small kept k) (filter is_small_name (map name (lacking rest (tile + 1))))) named
                ∙ sym (small_step (is_small_name (name tile)) kept (name tile) (map name (lacking rest (tile + 1))))
                ∙ sym (ap (λ l. in_turn put_in kept (filter is_small_name (map name (lacking l tile)))) is) ∙ left.ends;
          };
        }

    pub gone : (tile next next' : ℕ) (kept kept' : List TileName) (slot : Option NamedTile) (rest : List (Option TileName)) (old new : List ℕ)
        → drop tile names ≡ option_map key_of slot ∷ rest → drop (tile + 1) names ≡ rest → IsLeft name names shot end tile next kept
        → HasPut view tile slot shot next next' kept kept' old new → HasGone tile next' kept' old new
    gone tile next next' kept kept' (Some one) rest old new is past left put =
        let whole : AreNamed name (Some one.key ∷ rest) tile = subst (λ l. AreNamed name l tile) is left.named in
        let now : IsLeft name names shot end (tile + 1) next kept = record {
          named = subst (λ l. AreNamed name l (tile + 1)) (sym past) whole.1;
          shots = left.shots ∙ ap (λ l. map name (lacking l tile)) is ∙ ap (λ l. map name (lacking l (tile + 1))) (sym past);
          fresh = subst (λ l. AreFresh kept (map name (lacking l (tile + 1)))) (sym past) (subst (λ l. AreFresh kept (map name (lacking l tile))) is left.fresh);
          ends = ap (λ l. in_turn put_in kept (filter is_small_name (map name (lacking l (tile + 1))))) past ∙ sym (ap (λ l. in_turn put_in kept (filter is_small_name (map name (lacking l tile)))) is) ∙ left.ends;
        } in record {
          one = one;
          named = whole.0;
          is_put = put.0;
          left = subst (λ n. IsLeft name names shot end (tile + 1) n kept') (sym put.1) (subst (λ k. IsLeft name names shot end (tile + 1) next k) (sym put.2) now);
        }
    gone tile next next' kept kept' None rest old new is past left put =
        let one : NamedTile = put.0 in
        let went = gone_shot tile next kept rest one old new (drop next shot) is past left put.1 put.2 refl (left.shots ∙ ap (λ l. map name (lacking l tile)) is) in
        subst (λ n. HasGone tile n kept' old new) (sym put.3) (subst (λ k. HasGone tile (suc next) k old new) (sym put.4) went)

-- what is left at first, and at the end
pub left_first : (name : ℕ → TileName) (kept : List TileName) (moves : List TileName) (n : ℕ) (names : List (Option TileName)) (shot : List NamedTile)
    → names ≡ map (if_kept kept) (map name (range_with_len 0 n)) → map key_of shot ≡ map name (lacking names 0)
    → IsLeft name names shot (in_turn put_in (in_turn moved kept moves) (filter is_small_name (map name (lacking names 0)))) 0 0 (in_turn moved kept moves)
left_first name kept moves n names shot is keys = record {
  named = subst (λ l. AreNamed name l 0) (sym is) (all_named name kept 0 n);
  shots = keys;
  fresh = all_fresh_moved kept moves (map name (lacking names 0)) (subst (λ l. AreFresh kept (map name (lacking l 0))) (sym is) (all_fresh name kept 0 n));
  ends = refl;
}

pub left_last : (name : ℕ → TileName) (names : List (Option TileName)) (shot : List NamedTile) (end : List TileName) (tile next : ℕ) (kept : List TileName) → drop tile names ≡ []
    → IsLeft name names shot end tile next kept → kept ≡ end
left_last name names shot end tile next kept none left = sym (ap (λ l. in_turn put_in kept (filter is_small_name (map name (lacking l tile)))) none) ∙ left.ends

-- the tile of a number, and those behind it
pub slot_at : (slots : List (Option NamedTile)) (names : List (Option TileName)) (tile : ℕ) (slot : Option NamedTile) → map (option_map key_of) slots ≡ names → slot ≡ get_or slots tile slot → tile < length slots
    → drop tile names ≡ option_map key_of slot ∷ drop (tile + 1) names
slot_at slots names tile slot are here lt =
    let long : length names ≡ length slots = ap (length {A = Option TileName}) (sym are) ∙ length-map slots (option_map key_of) in
    let within : tile < length names = omega (arith, lt, long) in
    drop_more names tile (option_map key_of slot) within
    ∙ ap (λ o. o ∷ drop (tile + 1) names) (ap (λ l. get_or l tile (option_map key_of slot)) (sym are) ∙ get_or-map (option_map key_of) slots tile slot (option_map key_of slot) lt ∙ ap (option_map key_of) (sym here))

pub slots_long : (name : ℕ → TileName) (kept : List TileName) (n : ℕ) (names : List (Option TileName)) (slots : List (Option NamedTile)) → map (option_map key_of) slots ≡ names → names ≡ map (if_kept kept) (map name (range_with_len 0 n)) → length slots ≡ n
slots_long name kept n names slots are is =
    sym (length-map slots (option_map key_of)) ∙ ap (length {A = Option TileName}) (are ∙ is) ∙ length-map (map name (range_with_len 0 n)) (if_kept kept) ∙ length-map-range_with_len name 0 n

pub plan_long : (name : ℕ → TileName) (kept : List TileName) (n : ℕ) (names : List (Option TileName)) → names ≡ map (if_kept kept) (map name (range_with_len 0 n)) → length names ≡ n
plan_long name kept n names is = ap (length {A = Option TileName}) is ∙ length-map (map name (range_with_len 0 n)) (if_kept kept) ∙ length-map-range_with_len name 0 n

pub lacking_step : (o : Option TileName) (rest : List (Option TileName)) (from : ℕ) → lacking (o ∷ []) from ++ lacking rest (from + 1) ≡ lacking (o ∷ rest) from
lacking_step None rest from = refl
lacking_step (Some name) rest from = refl

-- one more that was found
pub found_more : (o : Option TileName) (rest : List (Option TileName)) → length (found (o ∷ rest)) ≡ cond (is_some o) 1 0 + length (found rest)
found_more None rest = omega arith
found_more (Some name) rest = omega arith

pub few_found : (names : List (Option TileName)) → length (found names) ≤ length names
few_found [] = omega arith
few_found (None ∷ rest) = omega (arith, few_found rest)
few_found (Some name ∷ rest) = omega (arith, few_found rest)

-- the tiles that were shot, by their names
pub shot_keys : (name : ℕ → TileName) (all : List NamedTile) (tiles : List ℕ) → length all ≡ length tiles → ((i : ℕ) (d : NamedTile) → i < length tiles → (get_or all i d).key ≡ name (get_or tiles i 0)) → map key_of all ≡ map name tiles
shot_keys name [] [] long each = refl
shot_keys name [] (t ∷ ts) long each = absurd (omega (arith, long))
shot_keys name (x ∷ xs) [] long each = absurd (omega (arith, long))
shot_keys name (x ∷ xs) (t ∷ ts) long each =
    ap₂ (λ (k : TileName) (ks : List TileName). k ∷ ks) (each 0 x (omega arith)) (shot_keys name xs ts (omega (arith, long)) (λ i d lt. each (suc i) d (omega (arith, lt))))

-- the tiles that a job of the lacking ones gives
pub lacking_are_shot : (scene : List Region) (view : View) (names : List (Option TileName)) (job : TileJob) (all : List NamedTile) → arc_value job.scene ≡ scene → job.view ≡ view → job.tiles.items ≡ lacking names 0
    → length all ≡ length job.tiles.items → ((i : ℕ) (d : NamedTile) → i < vec_len job.tiles → IsShotOf job i (slice_index_or all i d)) → AreLacking scene view names all
lacking_are_shot scene view names job all of_scene of_view of_names long each =
    shot_keys (tile_name (arc_value job.scene) job.view) all job.tiles.items long (λ i d lt. each i d (omega (arith, lt, job.tiles.ok.0)))
    ∙ ap (map (tile_name (arc_value job.scene) job.view)) of_names
    ∙ ap₂ (λ (s : List Region) (v : View). map (tile_name s v) (lacking names 0)) of_scene of_view

pub both_ok : {A E : Type 0} {P Q R : A → Type 0} (r : Result A E) → IfOk r P → IfOk r Q → ((x : A) → P x → Q x → R x) → IfOk r R
both_ok (Ok x) p q f = f x p q
both_ok (Err e) p q f = tt

-- what is kept in the end
pub kept_after : (name : ℕ → TileName) (kept : List TileName) (n : ℕ) (names : List (Option TileName)) → names ≡ map (if_kept kept) (map name (range_with_len 0 n))
    → in_turn put_in (in_turn moved kept (found names)) (filter is_small_name (map name (lacking names 0))) ≡ after_picture kept (map name (range_with_len 0 n))
kept_after name kept n names is =
    ap₂ (λ (ms ns : List TileName). in_turn put_in (in_turn moved kept ms) (filter is_small_name ns)) (ap found is ∙ found_are kept (map name (range_with_len 0 n))) (ap (λ l. map name (lacking l 0)) is ∙ lacking_are name kept 0 n)
