-- Lines of any kind with segments of instances on them: where they are cut, and what trees claim of them. Only the order of
-- places tells.
use Rattle.std.specs.Prelude.{ℕ, ◌+◌, ◌==◌, List, [], ◌∷◌, Bool, ◌&&◌, not, map, flat_map, slice_index_or}
use Rattle.std.specs.List.{list_any}
use Rattle.std.specs.Ordering.{is_lt}
use Rattle.std.specs.declared.cmp.Ordering.{Ordering}
use Rattle.std.specs.declared.cmp.Ordering.TheVariants.{Less, Equal, Greater}
use Rattle.bool_weave.specs.Masks.{Mask, mask_holds}

-- a line whose places are of the kind P, with their order, its two ends, and how the segments W on it are read
pub record Line (W P : Type 0) : Type 0 where
  pub order : P → P → Ordering
  pub from : P
  pub to : P
  pub instance : W → ℕ
  pub start : W → P
  pub end : W → P

-- the places at which a line is cut, as they come: its two ends, and the starts and ends of all segments
abbrev pub places_along : {W P : Type 0} → Line W P → List W → List P
places_along line segments = line.from ∷ line.to ∷ flat_map (λ w. line.start w ∷ line.end w ∷ []) segments

-- x before y and what follows it, or as y, or somewhere behind y
abbrev pub set_beside : {P : Type 0} → Ordering → P → P → List P → List P → List P
set_beside Less x y ys behind = x ∷ y ∷ ys
set_beside Equal x y ys behind = y ∷ ys
set_beside Greater x y ys behind = y ∷ behind

-- rising places with one more among them, where it is not there yet
abbrev pub put_among : {P : Type 0} → (P → P → Ordering) → P → List P → List P
put_among order x [] = x ∷ []
put_among order x (y ∷ ys) = set_beside (order x y) x y ys (put_among order x ys)

-- places in their order, each once
abbrev pub arranged : {P : Type 0} → (P → P → Ordering) → List P → List P
arranged order [] = []
arranged order (x ∷ xs) = put_among order x (arranged order xs)

-- the one list of cuts
abbrev pub cuts_along : {W P : Type 0} → Line W P → List W → List P
cuts_along line segments = arranged line.order (places_along line segments)

-- the cut of a number; past the last one, where the line begins
abbrev pub cut_along : {W P : Type 0} → Line W P → List W → ℕ → P
cut_along line segments k = slice_index_or (cuts_along line segments) k line.from

-- what lies between two neighbouring cuts
pub record Between (P : Type 0) : Type 0 where
  pub start : P
  pub end : P

abbrev pub all_between : {P : Type 0} → List P → List (Between P)
all_between [] = []
all_between (x ∷ []) = []
all_between (x ∷ y ∷ ys) = record { start = x; end = y } ∷ all_between (y ∷ ys)

-- the intervals between the cuts
abbrev pub intervals_along : {W P : Type 0} → Line W P → List W → List (Between P)
intervals_along line segments = all_between (cuts_along line segments)

-- whether one place comes before another
abbrev pub comes_before : {P : Type 0} → (P → P → Ordering) → P → P → Bool
comes_before order x y = is_lt (order x y)

-- a stretch from one place to another covers an interval where its start is not after the interval's start and its end not
-- before the interval's end
abbrev pub covers_from_to : {P : Type 0} → (P → P → Ordering) → P → P → Between P → Bool
covers_from_to order start end interval = not (comes_before order interval.start start) && not (comes_before order end interval.end)

-- an instance spans an interval where it has a segment that covers it
abbrev pub spans_along : {W P : Type 0} → Line W P → List W → Between P → ℕ → Bool
spans_along line segments interval instance = list_any (λ w. (line.instance w == instance) && covers_from_to line.order (line.start w) (line.end w) interval) segments

-- a region claims an interval where its tree holds, with leaf i standing for whether instance `first + i` spans the interval
abbrev pub claims_between : {W P : Type 0} → Line W P → List W → Mask → ℕ → Between P → Bool
claims_between line segments tree first interval = mask_holds tree (λ i. spans_along line segments interval (first + i))

-- which of the intervals a tree claims, in their order
abbrev pub claims_along : {W P : Type 0} → Line W P → List W → Mask → ℕ → List Bool
claims_along line segments tree first = map (claims_between line segments tree first) (intervals_along line segments)
