-- Where the rays of a view start, and its first fault.
use Rattle.std.proofs.Common.{◌≡◌, ◌↔◌, ◌⊎◌, ◌<◌, ◌≤◌, ◌-◌, ◌==◌, ℕ, zero, suc, ℤ, pos, ◌-ℤ◌, ◌*ℤ◌, ◌<ℤ◌, ◌≤ℤ◌, ◌∙◌, Bool, true, false, not, cond, ◌&&◌, nat_lt, int_lt, Decides, List, [], ◌∷◌, Option, Some, None, Result, Ok, Err, IsOk, refl, ap, subst, sym, arith, inl, inr}
use Rattle.std.proofs.lemmas.Bool.{false≢true, true≢false, true_from_ne_false, cases_lt}
use Rattle.std.proofs.lemmas.Bool.Decides.{Decides-and, Decides-or, Decides-not, Decides-ltb, Decides-eqb, Decides-like, same_from_decides}
use Rattle.std.proofs.lemmas.Int.{ints, by_lt_z}
use Rattle.lattice_core.specs.declared.vector.V3.{V3}
use Rattle.lattice_core.specs.declared.ray.Dir.{Dir}
use Rattle.lattice_core.specs.declared.ray.Dir.TheVariants.{PlusX, MinusX, PlusY, MinusY, PlusZ, MinusZ}
use Rattle.lattice_core.specs.declared.view.View.{View}
use Rattle.lattice_core.specs.declared.view.ViewFault.{ViewFault}
use Rattle.lattice_core.specs.declared.view.ViewFault.TheVariants.{Pixels, Side, Cell, World}
use Rattle.lattice_core.specs.declared.limit.TheConstants.{WORLD, PICTURE_SIDE, VIEW_NUMBER, VIEW_REACH, WIDE}
use Rattle.lattice_core.specs.Limits.{IsAtMost, IsUnder, IsWithin, IsBelow}
use Rattle.lattice_core.specs.Units.{unit_of}
use Rattle.lattice_core.specs.Vectors.{scaled, vector_sum}
use Rattle.lattice_core.specs.Views.{point_from, pixel_ray, StartsOutside, HasFault, fault_order, IsFirstFault, IsChecked, is_at_most, is_within, has_no_pixels, has_long_side, leaves_world, view_fault, answer_of}
use Rattle.lattice_core.proofs.Products.{mul_at_most}
use Rattle.lattice_core.proofs.Turning.{vector_same}

-- a number lies between two others, of which either may be the less
abbrev pub IsAmid : ℤ → ℤ → ℤ → Type 0
IsAmid a z b = ((a ≤ℤ z) × (z ≤ℤ b)) ⊎ ((b ≤ℤ z) × (z ≤ℤ a))

pub record AreAmid (a v b : V3) : Type 0 where
  pub x : IsAmid a.x v.x b.x
  pub y : IsAmid a.y v.y b.y
  pub z : IsAmid a.z v.z b.z

point_amid : (c : V3) (dir : Dir) (a0 a a1 b0 b b1 : ℤ) → a0 ≤ℤ a → a ≤ℤ a1 → b0 ≤ℤ b → b ≤ℤ b1 → AreAmid (point_from c dir a0 b0) (point_from c dir a b) (point_from c dir a1 b1)
point_amid c PlusX a0 a a1 b0 b b1 p q r s = record { x = inl (omega (arith, ints), omega (arith, ints)); y = inr (omega (arith, ints), omega (arith, ints)); z = inr (omega (arith, ints), omega (arith, ints)) }
point_amid c MinusX a0 a a1 b0 b b1 p q r s = record { x = inl (omega (arith, ints), omega (arith, ints)); y = inl (omega (arith, ints), omega (arith, ints)); z = inr (omega (arith, ints), omega (arith, ints)) }
point_amid c PlusY a0 a a1 b0 b b1 p q r s = record { x = inl (omega (arith, ints), omega (arith, ints)); y = inl (omega (arith, ints), omega (arith, ints)); z = inr (omega (arith, ints), omega (arith, ints)) }
point_amid c MinusY a0 a a1 b0 b b1 p q r s = record { x = inr (omega (arith, ints), omega (arith, ints)); y = inl (omega (arith, ints), omega (arith, ints)); z = inr (omega (arith, ints), omega (arith, ints)) }
point_amid c PlusZ a0 a a1 b0 b b1 p q r s = record { x = inr (omega (arith, ints), omega (arith, ints)); y = inr (omega (arith, ints), omega (arith, ints)); z = inl (omega (arith, ints), omega (arith, ints)) }
point_amid c MinusZ a0 a a1 b0 b b1 p q r s = record { x = inl (omega (arith, ints), omega (arith, ints)); y = inr (omega (arith, ints), omega (arith, ints)); z = inl (omega (arith, ints), omega (arith, ints)) }

steps_at_most : (cell : ℤ) (m n : ℕ) → pos 1 ≤ℤ cell → m ≤ n → (pos m *ℤ cell) ≤ℤ (pos n *ℤ cell)
steps_at_most cell m n some le = mul_at_most (pos m) (pos n) cell (omega (arith, ints)) (omega (arith, ints))

-- a pixel between two others starts its ray between theirs
pub pixel_amid : (view : View) (c0 c c1 r0 r r1 : ℕ) → pos 1 ≤ℤ view.cell → c0 ≤ c → c ≤ c1 → r0 ≤ r → r ≤ r1
    → AreAmid (pixel_ray view c0 r0).origin (pixel_ray view c r).origin (pixel_ray view c1 r1).origin
pixel_amid view c0 c c1 r0 r r1 some p q s t =
    point_amid view.corner view.dir _ _ _ _ _ _
    (steps_at_most view.cell c0 c some p) (steps_at_most view.cell c c1 some q) (steps_at_most view.cell r0 r some s) (steps_at_most view.cell r r1 some t)

amid_at_most : (limit a z b : ℤ) → IsAmid a z b → IsAtMost limit a → IsAtMost limit b → IsAtMost limit z
amid_at_most limit a z b m p q = (omega (arith, ints, m, p.0, p.1, q.0, q.1), omega (arith, ints, m, p.0, p.1, q.0, q.1))

amid_within : (limit : ℤ) (a v b : V3) → AreAmid a v b → IsWithin limit a → IsWithin limit b → IsWithin limit v
amid_within limit a v b m p q = record {
  x = amid_at_most limit a.x v.x b.x m.x p.x q.x;
  y = amid_at_most limit a.y v.y b.y m.y p.y q.y;
  z = amid_at_most limit a.z v.z b.z m.z p.z q.z;
}

first_point : (c : V3) (dir : Dir) (cell : ℤ) → point_from c dir (pos 0 *ℤ cell) (pos 0 *ℤ cell) ≡ c
first_point c PlusX cell = vector_same (omega (arith, ints)) (omega (arith, ints)) (omega (arith, ints))
first_point c MinusX cell = vector_same (omega (arith, ints)) (omega (arith, ints)) (omega (arith, ints))
first_point c PlusY cell = vector_same (omega (arith, ints)) (omega (arith, ints)) (omega (arith, ints))
first_point c MinusY cell = vector_same (omega (arith, ints)) (omega (arith, ints)) (omega (arith, ints))
first_point c PlusZ cell = vector_same (omega (arith, ints)) (omega (arith, ints)) (omega (arith, ints))
first_point c MinusZ cell = vector_same (omega (arith, ints)) (omega (arith, ints)) (omega (arith, ints))

-- the first pixel's ray starts at the corner
pub first_is : (view : View) → (pixel_ray view 0 0).origin ≡ view.corner
first_is view = first_point view.corner view.dir view.cell

abbrev StartInWorld : View → Type 0
StartInWorld view = (column row : ℕ) → column < view.w → row < view.h → IsWithin WORLD (pixel_ray view column row).origin

all_within : (view : View) → pos 1 ≤ℤ view.cell → IsWithin WORLD view.corner → IsWithin WORLD (pixel_ray view (view.w - 1) (view.h - 1)).origin → StartInWorld view
all_within view some first last = λ column row c r.
    amid_within WORLD _ _ _
    (pixel_amid view 0 column (view.w - 1) 0 row (view.h - 1) some (omega arith) (omega arith) (omega arith) (omega arith))
    (subst (IsWithin WORLD) (sym (first_is view)) first) last

-- how far a pixel lies across and down, by where its ray and the first one start
steps_under : (c : V3) (dir : Dir) (a b : ℤ) → IsWithin WORLD c → IsWithin WORLD (point_from c dir a b) → IsUnder VIEW_REACH a × IsUnder VIEW_REACH b
steps_under c PlusX a b p q = ((omega (arith, ints, p.x, p.y, p.z, q.x, q.y, q.z), omega (arith, ints, p.x, p.y, p.z, q.x, q.y, q.z)), (omega (arith, ints, p.x, p.y, p.z, q.x, q.y, q.z), omega (arith, ints, p.x, p.y, p.z, q.x, q.y, q.z)))
steps_under c MinusX a b p q = ((omega (arith, ints, p.x, p.y, p.z, q.x, q.y, q.z), omega (arith, ints, p.x, p.y, p.z, q.x, q.y, q.z)), (omega (arith, ints, p.x, p.y, p.z, q.x, q.y, q.z), omega (arith, ints, p.x, p.y, p.z, q.x, q.y, q.z)))
steps_under c PlusY a b p q = ((omega (arith, ints, p.x, p.y, p.z, q.x, q.y, q.z), omega (arith, ints, p.x, p.y, p.z, q.x, q.y, q.z)), (omega (arith, ints, p.x, p.y, p.z, q.x, q.y, q.z), omega (arith, ints, p.x, p.y, p.z, q.x, q.y, q.z)))
steps_under c MinusY a b p q = ((omega (arith, ints, p.x, p.y, p.z, q.x, q.y, q.z), omega (arith, ints, p.x, p.y, p.z, q.x, q.y, q.z)), (omega (arith, ints, p.x, p.y, p.z, q.x, q.y, q.z), omega (arith, ints, p.x, p.y, p.z, q.x, q.y, q.z)))
steps_under c PlusZ a b p q = ((omega (arith, ints, p.x, p.y, p.z, q.x, q.y, q.z), omega (arith, ints, p.x, p.y, p.z, q.x, q.y, q.z)), (omega (arith, ints, p.x, p.y, p.z, q.x, q.y, q.z), omega (arith, ints, p.x, p.y, p.z, q.x, q.y, q.z)))
steps_under c MinusZ a b p q = ((omega (arith, ints, p.x, p.y, p.z, q.x, q.y, q.z), omega (arith, ints, p.x, p.y, p.z, q.x, q.y, q.z)), (omega (arith, ints, p.x, p.y, p.z, q.x, q.y, q.z), omega (arith, ints, p.x, p.y, p.z, q.x, q.y, q.z)))

pub corner_within : (view : View) → IsChecked view → IsWithin WORLD view.corner
corner_within view h = subst (IsWithin WORLD) (first_is view) (h.in_world 0 0 (omega (arith, h.columns)) (omega (arith, h.rows)))

pub pixel_under : (view : View) (column row : ℕ) → IsChecked view → column < view.w → row < view.h → IsUnder VIEW_REACH (pos column *ℤ view.cell) × IsUnder VIEW_REACH (pos row *ℤ view.cell)
pixel_under view column row h c r = steps_under view.corner view.dir _ _ (corner_within view h) (h.in_world column row c r)

-- before the view is checked
pub far_under : (cell : ℤ) (n : ℕ) → pos 1 ≤ℤ cell → cell ≤ℤ VIEW_NUMBER → n < PICTURE_SIDE → IsUnder VIEW_REACH (pos n *ℤ cell)
far_under cell n some le less =
    let low : (pos 0 *ℤ cell) ≤ℤ (pos n *ℤ cell) = steps_at_most cell 0 n some (omega arith) in
    let high : (pos n *ℤ cell) ≤ℤ (pos 2047 *ℤ cell) = steps_at_most cell n 2047 some (omega arith) in
    (omega (arith, ints), omega (arith, ints))

-- tests as facts
decides_lt : (a b : ℤ) → Decides (int_lt a b) (a <ℤ b)
decides_lt a b = (λ e. omega (arith, ints, e), λ h. let e : true ≡ int_lt a b = omega (arith, ints, h) in sym e)

decides_at_most : (limit z : ℤ) → Decides (is_at_most limit z) (IsAtMost limit z)
decides_at_most limit z =
    Decides-and (not (int_lt z (pos 0 -ℤ limit))) (not (int_lt limit z))
    (Decides-like _ (λ bare. by_lt_z z (pos 0 -ℤ limit) (λ lt. absurd (bare lt)) (λ le. le)) (λ le lt. omega (arith, ints)) (Decides-not _ (decides_lt z (pos 0 -ℤ limit))))
    (Decides-like _ (λ bare. by_lt_z limit z (λ lt. absurd (bare lt)) (λ le. le)) (λ le lt. omega (arith, ints)) (Decides-not _ (decides_lt limit z)))

pub decides_within : (limit : ℤ) (v : V3) → Decides (is_within limit v) (IsWithin limit v)
decides_within limit v =
    Decides-like _ (λ h. record { x = h.0; y = h.1.0; z = h.1.1 }) (λ h. (h.x, (h.y, h.z)))
    (Decides-and (is_at_most limit v.x) (is_at_most limit v.y && is_at_most limit v.z) (decides_at_most limit v.x)
    (Decides-and (is_at_most limit v.y) (is_at_most limit v.z) (decides_at_most limit v.y) (decides_at_most limit v.z)))

decides_pixels : (view : View) → Decides (has_no_pixels view) (HasFault view Pixels)
decides_pixels view = Decides-or (view.w == 0) (view.h == 0) (Decides-eqb view.w 0) (Decides-eqb view.h 0)

decides_side : (view : View) → Decides (has_long_side view) (HasFault view Side)
decides_side view = Decides-or (nat_lt PICTURE_SIDE view.w) (nat_lt PICTURE_SIDE view.h) (Decides-ltb PICTURE_SIDE view.w) (Decides-ltb PICTURE_SIDE view.h)

-- the first and the last pixel's rays start in the world only where all do
decides_world_by : (view : View) (a b : Bool) → 1 ≤ view.w → 1 ≤ view.h → pos 1 ≤ℤ view.cell
    → Decides a (IsWithin WORLD view.corner) → Decides b (IsWithin WORLD (pixel_ray view (view.w - 1) (view.h - 1)).origin) → Decides (not (a && b)) (StartsOutside view)
decides_world_by view true true c r some p q = (
  λ e. absurd (false≢true e),
  λ s. absurd (s.outside (all_within view some (p.0 refl) (q.0 refl) s.column s.row s.in_columns s.in_rows)),
)
decides_world_by view true false c r some p q = (
  λ e. record { column = view.w - 1; row = view.h - 1; in_columns = omega (arith, c); in_rows = omega (arith, r); outside = λ h. false≢true (q.1 h) },
  λ s. refl,
)
decides_world_by view false b c r some p q = (
  λ e. record { column = 0; row = 0; in_columns = omega (arith, c); in_rows = omega (arith, r); outside = λ h. false≢true (p.1 (subst (IsWithin WORLD) (first_is view) h)) },
  λ s. refl,
)

decides_world : (view : View) → 1 ≤ view.w → 1 ≤ view.h → pos 1 ≤ℤ view.cell → Decides (leaves_world view) (StartsOutside view)
decides_world view c r some =
    decides_world_by view (is_within WORLD view.corner) (is_within WORLD (pixel_ray view (view.w - 1) (view.h - 1)).origin) c r some
    (decides_within WORLD view.corner) (decides_within WORLD (pixel_ray view (view.w - 1) (view.h - 1)).origin)

-- the first of the conditions that holds is the first fault of the list
first_step : (view : View) (fault : ViewFault) (rest : List ViewFault) (b : Bool) (found : Option ViewFault) → Decides b (HasFault view fault)
    → ((¬ HasFault view fault) → IsFirstFault view rest (answer_of found)) → IsFirstFault view (fault ∷ rest) (answer_of (cond b (Some fault) found))
first_step view fault rest true found d f = inl (d.0 refl, refl)
first_step view fault rest false found d f =
    let bare : ¬ HasFault view fault = λ h. false≢true (d.1 h) in inr (bare, f bare)

some_of : (n : ℕ) → ¬ (n ≡ 0) → 1 ≤ n
some_of zero bare = absurd (bare refl)
some_of (suc n) bare = omega arith

pub first_fault_is : (view : View) → IsFirstFault view fault_order (answer_of (view_fault view))
first_fault_is view =
    first_step view Pixels (Side ∷ Cell ∷ World ∷ []) (has_no_pixels view) _ (decides_pixels view) (λ pixels.
    first_step view Side (Cell ∷ World ∷ []) (has_long_side view) _ (decides_side view) (λ side.
    first_step view Cell (World ∷ []) (int_lt view.cell (pos 1)) _ (decides_lt view.cell (pos 1)) (λ cell.
    first_step view World [] (leaves_world view) None
    (decides_world view (some_of view.w (λ e. pixels (inl e))) (some_of view.h (λ e. pixels (inr e)))
    (by_lt_z view.cell (pos 1) (λ lt. absurd (cell lt)) (λ le. le))) (λ world. refl))))

-- the view has none of the faults
abbrev IsFree : View → List ViewFault → Type 0
IsFree view [] = Unit {0}
IsFree view (fault ∷ rest) = (¬ HasFault view fault) × IsFree view rest

ok_not_err : (answer : Result (Unit {0}) ViewFault) (fault : ViewFault) → IsOk answer → answer ≡ Err fault → ⊥
ok_not_err (Ok u) fault h e = cc
ok_not_err (Err other) fault h e = false≢true h

free_from : (view : View) (list : List ViewFault) (answer : Result (Unit {0}) ViewFault) → IsFirstFault view list answer → IsOk answer → IsFree view list
free_from view [] answer first ok = tt
free_from view (fault ∷ rest) answer first ok =
    elim first [
      | inl h ↦ absurd (ok_not_err answer fault ok h.1)
      | inr h ↦ (h.0, free_from view rest answer h.1 ok)
    ]

ok_from : (view : View) (list : List ViewFault) (answer : Result (Unit {0}) ViewFault) → IsFirstFault view list answer → IsFree view list → IsOk answer
ok_from view [] answer first free = subst (λ (r : Result (Unit {0}) ViewFault). IsOk r) (sym first) refl
ok_from view (fault ∷ rest) answer first free =
    elim first [
      | inl h ↦ absurd (free.0 h.0)
      | inr h ↦ ok_from view rest answer h.1 free.1
    ]

within_from : (limit : ℤ) (v : V3) → ¬ (¬ IsWithin limit v) → IsWithin limit v
within_from limit v bare = (decides_within limit v).0 (true_from_ne_false (is_within limit v) (λ e. bare (λ h. true≢false (sym ((decides_within limit v).1 h) ∙ e))))

at_most_from : (m n : ℕ) → ¬ (m < n) → n ≤ m
at_most_from m n bare = elim (cases_lt m n) [
  | inl lt ↦ absurd (bare lt)
  | inr le ↦ le
]

checked_from : (view : View) → IsFree view fault_order → IsChecked view
checked_from view free =
    let pixels : ¬ HasFault view Pixels = free.0 in
    let side : ¬ HasFault view Side = free.1.0 in
    let cell : ¬ HasFault view Cell = free.1.1.0 in
    let world : ¬ HasFault view World = free.1.1.1.0 in
    record {
      columns = (some_of view.w (λ e. pixels (inl e)), at_most_from PICTURE_SIDE view.w (λ lt. side (inl lt)));
      rows = (some_of view.h (λ e. pixels (inr e)), at_most_from PICTURE_SIDE view.h (λ lt. side (inr lt)));
      cell = by_lt_z view.cell (pos 1) (λ lt. absurd (cell lt)) (λ le. le);
      in_world = λ column row c r.
          within_from WORLD _ (λ out. world (record { column = column; row = row; in_columns = c; in_rows = r; outside = out }));
    }

free_of : (view : View) → IsChecked view → IsFree view fault_order
free_of view h = (
  λ e. elim e [
    | inl w ↦ absurd (omega (arith, w, h.columns))
    | inr r ↦ absurd (omega (arith, r, h.rows))
  ],
  (
    λ e. elim e [
      | inl w ↦ absurd (omega (arith, w, h.columns))
      | inr r ↦ absurd (omega (arith, r, h.rows))
    ],
    ((λ e. absurd (omega (arith, ints, e, h.cell))), ((λ s. s.outside (h.in_world s.column s.row s.in_columns s.in_rows)), tt)),
  ),
)

-- a view is checked where it has none of the faults
pub checked_is : (view : View) (answer : Result (Unit {0}) ViewFault) → IsFirstFault view fault_order answer → IsOk answer ↔ IsChecked view
checked_is view answer first = (
  λ ok. checked_from view (free_from view fault_order answer first ok),
  λ h. ok_from view fault_order answer first (free_of view h),
)

-- the answers of the code
pub scaled_below : (limit length : ℤ) (d : Dir) → IsUnder limit length → IsBelow limit (scaled length (unit_of d))
scaled_below limit length PlusX h = record { x = (omega (arith, ints, h.0, h.1), omega (arith, ints, h.0, h.1)); y = (omega (arith, ints, h.0, h.1), omega (arith, ints, h.0, h.1)); z = (omega (arith, ints, h.0, h.1), omega (arith, ints, h.0, h.1)) }
scaled_below limit length MinusX h = record { x = (omega (arith, ints, h.0, h.1), omega (arith, ints, h.0, h.1)); y = (omega (arith, ints, h.0, h.1), omega (arith, ints, h.0, h.1)); z = (omega (arith, ints, h.0, h.1), omega (arith, ints, h.0, h.1)) }
scaled_below limit length PlusY h = record { x = (omega (arith, ints, h.0, h.1), omega (arith, ints, h.0, h.1)); y = (omega (arith, ints, h.0, h.1), omega (arith, ints, h.0, h.1)); z = (omega (arith, ints, h.0, h.1), omega (arith, ints, h.0, h.1)) }
scaled_below limit length MinusY h = record { x = (omega (arith, ints, h.0, h.1), omega (arith, ints, h.0, h.1)); y = (omega (arith, ints, h.0, h.1), omega (arith, ints, h.0, h.1)); z = (omega (arith, ints, h.0, h.1), omega (arith, ints, h.0, h.1)) }
scaled_below limit length PlusZ h = record { x = (omega (arith, ints, h.0, h.1), omega (arith, ints, h.0, h.1)); y = (omega (arith, ints, h.0, h.1), omega (arith, ints, h.0, h.1)); z = (omega (arith, ints, h.0, h.1), omega (arith, ints, h.0, h.1)) }
scaled_below limit length MinusZ h = record { x = (omega (arith, ints, h.0, h.1), omega (arith, ints, h.0, h.1)); y = (omega (arith, ints, h.0, h.1), omega (arith, ints, h.0, h.1)); z = (omega (arith, ints, h.0, h.1), omega (arith, ints, h.0, h.1)) }

pub below_wide : (a : V3) → IsBelow VIEW_REACH a → IsBelow WIDE a
below_wide a p = record {
  x = (omega (arith, ints, p.x.0, p.x.1), omega (arith, ints, p.x.0, p.x.1));
  y = (omega (arith, ints, p.y.0, p.y.1), omega (arith, ints, p.y.0, p.y.1));
  z = (omega (arith, ints, p.z.0, p.z.1), omega (arith, ints, p.z.0, p.z.1));
}

pub sum_below : (a b : V3) → IsBelow VIEW_REACH a → IsBelow VIEW_REACH b → IsBelow WIDE (vector_sum a b)
sum_below a b p q = record {
  x = (omega (arith, ints, p.x.0, p.x.1, q.x.0, q.x.1), omega (arith, ints, p.x.0, p.x.1, q.x.0, q.x.1));
  y = (omega (arith, ints, p.y.0, p.y.1, q.y.0, q.y.1), omega (arith, ints, p.y.0, p.y.1, q.y.0, q.y.1));
  z = (omega (arith, ints, p.z.0, p.z.1, q.z.0, q.z.1), omega (arith, ints, p.z.0, p.z.1, q.z.0, q.z.1));
}

pub world_number : (v : V3) → IsWithin WORLD v → IsWithin VIEW_NUMBER v
world_number v p = record {
  x = (omega (arith, ints, p.x.0, p.x.1), omega (arith, ints, p.x.0, p.x.1));
  y = (omega (arith, ints, p.y.0, p.y.1), omega (arith, ints, p.y.0, p.y.1));
  z = (omega (arith, ints, p.z.0, p.z.1), omega (arith, ints, p.z.0, p.z.1));
}

pub world_answer : (view : View) (r : Bool) (last : V3) → IsWithin WORLD view.corner → last ≡ (pixel_ray view (view.w - 1) (view.h - 1)).origin → Decides r (IsWithin WORLD last) → not r ≡ leaves_world view
world_answer view r last h is d =
    let o : V3 = (pixel_ray view (view.w - 1) (view.h - 1)).origin in
    let first : is_within WORLD view.corner ≡ true = (decides_within WORLD view.corner).1 h in
    let same : r ≡ is_within WORLD o = same_from_decides r (is_within WORLD o) (subst (λ (v : V3). Decides r (IsWithin WORLD v)) is d) (decides_within WORLD o) in
    ap not same ∙ ap (λ a. not (a && is_within WORLD o)) (sym first)
