use Rattle.std.proofs.Common.{◌≡◌, ◌≢◌, inl, inr, ◌≤◌, ◌∙◌, ℕ, zero, suc, min, false, cond, List, [], ◌∷◌, map, ap, sym, subst, arith, Option, None, Some, true≢false}
use Rattle.name_core.specs.declared.name.Name.{Name}
use Rattle.object_set.specs.Objects.{Parts, member_names}
use Rattle.object_set.specs.declared.object.Body.{Body}
use Rattle.object_set.specs.declared.object.Body.TheVariants.{Solid, Comb}
use Rattle.directory.specs.Walks.{Entries, object_of, Refers, greatest_of, body_depth, depth_over, depth_within, unbounded}
use Rattle.comb_tree.specs.Changes.{is_among}
use Rattle.directory.specs.Closed.{depth_step, IsClosed, IsClosedBut, relaxed}
use Rattle.object_pages.specs.Entries.{HoldsUsers}
use Rattle.shared_pages.proofs.NameLemmas.{name_tells}
use Rattle.directory.proofs.PlaceLemmas.{over_members, over_same}

-- ---- a depth over bounded depths is the bounded depth
greatest_min : (f g : Name → ℕ) (most : ℕ) → ((x : Name) → f x ≡ min most (g x)) → (xs : List Name) → greatest_of (map f xs) ≡ min most (greatest_of (map g xs))
greatest_min f g most h [] = omega arith
greatest_min f g most h (x ∷ xs) = omega (arith, h x, greatest_min f g most h xs)

body_min : (f g : Name → ℕ) (most : ℕ) → ((x : Name) → f x ≡ min most (g x)) → (o : Body) → body_depth o f ≡ min (suc most) (body_depth o g)
body_min f g most h (Solid s) = omega arith
body_min f g most h (Comb attr tree) = omega (arith, greatest_min f g most h (member_names (Comb attr tree)))

pub over_min : (f g : Name → ℕ) (most : ℕ) → ((x : Name) → f x ≡ min most (g x)) → (o : Option Parts) → depth_over o f ≡ min (suc most) (depth_over o g)
over_min f g most h None = omega arith
over_min f g most h (Some o) = body_min f g most h o.body

-- ---- closed depths are the depths
pub closed_within : (es : Entries) (depths : Name → ℕ) → IsClosed es depths → (most : ℕ) → most ≤ unbounded → (a : Name) → depth_within most es a ≡ min most (depths a)
closed_within es depths h zero le a = omega arith
closed_within es depths h (suc most) le a =
    omega (arith, over_min (depth_within most es) depths most (closed_within es depths h most (omega (arith, le))) (object_of es a), h a)

-- they are, also where there are cycles
pub closed_depths : (es : Entries) (depths : Name → ℕ) → IsClosed es depths → (a : Name) → depths a ≡ depth_within unbounded es a
closed_depths es depths h a = omega (arith, closed_within es depths h unbounded (omega arith) a, h a)

pub within_less : (es : Entries) (few most : ℕ) → few ≤ most → (a : Name) → depth_within few es a ≡ min few (depth_within most es a)
within_less es zero most le a = omega arith
within_less es (suc few) zero le a = absurd (omega (arith, le))
within_less es (suc few) (suc most) le a = over_min (depth_within few es) (depth_within most es) few (within_less es few most (omega (arith, le))) (object_of es a)

-- and the depths are closed
pub depths_closed : (es : Entries) → IsClosed es (depth_within unbounded es)
depths_closed es a = over_min (depth_within 33 es) (depth_within unbounded es) 33 (within_less es 33 unbounded (omega arith)) (object_of es a)

pub closed_if : (es : Entries) (depths : Name → ℕ) → ((a : Name) → depths a ≡ depth_within unbounded es a) → IsClosed es depths
closed_if es depths h a = h a ∙ depths_closed es a ∙ ap (min unbounded) (over_same (depth_within unbounded es) depths (λ x. sym (h x)) (object_of es a))

-- ---- one depth set anew
pub relaxed_here : (depths : Name → ℕ) (a : Name) (depth : ℕ) (x : Name) → x ≡ a → relaxed depths a depth x ≡ depth
relaxed_here depths a depth x e = elim (name_tells a x) [ inl t ↦ ap (λ b. cond b depth (depths x)) t.0 | inr t ↦ absurd (t.1 (sym e)) ]

pub relaxed_away : (depths : Name → ℕ) (a : Name) (depth : ℕ) (x : Name) → x ≢ a → relaxed depths a depth x ≡ depths x
relaxed_away depths a depth x apart = elim (name_tells a x) [ inl t ↦ absurd (apart (sym t.1)) | inr t ↦ ap (λ b. cond b depth (depths x)) t.0 ]

-- what does not refer to a has the same depth over the new ones
pub step_kept : (es : Entries) (depths : Name → ℕ) (a : Name) (depth : ℕ) (x : Name) → ¬ (Refers es x a) → depth_step es (relaxed depths a depth) x ≡ depth_step es depths x
step_kept es depths a depth x free =
    ap (min unbounded) (over_members (relaxed depths a depth) depths (object_of es x) (λ m c. relaxed_away depths a depth m (λ e. free (subst (λ (y : Name). Refers es x y) e c))))

-- and over any that agree with these
pub step_apart : (es : Entries) (depths others : Name → ℕ) (a : Name) (depth : ℕ) → ((x : Name) → others x ≡ relaxed depths a depth x) → (x : Name) → ¬ (Refers es x a) → depth_step es others x ≡ depth_step es depths x
step_apart es depths others a depth set x free = ap (min unbounded) (over_same others (relaxed depths a depth) set (object_of es x)) ∙ step_kept es depths a depth x free

pub free_if : (es : Entries) (a : Name) (users : List Name) (x : Name) → HoldsUsers es a users → is_among users x ≡ false → ¬ (Refers es x a)
free_if es a users x holds out c = true≢false (sym (holds x c) ∙ out)

-- depths that are the same everywhere are closed where the others are
pub closed_same : (es : Entries) (depths others : Name → ℕ) (dirty : List Name) → ((x : Name) → others x ≡ depths x) → IsClosedBut es depths dirty → IsClosedBut es others dirty
closed_same es depths others dirty same h a out = same a ∙ h a out ∙ ap (min unbounded) (over_same depths others (λ x. sym (same x)) (object_of es a))
