use Rattle.std.proofs.Common.{◌≡◌, ◌≢◌, inl, inr, ◌∙◌, ℕ, min, List, [], ◌∷◌, refl, ap, sym, Option}
use Rattle.name_core.specs.declared.name.Name.{Name}
use Rattle.object_set.specs.Objects.{Parts}
use Rattle.directory.specs.Walks.{Entries, object_of, depth_over, unbounded}
use Rattle.directory.specs.Edits.{appended, replaced, removed}
use Rattle.directory.specs.Closed.{IsClosed, IsClosedBut}
use Rattle.shared_pages.proofs.NameLemmas.{name_tells}
use Rattle.object_pages.proofs.EntryLemmas.{other, push_other, replace_other}
use Rattle.object_pages.proofs.NamesLemmas.{not_in_head}

-- ---- an edit of one name
-- where the objects of all names but a stay, the depths stay closed but at a
pub edited_closed_but : (old new : Entries) (depths : Name → ℕ) (a : Name) (dirty : List Name) → IsClosedBut old depths dirty → ((x : Name) → x ≢ a → object_of new x ≡ object_of old x)
    → IsClosedBut new depths (a ∷ dirty)
edited_closed_but old new depths a dirty h same x out =
    let parts = not_in_head a dirty x out in
    h x parts.1 ∙ ap (λ (o : Option Parts). min unbounded (depth_over o depths)) (sym (same x parts.0))

pub edited_closed : (old new : Entries) (depths : Name → ℕ) (a : Name) → IsClosed old depths → ((x : Name) → x ≢ a → object_of new x ≡ object_of old x) → IsClosedBut new depths (a ∷ [])
edited_closed old new depths a h same = edited_closed_but old new depths a [] (λ x out. h x) same

-- ---- `put`
pub put_closed : (es : Entries) (a : Name) (o : Parts) (depths : Name → ℕ) → IsClosed es depths → IsClosedBut (appended es a o) depths (a ∷ [])
put_closed es a o depths h = edited_closed es (appended es a o) depths a h (push_other es a o)

-- ---- `replace`
pub replace_closed : (es : Entries) (a : Name) (o : Parts) (depths : Name → ℕ) → IsClosed es depths → IsClosedBut (replaced es a o) depths (a ∷ [])
replace_closed es a o depths h = edited_closed es (replaced es a o) depths a h (replace_other es a o)

-- ---- `remove`
pub remove_other : (es : Entries) (a x : Name) → x ≢ a → object_of (removed es a) x ≡ object_of es x
remove_other [] a x apart = refl
remove_other ((k, o) ∷ es) a x apart =
    elim (name_tells a k) [
      | inl t ↦ rw (t.0, other x k (λ e. apart (e ∙ sym t.1)))
      | inr t ↦ elim (name_tells x k) [ inl s ↦ rw (t.0, s.0) | inr s ↦ rw (t.0, s.0) (remove_other es a x apart) ]
    ]
