use Rattle.std.proofs.Common.{[], ◌≡◌, List, true≢false, ◌≢◌, ◌∙◌, ℕ, zero, suc, ◌∷◌, ◌++◌, take, length, refl, ap, sym, arith, None, Some, false, cond, inl, inr, ◌⊎◌, ◌≤◌, IsSome, drop}
use Rattle.std.specs.List.{Contains, AllByRecursion, IsDistinct}
use Rattle.std.specs.Map.{keys_of}
use Rattle.std.specs.Prelude.{slice_get}
use Rattle.std.specs.Option.{option_map}
use Rattle.std.proofs.lemmas.List.{length-map}
use Rattle.name_core.specs.declared.name.Name.{Name}
use Rattle.name_core.specs.Same.{same_name}
use Rattle.object_set.specs.Objects.{Parts}
use Rattle.object_pages.specs.Entries.{Entries, object_of}
use Rattle.object_pages.specs.Changes.{appended, replaced, removed, renamed_all}
use Rattle.object_set.specs.Renaming.{new_name, renamed_object}
use Rattle.shared_pages.proofs.NameLemmas.{name_tells}
use Rattle.std.proofs.lemmas.Map.Keys.{IsDistinct-head, IsDistinct-tail}

pub look_here : (k : Name) (o : Parts) (es : Entries) → object_of ((k, o) ∷ es) k ≡ Some o
look_here k o es = elim (name_tells k k) [ inl p ↦ rw p.0 | inr p ↦ absurd (p.1 refl) ]

pub same_or_apart : (x y : Name) → (x ≡ y) ⊎ (x ≢ y)
same_or_apart x y = elim (name_tells x y) [ inl t ↦ inl t.1 | inr t ↦ inr t.1 ]

-- ---- edits that change what one name stands for
pub push_other : (dir : Entries) (a : Name) (o : Parts) (x : Name) → x ≢ a → object_of (dir ++ (a, o) ∷ []) x ≡ object_of dir x
push_other [] a o x apart = elim (name_tells x a) [ inl p ↦ absurd (apart p.1) | inr p ↦ rw p.0 ]
push_other ((k, p) ∷ dir) a o x apart = elim (name_tells x k) [ inl q ↦ rw q.0 | inr q ↦ rw q.0 (push_other dir a o x apart) ]

-- ---- `replace`
pub replace_there : (es : Entries) (a : Name) (o : Parts) → IsSome (object_of es a) → object_of (replaced es a o) a ≡ Some o
replace_there [] a o h = cc
replace_there ((k, q) ∷ es) a o h = elim (name_tells a k) [ inl t ↦ rw (t.0, t.0) | inr t ↦ rw (t.0, t.0) (replace_there es a o (rw t.0 at h)) ]

pub replace_other : (es : Entries) (a : Name) (o : Parts) (x : Name) → x ≢ a → object_of (replaced es a o) x ≡ object_of es x
replace_other [] a o x apart = refl
replace_other ((k, q) ∷ es) a o x apart =
    elim (name_tells a k) [
      | inl t ↦ elim (name_tells x k) [ inl s ↦ absurd (apart (s.1 ∙ sym t.1)) | inr s ↦ rw (t.0, s.0) ]
      | inr t ↦ elim (name_tells x k) [ inl s ↦ rw (t.0, s.0) | inr s ↦ rw (t.0, s.0) (replace_other es a o x apart) ]
    ]

pub length-replaced : (es : Entries) (a : Name) (o : Parts) → length (replaced es a o) ≡ length es
length-replaced [] a o = refl
length-replaced ((k, q) ∷ es) a o = elim (name_tells a k) [ inl t ↦ rw t.0 | inr t ↦ rw t.0 (ap suc (length-replaced es a o)) ]

-- ---- `remove`
pub none_left : (k : Name) (es : Entries) → AllByRecursion (λ y. same_name k y ≡ false) (keys_of es) → object_of es k ≡ None
none_left k [] h = refl
none_left k ((y, o) ∷ es) h = rw h.0 (none_left k es h.1)

pub remove_look : (es : Entries) (a x : Name) → IsDistinct same_name (keys_of es) → (object_of (removed es a) x ≡ object_of es x) ⊎ (object_of (removed es a) x ≡ None)
remove_look [] a x h = inl refl
remove_look ((k, o) ∷ es) a x h =
    elim (name_tells a k) [
      | inl t ↦ elim (name_tells x k) [
        | inl s ↦ inr (rw t.0 (ap (λ (y : Name). object_of es y) s.1 ∙ none_left k es (IsDistinct-head same_name k (keys_of es) h)))
        | inr s ↦ inl (rw (t.0, s.0))
      ]
      | inr t ↦ elim (name_tells x k) [
        | inl s ↦ inl (rw (t.0, s.0))
        | inr s ↦ rw (t.0, s.0) (remove_look es a x (IsDistinct-tail same_name k (keys_of es) h))
      ]
    ]

pub length-removed : (es : Entries) (a : Name) → length (removed es a) ≤ length es
length-removed [] a = omega arith
length-removed ((k, o) ∷ es) a = elim (name_tells a k) [ inl t ↦ rw t.0 (omega arith) | inr t ↦ rw t.0 (omega (arith, length-removed es a)) ]

-- ---- `rename_all`
pub other : (x k : Name) → x ≢ k → same_name x k ≡ false
other x k apart = elim (name_tells x k) [ inl p ↦ absurd (apart p.1) | inr p ↦ p.0 ]

pub rename_gone : (es : Entries) (a b x : Name) → x ≢ b → x ≡ a → object_of (renamed_all es a b) x ≡ None
rename_gone [] a b x apart here = refl
rename_gone ((k, o) ∷ es) a b x apart here =
    elim (name_tells k a) [
      | inl t ↦ rw (t.0, other x b apart) (rename_gone es a b x apart here)
      | inr t ↦ rw (t.0, other x k (λ e. t.1 (sym e ∙ here))) (rename_gone es a b x apart here)
    ]

pub rename_kept : (es : Entries) (a b x : Name) → x ≢ b → x ≢ a → object_of (renamed_all es a b) x ≡ option_map (renamed_object a b) (object_of es x)
rename_kept [] a b x apart away = refl
rename_kept ((k, o) ∷ es) a b x apart away =
    elim (name_tells k a) [
      | inl t ↦ rw (t.0, other x b apart, other x k (λ e. away (e ∙ t.1))) (rename_kept es a b x apart away)
      | inr t ↦ elim (name_tells x k) [ inl s ↦ rw (t.0, s.0) | inr s ↦ rw (t.0, s.0) (rename_kept es a b x apart away) ]
    ]

pub length-renamed_all : (es : Entries) (a b : Name) → length (renamed_all es a b) ≡ length es
length-renamed_all es a b = length-map es (λ (e : Name × Parts). (new_name a b e.0, renamed_object a b e.1))

pub pair_at : (es : Entries) (i : ℕ) (p : Name × Parts) → slice_get es i ≡ Some p → es ≡ take i es ++ p ∷ drop (suc i) es
pair_at [] i p h = cc
pair_at (e ∷ es) zero p h = let same : e ≡ p = cc in ap (λ (x : Name × Parts). x ∷ es) same
pair_at (e ∷ es) (suc i) p h = ap (λ (l : Entries). e ∷ l) (pair_at es i p h)

pub take_one_more : (es : Entries) (i : ℕ) (p : Name × Parts) → slice_get es i ≡ Some p → take (suc i) es ≡ take i es ++ p ∷ []
take_one_more [] i p h = cc
take_one_more (e ∷ es) zero p h = let same : e ≡ p = cc in ap (λ (x : Name × Parts). x ∷ []) same
take_one_more (e ∷ es) (suc i) p h = ap (λ (l : Entries). e ∷ l) (take_one_more es i p h)

pub renamed_all-push : (es : Entries) (a b k : Name) (o : Parts) → renamed_all (es ++ (k, o) ∷ []) a b ≡ renamed_all es a b ++ (new_name a b k, renamed_object a b o) ∷ []
renamed_all-push [] a b k o = refl
renamed_all-push ((i, p) ∷ es) a b k o = ap (λ (l : Entries). (new_name a b i, renamed_object a b p) ∷ l) (renamed_all-push es a b k o)

pub absent_head : (b k : Name) (o : Parts) (es : Entries) → object_of ((k, o) ∷ es) b ≡ None → (k ≢ b) × (object_of es b ≡ None)
absent_head b k o es h =
    elim (name_tells b k) [
      | inl t ↦ let wrong : Some o ≡ None = rw t.0 at h in cc
      | inr t ↦ (λ e. t.1 (sym e), rw t.0 at h)
    ]

absent_later : (b : Name) (ys : Entries) (k : Name) (o : Parts) (rest : Entries) → object_of (ys ++ (k, o) ∷ rest) b ≡ None → k ≢ b
absent_later b [] k o rest h = (absent_head b k o rest h).0
absent_later b ((j, p) ∷ ys) k o rest h = absent_later b ys k o rest (absent_head b j p (ys ++ (k, o) ∷ rest) h).1

pub later_key : (ys : Entries) (k : Name) (o : Parts) (rest : Entries) → Contains (keys_of (ys ++ (k, o) ∷ rest)) k
later_key [] k o rest = (0, omega arith, refl)
later_key ((j, p) ∷ ys) k o rest = let r = later_key ys k o rest in (suc r.0, omega (arith, r.1), r.2)

-- the next name is not yet among the renamed ones
pub past_head : (k : Name) (xs : List Name) → AllByRecursion (λ y. same_name k y ≡ false) xs → (x : Name) → Contains xs x → x ≢ k
past_head k [] h x c = absurd (omega (arith, c.1))
past_head k (y ∷ xs) h x (zero, lt, is) = λ e. elim (name_tells k y) [ inl p ↦ true≢false (sym p.0 ∙ h.0) | inr p ↦ p.1 (sym (is ∙ e)) ]
past_head k (y ∷ xs) h x (suc i, lt, is) = past_head k xs h.1 x (i, omega arith, is)

pub renamed_apart : (a b k l : Name) → k ≢ l → k ≢ b → l ≢ b → new_name a b k ≢ new_name a b l
renamed_apart a b k l apart kb lb =
    elim (name_tells k a) [
      | inl t ↦ elim (name_tells l a) [ inl s ↦ absurd (apart (t.1 ∙ sym s.1)) | inr s ↦ rw (t.0, s.0) (λ e. lb (sym e)) ]
      | inr t ↦ elim (name_tells l a) [ inl s ↦ rw (t.0, s.0) kb | inr s ↦ rw (t.0, s.0) apart ]
    ]

pub next_absent : (ys : Entries) (k : Name) (o : Parts) (rest : Entries) (a b : Name) → IsDistinct same_name (keys_of (ys ++ (k, o) ∷ rest))
    → object_of (ys ++ (k, o) ∷ rest) b ≡ None → object_of (renamed_all ys a b) (new_name a b k) ≡ None
next_absent [] k o rest a b h absent = refl
next_absent ((j, p) ∷ ys) k o rest a b h absent =
    let apart : k ≢ j = past_head j (keys_of (ys ++ (k, o) ∷ rest)) (IsDistinct-head same_name j (keys_of (ys ++ (k, o) ∷ rest)) h) k (later_key ys k o rest) in
    let head = absent_head b j p (ys ++ (k, o) ∷ rest) absent in
    let away = renamed_apart a b k j apart (absent_later b ys k o rest head.1) head.0 in
    rw (other (new_name a b k) (new_name a b j) away) (next_absent ys k o rest a b (IsDistinct-tail same_name j (keys_of (ys ++ (k, o) ∷ rest)) h) head.1)

pub push_here : (es : Entries) (a : Name) (o : Parts) → object_of es a ≡ None → object_of (appended es a o) a ≡ Some o
push_here [] a o h = look_here a o []
push_here ((k, p) ∷ es) a o h =
    elim (name_tells a k) [
      | inl t ↦ let wrong : Some p ≡ None = rw t.0 at h in cc
      | inr t ↦ rw t.0 (push_here es a o (rw t.0 at h))
    ]

-- ---- the new names of members
pub new_here : (a b x : Name) → x ≡ a → new_name a b x ≡ b
new_here a b x e = elim (name_tells x a) [ inl t ↦ ap (λ c. cond c b x) t.0 | inr t ↦ absurd (t.1 e) ]

pub new_away : (a b x : Name) → x ≢ a → new_name a b x ≡ x
new_away a b x apart = elim (name_tells x a) [ inl t ↦ absurd (apart t.1) | inr t ↦ ap (λ c. cond c b x) t.0 ]
