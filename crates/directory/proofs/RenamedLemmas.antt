use Rattle.std.proofs.Common.{◌≡◌, ◌≢◌, inl, inr, ◌+◌, ◌∙◌, ℕ, zero, suc, min, cond, List, [], ◌∷◌, map, refl, ap, sym, subst, arith, Option, None, Some, true≢false}
use Rattle.std.specs.List.{Contains}
use Rattle.std.specs.Option.{option_map}
use Rattle.name_core.specs.declared.name.Name.{Name}
use Rattle.name_core.specs.Same.{same_name}
use Rattle.object_set.specs.Objects.{Parts, member_names}
use Rattle.object_set.specs.Renaming.{new_name, renamed_body, renamed_object}
use Rattle.object_set.specs.declared.object.Body.{Body}
use Rattle.object_set.specs.declared.object.Body.TheVariants.{Solid, Comb}
use Rattle.object_set.proofs.Renamed.{names_after}
use Rattle.directory.specs.Walks.{Entries, members_of, object_of, Refers, greatest_of, body_depth, depth_over, unbounded}
use Rattle.directory.specs.Edits.{renamed_all}
use Rattle.comb_tree.specs.Changes.{is_among}
use Rattle.directory.specs.Closed.{depth_step, IsClosed, IsClosedBut, moved_depths, HoldsRenamedUsers}
use Rattle.object_pages.specs.Entries.{HoldsUsers}
use Rattle.shared_pages.proofs.NameLemmas.{name_tells}
use Rattle.object_pages.proofs.EntryLemmas.{same_or_apart, other, rename_gone, rename_kept, absent_head, new_here, new_away}

-- ---- the objects
pub rename_there : (es : Entries) (a b : Name) → object_of es b ≡ None → object_of (renamed_all es a b) b ≡ option_map (renamed_object a b) (object_of es a)
rename_there [] a b none = refl
rename_there ((k, o) ∷ es) a b none =
    let rest = absent_head b k o es none in
    elim (name_tells k a) [
      | inl t ↦ elim (name_tells b b) [ inl s ↦ elim (name_tells a k) [ inl r ↦ rw (t.0, s.0, r.0) | inr r ↦ absurd (r.1 (sym t.1)) ] | inr s ↦ absurd (s.1 refl) ]
      | inr t ↦ rw (t.0, other b k (λ e. rest.0 (sym e)), other a k (λ e. t.1 (sym e))) (rename_there es a b rest.1)
    ]

-- ---- the depths
pub moved_new : (depths : Name → ℕ) (a b x : Name) → x ≡ b → moved_depths depths a b x ≡ depths a
moved_new depths a b x e = elim (name_tells b x) [ inl t ↦ ap (λ c. cond c (depths a) (cond (same_name a x) 0 (depths x))) t.0 | inr t ↦ absurd (t.1 (sym e)) ]

pub moved_old : (depths : Name → ℕ) (a b x : Name) → x ≢ b → x ≡ a → moved_depths depths a b x ≡ 0
moved_old depths a b x apart e = elim (name_tells a x) [ inl t ↦ rw (other b x (λ s. apart (sym s)), t.0) | inr t ↦ absurd (t.1 (sym e)) ]

pub moved_other : (depths : Name → ℕ) (a b x : Name) → x ≢ b → x ≢ a → moved_depths depths a b x ≡ depths x
moved_other depths a b x apart away = rw (other b x (λ s. apart (sym s)), other a x (λ s. away (sym s)))

-- where both are solids' names, nothing moves
pub moved_nothing : (depths : Name → ℕ) (a b x : Name) → 0 ≡ depths a → depths b ≡ 0 → depths x ≡ moved_depths depths a b x
moved_nothing depths a b x was missed = elim (same_or_apart x b) [
  | inl e ↦ ap depths e ∙ missed ∙ was ∙ sym (moved_new depths a b x e)
  | inr apart ↦ elim (same_or_apart x a) [ inl e ↦ ap depths e ∙ sym was ∙ sym (moved_old depths a b x apart e) | inr away ↦ sym (moved_other depths a b x apart away) ]
]

-- a member other than b is as deep under its new name
moved_member : (depths : Name → ℕ) (a b m : Name) → m ≢ b → moved_depths depths a b (new_name a b m) ≡ depths m
moved_member depths a b m apart =
    elim (same_or_apart m a) [
      | inl e ↦ moved_new depths a b (new_name a b m) (new_here a b m e) ∙ ap depths (sym e)
      | inr away ↦ ap (moved_depths depths a b) (new_away a b m away) ∙ moved_other depths a b m apart away
    ]

greatest_renamed : (f g : Name → ℕ) (h : Name → Name) (xs : List Name) → ((m : Name) → Contains xs m → f (h m) ≡ g m) → greatest_of (map f (map h xs)) ≡ greatest_of (map g xs)
greatest_renamed f g h [] same = refl
greatest_renamed f g h (x ∷ xs) same = omega (arith, same x (0, omega arith, refl), greatest_renamed f g h xs (λ m c. same m (suc c.0, omega (arith, c.1), c.2)))

body_renamed : (f g : Name → ℕ) (a b : Name) (o : Body) → ((m : Name) → Contains (member_names o) m → f (new_name a b m) ≡ g m) → body_depth (renamed_body a b o) f ≡ body_depth o g
body_renamed f g a b (Solid s) same = refl
body_renamed f g a b (Comb attr tree) same =
    ap (λ (l : List Name). greatest_of (map f l) + 1) (names_after a b (Comb attr tree)) ∙ ap (λ n. n + 1) (greatest_renamed f g (new_name a b) (member_names (Comb attr tree)) same)

over_renamed : (f g : Name → ℕ) (a b : Name) (o : Option Parts) → ((m : Name) → Contains (members_of o) m → f (new_name a b m) ≡ g m) → depth_over (option_map (renamed_object a b) o) f ≡ depth_over o g
over_renamed f g a b None same = refl
over_renamed f g a b (Some o) same = body_renamed f g a b o.body same

-- an object that does not refer to b is as deep over the moved depths as it was
step_renamed : (es : Entries) (depths : Name → ℕ) (a b x y : Name) → object_of (renamed_all es a b) y ≡ option_map (renamed_object a b) (object_of es x) → ¬ (Refers es x b)
    → depth_step (renamed_all es a b) (moved_depths depths a b) y ≡ depth_step es depths x
step_renamed es depths a b x y is free =
    ap (λ (o : Option Parts). min unbounded (depth_over o (moved_depths depths a b))) is
    ∙ ap (min unbounded) (over_renamed (moved_depths depths a b) depths a b (object_of es x) (λ m c. moved_member depths a b m (λ e. free (subst (λ (n : Name). Refers es x n) e c))))

-- ---- `rename_all`
-- the moved depths are closed but at what referred to b before, where b dangled
pub rename_closed : (es : Entries) (a b : Name) (depths : Name → ℕ) (users : List Name) → IsClosed es depths → object_of es b ≡ None → HoldsRenamedUsers es a b users
    → IsClosedBut (renamed_all es a b) (moved_depths depths a b) users
rename_closed es a b depths users h none holds x out =
    elim (same_or_apart x b) [
      | inl e ↦ moved_new depths a b x e ∙ h a ∙ sym (step_renamed es depths a b a x (ap (object_of (renamed_all es a b)) e ∙ rename_there es a b none) (free a (new_here a b a refl ∙ sym e)))
      | inr apart ↦ elim (same_or_apart x a) [
        | inl e ↦ moved_old depths a b x apart e ∙ sym (ap (λ (o : Option Parts). min unbounded (depth_over o (moved_depths depths a b))) (rename_gone es a b x apart e))
        | inr away ↦ moved_other depths a b x apart away ∙ h x ∙ sym (step_renamed es depths a b x x (rename_kept es a b x apart away) (free x (new_away a b x away)))
      ]
    ]
  where
    free : (y : Name) → new_name a b y ≡ x → ¬ (Refers es y b)
    free y e c = true≢false (sym (holds y c) ∙ ap (is_among users) e ∙ out)

-- ---- the names that refer to b after that are those that referred to b, as they are called now
contains_map : (f : Name → Name) (xs : List Name) (x : Name) → Contains xs x → Contains (map f xs) (f x)
contains_map f [] x c = absurd (omega (arith, c.1))
contains_map f (y ∷ xs) x (zero, lt, is) = (0, omega arith, ap f is)
contains_map f (y ∷ xs) x (suc i, lt, is) = let r = contains_map f xs x (i, omega arith, is) in (suc r.0, omega (arith, r.1), r.2)

new_stays : (a b : Name) → new_name a b b ≡ b
new_stays a b = elim (same_or_apart b a) [ inl e ↦ new_here a b b e | inr away ↦ new_away a b b away ]

still_named : (a b : Name) (o : Option Parts) → Contains (members_of o) b → Contains (members_of (option_map (renamed_object a b) o)) b
still_named a b None c = c
still_named a b (Some o) c =
    subst (λ (l : List Name). Contains l b) (sym (names_after a b o.body))
    (subst (λ (y : Name). Contains (map (new_name a b) (member_names o.body)) y) (new_stays a b) (contains_map (new_name a b) (member_names o.body) b c))

-- its object is the renamed one
renamed_at : (es : Entries) (a b x : Name) → x ≢ b → object_of es b ≡ None → object_of (renamed_all es a b) (new_name a b x) ≡ option_map (renamed_object a b) (object_of es x)
renamed_at es a b x apart none =
    elim (same_or_apart x a) [
      | inl e ↦ ap (object_of (renamed_all es a b)) (new_here a b x e) ∙ rename_there es a b none ∙ ap (λ (y : Name). option_map (renamed_object a b) (object_of es y)) (sym e)
      | inr away ↦ ap (object_of (renamed_all es a b)) (new_away a b x away) ∙ rename_kept es a b x apart away
    ]

pub users_renamed : (es : Entries) (a b : Name) (users : List Name) → object_of es b ≡ None → HoldsUsers (renamed_all es a b) b users → HoldsRenamedUsers es a b users
users_renamed es a b users none holds x c =
    elim (same_or_apart x b) [
      | inl e ↦ let empty : Contains [] b = subst (λ (o : Option Parts). Contains (members_of o) b) (ap (object_of es) e ∙ none) c in absurd (omega (arith, empty.1))
      | inr apart ↦ holds (new_name a b x) (subst (λ (o : Option Parts). Contains (members_of o) b) (sym (renamed_at es a b x apart none)) (still_named a b (object_of es x) c))
    ]
