use Rattle.std.proofs.Common.{◌≡◌, ◌∙◌, ℕ, min, List, [], ◌∷◌, ap, sym, subst, inl, inr, Option, None, Some}
use Rattle.std.specs.Prelude.{◌||◌}
use Rattle.name_core.specs.declared.name.Name.{Name}
use Rattle.name_core.specs.Same.{same_name}
use Rattle.comb_tree.specs.Changes.{is_among}
use Rattle.object_set.specs.Objects.{Parts}
use Rattle.directory.specs.Walks.{Entries, object_of, IsSound, depth_over, depth_within, unbounded}
use Rattle.directory.specs.Edits.{judged, appended, replaced, removed, renamed_all}
use Rattle.directory.specs.Closed.{depth_step, IsClosed, IsClosedBut, moved_depths, IsRelaxing}
use Rattle.object_pages.specs.Entries.{HoldsUsers}
use Rattle.object_pages.proofs.EntryLemmas.{same_or_apart, replace_there, replace_other}
use Rattle.directory.proofs.ClosedLemmas.{depths_closed, closed_if, closed_same}
use Rattle.directory.proofs.DirtyLemmas.{put_closed, replace_closed, edited_closed_but, remove_other}
use Rattle.directory.proofs.RenamedLemmas.{rename_closed, users_renamed}
use Rattle.directory.proofs.HighLemmas.{low_sound, low_same, low_moved, judged_high}

-- ---- where it begins, from the depths of a sound list
begin : (es made : Entries) (depths : Name → ℕ) (dirty : List Name) → IsSound es → ((x : Name) → depths x ≡ depth_within unbounded es x) → (IsClosed es depths → IsClosedBut made depths dirty) → IsRelaxing made depths dirty []
begin es made depths dirty sound are edit = let h = closed_if es depths are in record { closed = edit h; low = low_sound es depths sound h }

pub put_begins : (es : Entries) (a : Name) (o : Parts) (depths : Name → ℕ) → IsSound es → ((x : Name) → depths x ≡ depth_within unbounded es x) → IsRelaxing (appended es a o) depths (a ∷ []) []
put_begins es a o depths sound are = begin es (appended es a o) depths (a ∷ []) sound are (put_closed es a o depths)

pub replace_begins : (es : Entries) (a : Name) (o : Parts) (depths : Name → ℕ) → IsSound es → ((x : Name) → depths x ≡ depth_within unbounded es x) → IsRelaxing (replaced es a o) depths (a ∷ []) []
replace_begins es a o depths sound are = begin es (replaced es a o) depths (a ∷ []) sound are (replace_closed es a o depths)

-- depths that are the same everywhere do as well
pub relax_by : (es : Entries) (depths others : Name → ℕ) (dirty high : List Name) → ((x : Name) → others x ≡ depths x) → IsRelaxing es depths dirty high → IsRelaxing es others dirty high
relax_by es depths others dirty high same h = record { closed = closed_same es depths others dirty same h.closed; low = low_same depths others high same h.low }

-- a new name for a, where b is not there: its depth goes with it, and what refers to b is looked at
pub rename_begins : (es : Entries) (a b : Name) (users : List Name) (depths others : Name → ℕ) → IsSound es → ((x : Name) → depths x ≡ depth_within unbounded es x) → object_of es b ≡ None
    → HoldsUsers (renamed_all es a b) b users → ((x : Name) → others x ≡ moved_depths depths a b x)
    → IsRelaxing (renamed_all es a b) others users []
rename_begins es a b users depths others sound are none holds moved =
    let h = closed_if es depths are in
    relax_by (renamed_all es a b) (moved_depths depths a b) others users [] moved (record {
      closed = rename_closed es a b depths users h none (users_renamed es a b users none holds);
      low = low_moved depths a b (low_sound es depths sound h);
    })

-- nothing is changed yet
pub copy_begins : (es : Entries) (depths : Name → ℕ) → IsSound es → ((x : Name) → depths x ≡ depth_within unbounded es x) → IsRelaxing es depths [] []
copy_begins es depths sound are = begin es es depths [] sound are (λ h a out. h a)

-- ---- one name more is taken out
pub without_goes : (es : Entries) (a : Name) (depths : Name → ℕ) (dirty more : List Name) → IsRelaxing es depths dirty [] → ((x : Name) → is_among more x ≡ (same_name x a || is_among dirty x))
    → IsRelaxing (removed es a) depths more []
without_goes es a depths dirty more h put = record {
  closed = λ x out. edited_closed_but es (removed es a) depths a dirty h.closed (remove_other es a) x (sym (put x) ∙ out);
  low = h.low;
}

-- ---- an object that is as deep as the one of which it takes the place: all depths stay, and the list may stand
same_closed : (es : Entries) (a : Name) (o p : Parts) → object_of es a ≡ Some p → depth_over (Some o) (depth_within unbounded es) ≡ depth_over (Some p) (depth_within unbounded es) → IsClosed (replaced es a o) (depth_within unbounded es)
same_closed es a o p there same x = elim (same_or_apart x a) [
  | inl e ↦ subst (λ (y : Name). depth_within unbounded es y ≡ depth_step (replaced es a o) (depth_within unbounded es) y) (sym e)
      (depths_closed es a
      ∙ ap (λ (q : Option Parts). min unbounded (depth_over q (depth_within unbounded es))) there
      ∙ ap (λ n. min unbounded n) (sym same)
      ∙ ap (λ (q : Option Parts). min unbounded (depth_over q (depth_within unbounded es))) (sym (replace_there es a o (rw there))))
  | inr apart ↦ depths_closed es x ∙ ap (λ (q : Option Parts). min unbounded (depth_over q (depth_within unbounded es))) (sym (replace_other es a o x apart))
]

pub same_judged : (es : Entries) (a : Name) (o p : Parts) → IsSound es → object_of es a ≡ Some p → depth_over (Some o) (depth_within unbounded es) ≡ depth_over (Some p) (depth_within unbounded es)
    → judged (replaced es a o) a ≡ None
same_judged es a o p sound there same = judged_high (replaced es a o) a (depth_within unbounded es) [] (same_closed es a o p there same) (low_sound es (depth_within unbounded es) sound (depths_closed es))
