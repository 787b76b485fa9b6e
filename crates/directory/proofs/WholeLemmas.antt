use Rattle.std.proofs.Common.{◌≡◌, ◌≢◌, ◌⊎◌, inl, inr, ◌∙◌, ℕ, suc, Bool, true, false, List, [], ◌∷◌, ◌++◌, take, drop, filter, refl, ap, sym, subst, arith, None, Some}
use Rattle.std.specs.Prelude.{slice_get, not}
use Rattle.std.specs.List.{list_any, IsDistinct}
use Rattle.std.specs.Map.{keys_of}
use Rattle.std.proofs.lemmas.Map.Keys.{IsDistinct-head, IsDistinct-tail}
use Rattle.name_core.specs.declared.name.Name.{Name}
use Rattle.name_core.specs.Same.{same_name}
use Rattle.comb_tree.proofs.Changed.{filter_short}
use Rattle.object_set.specs.Objects.{Parts}
use Rattle.directory.specs.Walks.{Entries, object_of, IsSound}
use Rattle.directory.specs.Edits.{without_all}
use Rattle.shared_pages.proofs.NameLemmas.{name_tells}
use Rattle.std.proofs.lemmas.Map.Made.{IsDistinct-keys_filter}
use Rattle.directory.proofs.PlaceLemmas.{past_head}
use Rattle.object_pages.proofs.EntryLemmas.{pair_at, later_key}
use Rattle.directory.proofs.EditLemmas.{weight_of, refers_of, IsWithin, within_sound}

-- ---- a list copied pair by pair
pub fresh : (ys : Entries) (k : Name) (o : Parts) (rest : Entries) → IsDistinct same_name (keys_of (ys ++ (k, o) ∷ rest)) → object_of ys k ≡ None
fresh [] k o rest h = refl
fresh ((x, p) ∷ ys) k o rest h =
    let apart : k ≢ x = past_head x (keys_of (ys ++ (k, o) ∷ rest)) (IsDistinct-head same_name x (keys_of (ys ++ (k, o) ∷ rest)) h) k (later_key ys k o rest) in
    elim (name_tells k x) [ inl t ↦ absurd (apart t.1) | inr t ↦ rw t.0 (fresh ys k o rest (IsDistinct-tail same_name x (keys_of (ys ++ (k, o) ∷ rest)) h)) ]

pub copy_fresh : (es now : Entries) (i : ℕ) (k : Name) (o : Parts) → IsDistinct same_name (keys_of es) → slice_get es i ≡ Some (k, o) → now ≡ take i es → object_of now k ≡ None
copy_fresh es now i k o distinct at is =
    let D : Entries → Type 0 = λ l. IsDistinct same_name (keys_of l) in
    ap (λ (l : Entries). object_of l k) is ∙ fresh (take i es) k o (drop (suc i) es) (subst D (pair_at es i (k, o) at) distinct)

-- ---- many pairs less
abbrev kept_by : (Name → Bool) → Entries → Entries
kept_by p es = filter (λ e. p e.0) es

gone_step : (p : Name → Bool) (k : Name) (o : Parts) (es : Entries) (x : Name) (b : Bool) → p k ≡ b → p x ≡ false → ((same_name x k ≡ true) × (x ≡ k)) ⊎ ((same_name x k ≡ false) × (x ≢ k))
    → object_of (kept_by p es) x ≡ None → object_of (kept_by p ((k, o) ∷ es)) x ≡ None
gone_step p k o es x true e h (inl t) r = let wrong : true ≡ false = sym e ∙ sym (ap p t.1) ∙ h in cc
gone_step p k o es x true e h (inr t) r = rw (e, t.0) r
gone_step p k o es x false e h t r = rw e r

gone_filtered : (p : Name → Bool) (es : Entries) (x : Name) → p x ≡ false → object_of (kept_by p es) x ≡ None
gone_filtered p [] x h = refl
gone_filtered p ((k, o) ∷ es) x h = gone_step p k o es x (p k) refl h (name_tells x k) (gone_filtered p es x h)

abbrev LooksLike : Entries → Entries → Name → Type 0
LooksLike new old x = (object_of new x ≡ object_of old x) ⊎ (object_of new x ≡ None)

look_step : (p : Name → Bool) (k : Name) (o : Parts) (es : Entries) (x : Name) (b : Bool) → p k ≡ b → ((same_name x k ≡ true) × (x ≡ k)) ⊎ ((same_name x k ≡ false) × (x ≢ k))
    → LooksLike (kept_by p es) es x → LooksLike (kept_by p ((k, o) ∷ es)) ((k, o) ∷ es) x
look_step p k o es x true e (inl t) r = inl (rw (e, t.0))
look_step p k o es x true e (inr t) (inl r) = inl (rw (e, t.0) r)
look_step p k o es x true e (inr t) (inr r) = inr (rw (e, t.0) r)
look_step p k o es x false e (inl t) r = inr (gone_filtered p ((k, o) ∷ es) x (ap p t.1 ∙ e))
look_step p k o es x false e (inr t) (inl r) = inl (rw (e, t.0) r)
look_step p k o es x false e (inr t) (inr r) = inr (rw e r)

pub look_filtered : (p : Name → Bool) (es : Entries) (x : Name) → LooksLike (kept_by p es) es x
look_filtered p [] x = inl refl
look_filtered p ((k, o) ∷ es) x = look_step p k o es x (p k) refl (name_tells x k) (look_filtered p es x)

pub filter_within : (p : Name → Bool) (es : Entries) → IsWithin es (kept_by p es)
filter_within p es = record {
  weight = λ x. weight_of _ _ (look_filtered p es x);
  refers = λ x y c. refers_of _ _ y (look_filtered p es x) c;
}

pub without_sound : (es : Entries) (names : List Name) → IsSound es → IsSound (without_all es names)
without_sound es names sound =
    let p : Name → Bool = λ k. not (list_any (same_name k) names) in
    within_sound es (kept_by p es) (filter_within p es) sound (omega (arith, filter_short (λ (e : Name × Parts). p e.0) es, sound.small))
    (IsDistinct-keys_filter same_name (λ (e : Name × Parts). p e.0) es sound.distinct)
