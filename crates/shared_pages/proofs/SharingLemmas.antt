use Rattle.std.proofs.Common.{◌≡◌, ◌∙◌, Bool, true, false, List, [], ◌∷◌, refl, ap}
use Rattle.std.specs.Arc.{arc_value}
use Rattle.std.specs.declared.sync.Arc.{Arc}
use Rattle.std.specs.List.{AllZip}
use Rattle.std.specs.Map.{remove_entry}
use Rattle.indexmap.specs.IndexMap.{insert_entry}
use Rattle.shared_pages.specs.Sharing.{values_shared}

-- ---- what is done to pairs is done to their values
module _ {K V Z : Type 0} where
  pub values_same : (es fs : List (K × Arc V Z)) → AllZip (λ p q. (q.0 ≡ p.0) × (arc_value q.1 ≡ arc_value p.1)) es fs → values_shared fs ≡ values_shared es
  values_same [] [] h = refl
  values_same [] (f ∷ fs) h = absurd h
  values_same (e ∷ es) [] h = absurd h
  values_same (e ∷ es) (f ∷ fs) h = (λ j. (h.0.0 j, h.0.1 j) ∷ values_shared fs) ∙ ap (λ l. (e.0, arc_value e.1) ∷ l) (values_same es fs h.1)

  pub values_removed : (test : K → Bool) (es : List (K × Arc V Z)) → values_shared (remove_entry test es) ≡ remove_entry test (values_shared es)
  values_removed test [] = refl
  values_removed test (e ∷ es) = by (test e.0) refl (values_removed test es)
    where
      by : (b : Bool) → test e.0 ≡ b → values_shared (remove_entry test es) ≡ remove_entry test (values_shared es) → values_shared (remove_entry test (e ∷ es)) ≡ remove_entry test (values_shared (e ∷ es))
      by true h rest = rw h
      by false h rest = rw h (ap (λ l. (e.0, arc_value e.1) ∷ l) rest)

  pub values_inserted : (eq : K → K → Bool) (es : List (K × Arc V Z)) (k : K) (v : Arc V Z) → values_shared (insert_entry eq es k v) ≡ insert_entry eq (values_shared es) k (arc_value v)
  values_inserted eq [] k v = refl
  values_inserted eq (e ∷ es) k v = by (eq k e.0) refl (values_inserted eq es k v)
    where
      by : (b : Bool) → eq k e.0 ≡ b → values_shared (insert_entry eq es k v) ≡ insert_entry eq (values_shared es) k (arc_value v)
          → values_shared (insert_entry eq (e ∷ es) k v) ≡ insert_entry eq (values_shared (e ∷ es)) k (arc_value v)
      by true h rest = rw h
      by false h rest = rw h (ap (λ l. (e.0, arc_value e.1) ∷ l) rest)
