use Rattle.std.proofs.Common.{◌≡◌, ℕ, ◌==◌, Bool, true, false, cond, List, [], ◌∷◌, ◌++◌, map, length, drop, take, refl, ap, ap₂, sym, ◌∙◌, suc, eq-eqb}
use Rattle.transcript.specs.Merge.{Entry, order_of, lane, IsMerge, once_taken, merged}
use mathlib.Core.Path.{fun_ext}

module _ {X : Type 0} where
  left_over : (t : Bool) (x : X) (xs : List X) → cond t (drop 1 (cond t (x ∷ xs) xs)) (cond t (x ∷ xs) xs) ≡ xs
  left_over true x xs = refl
  left_over false x xs = refl

  -- the sessions' own lists, merged by the order, are the list
  pub merge_back : (entries : List (Entry X)) → merged (order_of entries) (lane entries) ≡ entries
  merge_back [] = refl
  merge_back (e ∷ rest) =
      let one : List X → List (Entry X) = map (λ x. record { session = e.session; item = x }) in
      let first : cond (e.session == e.session) (e.item ∷ lane rest e.session) (lane rest e.session) ≡ e.item ∷ lane rest e.session =
      ap (λ t. cond t (e.item ∷ lane rest e.session) (lane rest e.session)) (eq-eqb e.session e.session refl) in
      let others : once_taken e.session (lane (e ∷ rest)) ≡ lane rest = fun_ext (λ j. left_over (e.session == j) e.item (lane rest j)) in
      ap₂ (λ (xs : List X) (lanes : ℕ → List X). one (take 1 xs) ++ merged (order_of rest) lanes) first others
      ∙ ap (λ es. e ∷ es) (merge_back rest)

  counted : (t : Bool) (n : ℕ) (x : X) (ns : List ℕ) (xs : List X) → length ns ≡ length xs → length (cond t (n ∷ ns) ns) ≡ length (cond t (x ∷ xs) xs)
  counted true n x ns xs e = ap suc e
  counted false n x ns xs e = e

  pub order_is_merge : (entries : List (Entry X)) → IsMerge (order_of entries) (lane entries)
  order_is_merge [] session = refl
  order_is_merge (e ∷ rest) session = counted (e.session == session) e.session e.item _ _ (order_is_merge rest session)

module _ {X Y : Type 0} (f : X → Y) where
  abbrev pub mapped : List (Entry X) → List (Entry Y)
  mapped entries = map (λ (e : Entry X). let r : Entry Y = record { session = e.session; item = f e.item } in r) entries

  maps : (t : Bool) (x : X) (xs : List X) → map f (cond t (x ∷ xs) xs) ≡ cond t (f x ∷ map f xs) (map f xs)
  maps true x xs = refl
  maps false x xs = refl

  pub lane_mapped : (entries : List (Entry X)) (session : ℕ) → lane (mapped entries) session ≡ map f (lane entries session)
  lane_mapped [] session = refl
  lane_mapped (e ∷ rest) session = ap (λ xs. cond (e.session == session) (f e.item ∷ xs) xs) (lane_mapped rest session) ∙ sym (maps (e.session == session) e.item (lane rest session))
