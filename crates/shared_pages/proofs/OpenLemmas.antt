use Rattle.std.proofs.Common.{◌≡◌, ◌≢◌, ◌<◌, ◌∙◌, ℕ, Bool, true, false, cond, List, [], length, refl, ap, sym, subst, Option, None}
use Rattle.std.specs.Prelude.{slice_set, slice_index_or}
use Rattle.std.proofs.lemmas.List.{get_or-set_same, get_or-set_other}
use Rattle.name_core.specs.declared.name.Name.{Name}
use Rattle.name_core.specs.Same.{same_name}
use Rattle.shared_pages.specs.Buckets.{Shelves, bucket_at, value_of, Gives}
use Rattle.shared_pages.specs.Opened.{OpenMap, rejoined}
use Rattle.shared_pages.proofs.PlaceLemmas.{PutsBucket, puts_set, puts_bucket}

-- ---- parts that are put back
module _ {V : Type 0} (shelves : Shelves V) (i : ℕ) (shelf : List (List (List (Name × V)))) (j : ℕ) (row : List (List (Name × V))) (k : ℕ) (in_shelves : i < length shelves) (on_shelf : j < length shelf) (in_row : k < length row) where
  -- into a map that has the same at all other places
  pub rejoins : (old : Shelves V) (bucket : List (Name × V)) → ((n : ℕ) → n ≢ i → slice_index_or shelves n [] ≡ slice_index_or old n [])
      → ((n : ℕ) → n ≢ j → slice_index_or shelf n [] ≡ slice_index_or (slice_index_or old i []) n [])
      → ((n : ℕ) → n ≢ k → slice_index_or row n [] ≡ slice_index_or (slice_index_or (slice_index_or old i []) j []) n [])
      → PutsBucket old i j k bucket (rejoined shelves i shelf j row k bucket)
  rejoins old bucket others beside around =
      puts_bucket old (rejoined shelves i shelf j row k bucket) (slice_index_or old i []) (slice_set shelf j (slice_set row k bucket)) (slice_index_or (slice_index_or old i []) j []) (slice_set row k bucket) i j k bucket refl refl
      (puts_set [] (slice_index_or (slice_index_or old i []) j []) row (slice_set row k bucket) k bucket around in_row refl)
      (puts_set [] (slice_index_or old i []) shelf (slice_set shelf j (slice_set row k bucket)) j (slice_set row k bucket) beside on_shelf refl)
      (puts_set [] old shelves (rejoined shelves i shelf j row k bucket) i (slice_set shelf j (slice_set row k bucket)) others in_shelves refl)

  -- what stands at their places
  shelf_put : (bucket : List (Name × V)) → slice_index_or (rejoined shelves i shelf j row k bucket) i [] ≡ slice_set shelf j (slice_set row k bucket)
  shelf_put bucket = get_or-set_same shelves i (slice_set shelf j (slice_set row k bucket)) [] in_shelves

  row_put : (bucket : List (Name × V)) → slice_index_or (slice_index_or (rejoined shelves i shelf j row k bucket) i []) j [] ≡ slice_set row k bucket
  row_put bucket = ap (λ l. slice_index_or l j []) (shelf_put bucket) ∙ get_or-set_same shelf j (slice_set row k bucket) [] on_shelf

  pub bucket_put : (bucket : List (Name × V)) → bucket_at (rejoined shelves i shelf j row k bucket) i j k ≡ bucket
  bucket_put bucket = ap (λ l. slice_index_or l k []) (row_put bucket) ∙ get_or-set_same row k bucket [] in_row

  -- with another bucket
  pub rejoins_again : (was bucket : List (Name × V)) → PutsBucket (rejoined shelves i shelf j row k was) i j k bucket (rejoined shelves i shelf j row k bucket)
  rejoins_again was bucket =
      rejoins (rejoined shelves i shelf j row k was) bucket
      (λ n apart. sym (get_or-set_other shelves i n (slice_set shelf j (slice_set row k was)) [] apart))
      (λ n apart. sym (ap (λ l. slice_index_or l n []) (shelf_put was) ∙ get_or-set_other shelf j n (slice_set row k was) [] apart))
      (λ n apart. sym (ap (λ l. slice_index_or l n []) (row_put was) ∙ get_or-set_other row k n was [] apart))

-- ---- a map that is closed after it was opened
module _ {V : Type 0} where
  given_over : (t : Bool) (v u w : Option V) → cond t v (cond t u w) ≡ cond t v w
  given_over true v u w = refl
  given_over false v u w = refl

  pub closed_gives : (old new : Shelves V) (o : OpenMap V) (a : Name) (v : Option V) → Gives old a None o.map → o.name ≡ a → Gives o.map o.name v new → Gives old a v new
  closed_gives old new o a v opened is closed b =
      subst (λ (n : Name). value_of new b ≡ cond (same_name n b) v (value_of o.map b)) is (closed b)
      ∙ ap (λ u. cond (same_name a b) v u) (opened b)
      ∙ given_over (same_name a b) v None (value_of old b)

  -- what contracts see of an open map is one value
  pub seen_gives : (o p : OpenMap V) (v : Option V) (new : Shelves V) → o ≡ p → Gives o.map o.name v new → Gives p.map p.name v new
  seen_gives o p v new is gives = subst (λ (x : OpenMap V). Gives x.map x.name v new) is gives
