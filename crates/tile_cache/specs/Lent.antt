-- What is kept once a value that was lent is given back.
use Rattle.std.specs.Prelude.{◌≡◌, List, ⊤}
use Rattle.std.specs.Borrow.{Fml, MutBor, RattleType, follows_so}
use Rattle.std.specs.HashMap.Lent.{HashMembers}
use Rattle.tile_cache.specs.declared.named.Named as named
use Rattle.tile_cache.specs.contracts.cache.TileCache.{the_row}
use mathlib.Core.Option.{none}

module _ (K V : RattleType) (key : HashMembers K.Denot) (names : named.Ghosts V.Denot K.Denot) where
  -- The type of what is kept, as the logic holds it.
  abbrev pub cache_row : RattleType
  cache_row = the_row K V (record {}) (record { eq = key.eq }) (record { hash_input = key.hash_input }) names

  -- It keeps these entries.
  abbrev pub ends_as : MutBor (List (K.Denot × V.Denot)) → List (K.Denot × V.Denot) → Fml
  ends_as cache entries = follows_so cache_row cache_row cache.ghost_name none (λ _ _. ⊤) (λ now. now ≡ entries)
