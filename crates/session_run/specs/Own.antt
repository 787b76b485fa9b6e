-- What a session has of its own.
use Rattle.std.specs.Prelude.{ℕ, List, [], refl}
use Rattle.std.specs.Coded.{Coded, code_by, coded×, coded_ℕ, coded_list}
use Rattle.tile_shot.specs.Named.{TileName, name_code}

-- the names of the tiles that it keeps, the last used first, and how many bytes its accepted commands have used
pub record OwnState : Type 0 where
  pub tiles : List TileName
  pub used : ℕ

-- a session that keeps nothing and has used nothing
abbrev pub nothing_used : OwnState
nothing_used = record { tiles = []; used = 0 }

abbrev pub own_code : Coded OwnState
own_code = code_by (List TileName × ℕ) (coded× (coded_list name_code) coded_ℕ) (λ o. (o.tiles, o.used)) (λ p. record { tiles = p.0; used = p.1 }) (λ _. refl)
