-- What is gathered of a job in flight.
use Rattle.std.proofs.Common.{◌≡◌, ◌∙◌, ◌<◌, ◌≤◌, ◌+◌, ℕ, suc, List, [], ◌∷◌, All, length, map, get_or, sym, ap, subst, arith}
use Rattle.std.proofs.lemmas.List.Elements.{All-cons, All-nil}
use Rattle.std.proofs.lemmas.List.{get_or-map, length-map}
use Rattle.std.specs.Arc.{arc_value}
use Rattle.lattice_core.specs.declared.view.View.{View}
use Rattle.lattice_core.specs.Tiles.{tiles_of}
use Rattle.shot_core.specs.Regions.{Region}
use Rattle.tile_shot.specs.Named.{NamedTile}
use Rattle.tile_workers.specs.Results.{AreResults}
use Rattle.view_shot.specs.Flights.{GivesShot, HasPairs, IsOfCheck, IsOfPicture, IsTile, pieces_of}
use Rattle.view_shot.specs.Jobs.{AreReports, IsShotOf}
use Rattle.view_shot.specs.Steps.{AreLacking, IsTileReport}
use Rattle.view_shot.specs.declared.job.CheckJob.{CheckJob}
use Rattle.view_shot.specs.declared.job.TileJob.{TileJob}
use Rattle.view_shot.specs.declared.named.SharedPairs.{SharedPairs}
use Rattle.view_shot.specs.declared.work.Shot.{Shot}
use Rattle.view_shot.specs.declared.work.Shot.TheVariants.{Tile, Pairs}
use Rattle.view_shot.specs.declared.work.Work.{Work}
use Rattle.view_shot.specs.declared.work.Work.TheVariants.{Picture, Check}
use Rattle.view_shot.proofs.TileLaws.{lacking_are_shot}

-- each piece of a picture gives a tile
gives_tile : (job : TileJob) (i : ℕ) (shot : Shot) → GivesShot (Picture job) i shot → IsTile shot
gives_tile job i (Tile tile) h = tt
gives_tile job i (Pairs pairs) h = absurd h

-- and each piece of a check pairs
gives_pairs : (job : CheckJob) (i : ℕ) (shot : Shot) → GivesShot (Check job) i shot → HasPairs shot
gives_pairs job i (Tile tile) h = absurd h
gives_pairs job i (Pairs pairs) h = tt

all_from : {X : Type 0} (P : X → Type 0) (xs : List X) → ((i : ℕ) (d : X) → i < length xs → P (get_or xs i d)) → All P xs
all_from P [] each = All-nil P
all_from P (x ∷ xs) each = All-cons P x xs (each 0 x (omega arith)) (all_from P xs (λ i d lt. each (suc i) d (omega (arith, lt))))

pub are_tiles : (scene : List Region) (view : View) (names : List _) (work : Work) (shots : List Shot) → IsOfPicture scene view names work → length shots ≡ pieces_of work → AreResults (GivesShot work) (pieces_of work) shots → All IsTile shots
are_tiles scene view names (Picture job) shots of_view long each = all_from IsTile shots (λ i d lt. gives_tile job i (get_or shots i d) (each i d (omega (arith, lt, long))))
are_tiles scene view names (Check job) shots of_view long each = absurd of_view

-- the tiles of a picture, taken out
tile_given : (job : TileJob) (i : ℕ) (tile : NamedTile) → GivesShot (Picture job) i (Tile tile) → IsShotOf job i tile
tile_given job i tile h = h.0

pub are_lacking : (scene : List Region) (view : View) (names : List _) (work : Work) (shots : List Shot) (tiles : List NamedTile) → IsOfPicture scene view names work → length shots ≡ pieces_of work
    → AreResults (GivesShot work) (pieces_of work) shots → map Tile tiles ≡ shots → AreLacking scene view names tiles
are_lacking scene view names (Check job) shots tiles of_view long each are = absurd of_view
are_lacking scene view names (Picture job) shots tiles of_view long each are =
    let same : length tiles ≡ length shots = sym (length-map tiles Tile) ∙ ap (length {A = Shot}) are in
    lacking_are_shot scene view names job tiles of_view.0 of_view.1 of_view.2 (omega (arith, same, long, job.tiles.ok.0))
    (λ i d lt.
    let here : get_or shots i (Tile d) ≡ Tile (get_or tiles i d) = ap (λ (l : List Shot). get_or l i (Tile d)) (sym are) ∙ get_or-map Tile tiles i d (Tile d) (omega (arith, lt, same, long)) in
    tile_given job i (get_or tiles i d) (subst (GivesShot (Picture job) i) here (each i (Tile d) lt)))

-- the pairs of a check
pub have_pairs : (scene : List Region) (view : View) (count : ℕ) (work : Work) (shots : List Shot) → IsOfCheck scene view count work → length shots ≡ pieces_of work → AreResults (GivesShot work) (pieces_of work) shots → All HasPairs shots
have_pairs scene view count (Picture job) shots of_view long each = absurd of_view
have_pairs scene view count (Check job) shots of_view long each = all_from HasPairs shots (λ i d lt. gives_pairs job i (get_or shots i d) (each i d (omega (arith, lt, long))))

-- taken out, they are those of the first tiles of a view
pairs_given : (scene : List Region) (view : View) (job : CheckJob) (i : ℕ) (pairs : SharedPairs) → arc_value job.scene ≡ scene → job.view ≡ view → job.first ≡ 0 → GivesShot (Check job) i (Pairs pairs)
    → IsTileReport scene view (0 + i) (arc_value pairs.named).pairs.pairs
pairs_given scene view job i pairs of_scene of_view first h =
    subst (λ (n : ℕ). IsTileReport scene view n (arc_value pairs.named).pairs.pairs) (let e : job.first + i ≡ 0 + i = omega (arith, first) in e)
    (subst (λ (v : View). IsTileReport scene v (job.first + i) (arc_value pairs.named).pairs.pairs) of_view (subst (λ (s : List Region). IsTileReport s job.view (job.first + i) (arc_value pairs.named).pairs.pairs) of_scene h))

pub are_reports : (scene : List Region) (view : View) (count : ℕ) (work : Work) (shots : List Shot) (all : List SharedPairs) → IsOfCheck scene view count work → length shots ≡ pieces_of work
    → AreResults (GivesShot work) (pieces_of work) shots → map Pairs all ≡ shots → AreReports scene view 0 count all
are_reports scene view count (Picture job) shots all of_view long each are i d lt = absurd of_view
are_reports scene view count (Check job) shots all of_view long each are i d lt =
    let same : length all ≡ length shots = sym (length-map all Pairs) ∙ ap (length {A = Shot}) are in
    let within : i < job.count = omega (arith, lt, of_view.3) in
    let here : get_or shots i (Pairs d) ≡ Pairs (get_or all i d) = ap (λ (l : List Shot). get_or l i (Pairs d)) (sym are) ∙ get_or-map Pairs all i d (Pairs d) (omega (arith, within, same, long)) in
    pairs_given scene view job i (get_or all i d) of_view.0 of_view.1 of_view.2 (subst (GivesShot (Check job) i) here (each i (Pairs d) within))

-- as many as were posted
pub as_many : (scene : List Region) (view : View) (count : ℕ) (work : Work) (shots : List Shot) (all : List SharedPairs) → IsOfCheck scene view count work → length shots ≡ pieces_of work → map Pairs all ≡ shots → length all ≡ count
as_many scene view count (Picture job) shots all of_view long are = absurd of_view
as_many scene view count (Check job) shots all of_view long are = sym (length-map all Pairs) ∙ ap (length {A = Shot}) are ∙ long ∙ of_view.3

pub all_within : (scene : List Region) (view : View) (count : ℕ) (work : Work) → IsOfCheck scene view count work → count ≤ tiles_of view
all_within scene view count (Picture job) of_view = absurd of_view
all_within scene view count (Check job) of_view = let same : tiles_of job.view ≡ tiles_of view = ap tiles_of of_view.1 in omega (arith, of_view.3, of_view.2, job.within, same)
