-- Small directories, and what the definitions make of commands.
use Rattle.std.specs.Prelude.{◌≡◌, ℕ, refl, pos, [], ◌∷◌, ◌++◌, None, Some, Ok, Err, codes}
use Rattle.lattice_core.specs.declared.ray.Dir.TheVariants.{PlusX, PlusY}
use Rattle.lattice_core.specs.declared.ray.Ray.{Ray}
use Rattle.lattice_core.specs.declared.view.View.{View}
use Rattle.surd_order.specs.PlaceOrder.{place_cmp}
use Rattle.std.specs.Fmt.{digits}
use Rattle.region_attr.specs.Attrs.{group_attr, region_attr}
use Rattle.solid_set.specs.declared.solid.Solid.TheVariants as solids
use Rattle.object_set.specs.Objects.{Parts}
use Rattle.object_set.specs.declared.object.Body.TheVariants.{Solid, Comb}
use Rattle.command_set.specs.declared.command.Command.TheVariants.{Bad, Edit as IsEdit, Query as IsQuery, Shoot as IsShoot}
use Rattle.command_set.specs.declared.command.Edit.TheVariants.{Make, Kill}
use Rattle.command_set.specs.declared.command.Query.TheVariants as queries
use Rattle.command_set.specs.declared.command.Shoot.TheVariants.{Picture, Check, Area, Edge}
use Rattle.command_set.specs.declared.refusal.Refusal.TheVariants.{Syntax, Exists, Missing, Quota}
use Rattle.directory.specs.Listing.{Listing}
use Rattle.scene_prep.specs.Regions.{regions_of_name}
use Rattle.scene_prep.specs.Sizes.{size_of_name}
use Rattle.session_run.specs.Own.{OwnState}
use Rattle.tile_shot.specs.Named.{TileName}
use Rattle.session_run.specs.Replies.{no_objects, lines_alone, picture_line, outcome_of, directory_made, used_after, own_with, forgotten}

-- the half-space of the points with x at most 5
abbrev half : Parts
half = record { body = Solid (solids.Half (record { normal = record { x = pos 1; y = pos 0; z = pos 0 }; distance = pos 5 })); kept = [] }

abbrev pub along_x : Ray
along_x = record { origin = record { x = pos 0; y = pos 0; z = pos 0 }; dir = PlusX }

-- a session that keeps no tile
abbrev used_so_far : ℕ → OwnState
used_so_far used = record { tiles = []; used = used }

-- a half-space, a region and another combination without members
abbrev pub three : Listing
three = record { title = []; objects = (codes "h", half) ∷ (codes "r", record { body = Comb region_attr None; kept = [] }) ∷ (codes "g", record { body = Comb group_attr None; kept = [] }) ∷ [] }

names_of_three : outcome_of three (used_so_far 0) (IsQuery queries.Names) ≡ Ok (lines_alone (codes "h" ∷ codes "r/R" ∷ codes "g/" ∷ []))
names_of_three = refl

-- these lines have nine bytes with their line feeds
nine_bytes : used_after 7 (outcome_of three (used_so_far 7) (IsQuery queries.Names)) ≡ 16
nine_bytes = refl

nine_bytes_left : outcome_of three (used_so_far 67108855) (IsQuery queries.Names) ≡ Ok (lines_alone (codes "h" ∷ codes "r/R" ∷ codes "g/" ∷ []))
nine_bytes_left = refl

eight_bytes_left : outcome_of three (used_so_far 67108856) (IsQuery queries.Names) ≡ Err Quota
eight_bytes_left = refl

-- a refused command uses nothing
nothing_used : used_after 67108856 (outcome_of three (used_so_far 67108856) (IsQuery queries.Names)) ≡ 67108856
nothing_used = refl

a_shot : outcome_of three (used_so_far 0) (IsQuery (queries.Shot along_x (codes "h" ∷ []))) ≡ Ok (lines_alone (codes "1 /h 0 5" ∷ []))
unfolding place_cmp digits regions_of_name size_of_name
a_shot = refl

-- a combination without members has no region, and takes no place
a_shot_of_several_names : outcome_of three (used_so_far 0) (IsQuery (queries.Shot along_x (codes "g" ∷ codes "r" ∷ codes "h" ∷ []))) ≡ Ok (lines_alone (codes "1 /h 0 5" ∷ []))
unfolding place_cmp digits regions_of_name size_of_name
a_shot_of_several_names = refl

-- a name that is given twice has two regions, and the first of them has the ray
a_shot_of_one_name_twice : outcome_of three (used_so_far 0) (IsQuery (queries.Shot along_x (codes "h" ∷ codes "h" ∷ []))) ≡ Ok (lines_alone (codes "1 /h 0 5" ∷ []))
unfolding place_cmp digits regions_of_name size_of_name
a_shot_of_one_name_twice = refl

-- the first name that is not there is told, before the bytes used
missing_before_quota : outcome_of three (used_so_far 67108864) (IsQuery (queries.Shot along_x (codes "h" ∷ codes "x" ∷ codes "y" ∷ []))) ≡ Err (Missing (codes "x"))
unfolding size_of_name
missing_before_quota = refl

no_bytes_left : outcome_of three (used_so_far 67108864) (IsQuery (queries.Shot along_x (codes "h" ∷ []))) ≡ Err Quota
unfolding place_cmp digits regions_of_name size_of_name
no_bytes_left = refl

-- an edit takes no bytes, and gives the new directory
an_edit : directory_made no_objects (IsEdit (Make (codes "h") half)) ≡ Some (record { title = []; objects = (codes "h", half) ∷ [] })
an_edit = refl

its_answer : outcome_of no_objects (used_so_far 67108864) (IsEdit (Make (codes "h") half)) ≡ Ok (lines_alone [])
its_answer = refl

a_refused_edit : directory_made three (IsEdit (Make (codes "h") half)) ≡ None
a_refused_edit = refl

its_refusal : outcome_of three (used_so_far 0) (IsEdit (Make (codes "h") half)) ≡ Err (Exists (codes "h"))
its_refusal = refl

-- the first name that is not there is told
missing_names : outcome_of three (used_so_far 0) (IsEdit (Kill (codes "h" ∷ codes "x" ∷ codes "y" ∷ []))) ≡ Err (Missing (codes "x"))
missing_names = refl

a_bad_line : outcome_of three (used_so_far 0) (Bad Syntax) ≡ Err Syntax
a_bad_line = refl

-- the whole text is put as a file, and its bytes are used as well as those of the body
no_text : outcome_of no_objects (used_so_far 0) (IsQuery (queries.Save (codes "a"))) ≡ Ok (record { body = codes "saved a" ∷ []; file = Some (record { name = codes "a"; bytes = codes "title {}\nunits mm\n" }) })
no_text = refl

its_bytes : used_after 5 (outcome_of no_objects (used_so_far 5) (IsQuery (queries.Save (codes "a")))) ≡ 31
its_bytes = refl

room_for_the_file : outcome_of no_objects (used_so_far 67108838) (IsQuery (queries.Save (codes "a"))) ≡ outcome_of no_objects (used_so_far 0) (IsQuery (queries.Save (codes "a")))
room_for_the_file = refl

no_room_for_the_file : outcome_of no_objects (used_so_far 67108839) (IsQuery (queries.Save (codes "a"))) ≡ Err Quota
no_room_for_the_file = refl

-- one pixel
abbrev at_once : View
at_once = record { corner = record { x = pos 0; y = pos 0; z = pos 0 }; dir = PlusX; cell = pos 1; w = 1; h = 1 }

-- a cut-off tile is one, too
a_line_of_a_picture : picture_line (codes "p.ppm") (record at_once { w = 33; h = 16 }) 3 0 ≡ codes "picture p.ppm 33 16 tiles 3 shot 3 reused 0"
unfolding digits
a_line_of_a_picture = refl

-- a ray that starts inside shows the colour itself, which is white where there is none
a_picture : outcome_of three (used_so_far 0) (IsShoot (Picture (codes "p") at_once (codes "h" ∷ [])))
    ≡ Ok (record { body = codes "picture p 1 1 tiles 1 shot 1 reused 0" ∷ []; file = Some (record { name = codes "p"; bytes = codes "P6\n1 1\n255\n" ++ 255 ∷ 255 ∷ 255 ∷ [] }) })
unfolding place_cmp digits regions_of_name size_of_name
a_picture = refl

-- 38 bytes of the line and 14 of the file
no_room_for_the_picture : outcome_of three (used_so_far 67108813) (IsShoot (Picture (codes "p") at_once (codes "h" ∷ []))) ≡ Err Quota
unfolding place_cmp digits regions_of_name size_of_name
no_room_for_the_picture = refl

overlaps : outcome_of three (used_so_far 0) (IsShoot (Check at_once (codes "h" ∷ codes "g" ∷ codes "h" ∷ []))) ≡ Ok (lines_alone (codes "overlap 1 /h 2 /h rays 1 first 0 0 0 5" ∷ []))
unfolding place_cmp digits regions_of_name size_of_name
overlaps = refl

no_overlaps_of_a_missing_name : outcome_of three (used_so_far 67108864) (IsShoot (Check at_once (codes "h" ∷ codes "x" ∷ []))) ≡ Err (Missing (codes "x"))
unfolding size_of_name
no_overlaps_of_a_missing_name = refl

-- the pixel presents the first region of two that are at one place, and the second one has no line
areas : outcome_of three (used_so_far 0) (IsShoot (Area at_once (codes "h" ∷ codes "h" ∷ []))) ≡ Ok (lines_alone (codes "area 1 /h 1" ∷ []))
unfolding place_cmp digits regions_of_name size_of_name
areas = refl

-- two pixels, the second one beside the half-space
abbrev two_pixels : View
two_pixels = record { corner = record { x = pos 0; y = pos 0; z = pos 0 }; dir = PlusY; cell = pos 10; w = 2; h = 1 }

-- the first of them is an edge, and the second one has none to its right
edges : outcome_of three (used_so_far 0) (IsShoot (Edge (codes "e") two_pixels (codes "h" ∷ [])))
    ≡ Ok (record { body = codes "edges e 2 1 white 1" ∷ []; file = Some (record { name = codes "e"; bytes = codes "P6\n2 1\n255\n" ++ 255 ∷ 255 ∷ 255 ∷ 0 ∷ 0 ∷ 0 ∷ [] }) })
unfolding place_cmp digits regions_of_name size_of_name
edges = refl

-- 20 bytes of the line and 17 of the file
room_for_the_edges : used_after 67108827 (outcome_of three (used_so_far 67108827) (IsShoot (Edge (codes "e") two_pixels (codes "h" ∷ [])))) ≡ 67108864
unfolding place_cmp digits regions_of_name size_of_name
room_for_the_edges = refl

no_room_for_the_edges : outcome_of three (used_so_far 67108828) (IsShoot (Edge (codes "e") two_pixels (codes "h" ∷ []))) ≡ Err Quota
unfolding place_cmp digits regions_of_name size_of_name
no_room_for_the_edges = refl

-- a tile of the one pixel, without regions
abbrev one_tile : TileName
one_tile = record { view = at_once; tile = 0; bodies = [] }

-- a session that keeps this tile
abbrev keeping : ℕ → OwnState
keeping used = record { tiles = one_tile ∷ []; used = used }

-- after want of memory a picture leaves no tile kept, and so do a check, areas and edges
forgotten_by_a_picture : forgotten (keeping 5) (IsShoot (Picture (codes "p") at_once (codes "h" ∷ []))) ≡ used_so_far 5
forgotten_by_a_picture = refl

forgotten_by_a_check : forgotten (keeping 5) (IsShoot (Check at_once (codes "h" ∷ []))) ≡ used_so_far 5
forgotten_by_a_check = refl

forgotten_by_areas : forgotten (keeping 5) (IsShoot (Area at_once (codes "h" ∷ []))) ≡ used_so_far 5
forgotten_by_areas = refl

forgotten_by_edges : forgotten (keeping 5) (IsShoot (Edge (codes "e") at_once (codes "h" ∷ []))) ≡ used_so_far 5
forgotten_by_edges = refl

-- a query and an edit leave all
kept_by_a_query : forgotten (keeping 5) (IsQuery (queries.Shot along_x (codes "h" ∷ []))) ≡ keeping 5
kept_by_a_query = refl

kept_by_an_edit : forgotten (keeping 5) (IsEdit (Kill (codes "h" ∷ []))) ≡ keeping 5
kept_by_an_edit = refl

-- a check that is accepted leaves the tiles and uses its bytes, which are 39 here
after_a_check : own_with three (keeping 5) (IsShoot (Check at_once (codes "h" ∷ codes "h" ∷ []))) (Ok (lines_alone (codes "overlap 1 /h 2 /h rays 1 first 0 0 0 5" ∷ []))) ≡ keeping 44
after_a_check = refl

-- a picture that is refused leaves both
after_a_refused_picture : own_with three (keeping 67108864) (IsShoot (Picture (codes "p") at_once (codes "h" ∷ []))) (Err Quota) ≡ keeping 67108864
after_a_refused_picture = refl

-- areas that are accepted leave the tiles, and use their bytes
after_areas : own_with three (keeping 5) (IsShoot (Area at_once (codes "h" ∷ []))) (Ok (lines_alone (codes "area 1 /h 1" ∷ []))) ≡ keeping 17
after_areas = refl
