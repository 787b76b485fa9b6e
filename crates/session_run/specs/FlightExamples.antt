-- Pictures and checks in flight of one pixel, and runs of sessions with them.
use Rattle.std.specs.Prelude.{◌≡◌, ℕ, refl, pos, false, List, [], ◌∷◌, ◌++◌, Option, None, Some, Ok, Err, codes, cond, length}
use Rattle.std.specs.Fmt.{digits}
use Rattle.std.proofs.Common.{ap, arith}
use Rattle.lattice_core.specs.declared.ray.Dir.TheVariants.{PlusX}
use Rattle.lattice_core.specs.declared.view.View.{View}
use Rattle.surd_order.specs.PlaceOrder.{place_cmp}
use Rattle.solid_set.specs.declared.solid.Solid.TheVariants as solids
use Rattle.object_set.specs.Objects.{Parts}
use Rattle.object_set.specs.declared.object.Body.TheVariants.{Solid}
use Rattle.command_set.specs.declared.command.Command.{Command}
use Rattle.command_set.specs.declared.command.Command.TheVariants.{Edit as IsEdit, Shoot as IsShoot}
use Rattle.command_set.specs.declared.command.Edit.TheVariants.{Kill}
use Rattle.command_set.specs.declared.command.Shoot.TheVariants.{Picture, Check}
use Rattle.command_set.specs.declared.refusal.Refusal.TheVariants.{Missing, Quota, Memory}
use Rattle.directory.specs.Listing.{Listing}
use Rattle.outside_core.specs.declared.traits.File.{File}
use Rattle.transcript.specs.Run as run
use Rattle.scene_prep.specs.Regions.{regions_of_name}
use Rattle.scene_prep.specs.Scenes.{scene_of}
use Rattle.scene_prep.specs.Sizes.{size_of_name}
use Rattle.shot_core.specs.Regions.{Region}
use Rattle.tile_shot.specs.Named.{TileName}
use Rattle.atomic_table.specs.Seated.{TableId}
use Rattle.version_table.specs.declared.rule.Noted.{Noted}
use Rattle.version_table.specs.Passes.{pass_of}
use Rattle.version_table.specs.Run.{note_of}
use Rattle.view_shot.specs.Kept.{tile_name}
use Rattle.view_shot.specs.Steps.{lacking}
use Rattle.session_run.specs.Flights.{IsCheckFor, IsLook, IsPictureFor, IsReady}
use Rattle.session_run.specs.Own.{OwnState}
use Rattle.session_run.specs.Pictures.{IsPlan}
use Rattle.session_run.specs.Replies.{lines_alone, lines_of_check, nothing_used, used_after, within_quota}
use Rattle.session_run.specs.Sessions.{HasRun}
use Rattle.session_run.specs.declared.answer.Answer.{Answer}
use Rattle.session_run.specs.declared.answer.Found.{Found}
use Rattle.session_run.specs.declared.keep.Keep.{Keep}
use Rattle.session_run.specs.declared.picture.Frame.{Frame}

-- the half-space of the points with x at most 5
abbrev half : Parts
half = record { body = Solid (solids.Half (record { normal = record { x = pos 1; y = pos 0; z = pos 0 }; distance = pos 5 })); kept = [] }

abbrev one_half : Listing
one_half = record { title = []; objects = (codes "h", half) ∷ [] }

abbrev pixel : View
pixel = record { corner = record { x = pos 0; y = pos 0; z = pos 0 }; dir = PlusX; cell = pos 1; w = 1; h = 1 }

abbrev picture : Command
picture = IsShoot (Picture (codes "p") pixel (codes "h" ∷ []))

abbrev check : Command
check = IsShoot (Check pixel (codes "h" ∷ codes "h" ∷ []))

abbrev kill : Command
kill = IsEdit (Kill (codes "h" ∷ []))

abbrev scene : List Region
scene = scene_of one_half.objects (codes "h" ∷ [])

abbrev scene_twice : List Region
scene_twice = scene_of one_half.objects (codes "h" ∷ codes "h" ∷ [])

abbrev tile : TileName
tile = tile_name scene pixel 0

-- a session that keeps the tile, and one that keeps none
abbrev keeping : ℕ → OwnState
keeping used = record { tiles = tile ∷ []; used = used }

abbrev bare : ℕ → OwnState
bare used = record { tiles = []; used = used }

abbrev shot_line : List ℕ
shot_line = codes "picture p 1 1 tiles 1 shot 1 reused 0"

abbrev reused_line : List ℕ
reused_line = codes "picture p 1 1 tiles 1 shot 0 reused 1"

-- 38 bytes of the line and 14 of the file
abbrev with_pixel : List ℕ → Found
with_pixel line = record { body = line ∷ []; file = Some (record { name = codes "p"; bytes = codes "P6\n1 1\n255\n" ++ 255 ∷ 255 ∷ 255 ∷ [] }) }

abbrev answer : ℕ → Found → Answer
answer version found = record { version = version; outcome = Ok found }

abbrev no_memory : ℕ → Answer
no_memory version = record { version = version; outcome = Err Memory }

abbrev frame : List ℕ → Frame
frame line = record { body = line ∷ []; file = codes "p"; view = pixel }

with_no_tile_kept : IsPictureFor one_half (bare 0) picture scene pixel (None ∷ []) (frame shot_line)
unfolding place_cmp digits regions_of_name size_of_name
with_no_tile_kept = record { frame_is = refl; plan = refl; outcome = refl; tiles = refl }

with_all_tiles_kept : IsPictureFor one_half (keeping 52) picture scene pixel (Some tile ∷ []) (frame reused_line)
unfolding place_cmp digits regions_of_name size_of_name
with_all_tiles_kept = record { frame_is = refl; plan = refl; outcome = refl; tiles = refl }

-- the plan is that of the tiles that the session keeps
not_by_another_plan : ¬ IsPictureFor one_half (keeping 52) picture scene pixel (None ∷ []) (frame reused_line)
unfolding place_cmp digits regions_of_name size_of_name
not_by_another_plan asked = let counts : 1 ≡ 0 = ap (λ (l : List (Option TileName)). length (lacking l 0)) asked.plan in omega (arith, counts)

-- one byte too few
no_plan_without_room : IsPlan 67108813 [] scene (codes "p") pixel (Err Quota)
unfolding place_cmp digits regions_of_name size_of_name
no_plan_without_room = refl

a_check : IsCheckFor one_half (keeping 5) check scene_twice scene_twice pixel
unfolding place_cmp digits regions_of_name size_of_name
a_check = record { scene_is = refl; outcome = refl; tiles = refl }

not_a_check_for_a_picture : ¬ IsCheckFor one_half nothing_used picture scene scene pixel
unfolding place_cmp digits regions_of_name size_of_name
not_a_check_for_a_picture asked = let bytes : 0 ≡ 52 = ap (used_after 0) asked.outcome in omega (arith, bytes)

-- a report without a line needs no room
no_overlap_and_no_room : within_quota 67108864 (Ok (lines_alone (lines_of_check scene pixel))) ≡ Ok (lines_alone [])
unfolding place_cmp digits regions_of_name size_of_name
no_overlap_and_no_room = refl

-- want of memory at the gathering: no tile stays, and no byte is counted
forgotten_at_the_gathering : IsLook one_half 0 picture (keeping 5) (no_memory 0) (bare 5)
forgotten_at_the_gathering = (refl, refl)

not_kept_after_it : ¬ IsLook one_half 0 picture (keeping 5) (no_memory 0) (keeping 5)
not_kept_after_it look = let counts : 1 ≡ 0 = ap (λ (o : OwnState). length o.tiles) look.1 in omega (arith, counts)

not_counted_after_it : ¬ IsLook one_half 0 picture (keeping 5) (no_memory 0) (bare 57)
not_counted_after_it look = let bytes : 57 ≡ 5 = ap (λ (o : OwnState). o.used) look.1 in omega (arith, bytes)

-- neither the version nor the directory of the gathering
not_with_a_later_version : ¬ IsLook one_half 0 picture nothing_used (answer 1 (with_pixel shot_line)) (keeping 52)
not_with_a_later_version look = let versions : 1 ≡ 0 = ap (λ (a : run.Answer File). a.version) look.0 in omega (arith, versions)

not_of_a_later_directory : ¬ IsLook one_half 0 picture nothing_used (record { version = 0; outcome = Err (Missing (codes "h")) }) nothing_used
unfolding place_cmp digits regions_of_name size_of_name
not_of_a_later_directory look = let refused : ◌≡◌ {A = ℕ} 1 0 = ap {B = ℕ} (λ (a : run.Answer File). cond (run.answer_refuses a) 1 0) look.0 in omega (arith, refused)

abbrev before_an_edit : List (Noted Command)
before_an_edit = note_of 1 picture false ∷ note_of 1 kill false ∷ []

-- what the picture shows is removed before it is gathered
pub a_picture_before_an_edit : (table : TableId) → HasRun one_half nothing_used (picture ∷ kill ∷ []) (pass_of table 1 [] [] 2) (pass_of table 1 before_an_edit (0 ∷ 1 ∷ []) 0) (answer 0 (with_pixel shot_line) ∷ answer 1 (lines_alone []) ∷ [])
unfolding place_cmp digits regions_of_name size_of_name
a_picture_before_an_edit table = record {
  places = 0 ∷ 1 ∷ [];
  grown = refl;
  rising = ((omega arith, tt), (tt, tt));
  later = (omega arith, (omega arith, tt));
  answered = (
    record { noted = record { command = picture; memory = false }; there = refl; same = refl; agrees = λ book. refl; answer_is = refl },
    (record { noted = record { command = kill; memory = false }; there = refl; same = refl; agrees = λ book. refl; answer_is = refl }, tt),
  );
  marks = refl;
  begins = (before_an_edit, refl);
  left = refl;
  table = refl;
  session = refl;
}

abbrev twice : List (Noted Command)
twice = note_of 1 picture false ∷ note_of 1 picture false ∷ []

-- the second of two pictures in a row finds what the first has kept
pub two_pictures_in_a_row : (table : TableId) → HasRun one_half nothing_used (picture ∷ picture ∷ []) (pass_of table 1 [] [] 2) (pass_of table 1 twice (0 ∷ 1 ∷ []) 0) (answer 0 (with_pixel shot_line) ∷ answer 0 (with_pixel reused_line) ∷ [])
unfolding place_cmp digits regions_of_name size_of_name
two_pictures_in_a_row table = record {
  places = 0 ∷ 1 ∷ [];
  grown = refl;
  rising = ((omega arith, tt), (tt, tt));
  later = (omega arith, (omega arith, tt));
  answered = (
    record { noted = record { command = picture; memory = false }; there = refl; same = refl; agrees = λ book. refl; answer_is = refl },
    (record { noted = record { command = picture; memory = false }; there = refl; same = refl; agrees = λ book. refl; answer_is = refl }, tt),
  );
  marks = refl;
  begins = (twice, refl);
  left = refl;
  table = refl;
  session = refl;
}

-- After a picture without memory the tile is shot again, and there is just room, since nothing was counted. The history has no mark.
pub a_picture_after_one_without_memory : (table : TableId) → HasRun one_half (keeping 67108812) (picture ∷ picture ∷ []) (pass_of table 1 [] [] 2) (pass_of table 1 twice (0 ∷ 1 ∷ []) 0) (no_memory 0 ∷ answer 0 (with_pixel shot_line) ∷ [])
unfolding place_cmp digits regions_of_name size_of_name
a_picture_after_one_without_memory table = record {
  places = 0 ∷ 1 ∷ [];
  grown = refl;
  rising = ((omega arith, tt), (tt, tt));
  later = (omega arith, (omega arith, tt));
  answered = (
    record { noted = record { command = picture; memory = false }; there = refl; same = refl; agrees = λ book. refl; answer_is = refl },
    (record { noted = record { command = picture; memory = false }; there = refl; same = refl; agrees = λ book. refl; answer_is = refl }, tt),
  );
  marks = refl;
  begins = (twice, refl);
  left = refl;
  table = refl;
  session = refl;
}

ready_with_a_call : (table : TableId) (keep : Keep) → IsReady (Some (record { session = 1; commands = picture ∷ []; own = nothing_used; keep = keep })) (pass_of table 1 [] [] 1)
ready_with_a_call table keep = (refl, omega arith)

not_ready_without_a_call : (table : TableId) (keep : Keep) → ¬ IsReady (Some (record { session = 1; commands = picture ∷ []; own = nothing_used; keep = keep })) (pass_of table 1 [] [] 0)
not_ready_without_a_call table keep is = omega (arith, is.1)
