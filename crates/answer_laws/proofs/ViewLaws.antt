-- The file of a picture and the lines of an overlap check are true of the points of the rays of their view.
use Rattle.std.proofs.Common.{◌≡◌, ◌<◌, ◌+◌, ◌++◌, ◌∷◌, [], ap, ap₂, sym, ◌∙◌, ℕ, Bool, true, false, cond, nat_le, List, Option, Some, None, Ok, Err, codes, refl, arith}
use Rattle.name_core.specs.declared.name.Name.{Name}
use Rattle.lattice_core.specs.declared.view.View.{View}
use Rattle.lattice_core.specs.Tiles.{IsIn}
use Rattle.lattice_core.specs.Views.{pixel_ray}
use Rattle.region_attr.specs.declared.attr.Rgb.{Rgb}
use Rattle.transcript.specs.Run.{Refused}
use Rattle.command_set.specs.declared.command.Command.{Command}
use Rattle.command_set.specs.declared.command.Command.TheVariants.{Bad, Edit as IsEdit, Query as IsQuery, Shoot as IsShoot}
use Rattle.command_set.specs.declared.command.Shoot.{Shoot}
use Rattle.command_set.specs.declared.command.Shoot.TheVariants.{Picture, Check, Area, Edge}
use Rattle.command_set.specs.declared.refusal.Refusal.{Refusal}
use Rattle.command_set.specs.declared.refusal.Refusal.TheVariants.{Quota}
use Rattle.directory.specs.Listing.{Listing}
use Rattle.directory.specs.Walks.{Entries}
use Rattle.shot_core.specs.Regions.{Region}
use Rattle.ppm_write.specs.Pictures.{header_text, whole_span}
use Rattle.ppm_write.proofs.BlockLaws.{block_same}
use Rattle.tile_shot.specs.Pixels.{part_of, pixel_of, parts_of}
use Rattle.tile_shot.specs.Reports.{spots_of, view_report}
use Rattle.scene_prep.specs.declared.fault.PrepFault.{PrepFault}
use Rattle.scene_prep.specs.Outcomes.{prep_fault}
use Rattle.scene_prep.specs.Scenes.{scene_of}
use Rattle.scene_prep.proofs.Pointing.{scene_leaves}
use Rattle.scene_prep.proofs.Scening.{scene_rising}
use Rattle.report_text.specs.Areas.{area_lines, line_if}
use Rattle.report_text.specs.Overlaps.{overlap_lines}
use Rattle.area_tool.specs.Areas.{area}
use Rattle.area_tool.specs.Presented.{presented_in, view_presents}
use Rattle.area_laws.specs.PlacePoints.{IsOnlyTruePlace}
use Rattle.area_laws.proofs.OnePlace.{places_tell_points}
use Rattle.edge_tool.specs.Edges.{edge_bytes, edge_count}
use Rattle.edge_tool.proofs.Sameness.{same_edges}
use Rattle.view_laws.specs.PixelPoints.{IsOnlyTruePixel}
use Rattle.view_laws.specs.ReportPoints.{IsOnlyTrueReport}
use Rattle.view_laws.proofs.OnePixel.{pixels_tell_points}
use Rattle.view_laws.proofs.OneReport.{reports_tell_points}
use Rattle.session_run.specs.declared.answer.Found.{Found}
use Rattle.session_run.specs.Own.{OwnState}
use Rattle.session_run.specs.Replies.{core_rules, most_used, size_of, within_quota, found_unless, edge_line, edged, lines_alone, lines_of_areas, lines_of_check, pictured, picture_bytes, outcome_of, shown}
use Rattle.answer_laws.proofs.Counted.{drawn_alone, edges_drawn, rays_are, rays_same}
use Rattle.answer_laws.specs.ViewAnswers.{rays_of, ArePresented, IsOnlyTrueArea, IsOnlyTrueEdges, IsTruePicture, IsOnlyTruePicture, IsOnlyTrueCheck, IsTrueOfShoot, IsTrueView, ViewsAreTrue}

module _ (objects : Entries) (view : View) (names : List Name) where
  abbrev scene : List Region
  scene = scene_of objects names

  pixel_true : (column row : ℕ) → IsOnlyTruePixel scene (pixel_ray view column row) (pixel_of scene (pixel_ray view column row))
  pixel_true column row = pixels_tell_points scene (pixel_ray view column row) (scene_rising objects names) (scene_leaves objects names)

  pixel_alone : (others : List ℕ) (it : IsTruePicture objects view names others) (column row part : ℕ) → IsIn (whole_span view) column row → part_of (it.colour column row) part ≡ parts_of scene view column row part
  pixel_alone others it column row part in_view =
      ap (λ (c : Rgb). part_of c part) ((pixel_true column row).alone (it.colour column row) (it.each column row (omega (arith, in_view.to_column)) (omega (arith, in_view.to_row))))

  pub picture_true : IsOnlyTruePicture objects view names (picture_bytes scene view)
  picture_true = record {
    told = record {
      colour = λ column row. pixel_of scene (pixel_ray view column row);
      bytes_are = refl;
      each = λ column row in_columns in_rows. (pixel_true column row).told;
    };
    alone = λ others it.
        it.bytes_are
        ∙ ap (λ l. header_text view.w view.h ++ l)
        (block_same (λ column row part. part_of (it.colour column row) part) (parts_of scene view) (whole_span view) (λ column row part in_view small. pixel_alone others it column row part in_view));
  }

  report_true : IsOnlyTrueReport scene view (spots_of (whole_span view)) (view_report scene view)
  report_true = reports_tell_points scene view (spots_of (whole_span view)) (scene_rising objects names) (scene_leaves objects names)

  pub check_true : IsOnlyTrueCheck objects view names (lines_of_check scene view)
  check_true = record {
    told = record { pairs = view_report scene view; lines_are = refl; points = report_true.told };
    alone = λ others it. it.lines_are ∙ ap (overlap_lines scene) (report_true.alone it.pairs it.points);
  }

  -- what pixels present, and nothing else does so
  place_true : (column row : ℕ) → IsOnlyTruePlace scene (pixel_ray view column row) (presented_in scene view column row)
  place_true column row = places_tell_points scene (pixel_ray view column row) (scene_rising objects names) (scene_leaves objects names)

  presented_true : ArePresented objects view names (presented_in scene view)
  presented_true column row in_columns in_rows = (place_true column row).told

  presented_alone : (places : ℕ → ℕ → ℕ) → ArePresented objects view names places → (column row : ℕ) → column < view.w → row < view.h → places column row ≡ presented_in scene view column row
  presented_alone places each column row in_columns in_rows = (place_true column row).alone (places column row) (each column row in_columns in_rows)

  lines_same : (f g : ℕ → ℕ) → ((place : ℕ) → f place ≡ g place) → (regions : List Region) → area_lines regions f ≡ area_lines regions g
  lines_same f g same [] = refl
  lines_same f g same (r ∷ rs) = ap₂ (λ (n : ℕ) (ls : List (List ℕ)). line_if r n ++ ls) (same r.place) (lines_same f g same rs)

  pub area_true : IsOnlyTrueArea objects view names (lines_of_areas scene view)
  area_true = record {
    told = record {
      places = presented_in scene view;
      lines_are = lines_same (area (view_presents scene view)) (rays_of view (presented_in scene view)) (rays_are view (presented_in scene view)) scene;
      each = presented_true;
    };
    alone = λ others it.
        it.lines_are
        ∙ lines_same (rays_of view it.places) (area (view_presents scene view))
        (λ place. rays_same view it.places (presented_in scene view) (presented_alone it.places it.each) place ∙ sym (rays_are view (presented_in scene view) place)) scene;
  }

  pub edges_true : (file : Name) → IsOnlyTrueEdges objects view names file (edge_line file view (edge_count view (presented_in scene view)) ∷ []) (header_text view.w view.h ++ edge_bytes view (presented_in scene view))
  edges_true file = record {
    told = record {
      places = presented_in scene view;
      picture = edge_bytes view (presented_in scene view);
      line_is = refl;
      bytes_are = refl;
      edges = edges_drawn view (presented_in scene view);
      each = presented_true;
    };
    alone = λ other_lines others it.
        let same = same_edges view it.places (presented_in scene view) (presented_alone it.places it.each) in (
          it.line_is ∙ ap (λ (white : ℕ). edge_line file view white ∷ []) same.0,
          it.bytes_are ∙ ap (λ (bytes : List ℕ). header_text view.w view.h ++ bytes) (drawn_alone view it.places it.picture it.edges ∙ same.1),
        );
  }

-- what is found where there is room for it is found
roomy : (objects : Entries) (shoot : Shoot) (found : Found) → IsTrueOfShoot objects shoot found.body found.file → (room : Bool) (refusal : Refusal) → IsTrueView objects (IsShoot shoot) (shown (cond room (Ok found) (Err refusal)))
roomy objects shoot found h true refusal = h
roomy objects shoot found h false refusal = tt

found_true : (objects : Entries) (shoot : Shoot) (found : Found) → IsTrueOfShoot objects shoot found.body found.file → (used : ℕ) (fault : Option PrepFault)
    → IsTrueView objects (IsShoot shoot) (shown (within_quota used (found_unless fault found)))
found_true objects shoot found h used None = roomy objects shoot found h (nat_le (used + size_of found) most_used) Quota
found_true objects shoot found h used (Some fault) = tt

shoot_true : (d : Listing) (own : OwnState) (shoot : Shoot) → IsTrueView d.objects (IsShoot shoot) (shown (outcome_of d own (IsShoot shoot)))
shoot_true d own (Picture file view names) =
    found_true d.objects (Picture file view names) (pictured own.tiles (scene_of d.objects names) file view) (refl, picture_true d.objects view names) own.used (prep_fault d.objects names)
shoot_true d own (Check view names) =
    found_true d.objects (Check view names) (lines_alone (lines_of_check (scene_of d.objects names) view)) (refl, check_true d.objects view names) own.used (prep_fault d.objects names)
shoot_true d own (Area view names) =
    found_true d.objects (Area view names) (lines_alone (lines_of_areas (scene_of d.objects names) view)) (refl, area_true d.objects view names) own.used (prep_fault d.objects names)
shoot_true d own (Edge file view names) =
    found_true d.objects (Edge file view names) (edged (scene_of d.objects names) file view) (refl, edges_true d.objects view names file) own.used (prep_fault d.objects names)

marked_true : (d : Listing) (own : OwnState) (command : Command) (memory : Bool) → IsTrueView d.objects command (cond memory (Refused (codes "memory")) (core_rules.reply d own command))
marked_true d own (Bad refusal) memory = tt
marked_true d own (IsEdit edit) memory = tt
marked_true d own (IsQuery query) memory = tt
marked_true d own (IsShoot shoot) true = tt
marked_true d own (IsShoot shoot) false = shoot_true d own shoot

pub views_are_true : ViewsAreTrue
views_are_true book own m = marked_true book.directory own m.command m.memory
