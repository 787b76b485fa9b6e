-- The line of a picture, and the picture that is made of the tiles of a view.
use Rattle.std.proofs.Common.{◌≡◌, ◌≤◌, ◌<◌, ◌+◌, ◌-◌, ◌*◌, ◌∷◌, [], ◌∙◌, ℕ, Bool, true, false, not, cond, nat_le, List, Option, Some, Ok, Err, length, length-append, map, codes, decimal, refl, sym, ap, ap₂, arith}
use Rattle.std.proofs.lemmas.Bool.Decides.{nat_tests}
use Rattle.std.proofs.lemmas.List.Filters.{length-filter_both}
use Rattle.std.proofs.lemmas.List.FromFn.{length-map-range_with_len}
use Rattle.lattice_core.specs.declared.view.View.{View}
use Rattle.lattice_core.specs.Tiles.{tiles_of}
use Rattle.name_core.specs.declared.name.Name.{Name}
use Rattle.transcript.specs.Lines.{Lacks, text_of}
use Rattle.transcript.proofs.LineLaws.{lacks_append}
use Rattle.transcript.proofs.TranscriptLaws.{computed}
use Rattle.shot_core.specs.Regions.{Region}
use Rattle.command_set.specs.declared.refusal.Refusal.TheVariants.{Quota}
use Rattle.ppm_write.specs.Pictures.{AreBlocks, header_text}
use Rattle.tile_shot.specs.Pixels.{view_bytes}
use Rattle.tile_shot.specs.Named.{TileName}
use Rattle.view_shot.specs.Kept.{is_kept, reused, shot, tile_name, tile_names}
use Rattle.view_shot.specs.Steps.{found, if_kept}
use Rattle.view_shot.proofs.TileLaws.{found_are}
use Rattle.view_shot.proofs.PictureLaws.{pixels_long}
use Rattle.report_text.proofs.ShotLaws.{number_lacks, after_blank}
use Rattle.session_run.specs.Replies.{Outcome, most_used, size_of, within_quota, picture_line, picture_bytes, pictured}
use Rattle.session_run.specs.declared.answer.Found.{Found}

pub picture_plain : (file : Name) (view : View) (shot reused : ℕ) → Lacks 10 file → Lacks 10 (picture_line file view shot reused)
picture_plain file view shot reused h =
    lacks_append 10 (codes "picture ") _ (computed 10 (codes "picture ") refl)
    (lacks_append 10 file _ h
    (after_blank _ (lacks_append 10 (decimal view.w) _ (number_lacks view.w)
    (after_blank _ (lacks_append 10 (decimal view.h) _ (number_lacks view.h)
    (lacks_append 10 (codes " tiles ") _ (computed 10 (codes " tiles ") refl)
    (lacks_append 10 (decimal (tiles_of view)) _ (number_lacks (tiles_of view))
    (lacks_append 10 (codes " shot ") _ (computed 10 (codes " shot ") refl)
    (lacks_append 10 (decimal shot) _ (number_lacks shot)
    (lacks_append 10 (codes " reused ") _ (computed 10 (codes " reused ") refl) (number_lacks reused)))))))))))

not_not : (b : Bool) → not (not b) ≡ b
not_not true = refl
not_not false = refl

-- how many tiles are shot, and how many are reused
pub counts : (kept : List TileName) (scene : List Region) (view : View) → length (shot kept (tile_names scene view)) + length (reused kept (tile_names scene view)) ≡ tiles_of view
counts kept scene view =
    let names : List TileName = tile_names scene view in
    length-filter_both (λ name. not (is_kept kept name)) (is_kept kept) (λ name. sym (not_not (is_kept kept name))) names ∙ length-map-range_with_len (tile_name scene view) 0 (tiles_of view)

pub found_counts : (kept : List TileName) (scene : List Region) (view : View) (names : List (Option TileName)) → names ≡ map (if_kept kept) (tile_names scene view) → length (found names) ≡ length (reused kept (tile_names scene view))
found_counts kept scene view names is = ap (λ l. length (found l)) is ∙ ap (length {A = TileName}) (found_are kept (tile_names scene view))

-- the size of a picture is known before it is shot
pub picture_size : (kept : List TileName) (scene : List Region) (file : Name) (view : View) → AreBlocks view
    → size_of (pictured kept scene file view)
    ≡ length (text_of (picture_line file view (length (shot kept (tile_names scene view))) (length (reused kept (tile_names scene view))) ∷ [])) + (length (header_text view.w view.h) + 3 * (view.w * view.h))
picture_size kept scene file view blocks = omega (arith, length-append (header_text view.w view.h) (view_bytes scene view), pixels_long scene view blocks)

by_size : (t : Bool) (used : ℕ) (f : Found) → nat_le (used + size_of f) most_used ≡ t → within_quota used (Ok f) ≡ cond t (Ok f) (Err Quota)
by_size t used f e = ap (λ b. cond b (Ok f) (Err Quota)) e

pub past_quota : (used : ℕ) (f : Found) → used ≤ most_used → most_used - used < size_of f → Err Quota ≡ within_quota used (Ok f)
past_quota used f le h =
    let past : nat_le (used + size_of f) most_used ≡ false = grind (arith, nat_tests) in
    sym (by_size false used f past)

pub in_quota : (used : ℕ) (f : Found) → used ≤ most_used → size_of f ≤ most_used - used → Ok f ≡ within_quota used (Ok f)
in_quota used f le h =
    let fits : nat_le (used + size_of f) most_used ≡ true = grind (arith, nat_tests) in
    sym (by_size true used f fits)

-- what the code told of the view that a checked view is, and of how many tiles are shot and reused
module _ (kept : List TileName) (scene : List Region) (file : Name) (shown view : View) (few many : ℕ) where
  abbrev line : List ℕ
  line = picture_line file shown few many

  -- so many
  pub record AreCounted : Type 0 where
    pub few_are : few ≡ length (shot kept (tile_names scene shown))
    pub many_are : many ≡ length (reused kept (tile_names scene shown))

  line_is : AreCounted → line ≡ picture_line file shown (length (shot kept (tile_names scene shown))) (length (reused kept (tile_names scene shown)))
  line_is counted = ap₂ (picture_line file shown) counted.few_are counted.many_are

  pub picture_told : (body : List (List ℕ)) (text head : List ℕ) (pixels : ℕ) → AreCounted → shown ≡ view → AreBlocks shown → body ≡ line ∷ [] → text ≡ text_of body
      → head ≡ header_text shown.w shown.h → pixels ≡ 3 * (shown.w * shown.h) → length text + (length head + pixels) ≡ size_of (pictured kept scene file view)
  picture_told body text head pixels counted same blocks is lines begins all =
      let told : length text + (length head + pixels) ≡ size_of (pictured kept scene file shown) =
      omega (arith, picture_size kept scene file shown blocks, ap (length {A = ℕ}) (lines ∙ ap text_of (is ∙ ap (λ l. l ∷ []) (line_is counted))), ap (length {A = ℕ}) begins, all) in
      told ∙ ap (λ (v : View). size_of (pictured kept scene file v)) same

  pub picture_is : (body : List (List ℕ)) (bytes : List ℕ) → AreCounted → shown ≡ view → body ≡ line ∷ [] → bytes ≡ picture_bytes scene shown
      → ◌≡◌ {A = Outcome} (Ok (record { body = body; file = Some (record { name = file; bytes = bytes }) })) (Ok (pictured kept scene file view))
  picture_is body bytes counted same is are =
      ap₂ {C = Outcome} (λ (b : List (List ℕ)) (bs : List ℕ). Ok (record { body = b; file = Some (record { name = file; bytes = bs }) })) (is ∙ ap (λ l. l ∷ []) (line_is counted)) are
      ∙ ap {B = Outcome} (λ (v : View). Ok (pictured kept scene file v)) same

pub some_head : (view : View) (head : List ℕ) → head ≡ header_text view.w view.h → 0 < length head
some_head view head is = omega (arith, ap (length {A = ℕ}) is)
