-- What the pixels of a view present: the lines of areas, and the edges between what is presented.
use Rattle.std.proofs.Common.{◌≡◌, ◌<◌, ◌≤◌, ◌+◌, ◌-◌, ◌*◌, ◌++◌, ◌∷◌, [], ◌∙◌, ℕ, zero, suc, List, Some, Ok, Err, inl, inr, get_or, length, length-append, take, drop, codes, decimal, refl, sym, ap, ap₂, arith}
use Rattle.std.specs.Prelude.{All, AllPairs}
use Rattle.std.proofs.Math.Seq.{take-append_seam}
use Rattle.std.proofs.lemmas.Bool.{cases_lt}
use Rattle.std.proofs.lemmas.List.Elements.{All-head, All-tail}
use Rattle.std.proofs.lemmas.List.FromFn.{get_or-map-range_with_len}
use Rattle.lattice_core.specs.declared.view.View.{View}
use Rattle.name_core.specs.declared.name.Name.{Name}
use Rattle.transcript.specs.Lines.{Lacks, text_of}
use Rattle.transcript.proofs.LineLaws.{lacks_append}
use Rattle.transcript.proofs.TranscriptLaws.{computed}
use Rattle.shot_core.specs.Regions.{Region}
use Rattle.ppm_write.specs.Pictures.{header_text}
use Rattle.tile_blocks.proofs.BlockLaws.{are_blocks}
use Rattle.area_tool.specs.Areas.{area, areas_of}
use Rattle.area_tool.specs.Numbers.{AreBlocks, HasNumbers}
use Rattle.area_tool.specs.Presented.{presented_in, view_presents}
use Rattle.edge_tool.specs.Edges.{HasOnePerPixel, SameEdgesOfSame, edge_byte, edge_bytes, edge_count, number_at}
use Rattle.report_text.specs.Areas.{area_lines, line_if}
use Rattle.report_text.proofs.ShotLaws.{number_lacks, after_blank}
use Rattle.command_set.specs.declared.refusal.Refusal.TheVariants.{Quota}
use Rattle.session_run.specs.Replies.{Outcome, edge_line, edged, lines_of_areas, most_used, size_of, within_quota}
use Rattle.session_run.specs.declared.answer.Found.{Found}
use Rattle.session_run.proofs.PictureLaws.{in_quota, past_quota}

-- the last of places that rise is the greatest
pub last_greatest : (regions : List Region) (last : Region) (most : ℕ) → AllPairs (λ r s. r.place < s.place) regions → 0 < length regions → last ≡ get_or regions (length regions - 1) last → most ≡ last.place → All (λ r. r.place ≤ most) regions
last_greatest regions last most rising some at is k d lt =
    elim (cases_lt k (length regions - 1)) [
      | inl before ↦
          let there : get_or regions (length regions - 1) d ≡ last = get_any regions (length regions - 1) d last (omega (arith, some)) ∙ sym at in
          omega (arith, rising k (length regions - 1) d before (omega (arith, some)), ap (λ (r : Region). r.place) there, is)
      | inr behind ↦
          let same : k ≡ length regions - 1 = omega (arith, behind, lt) in
          let here : get_or regions k d ≡ last = ap (λ n. get_or regions n d) same ∙ get_any regions (length regions - 1) d last (omega (arith, some)) ∙ sym at in
          omega (arith, ap (λ (r : Region). r.place) here, is)
    ]
  where
    get_any : (xs : List Region) (i : ℕ) (d e : Region) → i < length xs → get_or xs i d ≡ get_or xs i e
    get_any [] i d e lt = absurd (omega (arith, lt))
    get_any (x ∷ xs) zero d e lt = refl
    get_any (x ∷ xs) (suc i) d e lt = get_any xs i d e (omega (arith, lt))

-- lines of areas that are the same at the places of the regions are the same
module _ (f g : ℕ → ℕ) (most : ℕ) (same : (place : ℕ) → 1 ≤ place → place ≤ most → f place ≡ g place) where
  pub lines_same : (regions : List Region) → All (λ r. 1 ≤ r.place) regions → All (λ r. r.place ≤ most) regions → area_lines regions f ≡ area_lines regions g
  lines_same [] least le = refl
  lines_same (r ∷ rs) least le =
      ap₂ (λ (n : ℕ) (ls : List (List ℕ)). line_if r n ++ ls) (same r.place (All-head (λ (s : Region). 1 ≤ s.place) r rs least) (All-head (λ (s : Region). s.place ≤ most) r rs le))
      (lines_same rs (All-tail (λ (s : Region). 1 ≤ s.place) r rs least) (All-tail (λ (s : Region). s.place ≤ most) r rs le))

-- the counts by place are the areas
count_at : (all : List ℕ) (most place : ℕ) → 1 ≤ place → place ≤ most → get_or (areas_of all most) (place - 1) 0 ≡ area all place
count_at all most place least le = get_or-map-range_with_len (area all) 1 most (place - 1) place 0 (omega (arith, least, le)) (omega (arith, least))

pub areas_told : (regions : List Region) (view : View) (all counts : List ℕ) (most : ℕ) → all ≡ view_presents regions view → counts ≡ areas_of all most
    → All (λ r. 1 ≤ r.place) regions → All (λ r. r.place ≤ most) regions → area_lines regions (λ place. get_or counts (place - 1) 0) ≡ lines_of_areas regions view
areas_told regions view all counts most all_are counts_are least le =
    ap (λ (cs : List ℕ). area_lines regions (λ place. get_or cs (place - 1) 0)) counts_are
    ∙ lines_same (λ place. get_or (areas_of all most) (place - 1) 0) (area all) most (count_at all most) regions least le
    ∙ ap (λ (ps : List ℕ). area_lines regions (area ps)) all_are

-- a list of what all pixels present has one number a pixel, and the edges of it are those of what they present
module _ (regions : List Region) (view : View) (all : List ℕ) (blocks : AreBlocks view) (is : all ≡ view_presents regions view) where
  told : HasNumbers view.w view.h (presented_in regions view) all
  told = (blocks (presented_in regions view) all).1 is

  pub one_per_pixel : HasOnePerPixel view all
  one_per_pixel = told.size

  pub edges_told : SameEdgesOfSame
      → (edge_count view (number_at view all) ≡ edge_count view (presented_in regions view)) × (edge_bytes view (number_at view all) ≡ edge_bytes view (presented_in regions view))
  edges_told same = same view (number_at view all) (presented_in regions view) told.each

-- a list that is lent whole is what comes back of it
pub taken_back : (new items : List ℕ) (n : ℕ) → n ≡ length items → length new ≡ length items → take n (new ++ drop (length new) items) ≡ new
taken_back new items n all same =
    ap (λ m. take m (new ++ drop (length new) items)) (all ∙ sym same)
    ∙ take-append_seam new (drop (length new) items)

-- a picture of edges has three bytes a pixel
edges_long : (view : View) (values : ℕ → ℕ → ℕ) → length (edge_bytes view values) ≡ 3 * (view.w * view.h)
edges_long view values = ((are_blocks {A = ℕ} 0 3 view (λ column row part. edge_byte view values column row) (edge_bytes view values)).1 refl).size

pub edged_size : (scene : List Region) (file : Name) (view : View)
    → size_of (edged scene file view)
    ≡ length (text_of (edge_line file view (edge_count view (presented_in scene view)) ∷ [])) + (length (header_text view.w view.h) + 3 * (view.w * view.h))
edged_size scene file view =
    omega (arith, length-append (header_text view.w view.h) (edge_bytes view (presented_in scene view)), edges_long view (presented_in scene view))

pub edge_plain : (file : Name) (view : View) (white : ℕ) → Lacks 10 file → Lacks 10 (edge_line file view white)
edge_plain file view white h =
    lacks_append 10 (codes "edges ") _ (computed 10 (codes "edges ") refl)
    (lacks_append 10 file _ h
    (after_blank _ (lacks_append 10 (decimal view.w) _ (number_lacks view.w)
    (after_blank _ (lacks_append 10 (decimal view.h) _ (number_lacks view.h)
    (lacks_append 10 (codes " white ") _ (computed 10 (codes " white ") refl) (number_lacks white)))))))

-- what the code told of a picture of edges, where the view is told in another way
module _ (scene : List Region) (file : Name) (shown view : View) (same : shown ≡ view) (used size : ℕ) (le : used ≤ most_used) (sized : size ≡ length (header_text shown.w shown.h) + 3 * (shown.w * shown.h)) where
  file_small : size ≤ size_of (edged scene file view)
  file_small = omega (arith, edged_size scene file shown, sized, ap (λ (v : View). size_of (edged scene file v)) same)

  -- there is no room for the file
  pub file_past : most_used - used < size → ◌≡◌ {A = Outcome} (Err Quota) (within_quota used (Ok (edged scene file view)))
  file_past h = past_quota used (edged scene file view) le (omega (arith, file_small, h))

  module _ (body : List (List ℕ)) (text : List ℕ) (white : ℕ) (white_is : white ≡ edge_count shown (presented_in scene shown)) (body_is : body ≡ edge_line file shown white ∷ []) (text_is : text ≡ text_of body) where
    lines_are : body ≡ edge_line file shown (edge_count shown (presented_in scene shown)) ∷ []
    lines_are = body_is ∙ ap (λ (n : ℕ). edge_line file shown n ∷ []) white_is

    size_told : length text + size ≡ size_of (edged scene file view)
    size_told =
        let told : length text + size ≡ size_of (edged scene file shown) = omega (arith, edged_size scene file shown, ap (length {A = ℕ}) (text_is ∙ ap text_of lines_are), sized) in
        told ∙ ap (λ (v : View). size_of (edged scene file v)) same

    -- or for the file and the line
    pub lines_past : most_used - used - size < length text → size ≤ most_used - used → ◌≡◌ {A = Outcome} (Err Quota) (within_quota used (Ok (edged scene file view)))
    lines_past h fits = past_quota used (edged scene file view) le (omega (arith, size_told, h, fits))

    -- and else they are found
    pub edges_found : (found : Found) (pixels : List ℕ) → found ≡ record { body = body; file = Some (record { name = file; bytes = header_text shown.w shown.h ++ pixels }) } → pixels ≡ edge_bytes shown (presented_in scene shown)
        → length text ≤ most_used - used - size → size ≤ most_used - used → ◌≡◌ {A = Outcome} (Ok found) (within_quota used (Ok (edged scene file view)))
    edges_found found pixels is pixels_are h fits =
        let whole : found ≡ edged scene file shown =
        is ∙ ap₂ (λ (lines : List (List ℕ)) (bytes : List ℕ). record { body = lines; file = Some (record { name = file; bytes = header_text shown.w shown.h ++ bytes }) }) lines_are pixels_are in
        ap {B = Outcome} (λ (f : Found). Ok f) (whole ∙ ap (λ (v : View). edged scene file v) same)
        ∙ in_quota used (edged scene file view) le (omega (arith, size_told, h, fits))
