-- Counts and edges of what the pixels of a view present, told for each column and row.
use Rattle.std.proofs.Common.{◌≡◌, ◌<◌, ◌+◌, ◌∷◌, [], ◌∙◌, ℕ, List, Bool, true, false, cond, flat_map, eqb, refl, sym, ap, arith, rules}
use Rattle.std.specs.Prelude.{count_by, sum_by}
use Rattle.std.specs.List.{range_with_len}
use Rattle.std.proofs.lemmas.List.Concat.{flat_map-cons}
use Rattle.std.proofs.lemmas.List.Sums.{sum_by-append, sum_by-cons}
use Rattle.lattice_core.specs.declared.view.View.{View}
use Rattle.tile_blocks.specs.Blocks.{whole_span}
use Rattle.tile_blocks.proofs.BlockLaws.{are_blocks}
use Rattle.area_tool.specs.Areas.{area}
use Rattle.area_tool.specs.Numbers.{block_numbers, row_numbers}
use Rattle.edge_tool.specs.Edges.{EdgesAreDecided, IsEdgePicture, edge_byte, edge_bytes, is_edge, part_of}
use Rattle.edge_tool.proofs.Sameness.{sum_same}
use Rattle.answer_laws.specs.ViewAnswers.{rays_of}

abbrev one_or_none : (ℕ → Bool) → ℕ → ℕ
one_or_none p n = cond (p n) 1 0

count_flat : (p : ℕ → Bool) (f : ℕ → List ℕ) (xs : List ℕ) → count_by p (flat_map f xs) ≡ sum_by (λ x. count_by p (f x)) xs
count_flat p f [] = refl
count_flat p f (x ∷ xs) =
    ap (count_by p) (flat_map-cons f x xs)
    ∙ sum_by-append (one_or_none p) (f x) (flat_map f xs)
    ∙ ap (λ (n : ℕ). count_by p (f x) + n) (count_flat p f xs)
    ∙ sym (sum_by-cons (λ y. count_by p (f y)) x xs)

count_one : (p : ℕ → Bool) (n : ℕ) → count_by p (n ∷ []) ≡ one_or_none p n
count_one p n = omega (arith, sum_by-cons (one_or_none p) n [])

row_count : (p : ℕ → Bool) (values : ℕ → ℕ → ℕ) (w row : ℕ) → count_by p (row_numbers values 0 w row) ≡ count_by (λ column. p (values column row)) (range_with_len 0 w)
row_count p values w row =
    count_flat p (λ column. values column row ∷ []) (range_with_len 0 w)
    ∙ sum_same (λ column. count_by p (values column row ∷ [])) (λ column. one_or_none p (values column row)) 0 w (λ column ge lt. count_one p (values column row))

-- the area of a place is the number of rays on which its region lies first
pub rays_are : (view : View) (values : ℕ → ℕ → ℕ) (place : ℕ) → area (block_numbers values (whole_span view)) place ≡ rays_of view values place
rays_are view values place =
    count_flat (λ p. eqb p place) (row_numbers values 0 view.w) (range_with_len 0 view.h)
    ∙ sum_same (λ row. count_by (λ p. eqb p place) (row_numbers values 0 view.w row)) (λ row. count_by (λ column. eqb (values column row) place) (range_with_len 0 view.w)) 0 view.h
    (λ row ge lt. row_count (λ p. eqb p place) values view.w row)

-- these numbers are the same where the pixels present the same
pub rays_same : (view : View) (one other : ℕ → ℕ → ℕ) → ((column row : ℕ) → column < view.w → row < view.h → one column row ≡ other column row) → (place : ℕ) → rays_of view one place ≡ rays_of view other place
rays_same view one other same place =
    sum_same (λ row. count_by (λ column. eqb (one column row) place) (range_with_len 0 view.w)) (λ row. count_by (λ column. eqb (other column row) place) (range_with_len 0 view.w)) 0 view.h
    (λ row ge lt. sum_same (λ column. one_or_none (λ n. eqb n place) (one column row)) (λ column. one_or_none (λ n. eqb n place) (other column row)) 0 view.w
    (λ column ge' lt'. ap (one_or_none (λ n. eqb n place)) (same column row (omega (arith, lt')) (omega (arith, lt)))))

decided : EdgesAreDecided
decided view values column row = search rules

byte_where : (b t : Bool) → b ≡ t → let byte : ℕ = cond b 255 0 in let told : ℕ = cond t 255 0 in byte ≡ told
byte_where b t is = ap {B = ℕ} (λ (x : Bool). cond x 255 0) is

none_where : (b : Bool) → (b ≡ true → ⊥) → b ≡ false
none_where true none = absurd (none refl)
none_where false none = refl

-- the bytes of edges are a picture of them, and no other bytes are
pub edges_drawn : (view : View) (values : ℕ → ℕ → ℕ) → IsEdgePicture view values (edge_bytes view values)
edges_drawn view values =
    let has = (are_blocks {A = ℕ} 0 3 view (λ column row part. edge_byte view values column row) (edge_bytes view values)).1 refl in
    record {
      size = has.size;
      white = λ column row part c r small edge. has.each column row part c r small ∙ byte_where (is_edge view values column row) true ((decided view values column row).1 edge);
      black = λ column row part c r small none. has.each column row part c r small ∙ byte_where (is_edge view values column row) false (none_where (is_edge view values column row) (λ is. none ((decided view values column row).0 is)));
    }

pixel_drawn : (view : View) (values : ℕ → ℕ → ℕ) (picture : List ℕ) → IsEdgePicture view values picture → (column row part : ℕ) → column < view.w → row < view.h → part < 3
    → (t : Bool) → is_edge view values column row ≡ t → part_of view picture column row part ≡ edge_byte view values column row
pixel_drawn view values picture drawn column row part c r small true is = drawn.white column row part c r small ((decided view values column row).0 is) ∙ sym (byte_where (is_edge view values column row) true is)
pixel_drawn view values picture drawn column row part c r small false is =
    drawn.black column row part c r small (λ edge. let both : true ≡ false = sym ((decided view values column row).1 edge) ∙ is in absurd cc) ∙ sym (byte_where (is_edge view values column row) false is)

pub drawn_alone : (view : View) (values : ℕ → ℕ → ℕ) (picture : List ℕ) → IsEdgePicture view values picture → picture ≡ edge_bytes view values
drawn_alone view values picture drawn =
    (are_blocks {A = ℕ} 0 3 view (λ column row part. edge_byte view values column row) picture).0
    (record { size = drawn.size; each = λ column row part c r small. pixel_drawn view values picture drawn column row part c r small (is_edge view values column row) refl })
