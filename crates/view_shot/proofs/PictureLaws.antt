-- The picture that is made of the tiles of a view.
use Rattle.std.proofs.Common.{◌≡◌, ◌*◌, ◌++◌, [], ◌∷◌, ◌∙◌, ℕ, List, length, refl, sym, ap, subst, take, drop, append-nil}
use Rattle.std.proofs.Math.Seq.{take-length}
use Rattle.lattice_core.specs.declared.view.View.{View}
use Rattle.lattice_core.specs.Tiles.{tiles_of}
use Rattle.shot_core.specs.Regions.{Region}
use Rattle.ppm_write.specs.Pictures.{IsPictureOf, IsCopied, AreBlocks}
use Rattle.tile_shot.specs.Pixels.{parts_of, view_bytes, tile_bytes, kept_bytes, IsInView, IsMadeOfKeptTiles}
use Rattle.tile_shot.specs.Named.{TileName, NamedTile}
use Rattle.view_shot.specs.Kept.{tile_name}
use Rattle.view_shot.specs.Steps.{IsPut}
use Rattle.view_shot.proofs.Led.{IsLed}

-- the tile of the regions that are kept for it is copied
abbrev pub IsTileCopied : List Region → View → ℕ → List ℕ → List ℕ → Type 0
IsTileCopied scene view tile old new = IsCopied view tile (kept_bytes scene view tile) old new

-- pictures after so many tiles
abbrev pub IsLedPicture : List Region → View → ℕ → List ℕ → Type 0
IsLedPicture scene view count picture = IsLed (IsTileCopied scene view) (IsPictureOf view.w view.h) count picture

pub led_whole : (scene : List Region) (view : View) (picture : List ℕ) → IsMadeOfKeptTiles → IsInView scene view → IsLedPicture scene view (tiles_of view) picture → picture ≡ view_bytes scene view
led_whole scene view picture made shown led = sym led.last ∙ made scene view led.states shown led.first led.each

-- a tile of that name that is put in
pub put_bytes : (scene : List Region) (view : View) (tile : ℕ) (one : NamedTile) (old new : List ℕ) → one.key ≡ tile_name scene view tile → IsPut view tile one old new → IsTileCopied scene view tile old new
put_bytes scene view tile one old new named put =
    let bytes : one.bytes ≡ kept_bytes scene view tile = put.shot ∙ ap (λ (k : TileName). tile_bytes k.bodies k.view k.tile) named in
    subst (λ (l : List ℕ). IsCopied view tile l old new) bytes put.copied

-- the size of a picture is known before it is shot
pub pixels_long : (scene : List Region) (view : View) → AreBlocks view → length (view_bytes scene view) ≡ 3 * (view.w * view.h)
pixels_long scene view blocks = ((blocks (parts_of scene view) (view_bytes scene view)).1 refl).size

-- the whole of a list is lent and comes back
drop_all : (xs : List ℕ) → drop (length xs) xs ≡ []
drop_all [] = refl
drop_all (x ∷ xs) = drop_all xs

came_back : (old new : List ℕ) (count : ℕ) → count ≡ length old → length new ≡ length old → take count (new ++ drop (length new) old) ≡ new
came_back old new count counted sized =
    ap (λ n. take count (new ++ drop n old)) sized ∙ ap (λ rest. take count (new ++ rest)) (drop_all old) ∙ ap (take count) (append-nil new)
    ∙ ap (λ n. take n new) (counted ∙ sym sized) ∙ take-length new

pub copied_back : (view : View) (tile : ℕ) (bytes others lent old new : List ℕ) (count : ℕ) → bytes ≡ others → lent ≡ old → count ≡ length old → IsCopied view tile bytes lent new
    → IsCopied view tile others old (take count (new ++ drop (length new) old))
copied_back view tile bytes others lent old new count same whole counted copied =
    let sized : length new ≡ length old = copied.size ∙ ap (length {A = ℕ}) whole in
    subst (λ (l : List ℕ). IsCopied view tile others old l) (sym (came_back old new count counted sized))
    (subst (λ (l : List ℕ). IsCopied view tile others l new) whole (subst (λ (l : List ℕ). IsCopied view tile l lent new) same copied))
