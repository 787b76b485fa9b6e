-- What a picture and a check of a half-space tell, and what does not.
use Rattle.std.proofs.Common.{◌≡◌, ◌++◌, ◌∷◌, [], ℕ, List, get_or, pos, codes, ap, arith}
use Rattle.std.specs.Fmt.{digits}
use Rattle.surd_order.specs.PlaceOrder.{place_cmp}
use Rattle.name_core.specs.declared.name.Name.{Name}
use Rattle.lattice_core.specs.declared.ray.Dir.TheVariants.{PlusX, PlusY}
use Rattle.lattice_core.specs.declared.view.View.{View}
use Rattle.lattice_core.specs.Vectors.{zero_vector}
use Rattle.scene_prep.specs.Regions.{regions_of_name}
use Rattle.scene_prep.specs.Sizes.{size_of_name}
use Rattle.session_run.specs.Examples.{three}
use Rattle.answer_laws.specs.ViewAnswers.{IsTruePicture, IsOnlyTruePicture, IsTrueCheck, IsOnlyTrueCheck}
use Rattle.answer_laws.proofs.ViewLaws.{picture_true, check_true}

-- one ray along x, which begins in the half-space and leaves it at 5
abbrev view : View
view = record { corner = zero_vector; dir = PlusX; cell = pos 1; w = 1; h = 1 }

abbrev once : List Name
once = codes "h" ∷ []

abbrev twice : List Name
twice = codes "h" ∷ codes "h" ∷ []

abbrev pixel : ℕ → List ℕ
pixel part = codes "P6\n1 1\n255\n" ++ part ∷ part ∷ part ∷ []

-- the pixel is white, as no colour is given, and no other file is true of its ray
white : IsOnlyTruePicture three.objects view once (pixel 255)
unfolding place_cmp digits regions_of_name size_of_name
white = picture_true three.objects view once

not_grey : ¬ (IsTruePicture three.objects view once (pixel 254))
not_grey = λ it. let same : 254 ≡ 255 = ap (λ (l : List ℕ). get_or l 11 0) (white.alone (pixel 254) it) in omega (arith, same)

-- two rays along y, the second one beside the half-space: its pixel is black
abbrev two_rays : View
two_rays = record { corner = zero_vector; dir = PlusY; cell = pos 10; w = 2; h = 1 }

abbrev two_pixels : ℕ → List ℕ
two_pixels part = codes "P6\n2 1\n255\n" ++ 255 ∷ 255 ∷ 255 ∷ part ∷ part ∷ part ∷ []

white_and_black : IsOnlyTruePicture three.objects two_rays once (two_pixels 0)
unfolding place_cmp digits regions_of_name size_of_name
white_and_black = picture_true three.objects two_rays once

not_both_white : ¬ (IsTruePicture three.objects two_rays once (two_pixels 255))
not_both_white = λ it. let same : 255 ≡ 0 = ap (λ (l : List ℕ). get_or l 14 0) (white_and_black.alone (two_pixels 255) it) in omega (arith, same)

-- given twice it overlaps itself, and lines that leave that out are not true
overlaps : IsOnlyTrueCheck three.objects view twice (codes "overlap 1 /h 2 /h rays 1 first 0 0 0 5" ∷ [])
unfolding place_cmp digits regions_of_name size_of_name
overlaps = check_true three.objects view twice

not_left_out : ¬ (IsTrueCheck three.objects view twice [])
not_left_out = λ it. let same = overlaps.alone [] it in cc

-- given once it overlaps nothing
nothing : IsOnlyTrueCheck three.objects view once []
unfolding place_cmp digits regions_of_name size_of_name
nothing = check_true three.objects view once
