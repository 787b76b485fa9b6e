-- The places at which a ray in a lattice direction may come into a surface or leave it, and which points between them lie inside.
use Rattle.std.specs.Prelude.{◌↔◌, ◌⊎◌, ℤ, pos, ◌*ℤ◌, ◌<ℤ◌, ◌≤ℤ◌, List, [], ◌∷◌, Option, Some, None}
use Rattle.std.specs.Option.{ForSome}
use Rattle.lattice_core.specs.declared.vector.V3.{V3}
use Rattle.solid_set.specs.declared.surface.Surface.{Surface}
use Rattle.surd_quot.specs.declared.position.QPos.{QPos}
use Rattle.surd_quot.specs.declared.position.QPos.TheVariants.{Frac}
use Rattle.surd_quot.specs.Positions.{quotient_of}
use Rattle.surd_quot.specs.Quotients.{QuotientPrecedes, SameQuotientPlace}
use Rattle.surd_quot.specs.Spelling.{IsSpelledQuotient}
use Rattle.oblique_ray.specs.Cuts.{LineCut, surface_cut}
use Rattle.solid_set.specs.PlacedFaces.{IsInsideAlong}
use Rattle.oblique_ray.specs.Segments.{Stretch, slant_start, slant_end}

-- one place comes before another
abbrev pub Before : QPos → QPos → Type 0
Before x y = QuotientPrecedes (quotient_of x) (quotient_of y)

-- two are at one place
abbrev pub AtOnePlace : QPos → QPos → Type 0
AtOnePlace x y = SameQuotientPlace (quotient_of x) (quotient_of y)

-- a place is at one with one of a list
abbrev pub IsAtOneOf : List QPos → QPos → Type 0
IsAtOneOf [] x = ⊥
IsAtOneOf (y ∷ ys) x = AtOnePlace x y ⊎ IsAtOneOf ys x

-- where the ray begins and ends, and where its line crosses or touches faces
abbrev pub places_of_cut : ℤ → LineCut → List QPos
places_of_cut far cut = slant_start ∷ slant_end far ∷ cut.met

abbrev pub slant_places : ℤ → Surface → V3 → V3 → List QPos
slant_places far surface o e = places_of_cut far (surface_cut surface o e)

-- a place is a slant hit
abbrev pub IsSlantHit : ℤ → Surface → V3 → V3 → QPos → Type 0
IsSlantHit far surface o e x = IsAtOneOf (slant_places far surface o e) x

-- the fraction p / q lies on a ray of so many steps
pub record IsOnSlant (far p q : ℤ) : Type 0 where
  pub positive : pos 0 <ℤ q
  pub begun : pos 0 ≤ℤ p
  pub not_ended : p ≤ℤ (far *ℤ q)

-- a place lies strictly between the ends, where there are some
abbrev pub LiesBetween : Option Stretch → QPos → Type 0
LiesBetween None x = ⊥
LiesBetween (Some stretch) x = Before stretch.start x × Before x stretch.end

-- a segment starts before it ends, neither before the ray nor after it, and its ends are in their one spelling
pub record IsSound (far : ℤ) (stretch : Stretch) : Type 0 where
  pub ordered : Before stretch.start stretch.end
  pub begun : ¬ (Before stretch.start slant_start)
  pub not_ended : ¬ (Before (slant_end far) stretch.end)
  pub start_spelled : IsSpelledQuotient stretch.start
  pub end_spelled : IsSpelledQuotient stretch.end

-- both ends are slant hits
pub record EndsAreSlantHits (far : ℤ) (surface : Surface) (o e : V3) (stretch : Stretch) : Type 0 where
  pub start : IsSlantHit far surface o e stretch.start
  pub end : IsSlantHit far surface o e stretch.end

-- a fraction of the ray that is no slant hit lies inside exactly where there is a segment and it lies strictly between its ends
pub record TellsBySlantHits (far : ℤ) (surface : Surface) (o e : V3) (answer : Option Stretch) : Type 0 where
  pub sound : ForSome answer (IsSound far)
  pub ends : ForSome answer (EndsAreSlantHits far surface o e)
  pub exact : (p q : ℤ) → IsOnSlant far p q → ¬ (IsSlantHit far surface o e (Frac p q)) → IsInsideAlong surface o e p q ↔ LiesBetween answer (Frac p q)
