-- Eight vertices as a list, and the solid that they make.
use Rattle.std.proofs.Common.{◌≡◌, zero, suc, All, List, [], ◌∷◌, Some, None, Result, Ok, Err, arith}
use Rattle.std.specs.Prelude.{MatchResult}
use Rattle.lattice_core.specs.declared.limit.TheConstants.{COORD}
use Rattle.lattice_core.specs.declared.vector.V3.{V3}
use Rattle.lattice_core.specs.Limits.{IsWithin}
use Rattle.plane_geom.specs.declared.fault.ShapeFault.{ShapeFault}
use Rattle.prim_arb8.specs.Faces.{first_fault, cases_of}
use Rattle.prim_arb8.specs.Rpps.{IsMadeOf}
use Rattle.prim_arb8.specs.Solids.{EightVertices}

pub all_eight : (a b c d e f g h : V3) → IsWithin COORD a → IsWithin COORD b → IsWithin COORD c → IsWithin COORD d → IsWithin COORD e → IsWithin COORD f → IsWithin COORD g → IsWithin COORD h
    → All (IsWithin COORD) (a ∷ b ∷ c ∷ d ∷ e ∷ f ∷ g ∷ h ∷ [])
all_eight a b c d e f g h i j k l m n o p zero x lt = i
all_eight a b c d e f g h i j k l m n o p (suc zero) x lt = j
all_eight a b c d e f g h i j k l m n o p (suc (suc zero)) x lt = k
all_eight a b c d e f g h i j k l m n o p (suc (suc (suc zero))) x lt = l
all_eight a b c d e f g h i j k l m n o p (suc (suc (suc (suc zero)))) x lt = m
all_eight a b c d e f g h i j k l m n o p (suc (suc (suc (suc (suc zero))))) x lt = n
all_eight a b c d e f g h i j k l m n o p (suc (suc (suc (suc (suc (suc zero)))))) x lt = o
all_eight a b c d e f g h i j k l m n o p (suc (suc (suc (suc (suc (suc (suc zero))))))) x lt = p
all_eight a b c d e f g h i j k l m n o p (suc (suc (suc (suc (suc (suc (suc (suc q)))))))) x lt = absurd (omega arith)

pub made_of : (r : Result EightVertices ShapeFault) (v : List V3) → MatchResult r (λ arb8. first_fault (cases_of v) ≡ None) (λ e. first_fault (cases_of v) ≡ Some e)
    → MatchResult r (λ arb8. arb8.vertices ≡ v) (λ e. Unit {0}) → IsMadeOf r v
made_of (Ok arb8) v none same = (none, same)
made_of (Err e) v some same = some
