use Rattle.std.proofs.Common.{◌≡◌, ◌<◌, ◌≤◌, ◌+◌, ◌∙◌, ℕ, ◌∷◌, arith, None}
use Rattle.std.specs.Prelude.{nat_le, nat_lt}
use Rattle.std.specs.Map.{keys_of}
use Rattle.std.proofs.lemmas.Bool.{lt-leb}
use Rattle.name_core.specs.declared.name.Name.{Name}
use Rattle.object_set.specs.Objects.{member_names}
use Rattle.object_set.specs.declared.object.Body.{Body}
use Rattle.object_set.specs.declared.object.Body.TheVariants.{Solid, Comb}
use Rattle.directory.specs.declared.fault.DirFault.TheVariants.{Cycle, Deep}
use Rattle.directory.specs.Walks.{Entries, IsSound, greatest_of, body_depth, depth_within, most_depth, unbounded}
use Rattle.directory.specs.Edits.{judged_by}
use Rattle.directory.specs.Places.{known_depths}
use Rattle.directory.proofs.WalkLemmas.{depth_bounds, depth_met, greatest_bound}
use Rattle.directory.proofs.TellLemmas.{first_past}

-- ---- a sound list's bounded depths
pub sound_depth : (es : Entries) (most : ℕ) (a : Name) → IsSound es → depth_within most es a ≤ most_depth
sound_depth es most a sound = let r = depth_met most es a in omega (arith, r.2, sound.shallow (a ∷ r.0) r.1)

sound_le : (es : Entries) (most other : ℕ) (a : Name) → IsSound es → most_depth < other → depth_within most es a ≤ depth_within other es a
sound_le es most other a sound big = let r = depth_met most es a in omega (arith, r.2, sound.shallow (a ∷ r.0) r.1, depth_bounds other es a r.0 r.1)

pub sound_same : (es : Entries) (most other : ℕ) (a : Name) → IsSound es → most_depth < most → most_depth < other → depth_within most es a ≡ depth_within other es a
sound_same es most other a sound bk bl = omega (arith, sound_le es most other a sound bl, sound_le es other most a sound bk)

pub greatest_sound : (es : Entries) → IsSound es → greatest_of (known_depths es) ≤ most_depth
greatest_sound es sound = greatest_bound (depth_within unbounded es) most_depth (λ x. sound_depth es unbounded x sound) (keys_of es)

pub body_at_most : (es : Entries) (o : Body) → IsSound es → body_depth o (depth_within unbounded es) ≤ most_depth + 1
body_at_most es (Solid s) sound = omega arith
body_at_most es (Comb attr tree) sound = omega (arith, greatest_bound (depth_within unbounded es) most_depth (λ x. sound_depth es unbounded x sound) (member_names (Comb attr tree)))

pub judged_none_by : (d : ℕ) (a : Name) → d ≤ most_depth → judged_by d a ≡ None
judged_none_by d a le =
    first_past (nat_le unbounded d) (Cycle a) _ (lt-leb unbounded d (omega (arith, le))) ∙ first_past (nat_lt most_depth d) (Deep d) _ (lt-leb (most_depth + 1) d (omega (arith, le)))
