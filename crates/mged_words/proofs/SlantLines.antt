-- The numbers of a ray in a lattice direction, and the ray that they make.
use Rattle.std.proofs.Common.{◌≡◌, ◌<◌, ◌≤◌, ◌++◌, ◌==◌, ◌&&◌, ◌∷◌, [], ◌∙◌, ◌-◌, ℕ, ℤ, pos, Bool, true, false, cond, nat_le, List, length, get_or, drop, take, map, Option, Some, None, unwrap_or, Result, Ok, Err, arith, ap, sym, subst, refl, eqb-true}
use Rattle.std.specs.Option.{option_map}
use Rattle.std.specs.Int.RustNames.{unsigned_abs}
use Rattle.std.specs.Borrow.{Bor}
use Rattle.std.proofs.lemmas.Bool.{and_parts, cond-true, eq-eqb, le-leb, leb-true}
use Rattle.std.proofs.lemmas.Int.{ints, to_z-of_z, fits_signed_from_abs}
use mir.Val.{to_z, of_z}
use mir.Syntax.{w8}
use Rattle.lattice_core.specs.declared.limit.TheConstants.{WORLD}
use Rattle.lattice_core.specs.declared.vector.V3.{V3}
use Rattle.lattice_core.specs.declared.view.ViewFault.{ViewFault}
use Rattle.lattice_core.specs.declared.view.ViewFault.TheVariants.{Direction, World}
use Rattle.lattice_core.specs.Limits.{IsAtMost, IsWithin}
use Rattle.slant_ray.specs.declared.ray.TheConstants.{STEP}
use Rattle.slant_ray.specs.declared.ray.SlantRay.{SlantRay}
use Rattle.slant_ray.specs.Rays as slants
use Rattle.slant_ray.specs.Rays.{IsChecked, divisor_of, is_from_world, is_in_world, slant_fault}
use Rattle.command_set.specs.Lawful.{slant_or_fault}
use Rattle.command_set.specs.declared.command.Command.TheVariants.{Bad, Query}
use Rattle.command_set.specs.declared.command.Query.TheVariants.{Slant}
use Rattle.command_set.specs.declared.refusal.Refusal.{Refusal}
use Rattle.command_set.specs.declared.refusal.Refusal.TheVariants.{Syntax, Number, View}
use Rattle.word_values.specs.Kinds.{numbers_as}
use Rattle.word_values.specs.declared.atoms.NumberList.TheVariants as lists
use Rattle.word_values.specs.Solids.{vector_at}
use Rattle.mged_words.specs.Commands.{names_fault, numbers_fault, within_step, step_number, slant_by, slant_refusal, slant_command, nirtd_command}
use Rattle.mged_words.specs.Readings.{or_refused, six_steps, slant_read}
use Rattle.mged_words.proofs.CommandLaws.{rest_from}
use Rattle.mged_words.proofs.ViewLines.{at, fault_first, none_found, or_bad, or_good, past, refused_by, sizes_fault}

-- a ray without a fault, or its fault as a refusal
pub seen_ray : (ray r : SlantRay) (found : Option ViewFault) → Ok r ≡ slant_or_fault ray found → Ok r ≡ or_refused (option_map View found ∷ []) ray
seen_ray ray r None e = cc
seen_ray ray r (Some fault) e = absurd cc

pub unseen_ray : (ray : SlantRay) (fault : ViewFault) (found : Option ViewFault) → Err fault ≡ slant_or_fault ray found → Err (View fault) ≡ or_refused (option_map View found ∷ []) ray
unseen_ray ray fault None e = absurd cc
unseen_ray ray fault (Some other) e = cc

-- ---- components of a direction

-- a component fits 8 bits
pub step_fits : (n : ℤ) → IsAtMost STEP n → to_z w8 (of_z w8 n) ≡ n
step_fits n h = to_z-of_z w8 n (fits_signed_from_abs w8 n (omega (arith, ints, h.0, h.1)))

-- a ray whose components are as they are held in 8 bits
abbrev pub held : V3 → ℤ → ℤ → ℤ → SlantRay
held origin x y z = record { origin = origin; x = to_z w8 (of_z w8 x); y = to_z w8 (of_z w8 y); z = to_z w8 (of_z w8 z) }

abbrev ray_at : V3 → ℤ → ℤ → ℤ → SlantRay
ray_at origin x y z = record { origin = origin; x = x; y = y; z = z }

pub held_small : (origin : V3) (x y z : ℤ) → IsAtMost STEP x → IsAtMost STEP y → IsAtMost STEP z → IsWithin STEP (slants.direction_of (held origin x y z))
held_small origin x y z h k l = record {
  x = subst (IsAtMost STEP) (sym (step_fits x h)) h;
  y = subst (IsAtMost STEP) (sym (step_fits y k)) k;
  z = subst (IsAtMost STEP) (sym (step_fits z l)) l;
}

pub held_is : (origin v : V3) (x y z : ℤ) → origin ≡ v → IsAtMost STEP x → IsAtMost STEP y → IsAtMost STEP z → held origin x y z ≡ record { origin = v; x = x; y = y; z = z }
held_is origin v x y z same h k l =
    ap (λ (o : V3). held o x y z) same
    ∙ ap (λ (n : ℤ). ray_at v n (to_z w8 (of_z w8 y)) (to_z w8 (of_z w8 z))) (step_fits x h)
    ∙ ap (λ (n : ℤ). ray_at v x n (to_z w8 (of_z w8 z))) (step_fits y k)
    ∙ ap (λ (n : ℤ). ray_at v x y n) (step_fits z l)

pub step_kept : (n : ℤ) → IsAtMost STEP n → within_step (Some n) ≡ Some n
step_kept n h = cond-true (nat_le (unsigned_abs n) (unsigned_abs STEP)) (Some n) None (le-leb (unsigned_abs n) (unsigned_abs STEP) (omega (arith, ints, h.0, h.1)))

-- what is kept is small
kept_small : (t : Bool) (n : ℤ) → nat_le (unsigned_abs n) (unsigned_abs STEP) ≡ t → IsAtMost STEP (unwrap_or (cond t (Some n) None) (pos 0))
kept_small true n h = let small : unsigned_abs n ≤ unsigned_abs STEP = leb-true (unsigned_abs n) (unsigned_abs STEP) h in (omega (arith, ints, small), omega (arith, ints, small))
kept_small false n h = (omega (arith, ints), omega (arith, ints))

pub step_small : (o : Option ℤ) → IsAtMost STEP (unwrap_or (within_step o) (pos 0))
step_small None = (omega (arith, ints), omega (arith, ints))
step_small (Some n) = kept_small (nat_le (unsigned_abs n) (unsigned_abs STEP)) n refl

-- ---- origins in the world

in_range : (c : ℤ) → is_in_world c ≡ true → IsAtMost WORLD c
in_range c h = let small : unsigned_abs c ≤ unsigned_abs WORLD = leb-true (unsigned_abs c) (unsigned_abs WORLD) h in (omega (arith, ints, small), omega (arith, ints, small))

pub world_seen : (origin : V3) → is_from_world origin ≡ true → IsWithin WORLD origin
world_seen origin h =
    let z = and_parts (is_in_world origin.x && is_in_world origin.y) (is_in_world origin.z) h in
    let xy = and_parts (is_in_world origin.x) (is_in_world origin.y) z.0 in
    record { x = in_range origin.x xy.0; y = in_range origin.y xy.1; z = in_range origin.z z.1 }

inside : (c : ℤ) → IsAtMost WORLD c → is_in_world c ≡ true
inside c h = le-leb (unsigned_abs c) (unsigned_abs WORLD) (omega (arith, ints, h.0, h.1))

pub from_world : (origin : V3) → IsWithin WORLD origin → is_from_world origin ≡ true
from_world origin h =
    ap (λ (t : Bool). t && is_in_world origin.y && is_in_world origin.z) (inside origin.x h.x)
    ∙ ap (λ (t : Bool). t && is_in_world origin.z) (inside origin.y h.y)
    ∙ inside origin.z h.z

-- ---- a ray that was checked is one without a fault

none_by : (t u : Bool) → cond t (cond u None (Some World)) (Some Direction) ≡ None → (t ≡ true) × (u ≡ true)
none_by true true h = (refl, refl)
none_by true false h = absurd cc
none_by false u h = absurd cc

pub slant_whole : (ray : SlantRay) → IsWithin STEP (slants.direction_of ray) → slant_refusal ray ≡ None → IsChecked ray
unfolding slant_refusal
slant_whole ray size h =
    let divisor : ℕ = divisor_of (slants.direction_of ray) in
    let parts = none_by (divisor == 1) (is_from_world ray.origin) (none_found (slant_fault ray) h) in
    record { size = size; primitive = eqb-true divisor 1 parts.0; in_world = world_seen ray.origin parts.1 }

pub fine_slant : (ray : SlantRay) → IsChecked ray → slant_refusal ray ≡ None
unfolding slant_refusal
fine_slant ray h =
    ap (λ (t : Bool). option_map View (cond t (cond (is_from_world ray.origin) None (Some World)) (Some Direction))) (eq-eqb (divisor_of (slants.direction_of ray)) 1 h.primitive)
    ∙ ap (λ (t : Bool). option_map View (cond t None (Some World))) (from_world ray.origin h.in_world)

-- ---- six numbers

-- the last three of six
abbrev steps : List (Bor (List ℕ)) → Bor (List ℕ) → List (Option ℤ)
steps atoms d = step_number (get_or atoms 3 d).now ∷ step_number (get_or atoms 4 d).now ∷ step_number (get_or atoms 5 d).now ∷ []

six : (atoms : List (Bor (List ℕ))) (d : Bor (List ℕ)) → length atoms ≡ 6 → six_steps (map (λ (a : Bor (List ℕ)). a.now) atoms) ≡ numbers_as lists.Point (map (λ (a : Bor (List ℕ)). a.now) (take 3 atoms)) ++ steps atoms d
six (a ∷ b ∷ c ∷ e ∷ f ∷ g ∷ []) d n = refl
six [] d n = absurd (omega (arith, n))
six (a ∷ []) d n = absurd (omega (arith, n))
six (a ∷ b ∷ []) d n = absurd (omega (arith, n))
six (a ∷ b ∷ c ∷ []) d n = absurd (omega (arith, n))
six (a ∷ b ∷ c ∷ e ∷ []) d n = absurd (omega (arith, n))
six (a ∷ b ∷ c ∷ e ∷ f ∷ []) d n = absurd (omega (arith, n))
six (a ∷ b ∷ c ∷ e ∷ f ∷ g ∷ h ∷ more) d n = absurd (omega (arith, n))

bad_numbers : (numbers : List (Option ℤ)) (refusal : Refusal) → numbers_fault 2 1 numbers ≡ Some refusal → Err refusal ≡ slant_read numbers
bad_numbers numbers refusal h = refused_by (numbers_fault 2 1 numbers) refusal (slant_refusal (slant_by numbers) ∷ []) (slant_by numbers) h

pub bad_origin : (atoms : List (Bor (List ℕ))) (d : Bor (List ℕ)) (refusal : Refusal) → length atoms ≡ 6 → numbers_fault 2 1 (numbers_as lists.Point (map (λ (a : Bor (List ℕ)). a.now) (take 3 atoms))) ≡ Some refusal
    → Err refusal ≡ slant_read (six_steps (map (λ (a : Bor (List ℕ)). a.now) atoms))
bad_origin atoms d refusal n h =
    let xs : List (Option ℤ) = numbers_as lists.Point (map (λ (a : Bor (List ℕ)). a.now) (take 3 atoms)) in
    bad_numbers (xs ++ steps atoms d) refusal (fault_first 2 xs (steps atoms d) refusal h) ∙ sym (ap slant_read (six atoms d n))

-- the origin was read
bad_steps : (atoms : List (Bor (List ℕ))) (d : Bor (List ℕ)) (origin : List ℤ) (refusal : Refusal) → length atoms ≡ 6 → length origin ≡ 3
    → numbers_as lists.Point (map (λ (a : Bor (List ℕ)). a.now) (take 3 atoms)) ≡ map (λ (n : ℤ). Some n) origin → numbers_fault 5 1 (steps atoms d) ≡ Some refusal
    → Err refusal ≡ slant_read (six_steps (map (λ (a : Bor (List ℕ)). a.now) atoms))
bad_steps atoms d origin refusal n m read h =
    bad_numbers (map (λ (k : ℤ). Some k) origin ++ steps atoms d) refusal (sizes_fault 2 origin (steps atoms d) refusal m h)
    ∙ sym (ap slant_read (six atoms d n) ∙ ap (λ (xs : List (Option ℤ)). slant_read (xs ++ steps atoms d)) read)

pub bad_first_step : (atoms : List (Bor (List ℕ))) (d : Bor (List ℕ)) (origin : List ℤ) (refusal : Refusal) → length atoms ≡ 6 → length origin ≡ 3
    → numbers_as lists.Point (map (λ (a : Bor (List ℕ)). a.now) (take 3 atoms)) ≡ map (λ (n : ℤ). Some n) origin → step_number (get_or atoms 3 d).now ≡ None → refusal ≡ Number 5
    → Err refusal ≡ slant_read (six_steps (map (λ (a : Bor (List ℕ)). a.now) atoms))
bad_first_step atoms d origin refusal n m read one is =
    bad_steps atoms d origin refusal n m read
    (ap (λ (o : Option ℤ). numbers_fault 5 1 (o ∷ step_number (get_or atoms 4 d).now ∷ step_number (get_or atoms 5 d).now ∷ [])) one ∙ ap (λ (r : Refusal). Some r) (sym is))

pub bad_second_step : (atoms : List (Bor (List ℕ))) (d : Bor (List ℕ)) (origin : List ℤ) (x : ℤ) (refusal : Refusal) → length atoms ≡ 6 → length origin ≡ 3
    → numbers_as lists.Point (map (λ (a : Bor (List ℕ)). a.now) (take 3 atoms)) ≡ map (λ (n : ℤ). Some n) origin → step_number (get_or atoms 3 d).now ≡ Some x → step_number (get_or atoms 4 d).now ≡ None → refusal ≡ Number 6
    → Err refusal ≡ slant_read (six_steps (map (λ (a : Bor (List ℕ)). a.now) atoms))
bad_second_step atoms d origin x refusal n m read one two is =
    bad_steps atoms d origin refusal n m read
    (ap (λ (o : Option ℤ). numbers_fault 5 1 (o ∷ step_number (get_or atoms 4 d).now ∷ step_number (get_or atoms 5 d).now ∷ [])) one
    ∙ ap (λ (o : Option ℤ). numbers_fault 6 1 (o ∷ step_number (get_or atoms 5 d).now ∷ [])) two
    ∙ ap (λ (r : Refusal). Some r) (sym is))

pub bad_third_step : (atoms : List (Bor (List ℕ))) (d : Bor (List ℕ)) (origin : List ℤ) (x y : ℤ) (refusal : Refusal) → length atoms ≡ 6 → length origin ≡ 3
    → numbers_as lists.Point (map (λ (a : Bor (List ℕ)). a.now) (take 3 atoms)) ≡ map (λ (n : ℤ). Some n) origin → step_number (get_or atoms 3 d).now ≡ Some x → step_number (get_or atoms 4 d).now ≡ Some y
    → step_number (get_or atoms 5 d).now ≡ None → refusal ≡ Number 7 → Err refusal ≡ slant_read (six_steps (map (λ (a : Bor (List ℕ)). a.now) atoms))
bad_third_step atoms d origin x y refusal n m read one two three is =
    bad_steps atoms d origin refusal n m read
    (ap (λ (o : Option ℤ). numbers_fault 5 1 (o ∷ step_number (get_or atoms 4 d).now ∷ step_number (get_or atoms 5 d).now ∷ [])) one
    ∙ ap (λ (o : Option ℤ). numbers_fault 6 1 (o ∷ step_number (get_or atoms 5 d).now ∷ [])) two
    ∙ ap (λ (o : Option ℤ). numbers_fault 7 1 (o ∷ [])) three
    ∙ ap (λ (r : Refusal). Some r) (sym is))

-- a ray, where it has no fault
abbrev pub ray_unless_fault : SlantRay → Result SlantRay Refusal
ray_unless_fault ray = or_refused (slant_refusal ray ∷ []) ray

-- the ray of an origin's numbers and components
abbrev pub ray_by : List ℤ → ℤ → ℤ → ℤ → SlantRay
ray_by origin x y z = record { origin = vector_at (map (λ (n : ℤ). Some n) origin) 0; x = x; y = y; z = z }

whole_ray : (origin : List ℤ) (x y z : ℤ) → length origin ≡ 3 → ray_unless_fault (ray_by origin x y z) ≡ slant_read (map (λ (n : ℤ). Some n) origin ++ Some x ∷ Some y ∷ Some z ∷ [])
whole_ray (a ∷ b ∷ c ∷ []) x y z n = refl
whole_ray [] x y z n = absurd (omega (arith, n))
whole_ray (a ∷ []) x y z n = absurd (omega (arith, n))
whole_ray (a ∷ b ∷ []) x y z n = absurd (omega (arith, n))
whole_ray (a ∷ b ∷ c ∷ d ∷ more) x y z n = absurd (omega (arith, n))

pub good_ray : (atoms : List (Bor (List ℕ))) (d : Bor (List ℕ)) (origin : List ℤ) (x y z : ℤ) → length atoms ≡ 6 → length origin ≡ 3
    → numbers_as lists.Point (map (λ (a : Bor (List ℕ)). a.now) (take 3 atoms)) ≡ map (λ (n : ℤ). Some n) origin → step_number (get_or atoms 3 d).now ≡ Some x → step_number (get_or atoms 4 d).now ≡ Some y
    → step_number (get_or atoms 5 d).now ≡ Some z → ray_unless_fault (ray_by origin x y z) ≡ slant_read (six_steps (map (λ (a : Bor (List ℕ)). a.now) atoms))
good_ray atoms d origin x y z n m read one two three =
    let numbers : List (Option ℤ) = map (λ (k : ℤ). Some k) origin in
    whole_ray origin x y z m
    ∙ sym (ap slant_read (six atoms d n)
    ∙ ap (λ (xs : List (Option ℤ)). slant_read (xs ++ steps atoms d)) read
    ∙ ap (λ (o : Option ℤ). slant_read (numbers ++ o ∷ step_number (get_or atoms 4 d).now ∷ step_number (get_or atoms 5 d).now ∷ [])) one
    ∙ ap (λ (o : Option ℤ). slant_read (numbers ++ Some x ∷ o ∷ step_number (get_or atoms 5 d).now ∷ [])) two
    ∙ ap (λ (o : Option ℤ). slant_read (numbers ++ Some x ∷ Some y ∷ o ∷ [])) three)

-- ---- the command

-- the faults of a ray's numbers, and then the ray's
abbrev slant_faults : List (Option ℤ) → List (Option Refusal)
slant_faults numbers = numbers_fault 2 1 numbers ∷ slant_refusal (slant_by numbers) ∷ []

slant_names : (numbers : List (Option ℤ)) (names : List (List ℕ)) (refusal : Refusal) → names_fault 8 1 names ≡ Some refusal → Bad refusal ≡ slant_command numbers names
slant_names numbers names refusal h = at (names_fault 8 1 names) (slant_faults numbers) refusal (Query (Slant (slant_by numbers) names)) h

slant_bad : (numbers : List (Option ℤ)) (names : List (List ℕ)) (refusal : Refusal) → names_fault 8 1 names ≡ None → slant_read numbers ≡ Err refusal → Bad refusal ≡ slant_command numbers names
slant_bad numbers names refusal k h =
    or_bad (slant_faults numbers) (slant_by numbers) refusal (Query (Slant (slant_by numbers) names)) h ∙ past (names_fault 8 1 names) (slant_faults numbers) (Query (Slant (slant_by numbers) names)) k

slant_good : (numbers : List (Option ℤ)) (names : List (List ℕ)) (ray : SlantRay) → names_fault 8 1 names ≡ None → slant_read numbers ≡ Ok ray → Query (Slant ray names) ≡ slant_command numbers names
slant_good numbers names ray k h =
    or_good (slant_faults numbers) (slant_by numbers) ray (λ (r : SlantRay). Query (Slant r names)) h ∙ past (names_fault 8 1 names) (slant_faults numbers) (Query (Slant (slant_by numbers) names)) k

-- fewer words behind `nirtd` than seven
pub nirtd_short : (atoms : List (Bor (List ℕ))) → length atoms < 7 → Bad Syntax ≡ nirtd_command (map (λ (a : Bor (List ℕ)). a.now) atoms)
nirtd_short [] lt = refl
nirtd_short (a ∷ []) lt = refl
nirtd_short (a ∷ b ∷ []) lt = refl
nirtd_short (a ∷ b ∷ c ∷ []) lt = refl
nirtd_short (a ∷ b ∷ c ∷ d ∷ []) lt = refl
nirtd_short (a ∷ b ∷ c ∷ d ∷ e ∷ []) lt = refl
nirtd_short (a ∷ b ∷ c ∷ d ∷ e ∷ f ∷ []) lt = refl
nirtd_short (a ∷ b ∷ c ∷ d ∷ e ∷ f ∷ g ∷ rest) lt = absurd (omega (arith, lt))

-- at least seven
nirtd_long : (atoms : List (Bor (List ℕ))) → 7 ≤ length atoms
    → nirtd_command (map (λ (a : Bor (List ℕ)). a.now) atoms) ≡ slant_command (six_steps (map (λ (a : Bor (List ℕ)). a.now) (take 6 atoms))) (map (λ (a : Bor (List ℕ)). a.now) (drop 6 atoms))
nirtd_long (a ∷ b ∷ c ∷ d ∷ e ∷ f ∷ g ∷ rest) le = refl
nirtd_long [] le = absurd (omega (arith, le))
nirtd_long (a ∷ []) le = absurd (omega (arith, le))
nirtd_long (a ∷ b ∷ []) le = absurd (omega (arith, le))
nirtd_long (a ∷ b ∷ c ∷ []) le = absurd (omega (arith, le))
nirtd_long (a ∷ b ∷ c ∷ d ∷ []) le = absurd (omega (arith, le))
nirtd_long (a ∷ b ∷ c ∷ d ∷ e ∷ []) le = absurd (omega (arith, le))
nirtd_long (a ∷ b ∷ c ∷ d ∷ e ∷ f ∷ []) le = absurd (omega (arith, le))

-- the names are those from the seventh word on
names_behind : (atoms : List (Bor (List ℕ))) → map (λ (a : Bor (List ℕ)). a.now) (drop 6 atoms) ≡ map (λ (a : Bor (List ℕ)). a.now) (take (length atoms - 6) (drop 6 atoms))
names_behind atoms = ap (map (λ (a : Bor (List ℕ)). a.now)) (sym (rest_from 6 atoms))

pub nirtd_names : (atoms : List (Bor (List ℕ))) (refusal : Refusal) → 7 ≤ length atoms → names_fault 8 1 (map (λ (a : Bor (List ℕ)). a.now) (take (length atoms - 6) (drop 6 atoms))) ≡ Some refusal
    → Bad refusal ≡ nirtd_command (map (λ (a : Bor (List ℕ)). a.now) atoms)
nirtd_names atoms refusal le h =
    slant_names (six_steps (map (λ (a : Bor (List ℕ)). a.now) (take 6 atoms))) (map (λ (a : Bor (List ℕ)). a.now) (drop 6 atoms)) refusal (ap (names_fault 8 1) (names_behind atoms) ∙ h) ∙ sym (nirtd_long atoms le)

pub nirtd_bad : (atoms : List (Bor (List ℕ))) (refusal : Refusal) → 7 ≤ length atoms → names_fault 8 1 (map (λ (a : Bor (List ℕ)). a.now) (take (length atoms - 6) (drop 6 atoms))) ≡ None
    → slant_read (six_steps (map (λ (a : Bor (List ℕ)). a.now) (take 6 atoms))) ≡ Err refusal → Bad refusal ≡ nirtd_command (map (λ (a : Bor (List ℕ)). a.now) atoms)
nirtd_bad atoms refusal le k h =
    slant_bad (six_steps (map (λ (a : Bor (List ℕ)). a.now) (take 6 atoms))) (map (λ (a : Bor (List ℕ)). a.now) (drop 6 atoms)) refusal (ap (names_fault 8 1) (names_behind atoms) ∙ k) h ∙ sym (nirtd_long atoms le)

pub nirtd_good : (atoms : List (Bor (List ℕ))) (ray : SlantRay) → 7 ≤ length atoms → names_fault 8 1 (map (λ (a : Bor (List ℕ)). a.now) (take (length atoms - 6) (drop 6 atoms))) ≡ None
    → slant_read (six_steps (map (λ (a : Bor (List ℕ)). a.now) (take 6 atoms))) ≡ Ok ray
    → Query (Slant ray (map (λ (a : Bor (List ℕ)). a.now) (take (length atoms - 6) (drop 6 atoms)))) ≡ nirtd_command (map (λ (a : Bor (List ℕ)). a.now) atoms)
nirtd_good atoms ray le k h =
    ap (λ (ns : List (List ℕ)). Query (Slant ray ns)) (sym (names_behind atoms))
    ∙ slant_good (six_steps (map (λ (a : Bor (List ℕ)). a.now) (take 6 atoms))) (map (λ (a : Bor (List ℕ)). a.now) (drop 6 atoms)) ray (ap (names_fault 8 1) (names_behind atoms) ∙ k) h
    ∙ sym (nirtd_long atoms le)
