-- The numbers of a view, and the view that they make.
use Rattle.std.proofs.Common.{◌≡◌, ◌<◌, ◌≤◌, ◌+◌, ◌-◌, ◌++◌, ◌∷◌, [], ◌∙◌, ℕ, ℤ, pos, List, length, get_or, drop, take, map, Option, Some, None, Result, Ok, Err, arith, ap, sym, refl, subst, IfErr, IsOk}
use Rattle.std.specs.Option.{option_map}
use Rattle.std.specs.Int.RustNames.{unsigned_abs}
use Rattle.std.specs.Borrow.{Bor}
use Rattle.std.specs.Result.{IsErr, IsErrAnd}
use Rattle.std.proofs.lemmas.Int.{ints, to_z-of_z, fits_signed_from_abs}
use mir.Val.{to_z, of_z}
use mir.Syntax.{w64}
use Rattle.lattice_core.specs.declared.ray.Dir.{Dir}
use Rattle.lattice_core.specs.declared.view.View as views
use Rattle.lattice_core.specs.declared.view.ViewFault.{ViewFault}
use Rattle.lattice_core.specs.declared.limit.TheConstants.{VIEW_NUMBER}
use Rattle.lattice_core.specs.Limits.{IsAtMost, IsWithin}
use Rattle.lattice_core.specs.Views.{IsChecked, answer_of, view_fault}
use Rattle.lattice_core.proofs.Viewing.{checked_is, first_fault_is}
use Rattle.command_set.specs.Lawful.{view_or_fault}
use Rattle.command_set.specs.declared.command.Command.{Command}
use Rattle.command_set.specs.declared.command.Command.TheVariants.{Bad}
use Rattle.command_set.specs.declared.refusal.Refusal.{Refusal}
use Rattle.command_set.specs.declared.refusal.Refusal.TheVariants.{Syntax, Number, View}
use Rattle.word_values.specs.Kinds.{numbers_as, AllWithinKinds}
use Rattle.word_values.specs.declared.atoms.NumberList.TheVariants as lists
use Rattle.word_values.specs.Solids.{vector_at}
use Rattle.mged_words.specs.Commands.{unless_refused, name_fault, names_fault, numbers_fault, cell_number, side_number, size_numbers, view_of, view_refusal, direction_of, file_shoot, file_command, filed_command, line_shoot, view_command, viewed_command}
use Rattle.mged_words.specs.Readings.{or_refused, six_numbers, view_read, view_unless_fault}
use Rattle.mged_words.specs.declared.views.FileShoot.{FileShoot}
use Rattle.mged_words.specs.declared.views.LineShoot.{LineShoot}

-- a view without a fault, or its fault as a refusal
pub seen : (view v : views.View) (found : Option ViewFault) → Ok v ≡ view_or_fault view found → Ok v ≡ or_refused (option_map View found ∷ []) view
seen view v None e = cc
seen view v (Some fault) e = absurd cc

pub unseen : (view : views.View) (fault : ViewFault) (found : Option ViewFault) → Err fault ≡ view_or_fault view found → Err (View fault) ≡ or_refused (option_map View found ∷ []) view
unseen view fault None e = absurd cc
unseen view fault (Some other) e = cc

-- a refusal that is passed on
pub err_told : {T : Type 0} {G : Refusal → Type 0} (r : Result T Refusal) (refusal : Refusal) (P : Refusal → Type 0) → IsErr r × IsErrAnd r G → ((e : Refusal) → G e → e ≡ refusal) → P refusal → IfErr r P
err_told {T} {G} (Ok v) refusal P h is p = absurd h.1
err_told {T} {G} (Err e) refusal P h is p = subst P (sym (is e h.1)) p

pub err_same : {T : Type 0} {G : Refusal → Type 0} (r x : Result T Refusal) (refusal : Refusal) → IsErr r × IsErrAnd r G → ((e : Refusal) → G e → e ≡ refusal) → Err refusal ≡ x → r ≡ x
err_same {T} {G} (Ok v) x refusal h is same = absurd h.1
err_same {T} {G} (Err e) x refusal h is same = ap (λ (f : Refusal). let made : Result T Refusal = Err f in made) (is e h.1) ∙ same

-- a second size that is none
pub second_bad : (atoms : List (Bor (List ℕ))) (word : ℕ) (d : Bor (List ℕ)) (cell : ℤ) (refusal : Refusal) → length atoms ≡ 3 → cell_number (get_or atoms 0 d).now ≡ Some cell → side_number (get_or atoms 1 d).now ≡ None
    → refusal ≡ Number (word + 1) → numbers_fault word 1 (size_numbers (map (λ (a : Bor (List ℕ)). a.now) atoms)) ≡ Some refusal
second_bad (a ∷ b ∷ c ∷ []) word d cell refusal n h k is =
    ap (λ (o : Option ℤ). numbers_fault word 1 (o ∷ side_number b.now ∷ side_number c.now ∷ [])) h
    ∙ ap (λ (o : Option ℤ). numbers_fault (word + 1) 1 (o ∷ side_number c.now ∷ [])) k
    ∙ ap (λ (r : Refusal). Some r) (sym is)
second_bad [] word d cell refusal n h k is = absurd (omega (arith, n))
second_bad (a ∷ []) word d cell refusal n h k is = absurd (omega (arith, n))
second_bad (a ∷ b ∷ []) word d cell refusal n h k is = absurd (omega (arith, n))
second_bad (a ∷ b ∷ c ∷ e ∷ more) word d cell refusal n h k is = absurd (omega (arith, n))

pub three_sizes : (atoms : List (Bor (List ℕ))) (d : Bor (List ℕ)) (cell : ℤ) (w h : ℕ) → length atoms ≡ 3 → cell_number (get_or atoms 0 d).now ≡ Some cell → side_number (get_or atoms 1 d).now ≡ Some (pos w)
    → side_number (get_or atoms 2 d).now ≡ Some (pos h) → size_numbers (map (λ (a : Bor (List ℕ)). a.now) atoms) ≡ Some cell ∷ Some (pos w) ∷ Some (pos h) ∷ []
three_sizes (a ∷ b ∷ c ∷ []) d cell w h n one two three =
    ap (λ (o : Option ℤ). o ∷ side_number b.now ∷ side_number c.now ∷ []) one
    ∙ ap (λ (o : Option ℤ). Some cell ∷ o ∷ side_number c.now ∷ []) two
    ∙ ap (λ (o : Option ℤ). Some cell ∷ Some (pos w) ∷ o ∷ []) three
three_sizes [] d cell w h n one two three = absurd (omega (arith, n))
three_sizes (a ∷ []) d cell w h n one two three = absurd (omega (arith, n))
three_sizes (a ∷ b ∷ []) d cell w h n one two three = absurd (omega (arith, n))
three_sizes (a ∷ b ∷ c ∷ e ∷ more) d cell w h n one two three = absurd (omega (arith, n))

-- a cell of a view fits 64 bits
pub cell_fits : (cell : ℤ) → IsAtMost VIEW_NUMBER cell → to_z w64 (of_z w64 cell) ≡ cell
cell_fits cell h = to_z-of_z w64 cell (fits_signed_from_abs w64 cell (omega (arith, ints, h.0, h.1)))

-- a third size that is none
pub third_bad : (atoms : List (Bor (List ℕ))) (word : ℕ) (d : Bor (List ℕ)) (cell : ℤ) (w : ℕ) (refusal : Refusal) → length atoms ≡ 3 → cell_number (get_or atoms 0 d).now ≡ Some cell → side_number (get_or atoms 1 d).now ≡ Some (pos w)
    → side_number (get_or atoms 2 d).now ≡ None → refusal ≡ Number (word + 2) → numbers_fault word 1 (size_numbers (map (λ (a : Bor (List ℕ)). a.now) atoms)) ≡ Some refusal
third_bad (a ∷ b ∷ c ∷ []) word d cell w refusal n h k l is =
    ap (λ (o : Option ℤ). numbers_fault word 1 (o ∷ side_number b.now ∷ side_number c.now ∷ [])) h
    ∙ ap (λ (o : Option ℤ). numbers_fault (word + 1) 1 (o ∷ side_number c.now ∷ [])) k
    ∙ ap (λ (o : Option ℤ). numbers_fault (word + 1 + 1) 1 (o ∷ [])) l
    ∙ (let sum : word + 1 + 1 ≡ word + 2 = omega arith in ap (λ (m : ℕ). Some (Number m)) sum)
    ∙ ap (λ (r : Refusal). Some r) (sym is)
third_bad [] word d cell w refusal n h k l is = absurd (omega (arith, n))
third_bad (a ∷ []) word d cell w refusal n h k l is = absurd (omega (arith, n))
third_bad (a ∷ b ∷ []) word d cell w refusal n h k l is = absurd (omega (arith, n))
third_bad (a ∷ b ∷ c ∷ e ∷ more) word d cell w refusal n h k l is = absurd (omega (arith, n))

-- ---- six numbers

pub fault_first : (word : ℕ) (xs ys : List (Option ℤ)) (refusal : Refusal) → numbers_fault word 1 xs ≡ Some refusal → numbers_fault word 1 (xs ++ ys) ≡ Some refusal
fault_first word [] ys refusal h = absurd cc
fault_first word (None ∷ xs) ys refusal h = h
fault_first word (Some n ∷ xs) ys refusal h = fault_first (word + 1) xs ys refusal h

pub refused_by : {T : Type 0} (fault : Option Refusal) (refusal : Refusal) (rest : List (Option Refusal)) (value : T) → fault ≡ Some refusal → Err refusal ≡ or_refused (fault ∷ rest) value
refused_by {T} fault refusal rest value h = sym (ap (λ (o : Option Refusal). or_refused (o ∷ rest) value) h)

six : (atoms : List (Bor (List ℕ))) → length atoms ≡ 6
    → six_numbers (map (λ (a : Bor (List ℕ)). a.now) atoms) ≡ numbers_as lists.Point (map (λ (a : Bor (List ℕ)). a.now) (take 3 atoms)) ++ size_numbers (map (λ (a : Bor (List ℕ)). a.now) (take (length atoms - 3) (drop 3 atoms)))
six (a ∷ b ∷ c ∷ d ∷ e ∷ f ∷ []) n = refl
six [] n = absurd (omega (arith, n))
six (a ∷ []) n = absurd (omega (arith, n))
six (a ∷ b ∷ []) n = absurd (omega (arith, n))
six (a ∷ b ∷ c ∷ []) n = absurd (omega (arith, n))
six (a ∷ b ∷ c ∷ d ∷ []) n = absurd (omega (arith, n))
six (a ∷ b ∷ c ∷ d ∷ e ∷ []) n = absurd (omega (arith, n))
six (a ∷ b ∷ c ∷ d ∷ e ∷ f ∷ g ∷ more) n = absurd (omega (arith, n))

bad_numbers : (word : ℕ) (dir : Dir) (numbers : List (Option ℤ)) (refusal : Refusal) → numbers_fault word 1 numbers ≡ Some refusal → Err refusal ≡ view_read word dir numbers
bad_numbers word dir numbers refusal h = refused_by (numbers_fault word 1 numbers) refusal _ _ h

pub bad_corner : (word : ℕ) (dir : Dir) (atoms : List (Bor (List ℕ))) (refusal : Refusal) → length atoms ≡ 6 → numbers_fault word 1 (numbers_as lists.Point (map (λ (a : Bor (List ℕ)). a.now) (take 3 atoms))) ≡ Some refusal
    → Err refusal ≡ view_read word dir (six_numbers (map (λ (a : Bor (List ℕ)). a.now) atoms))
bad_corner word dir atoms refusal n h =
    let xs : List (Option ℤ) = numbers_as lists.Point (map (λ (a : Bor (List ℕ)). a.now) (take 3 atoms)) in
    let ys : List (Option ℤ) = size_numbers (map (λ (a : Bor (List ℕ)). a.now) (take (length atoms - 3) (drop 3 atoms))) in
    bad_numbers word dir (xs ++ ys) refusal (fault_first word xs ys refusal h) ∙ sym (ap (view_read word dir) (six atoms n))

pub sizes_fault : (word : ℕ) (corner : List ℤ) (ys : List (Option ℤ)) (refusal : Refusal) → length corner ≡ 3 → numbers_fault (word + 3) 1 ys ≡ Some refusal → numbers_fault word 1 (map (λ (n : ℤ). Some n) corner ++ ys) ≡ Some refusal
sizes_fault word (x ∷ y ∷ z ∷ []) ys refusal n h = let sum : word + 1 + 1 + 1 ≡ word + 3 = omega arith in ap (λ (m : ℕ). numbers_fault m 1 ys) sum ∙ h
sizes_fault word [] ys refusal n h = absurd (omega (arith, n))
sizes_fault word (x ∷ []) ys refusal n h = absurd (omega (arith, n))
sizes_fault word (x ∷ y ∷ []) ys refusal n h = absurd (omega (arith, n))
sizes_fault word (x ∷ y ∷ z ∷ v ∷ more) ys refusal n h = absurd (omega (arith, n))

pub bad_sizes : (word : ℕ) (dir : Dir) (atoms : List (Bor (List ℕ))) (corner : List ℤ) (refusal : Refusal) → length atoms ≡ 6 → length corner ≡ 3
    → numbers_as lists.Point (map (λ (a : Bor (List ℕ)). a.now) (take 3 atoms)) ≡ map (λ (n : ℤ). Some n) corner
    → numbers_fault (word + 3) 1 (size_numbers (map (λ (a : Bor (List ℕ)). a.now) (take (length atoms - 3) (drop 3 atoms)))) ≡ Some refusal
    → Err refusal ≡ view_read word dir (six_numbers (map (λ (a : Bor (List ℕ)). a.now) atoms))
bad_sizes word dir atoms corner refusal n m read h =
    let ys : List (Option ℤ) = size_numbers (map (λ (a : Bor (List ℕ)). a.now) (take (length atoms - 3) (drop 3 atoms))) in
    bad_numbers word dir (map (λ (k : ℤ). Some k) corner ++ ys) refusal (sizes_fault word corner ys refusal m h)
    ∙ sym (ap (view_read word dir) (six atoms n) ∙ ap (λ (xs : List (Option ℤ)). view_read word dir (xs ++ ys)) read)

whole_view : (word : ℕ) (dir : Dir) (corner : List ℤ) (cell : ℤ) (w h : ℕ) → length corner ≡ 3
    → view_unless_fault (record { corner = vector_at (map (λ (n : ℤ). Some n) corner) 0; dir = dir; cell = cell; w = w; h = h })
    ≡ view_read word dir (map (λ (n : ℤ). Some n) corner ++ Some cell ∷ Some (pos w) ∷ Some (pos h) ∷ [])
whole_view word dir (x ∷ y ∷ z ∷ []) cell w h n = refl
whole_view word dir [] cell w h n = absurd (omega (arith, n))
whole_view word dir (x ∷ []) cell w h n = absurd (omega (arith, n))
whole_view word dir (x ∷ y ∷ []) cell w h n = absurd (omega (arith, n))
whole_view word dir (x ∷ y ∷ z ∷ v ∷ more) cell w h n = absurd (omega (arith, n))

pub good_view : (word : ℕ) (dir : Dir) (atoms : List (Bor (List ℕ))) (corner : List ℤ) (cell : ℤ) (w h : ℕ) → length atoms ≡ 6 → length corner ≡ 3
    → numbers_as lists.Point (map (λ (a : Bor (List ℕ)). a.now) (take 3 atoms)) ≡ map (λ (n : ℤ). Some n) corner
    → size_numbers (map (λ (a : Bor (List ℕ)). a.now) (take (length atoms - 3) (drop 3 atoms))) ≡ Some cell ∷ Some (pos w) ∷ Some (pos h) ∷ []
    → view_unless_fault (record { corner = vector_at (map (λ (n : ℤ). Some n) corner) 0; dir = dir; cell = cell; w = w; h = h }) ≡ view_read word dir (six_numbers (map (λ (a : Bor (List ℕ)). a.now) atoms))
good_view word dir atoms corner cell w h n m read sizes =
    let ys : List (Option ℤ) = size_numbers (map (λ (a : Bor (List ℕ)). a.now) (take (length atoms - 3) (drop 3 atoms))) in
    whole_view word dir corner cell w h m
    ∙ sym (ap (view_read word dir) (six atoms n) ∙ ap (λ (xs : List (Option ℤ)). view_read word dir (xs ++ ys)) read ∙ ap (λ (zs : List (Option ℤ)). view_read word dir (map (λ (k : ℤ). Some k) corner ++ zs)) sizes)

near : (n : ℤ) → unsigned_abs n ≤ unsigned_abs VIEW_NUMBER → IsAtMost VIEW_NUMBER n
near n h = (omega (arith, ints, h), omega (arith, ints, h))

pub corner_near : (corner : List ℤ) → length corner ≡ 3 → AllWithinKinds lists.Point corner → IsWithin VIEW_NUMBER (vector_at (map (λ (n : ℤ). Some n) corner) 0)
corner_near (x ∷ y ∷ z ∷ []) n all = record { x = near x (all 0 (omega arith)); y = near y (all 1 (omega arith)); z = near z (all 2 (omega arith)) }
corner_near [] n all = absurd (omega (arith, n))
corner_near (x ∷ []) n all = absurd (omega (arith, n))
corner_near (x ∷ y ∷ []) n all = absurd (omega (arith, n))
corner_near (x ∷ y ∷ z ∷ v ∷ more) n all = absurd (omega (arith, n))

-- ---- commands

-- what a ray or a view is refused for, its command is refused for
pub or_bad : {T : Type 0} (faults : List (Option Refusal)) (value : T) (refusal : Refusal) (command : Command) → or_refused faults value ≡ Err refusal → Bad refusal ≡ unless_refused faults command
or_bad {T} [] value refusal command h = absurd cc
or_bad {T} (Some other ∷ rest) value refusal command h = cc
or_bad {T} (None ∷ rest) value refusal command h = or_bad rest value refusal command h

pub or_good : {T : Type 0} (faults : List (Option Refusal)) (value made : T) (of : T → Command) → or_refused faults value ≡ Ok made → of made ≡ unless_refused faults (of value)
or_good {T} [] value made of h = let same : made ≡ value = cc in ap of same
or_good {T} (Some other ∷ rest) value made of h = absurd cc
or_good {T} (None ∷ rest) value made of h = or_good rest value made of h

pub past : (fault : Option Refusal) (faults : List (Option Refusal)) (command : Command) → fault ≡ None → unless_refused faults command ≡ unless_refused (fault ∷ faults) command
past fault faults command h = sym (ap (λ (o : Option Refusal). unless_refused (o ∷ faults) command) h)

pub at : (fault : Option Refusal) (faults : List (Option Refusal)) (refusal : Refusal) (command : Command) → fault ≡ Some refusal → Bad refusal ≡ unless_refused (fault ∷ faults) command
at fault faults refusal command h = sym (ap (λ (o : Option Refusal). unless_refused (o ∷ faults) command) h)

-- the faults of a view's numbers, and then the view's
abbrev view_faults : ℕ → Dir → List (Option ℤ) → List (Option Refusal)
view_faults word dir numbers = numbers_fault word 1 numbers ∷ view_refusal (view_of dir numbers) ∷ []

pub file_bad : (what : FileShoot) (file : List ℕ) (dir : Dir) (numbers : List (Option ℤ)) (names : List (List ℕ)) (refusal : Refusal) → name_fault 2 file ≡ Some refusal → Bad refusal ≡ file_command what file (Some dir) numbers names
file_bad what file dir numbers names refusal h = at (name_fault 2 file) (names_fault 10 1 names ∷ view_faults 4 dir numbers) refusal (file_shoot what file (view_of dir numbers) names) h

pub file_names : (what : FileShoot) (file : List ℕ) (dir : Dir) (numbers : List (Option ℤ)) (names : List (List ℕ)) (refusal : Refusal) → name_fault 2 file ≡ None → names_fault 10 1 names ≡ Some refusal
    → Bad refusal ≡ file_command what file (Some dir) numbers names
file_names what file dir numbers names refusal fine h =
    at (names_fault 10 1 names) (view_faults 4 dir numbers) refusal (file_shoot what file (view_of dir numbers) names) h
    ∙ past (name_fault 2 file) (names_fault 10 1 names ∷ view_faults 4 dir numbers) (file_shoot what file (view_of dir numbers) names) fine

past_names : (what : FileShoot) (file : List ℕ) (dir : Dir) (numbers : List (Option ℤ)) (names : List (List ℕ)) → name_fault 2 file ≡ None → names_fault 10 1 names ≡ None
    → unless_refused (view_faults 4 dir numbers) (file_shoot what file (view_of dir numbers) names) ≡ file_command what file (Some dir) numbers names
past_names what file dir numbers names fine k =
    past (names_fault 10 1 names) (view_faults 4 dir numbers) (file_shoot what file (view_of dir numbers) names) k
    ∙ past (name_fault 2 file) (names_fault 10 1 names ∷ view_faults 4 dir numbers) (file_shoot what file (view_of dir numbers) names) fine

pub file_view : (what : FileShoot) (file : List ℕ) (dir : Dir) (numbers : List (Option ℤ)) (names : List (List ℕ)) (refusal : Refusal) → name_fault 2 file ≡ None → names_fault 10 1 names ≡ None → view_read 4 dir numbers ≡ Err refusal
    → Bad refusal ≡ file_command what file (Some dir) numbers names
file_view what file dir numbers names refusal fine k h =
    or_bad (view_faults 4 dir numbers) (view_of dir numbers) refusal (file_shoot what file (view_of dir numbers) names) h ∙ past_names what file dir numbers names fine k

pub file_good : (what : FileShoot) (file : List ℕ) (dir : Dir) (numbers : List (Option ℤ)) (names : List (List ℕ)) (view : views.View) → name_fault 2 file ≡ None → names_fault 10 1 names ≡ None → view_read 4 dir numbers ≡ Ok view
    → file_shoot what file view names ≡ file_command what file (Some dir) numbers names
file_good what file dir numbers names view fine k h =
    or_good (view_faults 4 dir numbers) (view_of dir numbers) view (λ (v : views.View). file_shoot what file v names) h ∙ past_names what file dir numbers names fine k

pub view_names : (what : LineShoot) (dir : Dir) (numbers : List (Option ℤ)) (names : List (List ℕ)) (refusal : Refusal) → names_fault 9 1 names ≡ Some refusal → Bad refusal ≡ view_command what (Some dir) numbers names
view_names what dir numbers names refusal h = at (names_fault 9 1 names) (view_faults 3 dir numbers) refusal (line_shoot what (view_of dir numbers) names) h

pub view_bad : (what : LineShoot) (dir : Dir) (numbers : List (Option ℤ)) (names : List (List ℕ)) (refusal : Refusal) → names_fault 9 1 names ≡ None → view_read 3 dir numbers ≡ Err refusal → Bad refusal ≡ view_command what (Some dir) numbers names
view_bad what dir numbers names refusal k h =
    or_bad (view_faults 3 dir numbers) (view_of dir numbers) refusal (line_shoot what (view_of dir numbers) names) h
    ∙ past (names_fault 9 1 names) (view_faults 3 dir numbers) (line_shoot what (view_of dir numbers) names) k

pub view_good : (what : LineShoot) (dir : Dir) (numbers : List (Option ℤ)) (names : List (List ℕ)) (view : views.View) → names_fault 9 1 names ≡ None → view_read 3 dir numbers ≡ Ok view
    → line_shoot what view names ≡ view_command what (Some dir) numbers names
view_good what dir numbers names view k h =
    or_good (view_faults 3 dir numbers) (view_of dir numbers) view (λ (v : views.View). line_shoot what v names) h
    ∙ past (names_fault 9 1 names) (view_faults 3 dir numbers) (line_shoot what (view_of dir numbers) names) k

-- ---- words behind the words of these commands

pub filed_short : (what : FileShoot) (atoms : List (Bor (List ℕ))) → length atoms < 9 → Bad Syntax ≡ filed_command what (map (λ (a : Bor (List ℕ)). a.now) atoms)
filed_short what [] lt = refl
filed_short what (a ∷ []) lt = refl
filed_short what (a ∷ b ∷ []) lt = refl
filed_short what (a ∷ b ∷ c ∷ []) lt = refl
filed_short what (a ∷ b ∷ c ∷ d ∷ []) lt = refl
filed_short what (a ∷ b ∷ c ∷ d ∷ e ∷ []) lt = refl
filed_short what (a ∷ b ∷ c ∷ d ∷ e ∷ f ∷ []) lt = refl
filed_short what (a ∷ b ∷ c ∷ d ∷ e ∷ f ∷ g ∷ []) lt = refl
filed_short what (a ∷ b ∷ c ∷ d ∷ e ∷ f ∷ g ∷ h ∷ []) lt = refl
filed_short what (a ∷ b ∷ c ∷ d ∷ e ∷ f ∷ g ∷ h ∷ i ∷ rest) lt = absurd (omega (arith, lt))

pub filed_long : (what : FileShoot) (atoms : List (Bor (List ℕ))) (d : Bor (List ℕ)) → 9 ≤ length atoms
    → filed_command what (map (λ (a : Bor (List ℕ)). a.now) atoms)
    ≡ file_command what (get_or atoms 0 d).now (direction_of (get_or atoms 1 d).now) (six_numbers (map (λ (a : Bor (List ℕ)). a.now) (take 6 (drop 2 atoms)))) (map (λ (a : Bor (List ℕ)). a.now) (drop 8 atoms))
filed_long what (a ∷ b ∷ c ∷ d ∷ e ∷ f ∷ g ∷ h ∷ i ∷ rest) x le = refl
filed_long what [] x le = absurd (omega (arith, le))
filed_long what (a ∷ []) x le = absurd (omega (arith, le))
filed_long what (a ∷ b ∷ []) x le = absurd (omega (arith, le))
filed_long what (a ∷ b ∷ c ∷ []) x le = absurd (omega (arith, le))
filed_long what (a ∷ b ∷ c ∷ d ∷ []) x le = absurd (omega (arith, le))
filed_long what (a ∷ b ∷ c ∷ d ∷ e ∷ []) x le = absurd (omega (arith, le))
filed_long what (a ∷ b ∷ c ∷ d ∷ e ∷ f ∷ []) x le = absurd (omega (arith, le))
filed_long what (a ∷ b ∷ c ∷ d ∷ e ∷ f ∷ g ∷ []) x le = absurd (omega (arith, le))
filed_long what (a ∷ b ∷ c ∷ d ∷ e ∷ f ∷ g ∷ h ∷ []) x le = absurd (omega (arith, le))

pub viewed_short : (what : LineShoot) (atoms : List (Bor (List ℕ))) → length atoms < 8 → Bad Syntax ≡ viewed_command what (map (λ (a : Bor (List ℕ)). a.now) atoms)
viewed_short what [] lt = refl
viewed_short what (a ∷ []) lt = refl
viewed_short what (a ∷ b ∷ []) lt = refl
viewed_short what (a ∷ b ∷ c ∷ []) lt = refl
viewed_short what (a ∷ b ∷ c ∷ d ∷ []) lt = refl
viewed_short what (a ∷ b ∷ c ∷ d ∷ e ∷ []) lt = refl
viewed_short what (a ∷ b ∷ c ∷ d ∷ e ∷ f ∷ []) lt = refl
viewed_short what (a ∷ b ∷ c ∷ d ∷ e ∷ f ∷ g ∷ []) lt = refl
viewed_short what (a ∷ b ∷ c ∷ d ∷ e ∷ f ∷ g ∷ h ∷ rest) lt = absurd (omega (arith, lt))

pub viewed_long : (what : LineShoot) (atoms : List (Bor (List ℕ))) (d : Bor (List ℕ)) → 8 ≤ length atoms
    → viewed_command what (map (λ (a : Bor (List ℕ)). a.now) atoms)
    ≡ view_command what (direction_of (get_or atoms 0 d).now) (six_numbers (map (λ (a : Bor (List ℕ)). a.now) (take 6 (drop 1 atoms)))) (map (λ (a : Bor (List ℕ)). a.now) (drop 7 atoms))
viewed_long what (a ∷ b ∷ c ∷ d ∷ e ∷ f ∷ g ∷ h ∷ rest) x le = refl
viewed_long what [] x le = absurd (omega (arith, le))
viewed_long what (a ∷ []) x le = absurd (omega (arith, le))
viewed_long what (a ∷ b ∷ []) x le = absurd (omega (arith, le))
viewed_long what (a ∷ b ∷ c ∷ []) x le = absurd (omega (arith, le))
viewed_long what (a ∷ b ∷ c ∷ d ∷ []) x le = absurd (omega (arith, le))
viewed_long what (a ∷ b ∷ c ∷ d ∷ e ∷ []) x le = absurd (omega (arith, le))
viewed_long what (a ∷ b ∷ c ∷ d ∷ e ∷ f ∷ []) x le = absurd (omega (arith, le))
viewed_long what (a ∷ b ∷ c ∷ d ∷ e ∷ f ∷ g ∷ []) x le = absurd (omega (arith, le))

-- ---- a view that was checked is one without a fault

ok_none : (found : Option ViewFault) → IsOk (answer_of found) → found ≡ None
ok_none None h = refl
ok_none (Some fault) h = absurd cc

pub none_found : (found : Option ViewFault) → option_map View found ≡ None → found ≡ None
none_found None h = refl
none_found (Some fault) h = absurd cc

pub fine_view : (view : views.View) → IsChecked view → view_refusal view ≡ None
unfolding view_refusal
fine_view view h = ap (option_map View) (ok_none (view_fault view) ((checked_is view (answer_of (view_fault view)) (first_fault_is view)).1 h))

pub seen_whole : (view : views.View) → view_refusal view ≡ None → IsChecked view
unfolding view_refusal
seen_whole view h =
    let ok : IsOk (answer_of (view_fault view)) = subst (λ (o : Option ViewFault). IsOk (answer_of o)) (sym (none_found (view_fault view) h)) refl in
    (checked_is view (answer_of (view_fault view)) (first_fault_is view)).0 ok
