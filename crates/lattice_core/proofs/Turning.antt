-- The rows of a turn, as a component that is picked and a sign.
use Rattle.std.proofs.Common.{zero, suc, ◌≡◌, ◌<◌, ◌/◌, ◌∙◌, ℕ, ℤ, pos, negsuc, ◌+ℤ◌, ◌*ℤ◌, Bool, true, false, cond, refl, ap, sym, subst, arith, ◌==◌, []}
use Rattle.std.specs.Prelude.{slice_index, slice_index_or}
use Rattle.std.proofs.lemmas.Int.{ints}
use Rattle.std.proofs.Math.IntN.{neg_ℤ, *ℤ_comm}
use Rattle.lattice_core.proofs.Products.{mul_neg}
use Rattle.lattice_core.specs.declared.vector.V3.{V3}
use Rattle.lattice_core.specs.Limits.{IsAtMost, IsUnder, IsWithin, IsBelow}
use Rattle.lattice_core.specs.Vectors.{dot_product, vector_sum, zero_vector}
use Rattle.lattice_core.specs.Turns.{column_of, column_in, is_negated, row_of, turned, permutations}
use Rattle.lattice_core.specs.declared.row.Row.{Row}
use Rattle.lattice_core.specs.Rows.{picked, signed_by, row_times, row_vector, differ, IsPlace, IsRowOf, IsRowAfter, AreColumns, HasEntries}

-- vectors with the same components are one
pub vector_same : {a b c d e f : ℤ} → a ≡ d → b ≡ e → c ≡ f → (let v : V3 = record { x = a; y = b; z = c } in v) ≡ (let v : V3 = record { x = d; y = e; z = f } in v)
vector_same p q r = cc

-- what holds of each of the six permutations holds of a number below 6
pub by_permutation : (P : ℕ → Type 0) → P 0 → P 1 → P 2 → P 3 → P 4 → P 5 → (p : ℕ) → p < 6 → P p
by_permutation P a b c d e f zero h = a
by_permutation P a b c d e f (suc zero) h = b
by_permutation P a b c d e f (suc (suc zero)) h = c
by_permutation P a b c d e f (suc (suc (suc zero))) h = d
by_permutation P a b c d e f (suc (suc (suc (suc zero)))) h = e
by_permutation P a b c d e f (suc (suc (suc (suc (suc zero))))) h = f
by_permutation P a b c d e f (suc (suc (suc (suc (suc (suc n)))))) h = absurd (omega arith)

dot_is : (c : ℕ) (b : Bool) (v : V3) → IsPlace c
    → ((cond (c == 1) (cond b (negsuc 0) (pos 1)) (pos 0) *ℤ v.x) +ℤ (cond (c == 2) (cond b (negsuc 0) (pos 1)) (pos 0) *ℤ v.y) +ℤ (cond (c == 3) (cond b (negsuc 0) (pos 1)) (pos 0) *ℤ v.z)) ≡ signed_by b (picked c v)
dot_is zero b v h = absurd (omega (arith, h.0))
dot_is (suc zero) true v h = omega (arith, ints)
dot_is (suc zero) false v h = omega (arith, ints)
dot_is (suc (suc zero)) true v h = omega (arith, ints)
dot_is (suc (suc zero)) false v h = omega (arith, ints)
dot_is (suc (suc (suc zero))) true v h = omega (arith, ints)
dot_is (suc (suc (suc zero))) false v h = omega (arith, ints)
dot_is (suc (suc (suc (suc n)))) b v h = absurd (omega (arith, h.1))

pub column_ok : (turn row : ℕ) → turn < 48 → IsPlace row → IsPlace (column_of turn row)
column_ok turn zero h r = absurd (omega (arith, r.0))
column_ok turn (suc zero) h r = by_permutation (λ p. IsPlace (slice_index (slice_index_or permutations p []) 0)) (omega arith, omega arith) (omega arith, omega arith) (omega arith, omega arith) (omega arith, omega arith) (omega arith, omega arith) (omega arith, omega arith) (turn / 8) (omega arith)
column_ok turn (suc (suc zero)) h r = by_permutation (λ p. IsPlace (slice_index (slice_index_or permutations p []) 1)) (omega arith, omega arith) (omega arith, omega arith) (omega arith, omega arith) (omega arith, omega arith) (omega arith, omega arith) (omega arith, omega arith) (turn / 8) (omega arith)
column_ok turn (suc (suc (suc zero))) h r = by_permutation (λ p. IsPlace (slice_index (slice_index_or permutations p []) 2)) (omega arith, omega arith) (omega arith, omega arith) (omega arith, omega arith) (omega arith, omega arith) (omega arith, omega arith) (omega arith, omega arith) (turn / 8) (omega arith)
column_ok turn (suc (suc (suc (suc n)))) h r = absurd (omega (arith, r.1))

pub row_is : (turn place : ℕ) (v : V3) (row : Row) → turn < 48 → IsPlace place → IsRowOf turn place row → dot_product (row_of turn place) v ≡ row_times row v
row_is turn place v row h p is =
    dot_is (column_of turn place) (is_negated turn place) v (column_ok turn place h p)
    ∙ ap (λ (b : Bool). signed_by b (picked (column_of turn place) v)) is.negated
    ∙ ap (λ (c : ℕ). signed_by row.negated (picked c v)) is.column

-- a row of a turn, and of the turns that are applied one after the other
signed_twice : (a b : Bool) (z : ℤ) → signed_by (differ a b) z ≡ signed_by a (signed_by b z)
signed_twice true true z = omega (arith, ints)
signed_twice true false z = refl
signed_twice false b z = refl

picked_turned : (turn c : ℕ) (v : V3) → IsPlace c → picked c (turned turn v) ≡ dot_product (row_of turn c) v
picked_turned turn zero v h = absurd (omega (arith, h.0))
picked_turned turn (suc zero) v h = refl
picked_turned turn (suc (suc zero)) v h = refl
picked_turned turn (suc (suc (suc zero))) v h = refl
picked_turned turn (suc (suc (suc (suc n)))) v h = absurd (omega (arith, h.1))

row_after_is : (n a b place : ℕ) (v : V3) (row : Row) → n < 48 → a < 48 → b < 48 → IsPlace place → IsRowOf n place row → IsRowAfter a b place row
    → dot_product (row_of n place) v ≡ dot_product (row_of a place) (turned b v)
row_after_is n a b place v row hn ha hb p is after =
    let c : ℕ = column_of a place in
    let c_in : IsPlace (column_of a place) = column_ok a place ha p in
    row_is n place v row hn p is
    ∙ ap (λ (x : Bool). signed_by x (picked row.column v)) (sym after.negated)
    ∙ ap (λ (x : ℕ). signed_by (differ (is_negated a place) (is_negated b (column_of a place))) (picked x v)) (sym after.column)
    ∙ signed_twice (is_negated a place) (is_negated b (column_of a place)) (picked (column_of b (column_of a place)) v)
    ∙ ap (signed_by (is_negated a place)) (sym (dot_is (column_of b (column_of a place)) (is_negated b (column_of a place)) v (column_ok b (column_of a place) hb c_in)))
    ∙ ap (signed_by (is_negated a place)) (sym (picked_turned b (column_of a place) v c_in))
    ∙ sym (dot_is (column_of a place) (is_negated a place) (turned b v) c_in)

pub after_is : (n a b : ℕ) (v : V3) (first second third : Row) → n < 48 → a < 48 → b < 48
    → IsRowOf n 1 first → IsRowOf n 2 second → IsRowOf n 3 third → IsRowAfter a b 1 first → IsRowAfter a b 2 second → IsRowAfter a b 3 third
    → turned n v ≡ turned a (turned b v)
after_is n a b v first second third hn ha hb one two three one' two' three' =
    vector_same
    (row_after_is n a b 1 v first hn ha hb (omega arith, omega arith) one one')
    (row_after_is n a b 2 v second hn ha hb (omega arith, omega arith) two two')
    (row_after_is n a b 3 v third hn ha hb (omega arith, omega arith) three three')

-- the row that has its entry in a column
abbrev place_in : ℕ → ℕ → ℕ
place_in p c = cond (column_in p 1 == c) 1 (cond (column_in p 2 == c) 2 3)

place_back : (turn place : ℕ) → turn < 48 → IsPlace place → place_in (turn / 8) (column_of turn place) ≡ place
place_back turn zero h r = absurd (omega (arith, r.0))
place_back turn (suc zero) h r = by_permutation (λ p. place_in p (column_in p 1) ≡ 1) refl refl refl refl refl refl (turn / 8) (omega arith)
place_back turn (suc (suc zero)) h r = by_permutation (λ p. place_in p (column_in p 2) ≡ 2) refl refl refl refl refl refl (turn / 8) (omega arith)
place_back turn (suc (suc (suc zero))) h r = by_permutation (λ p. place_in p (column_in p 3) ≡ 3) refl refl refl refl refl refl (turn / 8) (omega arith)
place_back turn (suc (suc (suc (suc n)))) h r = absurd (omega (arith, r.1))

-- two rows have their entries in two columns
pub column_same : (turn i j : ℕ) → turn < 48 → IsPlace i → IsPlace j → column_of turn i ≡ column_of turn j → i ≡ j
column_same turn i j h a b e = sym (place_back turn i h a) ∙ ap (place_in (turn / 8)) e ∙ place_back turn j h b

pub columns_of : (turn : ℕ) → turn < 48 → AreColumns (column_of turn 1) (column_of turn 2) (column_of turn 3)
columns_of turn h =
    let one : IsPlace 1 = (omega arith, omega arith) in
    let two : IsPlace 2 = (omega arith, omega arith) in
    let three : IsPlace 3 = (omega arith, omega arith) in
    record {
      first_in = column_ok turn 1 h one;
      second_in = column_ok turn 2 h two;
      third_in = column_ok turn 3 h three;
      second_new = λ e. let same : 2 ≡ 1 = column_same turn 2 1 h two one e in omega arith;
      third_new = λ e. let same : 3 ≡ 1 = column_same turn 3 1 h three one e in omega arith;
      third_newer = λ e. let same : 3 ≡ 2 = column_same turn 3 2 h three two e in omega arith;
    }

-- a turn of columns, each of another place, keeps them apart
pub columns_after : (turn a b c : ℕ) → turn < 48 → AreColumns a b c → AreColumns (column_of turn a) (column_of turn b) (column_of turn c)
columns_after turn a b c h cs = record {
  first_in = column_ok turn a h cs.first_in;
  second_in = column_ok turn b h cs.second_in;
  third_in = column_ok turn c h cs.third_in;
  second_new = λ e. cs.second_new (column_same turn b a h cs.second_in cs.first_in e);
  third_new = λ e. cs.third_new (column_same turn c a h cs.third_in cs.first_in e);
  third_newer = λ e. cs.third_newer (column_same turn c b h cs.third_in cs.second_in e);
}

-- a row of a turn, made of its two parts
abbrev pub row_at : ℕ → ℕ → Row
row_at turn place = record { column = column_of turn place; negated = is_negated turn place }

pub row_of_is : (turn place : ℕ) (row : Row) → IsRowOf turn place row → row_of turn place ≡ row_vector row
row_of_is turn place row is =
    ap (λ (c : ℕ). row_vector (let r : Row = record { column = c; negated = is_negated turn place } in r)) is.column
    ∙ ap (λ (b : Bool). row_vector (let r : Row = record { column = row.column; negated = b } in r)) is.negated

abbrev is_zero : ℤ → Bool
is_zero (pos zero) = true
is_zero (pos (suc n)) = false
is_zero (negsuc n) = false

-- the column of the entry that is not zero
abbrev column_seen : V3 → ℕ
column_seen v = cond (is_zero v.x) (cond (is_zero v.y) 3 2) 1

seen_back : (c : ℕ) (b : Bool) → IsPlace c → column_seen (row_vector (let r : Row = record { column = c; negated = b } in r)) ≡ c
seen_back zero b h = absurd (omega (arith, h.0))
seen_back (suc zero) true h = refl
seen_back (suc zero) false h = refl
seen_back (suc (suc zero)) true h = refl
seen_back (suc (suc zero)) false h = refl
seen_back (suc (suc (suc zero))) true h = refl
seen_back (suc (suc (suc zero))) false h = refl
seen_back (suc (suc (suc (suc n)))) b h = absurd (omega (arith, h.1))

column_read : (turn place : ℕ) (row : Row) (v : V3) → turn < 48 → IsPlace place → IsPlace row.column → row_vector row ≡ v → v ≡ row_of turn place → column_of turn place ≡ row.column
column_read turn place row v h p in_row e f =
    sym (seen_back (column_of turn place) (is_negated turn place) (column_ok turn place h p))
    ∙ ap column_seen (sym f) ∙ ap column_seen (sym e) ∙ seen_back row.column row.negated in_row

-- the rows of a turn's matrix have their entries in three columns
pub entries_apart : (turn : ℕ) (f s t : Row) (first second third : V3) → turn < 48 → IsPlace f.column → IsPlace s.column → IsPlace t.column
    → row_vector f ≡ first → row_vector s ≡ second → row_vector t ≡ third → HasEntries first second third turn → AreColumns f.column s.column t.column
entries_apart turn f s t first second third h fc sc tc fe se te has =
    let one : column_of turn 1 ≡ f.column = column_read turn 1 f first h (omega arith, omega arith) fc fe has.first_row in
    let two : column_of turn 2 ≡ s.column = column_read turn 2 s second h (omega arith, omega arith) sc se has.second_row in
    let three : column_of turn 3 ≡ t.column = column_read turn 3 t third h (omega arith, omega arith) tc te has.third_row in
    subst (λ (x : ℕ). AreColumns x s.column t.column) one
    (subst (λ (x : ℕ). AreColumns (column_of turn 1) x t.column) two
    (subst (λ (x : ℕ). AreColumns (column_of turn 1) (column_of turn 2) x) three (columns_of turn h)))

-- what holds of each component and of the negated ones holds of the components that are turned
cond_has : (P : ℤ → Type 0) (b : Bool) (y z : ℤ) → P y → P z → P (cond b y z)
cond_has P true y z p q = p
cond_has P false y z p q = q

picked_has : (P : ℤ → Type 0) (c : ℕ) (v : V3) → P v.x → P v.y → P v.z → P (picked c v)
picked_has P c v x y z = cond_has P (c == 1) v.x (cond (c == 2) v.y v.z) x (cond_has P (c == 2) v.y v.z y z)

signed_has : (P : ℤ → Type 0) (b : Bool) (z : ℤ) → ((y : ℤ) → P y → P (neg_ℤ y)) → P z → P (signed_by b z)
signed_has P true z neg h = neg z h
signed_has P false z neg h = h

pub row_has : (P : ℤ → Type 0) → ((y : ℤ) → P y → P (neg_ℤ y)) → (turn place : ℕ) (v : V3) → turn < 48 → IsPlace place → P v.x → P v.y → P v.z → P (dot_product (row_of turn place) v)
row_has P neg turn place v h p x y z =
    subst P (sym (dot_is (column_of turn place) (is_negated turn place) v (column_ok turn place h p)))
    (signed_has P (is_negated turn place) (picked (column_of turn place) v) neg (picked_has P (column_of turn place) v x y z))

pub turned_below : (limit : ℤ) (turn : ℕ) (v : V3) → turn < 48 → IsBelow limit v → IsBelow limit (turned turn v)
turned_below limit turn v h b =
    let neg : (y : ℤ) → IsUnder limit y → IsUnder limit (neg_ℤ y) = λ y u. (omega (arith, ints, u.0, u.1), omega (arith, ints, u.0, u.1)) in
    record {
      x = row_has (IsUnder limit) neg turn 1 v h (omega arith, omega arith) b.x b.y b.z;
      y = row_has (IsUnder limit) neg turn 2 v h (omega arith, omega arith) b.x b.y b.z;
      z = row_has (IsUnder limit) neg turn 3 v h (omega arith, omega arith) b.x b.y b.z;
    }

pub turned_within : (limit : ℤ) (turn : ℕ) (v : V3) → turn < 48 → IsWithin limit v → IsWithin limit (turned turn v)
turned_within limit turn v h b =
    let neg : (y : ℤ) → IsAtMost limit y → IsAtMost limit (neg_ℤ y) = λ y u. (omega (arith, ints, u.0, u.1), omega (arith, ints, u.0, u.1)) in
    record {
      x = row_has (IsAtMost limit) neg turn 1 v h (omega arith, omega arith) b.x b.y b.z;
      y = row_has (IsAtMost limit) neg turn 2 v h (omega arith, omega arith) b.x b.y b.z;
      z = row_has (IsAtMost limit) neg turn 3 v h (omega arith, omega arith) b.x b.y b.z;
    }

pub turned_zero : (v : V3) → turned 0 v ≡ v
turned_zero v = vector_same (omega (arith, ints)) (omega (arith, ints)) (omega (arith, ints))

-- a turn takes a sum to the sum
cond_sum : (b : Bool) (x y u w : ℤ) → cond b (x +ℤ u) (y +ℤ w) ≡ cond b x y +ℤ cond b u w
cond_sum true x y u w = refl
cond_sum false x y u w = refl

picked_sum : (c : ℕ) (v w : V3) → picked c (vector_sum v w) ≡ picked c v +ℤ picked c w
picked_sum c v w =
    ap (cond (c == 1) (v.x +ℤ w.x)) (cond_sum (c == 2) v.y v.z w.y w.z)
    ∙ cond_sum (c == 1) v.x (cond (c == 2) v.y v.z) w.x (cond (c == 2) w.y w.z)

signed_sum : (b : Bool) (y z : ℤ) → signed_by b (y +ℤ z) ≡ signed_by b y +ℤ signed_by b z
signed_sum true y z = omega (arith, ints)
signed_sum false y z = refl

row_sum : (turn place : ℕ) (v w : V3) → turn < 48 → IsPlace place → dot_product (row_of turn place) (vector_sum v w) ≡ dot_product (row_of turn place) v +ℤ dot_product (row_of turn place) w
row_sum turn place v w h p =
    let c = column_of turn place in
    let b = is_negated turn place in
    let ok : IsPlace (column_of turn place) = column_ok turn place h p in
    let whole : dot_product (row_of turn place) (vector_sum v w) ≡ signed_by (is_negated turn place) (picked (column_of turn place) (vector_sum v w)) = dot_is (column_of turn place) (is_negated turn place) (vector_sum v w) ok in
    whole
    ∙ ap (signed_by (is_negated turn place)) (picked_sum (column_of turn place) v w)
    ∙ signed_sum (is_negated turn place) (picked (column_of turn place) v) (picked (column_of turn place) w)
    ∙ ap (λ (z : ℤ). z +ℤ signed_by (is_negated turn place) (picked (column_of turn place) w)) (sym (dot_is (column_of turn place) (is_negated turn place) v ok))
    ∙ ap (λ (z : ℤ). dot_product (row_of turn place) v +ℤ z) (sym (dot_is (column_of turn place) (is_negated turn place) w ok))

pub turned_sum : (turn : ℕ) (v w : V3) → turn < 48 → turned turn (vector_sum v w) ≡ vector_sum (turned turn v) (turned turn w)
turned_sum turn v w h = vector_same
    (row_sum turn 1 v w h (omega arith, omega arith))
    (row_sum turn 2 v w h (omega arith, omega arith))
    (row_sum turn 3 v w h (omega arith, omega arith))

pub sum_zero : (v : V3) → vector_sum v zero_vector ≡ v
sum_zero v = vector_same (omega (arith, ints)) (omega (arith, ints)) (omega (arith, ints))

-- a turn keeps dot products
signed_product : (b : Bool) (x y : ℤ) → signed_by b x *ℤ signed_by b y ≡ x *ℤ y
signed_product true x y =
    let one : neg_ℤ x *ℤ neg_ℤ y ≡ neg_ℤ (neg_ℤ x *ℤ y) = mul_neg (neg_ℤ x) y in
    let two : neg_ℤ x *ℤ y ≡ neg_ℤ (y *ℤ x) = *ℤ_comm (neg_ℤ x) y ∙ mul_neg y x in
    let three : y *ℤ x ≡ x *ℤ y = *ℤ_comm y x in
    omega (arith, ints, one, two, three)
signed_product false x y = refl

row_product : (turn place : ℕ) (v w : V3) → turn < 48 → IsPlace place
    → dot_product (row_of turn place) v *ℤ dot_product (row_of turn place) w ≡ picked (column_of turn place) v *ℤ picked (column_of turn place) w
row_product turn place v w h p =
    let ok : IsPlace (column_of turn place) = column_ok turn place h p in
    ap (λ (z : ℤ). z *ℤ dot_product (row_of turn place) w) (dot_is (column_of turn place) (is_negated turn place) v ok)
    ∙ ap (λ (z : ℤ). signed_by (is_negated turn place) (picked (column_of turn place) v) *ℤ z) (dot_is (column_of turn place) (is_negated turn place) w ok)
    ∙ signed_product (is_negated turn place) (picked (column_of turn place) v) (picked (column_of turn place) w)

abbrev picked_product : ℕ → ℕ → V3 → V3 → ℤ
picked_product p place v w = picked (column_in p place) v *ℤ picked (column_in p place) w

pub turned_dot : (turn : ℕ) (v w : V3) → turn < 48 → dot_product (turned turn v) (turned turn w) ≡ dot_product v w
turned_dot turn v w h =
    let one = row_product turn 1 v w h (omega arith, omega arith) in
    let two = row_product turn 2 v w h (omega arith, omega arith) in
    let three = row_product turn 3 v w h (omega arith, omega arith) in
    let all : (picked_product (turn / 8) 1 v w +ℤ picked_product (turn / 8) 2 v w) +ℤ picked_product (turn / 8) 3 v w ≡ dot_product v w =
    by_permutation (λ p. (picked_product p 1 v w +ℤ picked_product p 2 v w) +ℤ picked_product p 3 v w ≡ dot_product v w)
    (omega (arith, ints)) (omega (arith, ints)) (omega (arith, ints)) (omega (arith, ints)) (omega (arith, ints)) (omega (arith, ints)) (turn / 8) (omega arith) in
    omega (arith, ints, one, two, three, all)
