-- The place that no other one is ahead of.
use Rattle.std.proofs.Common.{◌≡◌, ◌∙◌, ◌⊎◌, ℕ, ◌≤◌, Bool, true, false, cond, ◌==◌, not, ◌&&◌, List, [], ◌∷◌, ◌++◌, Option, Some, None, refl, ap, sym, subst, inl, inr, arith}
use Rattle.std.specs.List.{find}
use Rattle.std.specs.Option.{option_or}
use Rattle.std.proofs.lemmas.List.Folds.{find-append}
use Rattle.std.proofs.lemmas.Bool.Decides.{nat_tests}
use Rattle.std.specs.Cmp.{IsTotalOrder}
use Rattle.std.proofs.lemmas.Cmp.{upto, tied_itself}
use Rattle.std.specs.Ordering.{is_eq, is_gt, ordering_reverse}
use Rattle.std.specs.declared.cmp.Ordering.{Ordering}
use Rattle.std.specs.declared.cmp.Ordering.TheVariants.{Less, Equal, Greater}
use Rattle.surd_order.specs.declared.position.Pos.{Pos}
use Rattle.surd_order.specs.PlaceOrder.{place_cmp}
use Rattle.solid_set.specs.declared.crossed.Crossed.{Crossed}
use Rattle.solid_set.specs.Segments.{is_unbeaten, foremost, place_or, places_of, face_or_none}
use Rattle.solid_set.specs.Spans.{at, chosen}
use Rattle.solid_set.proofs.Ranking.{IsRanking}

-- a position is one of the places
abbrev pub Has : List Pos → Pos → Type 0
Has [] x = ⊥
Has (y ∷ ys) x = (y ≡ x) ⊎ Has ys x

-- no place is ahead of a position
abbrev pub NoneAhead : (Pos → Pos → Ordering) → List Pos → Pos → Type 0
NoneAhead R [] x = Unit {0}
NoneAhead R (y ∷ ys) x = (is_gt (R y x) ≡ false) × NoneAhead R ys x

pub none_at : (R : Pos → Pos → Ordering) (ys : List Pos) (x y : Pos) → NoneAhead R ys x → Has ys y → is_gt (R y x) ≡ false
none_at R [] x y none has = absurd has
none_at R (z ∷ zs) x y none has = elim has [ inl e ↦ subst (λ (w : Pos). is_gt (R w x) ≡ false) e none.0 | inr more ↦ none_at R zs x y none.1 more ]

both_true : (a b : Bool) → a ≡ false → b ≡ true → (not a && b) ≡ true
both_true true b e f = cc
both_true false b e f = f

not_first : (a b : Bool) → (not a && b) ≡ true → (a ≡ false) × (b ≡ true)
not_first true b e = absurd (let f : false ≡ true = e in cc)
not_first false b e = (refl, e)

pub unbeaten_from : (R : Pos → Pos → Ordering) (ys : List Pos) (x : Pos) → NoneAhead R ys x → is_unbeaten (λ a b. is_gt (R a b)) ys x ≡ true
unbeaten_from R [] x none = refl
unbeaten_from R (y ∷ ys) x none = both_true (is_gt (R y x)) _ none.0 (unbeaten_from R ys x none.1)

pub unbeaten_to : (R : Pos → Pos → Ordering) (ys : List Pos) (x : Pos) → is_unbeaten (λ a b. is_gt (R a b)) ys x ≡ true → NoneAhead R ys x
unbeaten_to R [] x e = tt
unbeaten_to R (y ∷ ys) x e = let both = not_first (is_gt (R y x)) _ e in (both.0, unbeaten_to R ys x both.1)

pub record IsFound (test : Pos → Bool) (ys : List Pos) (o : Option Pos) : Type 0 where
  pub place : Pos
  pub is : o ≡ Some place
  pub among : Has ys place
  pub passes : test place ≡ true

found_at : (test : Pos → Bool) (y : Pos) (ys : List Pos) (v : Bool) → test y ≡ v → (v ≡ false → IsFound test ys (find test ys))
    → IsFound test (y ∷ ys) (cond v (Some y) (find test ys))
found_at test y ys true e more = record { place = y; is = refl; among = inl refl; passes = e }
found_at test y ys false e more = let f = more refl in record { place = f.place; is = f.is; among = inr f.among; passes = f.passes }

pub found : (test : Pos → Bool) (ys : List Pos) (b : Pos) → Has ys b → test b ≡ true → IsFound test ys (find test ys)
found test [] b has t = absurd has
found test (y ∷ ys) b has t =
    found_at test y ys (test y) refl (λ e. elim has [ inl same ↦ absurd (let f : true ≡ false = sym t ∙ ap test (sym same) ∙ e in cc) | inr more ↦ found test ys b more t ])

-- where some place is unbeaten, the foremost one is
pub record IsForemost (R : Pos → Pos → Ordering) (first : Pos) (rest : List Pos) (x : Pos) : Type 0 where
  pub among : Has (first ∷ rest) x
  pub ahead : NoneAhead R (first ∷ rest) x

foremost_found : (R : Pos → Pos → Ordering) (first : Pos) (rest : List Pos) (o : Option Pos) → IsFound (is_unbeaten (λ a b. is_gt (R a b)) (first ∷ rest)) (first ∷ rest) o
    → IsForemost R first rest (place_or o first)
foremost_found R first rest o f =
    subst (λ (p : Option Pos). IsForemost R first rest (place_or p first)) (sym f.is)
    (record { among = f.among; ahead = unbeaten_to R (first ∷ rest) f.place f.passes })

pub foremost_is : (R : Pos → Pos → Ordering) (first : Pos) (rest : List Pos) (x : Pos) → IsForemost R first rest x
    → IsForemost R first rest (foremost (λ a b. is_gt (R a b)) first rest)
foremost_is R first rest x best =
    foremost_found R first rest _ (found (is_unbeaten (λ a b. is_gt (R a b)) (first ∷ rest)) (first ∷ rest) x best.among (unbeaten_from R (first ∷ rest) x best.ahead))

equal_from_both : (r s : Ordering) → r ≡ ordering_reverse s → is_gt r ≡ false → is_gt s ≡ false → r ≡ Equal
equal_from_both Less Less e f g = cc
equal_from_both Less Equal e f g = cc
equal_from_both Less Greater e f g = absurd (let h : true ≡ false = g in cc)
equal_from_both Equal s e f g = refl
equal_from_both Greater s e f g = absurd (let h : true ≡ false = f in cc)

-- two foremost places tie
pub foremost_tie : (R : Pos → Pos → Ordering) → IsTotalOrder R → (first : Pos) (rest : List Pos) (x y : Pos) → IsForemost R first rest x → IsForemost R first rest y → R x y ≡ Equal
foremost_tie R total first rest x y h g =
    equal_from_both (R x y) (R y x) (total.antisymm x y) (none_at R (first ∷ rest) y x g.ahead h.among) (none_at R (first ∷ rest) x y h.ahead g.among)

-- the face of the first crossing at a place, of the crossing where there is one
abbrev pub FaceIs : Option Crossed → ℕ → Type 0
FaceIs None face = face ≡ 0
FaceIs (Some c) face = (face ≡ c.face) × (1 ≤ face)

pub face_is : (o : Option Crossed) (face : ℕ) → FaceIs o face → face ≡ face_or_none o
face_is None face h = h
face_is (Some c) face h = h.0

-- the foremost of the crossings so far, with its face
pub record IsBest (R : Pos → Pos → Ordering) (first : Pos) (cs : List Crossed) (best : Crossed) : Type 0 where
  pub place : IsForemost R first (places_of cs) best.place
  pub face : FaceIs (find (λ c. is_eq (place_cmp c.place best.place)) cs) best.face

has_more : (x : Pos) (ys : List Crossed) (c : Crossed) → Has (places_of ys) x → Has (places_of (ys ++ c ∷ [])) x
has_more x [] c has = absurd has
has_more x (y ∷ ys) c has = elim has [ inl e ↦ inl e | inr more ↦ inr (has_more x ys c more) ]

has_last : (ys : List Crossed) (c : Crossed) → Has (places_of (ys ++ c ∷ [])) c.place
has_last [] c = inl refl
has_last (y ∷ ys) c = inr (has_last ys c)

none_more : (R : Pos → Pos → Ordering) (x : Pos) (ys : List Crossed) (c : Crossed) → NoneAhead R (places_of ys) x → is_gt (R c.place x) ≡ false → NoneAhead R (places_of (ys ++ c ∷ [])) x
none_more R x [] c none last = (last, tt)
none_more R x (y ∷ ys) c none last = (none.0, none_more R x ys c none.1 last)

-- what is not ahead of x is not ahead of what x is not ahead of
pub none_moved : (R : Pos → Pos → Ordering) → IsTotalOrder R → (x z : Pos) → is_gt (R x z) ≡ false → (ys : List Pos) → NoneAhead R ys x → NoneAhead R ys z
none_moved R total x z le [] none = tt
none_moved R total x z le (y ∷ ys) none = (upto total y x z none.0 le, none_moved R total x z le ys none.1)

less_after : (R : Pos → Pos → Ordering) → IsTotalOrder R → (x y z : Pos) (r : Ordering) → R x y ≡ r → is_gt r ≡ false → R y z ≡ Less → R x z ≡ Less
less_after R total x y z Less e f lt = total.trans x y z e lt
less_after R total x y z Equal e f lt = total.congr x y z e ∙ lt
less_after R total x y z Greater e f lt = absurd (let h : true ≡ false = f in cc)

find_skip : {X : Type 0} (test : X → Bool) (x : X) (xs : List X) → test x ≡ false → find test xs ≡ None → find test (x ∷ xs) ≡ None
find_skip test x xs e none = ap (λ (b : Bool). cond b (Some x) (find test xs)) e ∙ none

none_tied : (R : Pos → Pos → Ordering) → IsRanking R → (x z : Pos) → R x z ≡ Less → (cs : List Crossed) → NoneAhead R (places_of cs) x
    → find (λ c. is_eq (place_cmp c.place z)) cs ≡ None
none_tied R ranking x z lt [] none = refl
none_tied R ranking x z lt (c ∷ cs) none =
    find_skip (λ (c : Crossed). is_eq (place_cmp c.place z)) c cs
    (ranking.ties c.place z ∙ ap is_eq (less_after R ranking.total c.place x z (R c.place x) refl none.0 lt))
    (none_tied R ranking x z lt cs none.1)

option_or_none : (o : Option Crossed) → option_or o None ≡ o
option_or_none None = refl
option_or_none (Some c) = refl

find_last_not : (test : Crossed → Bool) (cs : List Crossed) (c : Crossed) → test c ≡ false → find test (cs ++ c ∷ []) ≡ find test cs
find_last_not test cs c e =
    find-append test cs (c ∷ []) ∙ ap (λ (b : Bool). option_or (find test cs) (cond b (Some c) None)) e ∙ option_or_none (find test cs)

find_last : (test : Crossed → Bool) (cs : List Crossed) (c : Crossed) → test c ≡ true → find test (cs ++ c ∷ []) ≡ option_or (find test cs) (Some c)
find_last test cs c e =
    find-append test cs (c ∷ []) ∙ ap (λ (b : Bool). option_or (find test cs) (cond b (Some c) None)) e

reversed_greater : (R : Pos → Pos → Ordering) → IsTotalOrder R → (x y : Pos) → R x y ≡ Greater → R y x ≡ Less
reversed_greater R total x y e = total.antisymm y x ∙ ap ordering_reverse e

best_stays : (R : Pos → Pos → Ordering) → IsRanking R → (first : Pos) (cs : List Crossed) (best c : Crossed) → IsBest R first cs best → R c.place best.place ≡ Less → IsBest R first (cs ++ c ∷ []) best
best_stays R ranking first cs best c h lt = record {
  place = record {
    among = elim h.place.among [ inl e ↦ inl e | inr more ↦ inr (has_more best.place cs c more) ];
    ahead = (h.place.ahead.0, none_more R best.place cs c h.place.ahead.1 (ap is_gt lt));
  };
  face = subst (λ (o : Option Crossed). FaceIs o best.face)
      (sym (find_last_not (λ (d : Crossed). is_eq (place_cmp d.place best.place)) cs c (ranking.ties c.place best.place ∙ ap is_eq lt))) h.face;
}

best_taken : (R : Pos → Pos → Ordering) → IsRanking R → (first : Pos) (cs : List Crossed) (best c : Crossed) → IsBest R first cs best → 1 ≤ c.face → R c.place best.place ≡ Greater → IsBest R first (cs ++ c ∷ []) c
best_taken R ranking first cs best c h some gt =
    let total = ranking.total in
    let lt : R best.place c.place ≡ Less = reversed_greater R total c.place best.place gt in
    let le : is_gt (R best.place c.place) ≡ false = ap is_gt lt in
    let itself : R c.place c.place ≡ Equal = tied_itself total c.place in
    let moved = none_moved R total best.place c.place le (first ∷ places_of cs) h.place.ahead in
    record {
      place = record { among = inr (has_last cs c); ahead = (moved.0, none_more R c.place cs c moved.1 (ap is_gt itself)) };
      face = subst (λ (o : Option Crossed). FaceIs o c.face)
          (sym (find_last (λ (d : Crossed). is_eq (place_cmp d.place c.place)) cs c (ranking.ties c.place c.place ∙ ap is_eq itself)
          ∙ ap (λ (o : Option Crossed). option_or o (Some c)) (none_tied R ranking best.place c.place lt cs h.place.ahead.1)))
          (refl, some);
    }

some_not_none : (n : ℕ) → 1 ≤ n → (n == 0) ≡ false
some_not_none n some = grind (arith, nat_tests)

tied_face : (o : Option Crossed) (best c : Crossed) → FaceIs o best.face → 1 ≤ c.face → FaceIs (option_or o (Some c)) (chosen Equal best c).face
tied_face None best c h some =
    subst (λ (b : Bool). FaceIs (Some c) (cond b (at c.face best.place) best).face) (sym (ap (λ (n : ℕ). n == 0) h)) (refl, some)
tied_face (Some d) best c h some =
    subst (λ (b : Bool). FaceIs (Some d) (cond b (at c.face best.place) best).face) (sym (some_not_none best.face h.1)) h

tied_place : (best c : Crossed) (b : Bool) → (cond b (at c.face best.place) best).place ≡ best.place
tied_place best c true = refl
tied_place best c false = refl

best_tied : (R : Pos → Pos → Ordering) → IsRanking R → (first : Pos) (cs : List Crossed) (best c : Crossed) → IsBest R first cs best → 1 ≤ c.face → R c.place best.place ≡ Equal → IsBest R first (cs ++ c ∷ []) (chosen Equal best c)
best_tied R ranking first cs best c h some tie =
    let test : Pos → Crossed → Bool = λ x d. is_eq (place_cmp d.place x) in
    let same : (chosen Equal best c).place ≡ best.place = tied_place best c (best.face == 0) in
    let joined : find (test best.place) (cs ++ c ∷ []) ≡ option_or (find (test best.place) cs) (Some c) =
    find_last (test best.place) cs c (ranking.ties c.place best.place ∙ ap is_eq tie) in
    record {
      place = subst (λ (x : Pos). IsForemost R first (places_of (cs ++ c ∷ [])) x) (sym same) (record {
        among = elim h.place.among [ inl e ↦ inl e | inr more ↦ inr (has_more best.place cs c more) ];
        ahead = (h.place.ahead.0, none_more R best.place cs c h.place.ahead.1 (ap is_gt tie));
      });
      face = subst (λ (x : Pos). FaceIs (find (test x) (cs ++ c ∷ [])) (chosen Equal best c).face) (sym same)
          (subst (λ (o : Option Crossed). FaceIs o (chosen Equal best c).face) (sym joined) (tied_face (find (test best.place) cs) best c h.face some));
    }

best_by : (R : Pos → Pos → Ordering) → IsRanking R → (first : Pos) (cs : List Crossed) (best c : Crossed) → IsBest R first cs best → 1 ≤ c.face → (r : Ordering) → R c.place best.place ≡ r → IsBest R first (cs ++ c ∷ []) (chosen r best c)
best_by R ranking first cs best c h some Less e = best_stays R ranking first cs best c h e
best_by R ranking first cs best c h some Equal e = best_tied R ranking first cs best c h some e
best_by R ranking first cs best c h some Greater e = best_taken R ranking first cs best c h some e

-- one more crossing
pub best_next : (R : Pos → Pos → Ordering) → IsRanking R → (first : Pos) (cs : List Crossed) (best c : Crossed) → IsBest R first cs best → 1 ≤ c.face → IsBest R first (cs ++ c ∷ []) (chosen (R c.place best.place) best c)
best_next R ranking first cs best c h some = best_by R ranking first cs best c h some (R c.place best.place) refl

-- before all crossings
pub best_first : (R : Pos → Pos → Ordering) → IsRanking R → (first : Pos) → IsBest R first [] (at 0 first)
best_first R ranking first = record {
  place = record { among = inl refl; ahead = (ap is_gt (tied_itself ranking.total first), tt) };
  face = refl;
}
