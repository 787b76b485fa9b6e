-- What a hasher is fed of values is what it is fed of what contracts see of them.
use Rattle.std.proofs.Common.{◌≡◌, ◌++◌, List, sym, length, map, flat_map}
use Rattle.std.proofs.lemmas.List.{length-map}
use Rattle.std.proofs.lemmas.List.Folds.{flat_map-map}
use Rattle.std.specs.Hash as fed
use Rattle.std.specs.Hash.{HashWrites}

pub mapped_fed : {A B : Type 0} (F : B → HashWrites) (v : A → B) (xs : List A) → fed.slice (λ x. F (v x)) xs ≡ fed.slice F (map v xs)
mapped_fed F v xs =
    let count : length xs ≡ length (map v xs) = sym (length-map xs v) in
    let each : flat_map (λ x. F (v x)) xs ≡ flat_map F (map v xs) = sym (flat_map-map F v xs) in
    λ i. fed.usize (count i) ++ each i
