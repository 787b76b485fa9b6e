-- Members whose names have no line feed, list by list.
use Rattle.std.proofs.Common.{◌++◌, List, [], ◌∷◌, map}
use Rattle.std.specs.List.{AllByRecursion}
use Rattle.comb_tree.specs.Nodes.{Member}
use Rattle.transcript.specs.Lines.{Lacks}

abbrev pub AreNamed : List Member → Type 0
AreNamed ms = AllByRecursion (Lacks 10) (map (λ (m : Member). m.name) ms)

pub first_named : (xs ys : List Member) → AreNamed (xs ++ ys) → AreNamed xs
first_named [] ys h = tt
first_named (x ∷ xs) ys h = (h.0, first_named xs ys h.1)

pub rest_named : (xs ys : List Member) → AreNamed (xs ++ ys) → AreNamed ys
rest_named [] ys h = h
rest_named (x ∷ xs) ys h = rest_named xs ys h.1

pub both_named : (xs ys : List Member) → AreNamed xs → AreNamed ys → AreNamed (xs ++ ys)
both_named [] ys h k = k
both_named (x ∷ xs) ys h k = (h.0, both_named xs ys h.1 k)
