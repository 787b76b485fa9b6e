use Rattle.std.proofs.Common.{rules, ◌≡◌, ◌<◌, ◌≤◌, ◌+◌, ◌++◌, ◌∙◌, ℕ, List, length, length-append, codes, decimal, ap, arith, lit<}
use Rattle.std.proofs.lemmas.Fmt.{length-decimal-le}
use Rattle.ppm_write.proofs.head.header.Goals as goal

-- a number of 32 bits has at most ten digits
digits : (n : ℕ) → n < 4294967296 → length (decimal n) ≤ 10
digits n small = length-decimal-le 10 n (lit< tt) (omega (arith, small)) (omega (arith, small))

-- how long the text is, after one more piece
longer : (old piece new : List ℕ) → new ≡ old ++ piece → length new ≡ length old + length piece
longer old piece new is = ap (length {A = ℕ}) is ∙ length-append old piece

pub push-requires-2 : goal.push-requires-2
push-requires-2 c =
    let none : length c.clear.new.self ≡ 0 = ap (length {A = ℕ}) c.clear.ensures in
    let kind : length c.push.new.self ≡ length c.clear.new.self + 3 = longer c.clear.new.self (codes "P6\n") c.push.new.self c.push.ensures in
    let width = longer c.push.new.self (decimal c.args.w) c.push_number.new.self c.push_number.ensures in
    let small : c.args.w < 4294967296 = search rules in
    omega (arith, none, kind, width, digits c.args.w small)

pub push_number-requires-2 : goal.push_number-requires-2
push_number-requires-2 c =
    let none : length c.clear.new.self ≡ 0 = ap (length {A = ℕ}) c.clear.ensures in
    let kind : length c.push.new.self ≡ length c.clear.new.self + 3 = longer c.clear.new.self (codes "P6\n") c.push.new.self c.push.ensures in
    let width = longer c.push.new.self (decimal c.args.w) c.push_number.new.self c.push_number.ensures in
    let blank : length c.push-2.new.self ≡ length c.push_number.new.self + 1 = longer c.push_number.new.self (codes " ") c.push-2.new.self c.push-2.ensures in
    let small : c.args.w < 4294967296 = search rules in
    omega (arith, none, kind, width, blank, digits c.args.w small)

pub push-requires-3 : goal.push-requires-3
push-requires-3 c =
    let none : length c.clear.new.self ≡ 0 = ap (length {A = ℕ}) c.clear.ensures in
    let kind : length c.push.new.self ≡ length c.clear.new.self + 3 = longer c.clear.new.self (codes "P6\n") c.push.new.self c.push.ensures in
    let width = longer c.push.new.self (decimal c.args.w) c.push_number.new.self c.push_number.ensures in
    let blank : length c.push-2.new.self ≡ length c.push_number.new.self + 1 = longer c.push_number.new.self (codes " ") c.push-2.new.self c.push-2.ensures in
    let height = longer c.push-2.new.self (decimal c.args.h) c.push_number-2.new.self c.push_number-2.ensures in
    let small : c.args.w < 4294967296 = search rules in
    let low : c.args.h < 4294967296 = search rules in
    omega (arith, none, kind, width, blank, height, digits c.args.w small, digits c.args.h low)
