use Rattle.std.proofs.Common.{rules, ◌≡◌, ◌<◌, ◌≤◌, ◌+◌, ◌∙◌, length, codes, decimal, ap, arith, lit<}
use Rattle.std.proofs.lemmas.Fmt.{length-decimal-le}
use Rattle.std.proofs.Math.ListN.{length-append}
use Rattle.mged_top.proofs.status.push_line.Goals as goal

pub push-requires-2 : goal.push-requires-2
push-requires-2 c =
    let n = c.args.line in
    let small : n < 4294967296 = search rules in
    let digits : length (decimal n) ≤ 10 = length-decimal-le 10 n (lit< tt) (omega (arith, small)) (omega (arith, small)) in
    let start : length c.push.new.self ≡ length c.args.out.now + 5 = ap length c.push.ensures ∙ length-append c.args.out.now (codes "line ") in
    let all : length c.push_number.new.self ≡ length c.push.new.self + length (decimal n) = ap length c.push_number.ensures ∙ length-append c.push.new.self (decimal n) in
    omega (arith, all, start, digits, c.requires)
