use Rattle.std.proofs.Common.{arith, rules, ◌≤◌, ap, length, lit<, ◌<◌, ◌^◌}
use Rattle.surd_order.proofs.TextLengths.{length_read, length_read_64, length_natural, length_sign, appended}
use Rattle.surd_order.proofs.position.Pos.write_text.Goals as goal

pub push-requires : goal.push-requires
push-requires c =
    let none : length c.clear.new.self ≤ 0 = omega (arith, ap length c.clear.ensures) in
    let number : length c.push_number.new.self ≤ 40 = appended _ _ _ 0 40 c.push_number.ensures none (length_read _) in
    (lit< tt, omega arith)

pub push_number-requires-then-q-ne1 : goal.push_number-requires-then-q-ne1
push_number-requires-then-q-ne1 c =
    let none : length c.clear.new.self ≤ 0 = omega (arith, ap length c.clear.ensures) in
    let number : length c.push_number.new.self ≤ 40 = appended _ _ _ 0 40 c.push_number.ensures none (length_read _) in
    let bar : length c.push.new.self ≤ 41 = appended _ _ _ 40 1 c.push.ensures number (omega arith) in
    (lit< tt, omega arith)

pub push-requires-in-Surd : goal.push-requires-in-Surd
push-requires-in-Surd c =
    let none : length c.clear.new.self ≤ 0 = omega (arith, ap length c.clear.ensures) in
    let number : length c.push_number-in-Surd.new.self ≤ 20 = appended _ _ _ 0 20 c.push_number-in-Surd.ensures none (length_read_64 _) in
    let sign : length c.sign_of.result.now ≤ 1 = omega (arith, ap length c.sign_of.ensures, length_sign c.in-Surd.plus) in
    (lit< tt, omega arith)

pub push-requires-in-Surd-2 : goal.push-requires-in-Surd-2
push-requires-in-Surd-2 c =
    let none : length c.clear.new.self ≤ 0 = omega (arith, ap length c.clear.ensures) in
    let number : length c.push_number-in-Surd.new.self ≤ 20 = appended _ _ _ 0 20 c.push_number-in-Surd.ensures none (length_read_64 _) in
    let sign : length c.sign_of.result.now ≤ 1 = omega (arith, ap length c.sign_of.ensures, length_sign c.in-Surd.plus) in
    let signed : length c.push-in-Surd.new.self ≤ 21 = appended _ _ _ 20 1 c.push-in-Surd.ensures number sign in
    (lit< tt, omega arith)

pub push_number-requires-in-Surd-2 : goal.push_number-requires-in-Surd-2
push_number-requires-in-Surd-2 c =
    let none : length c.clear.new.self ≤ 0 = omega (arith, ap length c.clear.ensures) in
    let number : length c.push_number-in-Surd.new.self ≤ 20 = appended _ _ _ 0 20 c.push_number-in-Surd.ensures none (length_read_64 _) in
    let sign : length c.sign_of.result.now ≤ 1 = omega (arith, ap length c.sign_of.ensures, length_sign c.in-Surd.plus) in
    let signed : length c.push-in-Surd.new.self ≤ 21 = appended _ _ _ 20 1 c.push-in-Surd.ensures number sign in
    let opened : length c.push-in-Surd-2.new.self ≤ 26 = appended _ _ _ 21 5 c.push-in-Surd-2.ensures signed (omega arith) in
    (lit< tt, omega arith)

pub push-requires-in-Surd-3 : goal.push-requires-in-Surd-3
push-requires-in-Surd-3 c =
    let none : length c.clear.new.self ≤ 0 = omega (arith, ap length c.clear.ensures) in
    let number : length c.push_number-in-Surd.new.self ≤ 20 = appended _ _ _ 0 20 c.push_number-in-Surd.ensures none (length_read_64 _) in
    let sign : length c.sign_of.result.now ≤ 1 = omega (arith, ap length c.sign_of.ensures, length_sign c.in-Surd.plus) in
    let signed : length c.push-in-Surd.new.self ≤ 21 = appended _ _ _ 20 1 c.push-in-Surd.ensures number sign in
    let opened : length c.push-in-Surd-2.new.self ≤ 26 = appended _ _ _ 21 5 c.push-in-Surd-2.ensures signed (omega arith) in
    let rooted : length c.push_number-in-Surd-2.new.self ≤ 46 = appended _ _ _ 26 20 c.push_number-in-Surd-2.ensures opened (length_natural _ (let h : c.in-Surd.k < 2 ^ 64 = search rules in h)) in
    (lit< tt, omega arith)
