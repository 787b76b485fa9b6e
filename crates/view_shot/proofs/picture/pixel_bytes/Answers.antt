use Rattle.std.proofs.Common.{◌≤◌, ◌*◌, arith}
use Rattle.std.proofs.lemmas.Nat.{mul-le}
use Rattle.view_shot.proofs.picture.pixel_bytes.Goals as goal

pub returns-clause-few : goal.returns-clause-few
returns-clause-few c =
    let pixels : c.args.view.now.w * c.args.view.now.h ≤ 2048 * 2048 = mul-le c.args.view.now.w c.args.view.now.h 2048 2048 c.requires.columns.1 c.requires.rows.1 in
    omega (arith, pixels)
