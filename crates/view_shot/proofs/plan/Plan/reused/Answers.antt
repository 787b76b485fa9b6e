use Rattle.std.proofs.Common.{◌≡◌, ◌<◌, ◌+◌, ◌∷◌, ◌∙◌, ℕ, List, Option, is_some, cond, drop, length, ap, sym, arith, rules}
use Rattle.std.proofs.lemmas.List.{drop_more}
use Rattle.tile_shot.specs.Named.{TileName}
use Rattle.view_shot.specs.Steps.{found}
use Rattle.view_shot.proofs.TileLaws.{found_more}
use Rattle.view_shot.proofs.plan.Plan.reused.Goals.{then-is_some, else-is_some}
use Rattle.view_shot.proofs.plan.Plan.reused.Goals as goal

pub loop-i-preserved : goal.loop-i-preserved
loop-i-preserved c =
    let names : List (Option TileName) = c.args.self.now.names.items in
    let o : Option TileName = c.index.result.now in
    let rest : List (Option TileName) = drop (c.loop-i.i + 1) names in
    let within : c.loop-i.i < length names = search rules in
    let is : drop c.loop-i.i names ≡ o ∷ rest = drop_more names c.loop-i.i o within ∙ ap (λ (x : Option TileName). x ∷ rest) (sym c.index.ensures) in
    let step : length (found (drop c.loop-i.i names)) ≡ cond (is_some o) 1 0 + length (found rest) = ap (λ (l : List (Option TileName)). length (found l)) is ∙ found_more o rest in
    elim c.if-is_some.branch [
      | then-is_some w ↦
          let one : cond (is_some o) 1 0 ≡ 1 = ap {B = ℕ} (λ b. cond b 1 0) (sym c.is_some.ensures ∙ w.if-is_some.true) in
          record { counted = omega (arith, w.reused-is, step, one, c.loop-i.invariant.counted); most = omega (arith, w.reused-is, c.loop-i.invariant.most) }
      | else-is_some w ↦
          let none : cond (is_some o) 1 0 ≡ 0 = ap {B = ℕ} (λ b. cond b 1 0) (sym c.is_some.ensures ∙ w.if-is_some.false) in
          record { counted = omega (arith, w.reused-is, step, none, c.loop-i.invariant.counted); most = omega (arith, w.reused-is, c.loop-i.invariant.most) }
    ]
