use Rattle.std.proofs.Common.{◌≡◌, ◌<◌, ◌+◌, ◌++◌, ◌∷◌, [], ◌∙◌, List, Option, drop, length, append_assoc, ap, sym, arith, rules}
use Rattle.std.proofs.lemmas.List.{append-nil, drop_all, drop_more}
use Rattle.tile_shot.specs.Named.{TileName}
use Rattle.view_shot.specs.Steps.{lacking}
use Rattle.view_shot.proofs.TileLaws.{lacking_few, lacking_step}
use Rattle.view_shot.proofs.picture.lacking_tiles.Goals as goal

pub loop-i-preserved : goal.loop-i-preserved
loop-i-preserved c =
    let names : List (Option TileName) = c.args.plan.now.names.items in
    let o : Option TileName = c.index.result.now in
    let rest : List (Option TileName) = drop (c.loop-i.i + 1) names in
    let within : c.loop-i.i < length names = search rules in
    let is : drop c.loop-i.i names ≡ o ∷ rest = drop_more names c.loop-i.i o within ∙ ap (λ (x : Option TileName). x ∷ rest) (sym c.index.ensures) in
    ap (λ l. l ++ lacking rest (c.loop-i.i + 1)) c.in_ok-push_lacking.ensures
    ∙ append_assoc c.loop-i.tiles.items (lacking (o ∷ []) c.loop-i.i) (lacking rest (c.loop-i.i + 1))
    ∙ ap (λ l. c.loop-i.tiles.items ++ l) (lacking_step o rest c.loop-i.i)
    ∙ sym (ap (λ (l : List (Option TileName)). c.loop-i.tiles.items ++ lacking l c.loop-i.i) is) ∙ c.loop-i.invariant

pub returns : goal.returns
returns c =
    let names : List (Option TileName) = c.args.plan.now.names.items in
    let none : drop c.loop-i.i names ≡ [] = drop_all c.loop-i.i names (omega (arith, c.loop-i-test.false, c.args.plan.now.names.ok.0)) in
    let whole : c.loop-i.tiles.items ≡ lacking names 0 =
    sym (append-nil c.loop-i.tiles.items) ∙ sym (ap (λ (l : List (Option TileName)). c.loop-i.tiles.items ++ lacking l c.loop-i.i) none) ∙ c.loop-i.invariant in
    record { tiles = whole; few = omega (arith, c.loop-i.tiles.ok.0, ap length whole, lacking_few names 0, c.requires) }
