use Rattle.std.proofs.Common.{◌≡◌, ◌<◌, ◌+◌, ◌++◌, ◌∷◌, [], ◌∙◌, List, Option, drop, take, length, ap, ap₂, sym, subst, rules}
use Rattle.std.specs.Option.{option_map}
use Rattle.std.proofs.lemmas.List.{drop_more, map_push, take_more}
use Rattle.tile_shot.specs.Named.{TileName}
use Rattle.view_shot.specs.Kept.{in_turn, moved}
use Rattle.view_shot.specs.Steps.{AreKept, found, names_of}
use Rattle.view_shot.proofs.KeptLaws.{on_err}
use Rattle.view_shot.proofs.StopLaws.{moved_next, moved_part}
use Rattle.view_shot.proofs.TileLaws.{first_kept, key_of, moved_one, rest_kept}
use Rattle.view_shot.proofs.picture.reuse_all.Goals as goal

pub reuse_one-requires : goal.reuse_one-requires
reuse_one-requires c =
    let names : List (Option TileName) = c.args.plan.now.names.items in
    let within : c.loop-i.i < length names = search rules in
    let is : drop c.loop-i.i names ≡ c.index.result.now ∷ drop (c.loop-i.i + 1) names = drop_more names c.loop-i.i c.index.result.now within ∙ ap (λ (o : Option TileName). o ∷ drop (c.loop-i.i + 1) names) (sym c.index.ensures) in
    first_kept c.loop-i.kept c.index.result.now (drop (c.loop-i.i + 1) names) (subst (λ (l : List (Option TileName)). AreKept c.loop-i.kept (found l)) is c.loop-i.invariant.kept)

pub loop-i-preserved : goal.loop-i-preserved
loop-i-preserved c =
    let names : List (Option TileName) = c.args.plan.now.names.items in
    let o : Option TileName = c.index.result.now in
    let rest : List (Option TileName) = drop (c.loop-i.i + 1) names in
    let within : c.loop-i.i < length names = search rules in
    let is : drop c.loop-i.i names ≡ o ∷ rest = drop_more names c.loop-i.i o within ∙ ap (λ (x : Option TileName). x ∷ rest) (sym c.index.ensures) in
    record {
      named = ap names_of c.in_ok-push.ensures.items ∙ map_push (option_map key_of) c.loop-i.slots.items c.in_ok-reuse_one.field-0
          ∙ ap₂ (λ (l : List (Option TileName)) (x : Option TileName). l ++ x ∷ []) c.loop-i.invariant.named (c.in_ok-reuse_one.ensures.named ∙ c.index.ensures) ∙ sym (take_more names c.loop-i.i o within);
      kept = subst (λ (k : List TileName). AreKept k (found rest)) (sym c.in_ok-reuse_one.ensures.moved) (rest_kept c.loop-i.kept o rest (subst (λ (l : List (Option TileName)). AreKept c.loop-i.kept (found l)) is c.loop-i.invariant.kept));
      moves = ap (λ (k : List TileName). in_turn moved k (found rest)) c.in_ok-reuse_one.ensures.moved ∙ moved_one c.loop-i.kept o rest ∙ sym (ap (λ (l : List (Option TileName)). in_turn moved c.loop-i.kept (found l)) is) ∙ c.loop-i.invariant.moves;
      so_far = moved_next c.loop-i.kept c.args.kept.now names c.loop-i.i o _ (take_more names c.loop-i.i o within ∙ ap (λ (x : Option TileName). take c.loop-i.i names ++ x ∷ []) (sym c.index.ensures)) c.loop-i.invariant.so_far c.in_ok-reuse_one.ensures.moved;
    }

pub returns-in_err-reuse_one-clause-memory : goal.returns-in_err-reuse_one-clause-memory
returns-in_err-reuse_one-clause-memory c =
    let names : List (Option TileName) = c.args.plan.now.names.items in
    let o : Option TileName = c.index.result.now in
    let within : c.loop-i.i < length names = search rules in
    let more : take (c.loop-i.i + 1) names ≡ take c.loop-i.i names ++ o ∷ [] = take_more names c.loop-i.i o within ∙ ap (λ (x : Option TileName). take c.loop-i.i names ++ x ∷ []) (sym c.index.ensures) in
    on_err c.from_residual.result
    (moved_part c.args.kept.now names (c.loop-i.i + 1) c.reuse_one.new.kept (moved_next c.loop-i.kept c.args.kept.now names c.loop-i.i o c.reuse_one.new.kept more c.loop-i.invariant.so_far c.in_err-reuse_one.ensures.moved))

pub returns-in_err-push-clause-memory : goal.returns-in_err-push-clause-memory
returns-in_err-push-clause-memory c =
    let names : List (Option TileName) = c.args.plan.now.names.items in
    let o : Option TileName = c.index.result.now in
    let within : c.loop-i.i < length names = search rules in
    let more : take (c.loop-i.i + 1) names ≡ take c.loop-i.i names ++ o ∷ [] = take_more names c.loop-i.i o within ∙ ap (λ (x : Option TileName). take c.loop-i.i names ++ x ∷ []) (sym c.index.ensures) in
    on_err c.from_residual-in_err-push.result
    (moved_part c.args.kept.now names (c.loop-i.i + 1) c.reuse_one.new.kept (moved_next c.loop-i.kept c.args.kept.now names c.loop-i.i o c.reuse_one.new.kept more c.loop-i.invariant.so_far c.in_ok-reuse_one.ensures.moved))
