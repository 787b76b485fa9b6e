use Rattle.std.proofs.Common.{◌≡◌, ◌∙◌, true, ap, sym, subst, OnOk}
use Rattle.std.specs.Map.{keys_of}
use Rattle.tile_shot.specs.Named.{TileName, NamedTile, is_small_name}
use Rattle.tile_shot.specs.Sameness.{name_decides}
use Rattle.view_shot.specs.Steps.{with_small}
use Rattle.view_shot.proofs.KeptLaws.{kept_is, kept_small}
use Rattle.view_shot.proofs.kept.KeptTiles.keep.Goals as goal

pub keep-requires-clause-named : goal.keep-requires-clause-named
keep-requires-clause-named c =
    (name_decides c.in_ok-share-2.field-0.key c.in_ok-share.field-0).1
    (ap (λ (t : NamedTile). t.key) c.in_ok-share-2.ensures ∙ sym (c.in_ok-share.ensures ∙ c.key-name.ensures ∙ ap (λ (t : NamedTile). t.key) c.tile.ensures))

pub invariant_of-self-2 : goal.invariant_of-self-2
invariant_of-self-2 c =
    let small : is_small_name c.in_ok-share.field-0 ≡ true = ap is_small_name c.in_ok-share.ensures ∙ sym c.is_small.ensures ∙ c.if-not-is_small.false in
    kept_small c.keep.result c.in_ok-share.field-0 c.in_ok-share-2.field-0 c.self.inside.cache c.keep.new.self c.keep.ensures.kept c.keep.ensures.memory small c.self.invariant

pub returns-clause-kept : goal.returns-clause-kept
returns-clause-kept c =
    let small : is_small_name c.in_ok-share.field-0 ≡ true = ap is_small_name c.in_ok-share.ensures ∙ sym c.is_small.ensures ∙ c.if-not-is_small.false in
    let named : c.in_ok-share.field-0 ≡ c.args.tile.now.key = c.in_ok-share.ensures ∙ c.key-name.ensures ∙ ap (λ (t : NamedTile). t.key) c.tile.ensures in
    subst (λ (k : TileName). OnOk c.keep.result (keys_of c.keep.new.self ≡ with_small c.args.self.now k)) named
    (kept_is c.keep.result c.in_ok-share.field-0 c.in_ok-share-2.field-0 c.self.inside.cache c.keep.new.self c.args.self.now c.keep.ensures.kept c.self.view_is small)
