use Rattle.std.proofs.Common.{◌≡◌, ◌<◌, ◌^◌, ◌∷◌, decimal, rules, subst, sym}
use Rattle.name_core.specs.NameText.{IsName}
use Rattle.scene_make.proofs.NameLaws.{lettered}
use Rattle.scene_make.proofs.names.numbered.Goals as goal

pub named-requires : goal.named-requires
named-requires c =
    let small : c.args.number < 2 ^ 32 = search rules in
    let text : c.bytes.result.now ≡ c.args.letter ∷ decimal c.args.number = search rules in
    subst IsName (sym text) (lettered c.args.letter c.args.number c.requires small)
