use Rattle.std.proofs.Common.{◌≡◌, ◌++◌, ◌∷◌, [], ◌∙◌, List, ap, sym, subst, map, take}
use Rattle.std.proofs.lemmas.List.{map-append, take_more}
use Rattle.tree_forms.specs.declared.Op.TheVariants.{U}
use Rattle.comb_tree.specs.declared.node.ListEntry.{ListEntry}
use Rattle.command_set.specs.Lawful.{AreNear}
use Rattle.mged_words.specs.Commands.{entry_of}
use Rattle.mged_words.proofs.ListLaws.{near_more}
use Rattle.mged_words.proofs.list.union_of.Goals as goal

pub loop-name-preserved : goal.loop-name-preserved
loop-name-preserved c =
    let done : List ListEntry = c.loop-name.entries.items in
    let made : c.push.new.self.items ≡ done ++ entry_of U c.name-item.result ∷ [] = c.in_ok-push.ensures.items ∙ ap (λ (e : ListEntry). done ++ e ∷ []) c.entry.ensures in
    record {
      read = made ∙ ap (λ (es : List ListEntry). es ++ entry_of U c.name-item.result ∷ []) c.loop-name.invariant.read
          ∙ sym (ap (map (entry_of U)) (take_more c.args.names.now c.loop-name.name-index c.name-item.result c.loop-name-test.true) ∙ map-append (entry_of U) (take c.loop-name.name-index c.args.names.now) (_ ∷ [])
          ∙ ap (λ n. map (entry_of U) (take c.loop-name.name-index c.args.names.now) ++ entry_of U n ∷ []) (sym c.name-item.is));
      near = subst AreNear (sym made) (near_more done U c.name-item.result c.loop-name.invariant.near);
    }
