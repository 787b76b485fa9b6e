use Rattle.std.proofs.Common.{◌++◌, ◌∙◌, ap}
use Rattle.scene_make.specs.Demo.{all, all_name, cut, cut_name, pairs, title_of}
use Rattle.scene_make.specs.Steps.{entries_text}
use Rattle.scene_make.proofs.TextLaws.{same_entry, whole}
use Rattle.scene_make.proofs.demo.model.Goals as goal

pub returns : goal.returns
returns c =
    whole (title_of c.args.n) (cut_name, cut) (pairs c.args.n 1000) (all_name, all) c.in_ok-text.text.items c.push_object-2.new.text.items c.push_pairs.new.text.items c.push_object-4.new.text.items
    c.in_ok-text.ensures
    (c.in_ok-push_object.ensures ∙ ap (λ es. c.in_ok-text.text.items ++ entries_text es) (same_entry _ _ _ _ c.cut_name.ensures c.cut.ensures))
    c.in_ok-push_pairs.ensures
    (c.in_ok-push_object-2.ensures ∙ ap (λ es. c.push_pairs.new.text.items ++ entries_text es) (same_entry _ _ _ _ c.all_name.ensures c.in_ok-all.ensures))
