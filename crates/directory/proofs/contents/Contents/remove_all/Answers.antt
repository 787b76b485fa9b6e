use Rattle.std.proofs.Common.{◌≡◌, ◌<◌, ◌∙◌, length, get_or, ap, sym, subst, arith, rules}
use Rattle.std.proofs.lemmas.List.{take_all}
use Rattle.std.specs.List.{IsDistinct}
use Rattle.std.specs.Map.{keys_of}
use Rattle.name_core.specs.Same.{same_name}
use Rattle.directory.specs.Walks.{Entries, IsSound}
use Rattle.directory.specs.Edits.{without_all}
use Rattle.directory.proofs.ContentsLemmas.{nothing_dropped, without_next, without_kept}
use Rattle.directory.proofs.contents.Contents.remove_all.Goals as goal

pub loop-name-init : goal.loop-name-init
loop-name-init c = record { list = c.in_ok-edit.ensures.list ∙ sym (nothing_dropped c.args.self.now); relaxing = c.in_ok-edit.ensures.begins }

pub loop-name-preserved : goal.loop-name-preserved
loop-name-preserved c =
    let distinct : IsDistinct same_name (keys_of c.args.self.now) = subst (λ (l : Entries). IsDistinct same_name (keys_of l)) c.self.view_is c.self.invariant.sound.distinct in
    let lt : c.loop-name.name-index < length c.args.names.now = search rules in
    let is : c.name-item.result ≡ get_or c.args.names.now c.loop-name.name-index c.name-item.result = search rules in
    record {
      list = without_next c.args.self.now c.loop-name.edit.list c.in_ok-edit-2.edit.list c.args.names.now c.loop-name.name-index c.name-item.result distinct lt is c.loop-name.invariant.list c.in_ok-edit-2.ensures.list;
      relaxing = c.in_ok-edit-2.ensures.begins;
    }

pub invariant_of-result : goal.invariant_of-result
invariant_of-result c =
    let sound : IsSound c.args.self.now = subst (λ (l : Entries). IsSound l) c.self.view_is c.self.invariant.sound in
    let is : c.loop-name.edit.list ≡ without_all c.args.self.now c.args.names.now = c.loop-name.invariant.list ∙ ap (without_all c.args.self.now) (take_all c.loop-name.name-index c.args.names.now (omega arith)) in
    without_kept c.args.self.now c.loop-name.edit.list c.args.names.now c.in_ok-relaxed.relaxed.depths sound is c.in_ok-relaxed.ensures.known
