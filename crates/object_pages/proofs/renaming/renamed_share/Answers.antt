use Rattle.std.proofs.Common.{◌≡◌, ◌∙◌, sym, rules}
use Rattle.std.specs.Arc.{arc_value}
use Rattle.object_set.specs.Objects.{member_names}
use Rattle.object_pages.specs.Members.{times}
use Rattle.object_pages.proofs.PageEditLemmas.{object_still}
use Rattle.object_pages.proofs.renaming.renamed_share.Goals as goal

pub returns-then-leaves_named-eq0 : goal.returns-then-leaves_named-eq0
returns-then-leaves_named-eq0 c =
    let same : arc_value c.in_ok-share.share ≡ arc_value c.args.object.now = search rules in
    let free : times (member_names (arc_value c.args.object.now).body) c.args.old.now ≡ 0 = search rules in
    same ∙ sym (object_still c.args.old.now c.args.new.now (arc_value c.args.object.now) free)
