use Rattle.std.proofs.Common.{◌∙◌, sym}
use Rattle.scene_make.proofs.UnionLaws.{no_entries, same_list}
use Rattle.scene_make.proofs.union.regions.Goals as goal

pub loop-i-init : goal.loop-i-init
loop-i-init c = c.new-list.ensures.items ∙ sym no_entries

pub loop-i-preserved : goal.loop-i-preserved
loop-i-preserved c =
    c.in_ok-push.ensures.items
    ∙ same_list c.loop-i.list.items c.loop-i.i c.region_name.result c.identity.result c.region_name.ensures c.identity.ensures c.loop-i.invariant
