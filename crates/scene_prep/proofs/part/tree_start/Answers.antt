use Rattle.std.proofs.Common.{◌-◌, ◌+◌, length, arith}
use Rattle.scene_prep.specs.Parts.{IsBefore}
use Rattle.scene_prep.proofs.Parts.{AreWanted, one_wanted, next_leaf, next_op, room_before, start_found, starts_below}
use Rattle.scene_prep.proofs.part.tree_start.Goals as goal

pub loop-wanted-init : goal.loop-wanted-init
loop-wanted-init c = record {
  within = omega arith;
  room = room_before c.args.nodes.now (length c.args.nodes.now) 1 c.requires (omega arith) (one_wanted c.args.nodes.now);
  wants = one_wanted c.args.nodes.now;
}

pub loop-wanted-preserved-in-Leaf : goal.loop-wanted-preserved-in-Leaf
loop-wanted-preserved-in-Leaf c =
    let h = c.loop-wanted.invariant in
    let next : AreWanted c.args.nodes.now (c.loop-wanted.start - 1) (c.loop-wanted.wanted - 1) =
    next_leaf c.args.nodes.now c.loop-wanted.start c.loop-wanted.wanted _ c.in-Leaf.name c.in-Leaf.placement c.in-Leaf.is c.loop-wanted-test.true h.room h.within h.wants in
    record {
      within = omega arith;
      room = room_before c.args.nodes.now (c.loop-wanted.start - 1) (c.loop-wanted.wanted - 1) c.requires (omega arith) next;
      wants = next;
    }

pub loop-wanted-preserved : goal.loop-wanted-preserved
loop-wanted-preserved c =
    let h = c.loop-wanted.invariant in
    let next : AreWanted c.args.nodes.now (c.loop-wanted.start - 1) (c.loop-wanted.wanted + 1) =
    next_op c.args.nodes.now c.loop-wanted.start c.loop-wanted.wanted _ c.in_default.not-Leaf c.loop-wanted-test.true h.room h.within h.wants in
    record {
      within = omega arith;
      room = room_before c.args.nodes.now (c.loop-wanted.start - 1) (c.loop-wanted.wanted + 1) c.requires (omega arith) next;
      wants = next;
    }

pub returns : goal.returns
returns c =
    let before : IsBefore c.args.nodes.now c.loop-wanted.start = start_found c.args.nodes.now c.loop-wanted.start c.loop-wanted.wanted (omega arith) c.loop-wanted.invariant.within c.loop-wanted.invariant.wants in
    record { before = before; below = starts_below c.args.nodes.now c.loop-wanted.start c.requires before }
