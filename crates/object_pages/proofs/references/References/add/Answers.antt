use Rattle.std.proofs.Common.{arith, refl, take, nat_eq}
use Rattle.object_pages.specs.Members.{node_names}
use Rattle.object_pages.proofs.MemberLemmas.{node_times, node_within}
use Rattle.object_pages.proofs.ChangeLemmas.{on_page, chosen_more, chosen_all}
use Rattle.object_pages.proofs.references.References.add.Goals as goal

pub add_node-requires : goal.add_node-requires
add_node-requires c =
    λ a. omega (arith, c.loop-node.invariant a c.args.page, c.requires a, on_page c.args.page (node_times (take c.loop-node.node-index c.args.nodes.now) a), node_within c.args.nodes.now (node_names c.args.nodes.now) c.loop-node.node-index c.node-item.result a c.loop-node-test.true c.node-item.is refl)

pub loop-node-preserved : goal.loop-node-preserved
loop-node-preserved c =
    λ a n. omega (arith, c.loop-node.invariant a n, c.in_ok-references.ensures a n, chosen_more c.args.nodes.now c.loop-node.node-index c.node-item.result a (nat_eq c.args.page n) c.loop-node-test.true c.node-item.is)

pub returns : goal.returns
returns c =
    λ a n. omega (arith, c.loop-node.invariant a n, chosen_all c.args.nodes.now c.loop-node.node-index a (nat_eq c.args.page n) (omega arith))
