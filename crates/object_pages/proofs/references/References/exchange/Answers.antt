use Rattle.std.proofs.Common.{◌-◌, length, nat_eq, arith}
use Rattle.std.specs.List.{slice_range}
use Rattle.std.proofs.lemmas.Result.{IfOk-weaker}
use Rattle.object_pages.specs.Members.{node_names, times}
use Rattle.object_pages.specs.Tallies.{leaves_on}
use Rattle.object_pages.proofs.ChangeLemmas.{between, on_page, exchanged}
use Rattle.object_pages.proofs.references.References.exchange.Goals as goal

pub take-requires : goal.take-requires
take-requires c =
    let e = c.change_of-front.ensures in
    λ a. omega (arith, c.requires.there a, (between c.args.before.now c.args.after.now c.change_of-front.result.front c.change_of-front.result.back a e.before e.after e.front e.back).1)

pub add-requires : goal.add-requires
add-requires c =
    let e = c.change_of-front.ensures in
    let front = c.change_of-front.result.front in
    let back = c.change_of-front.result.back in
    λ a. omega (
      arith,
      c.requires.room a,
      c.requires.there a,
      c.in_ok-taken.ensures a c.args.page,
      on_page c.args.page (times (node_names (slice_range c.args.before.now front (length c.args.before.now - back))) a),
      (between c.args.before.now c.args.after.now front back a e.before e.after e.front e.back).0,
    )

pub returns : goal.returns
returns c =
    let e = c.change_of-front.ensures in
    let front = c.change_of-front.result.front in
    let back = c.change_of-front.result.back in
    IfOk-weaker c.add.result _ _ (λ r h a n.
    exchanged (nat_eq c.args.page n) (times (node_names c.args.before.now) a) (times (node_names c.args.after.now) a)
    (times (node_names (slice_range c.args.before.now front (length c.args.before.now - back))) a) (times (node_names (slice_range c.args.after.now front (length c.args.after.now - back))) a)
    (leaves_on c.args.self a n) (leaves_on c.in_ok-taken.taken a n) (leaves_on r a n)
    (between c.args.before.now c.args.after.now front back a e.before e.after e.front e.back).0 (c.in_ok-taken.ensures a n) (h a n)) c.add.ensures
