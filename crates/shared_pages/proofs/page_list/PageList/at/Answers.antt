use Rattle.std.proofs.Common.{◌-◌, ◌∙◌, arith}
use Rattle.shared_pages.specs.Groups.{pages_in}
use Rattle.shared_pages.proofs.GroupLemmas.{before_is, front_pair, back_pair}
use Rattle.shared_pages.proofs.page_list.PageList.at.Goals as goal

pub returns-then-place-before : goal.returns-then-place-before
returns-then-place-before g c =
    let before =
    before_is (pages_in c.self.inside.closed) c.self.inside.tail c.self.inside.count c.find-page.result.0 c.find-page.result.1 c.self.invariant.pages.count_is c.find-page.ensures.here
    c.find-page.ensures.past in
    c.pair_in.ensures ∙ front_pair (pages_in c.self.inside.closed) c.self.inside.tail c.args.self.now c.args.place c.self.view_is (omega (arith, before, c.if-place-before.true))

pub returns : goal.returns
returns g c =
    let before =
    before_is (pages_in c.self.inside.closed) c.self.inside.tail c.self.inside.count c.find-page.result.0 c.find-page.result.1 c.self.invariant.pages.count_is c.find-page.ensures.here
    c.find-page.ensures.past in
    c.pair_among.ensures
    ∙ back_pair (pages_in c.self.inside.closed) c.self.inside.tail c.args.self.now c.args.place (c.args.place - c.find-page.result.1) c.self.view_is (omega (arith, before, c.if-place-before.false))
