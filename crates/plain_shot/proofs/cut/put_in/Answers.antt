use Rattle.std.proofs.Common.{◌≡◌, ◌∙◌, sym, insert, rules}
use Rattle.plain_shot.proofs.Putting.{put_same, put_new}
use Rattle.plain_shot.proofs.cut.put_in.Goals as goal

pub returns-then-is_there : goal.returns-then-is_there
returns-then-is_there c =
    put_same c.args.place c.args.places.now.items c.deref.result.now c.deref-2.result.now c.count_before-count.result c.deref.ensures.value c.deref-2.ensures.value c.count_before-count.ensures.before (sym c.is_there.ensures ∙ c.if-is_there.true)

pub returns : goal.returns
returns c =
    let made : c.insert.new.self.items ≡ insert c.args.places.now.items c.count_before-count.result c.args.place = search rules in
    made ∙ put_new c.args.place c.args.places.now.items c.deref.result.now c.deref-2.result.now c.count_before-count.result c.deref.ensures.value c.deref-2.ensures.value c.count_before-count.ensures.within c.count_before-count.ensures.before c.count_before-count.ensures.ended (sym c.is_there.ensures ∙ c.if-is_there.false)
