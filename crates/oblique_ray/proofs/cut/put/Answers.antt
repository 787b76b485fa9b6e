use Rattle.std.proofs.Common.{◌≡◌, ◌∙◌, sym, insert, rules}
use Rattle.oblique_ray.proofs.CutLaws.{put_same, put_new}
use Rattle.oblique_ray.proofs.cut.put.Goals as goal

pub returns-then-is_at : goal.returns-then-is_at
returns-then-is_at c =
    put_same c.args.place c.args.places.now.items c.deref.result.now c.deref-2.result.now c.rank_in-number.result c.deref.ensures.value c.deref-2.ensures.value c.rank_in-number.ensures.before (sym c.is_at.ensures ∙ c.if-is_at.true)

pub returns : goal.returns
returns c =
    let made : c.insert.new.self.items ≡ insert c.args.places.now.items c.rank_in-number.result c.args.place = search rules in
    made ∙ put_new c.args.place c.args.places.now.items c.deref.result.now c.deref-2.result.now c.rank_in-number.result c.deref.ensures.value c.deref-2.ensures.value c.rank_in-number.ensures.within c.rank_in-number.ensures.before
    c.rank_in-number.ensures.after (sym c.is_at.ensures ∙ c.if-is_at.false)
