use Rattle.std.proofs.Common.{◌≡◌, ◌∙◌, sym, insert, rules}
use Rattle.bool_weave.proofs.Kept.{put_same, put_new}
use Rattle.bool_weave.proofs.place.put.Goals as goal

pub returns-then-is_at-clause-places : goal.returns-then-is_at-clause-places
returns-then-is_at-clause-places c =
    put_same c.args.place c.args.places.now.items c.deref.result.now c.deref-2.result.now c.place_in-number.result c.deref.ensures.value c.deref-2.ensures.value c.place_in-number.ensures.before (sym c.is_at.ensures ∙ c.if-is_at.true)

pub returns-clause-places : goal.returns-clause-places
returns-clause-places c =
    let made : c.insert.new.self.items ≡ insert c.args.places.now.items c.place_in-number.result c.args.place = search rules in
    made ∙ put_new c.args.place c.args.places.now.items c.deref.result.now c.deref-2.result.now c.place_in-number.result c.deref.ensures.value c.deref-2.ensures.value c.place_in-number.ensures.within c.place_in-number.ensures.before c.place_in-number.ensures.after (sym c.is_at.ensures ∙ c.if-is_at.false)
