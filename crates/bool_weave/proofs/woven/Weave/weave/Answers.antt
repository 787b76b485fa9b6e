use Rattle.std.proofs.Common.{◌≡◌, ◌<◌, ◌+◌, ◌∙◌, ◌++◌, ◌∷◌, [], All, length, ap, sym, subst, arith, rules}
use Rattle.bool_weave.specs.declared.woven.Woven.{Woven}
use Rattle.bool_weave.specs.Cuts.{put_in}
use Rattle.bool_weave.specs.Tables.{IsSearchable}
use Rattle.bool_weave.proofs.Kept.{searchable_kept, put_searchable, kept_more}
use Rattle.bool_weave.proofs.woven.Weave.weave.Goals as goal

pub put-requires-clause-places : goal.put-requires-clause-places
put-requires-clause-places c = subst IsSearchable (sym c.in_ok-reserve-2.ensures.items) (searchable_kept c.self.inside.woven.items c.self.inside.cuts.items c.self.invariant)

pub put-requires-2-clause-places : goal.put-requires-2-clause-places
put-requires-2-clause-places c =
    subst IsSearchable (sym c.put.ensures.places) (put_searchable c.args.seg.now.start c.reserve-2.new.self.items
    (subst IsSearchable (sym c.in_ok-reserve-2.ensures.items) (searchable_kept c.self.inside.woven.items c.self.inside.cuts.items c.self.invariant)) c.requires.segment.start_range)

pub put-requires-2-clause-room : goal.put-requires-2-clause-room
put-requires-2-clause-room c = omega (arith, c.put.ensures.len, c.put.ensures.room, c.in_ok-reserve-2.ensures.ok)

pub invariant_of-self-2 : goal.invariant_of-self-2
invariant_of-self-2 c =
    let w : Woven = record { instance = c.args.instance; seg = c.args.seg.now } in
    let pushed : c.push.new.self.items ≡ c.self.inside.woven.items ++ w ∷ [] = search rules in
    kept_more c.self.inside.woven.items c.push.new.self.items c.self.inside.cuts.items c.put.new.places.items c.put-2.new.places.items w c.self.invariant
    (subst (λ l. All (λ (v : Woven). v.instance < c.args.instance) l) (sym c.self.view_is) c.requires.order) c.requires.segment
    (subst (λ l. length l + 1 < 2147483648) (sym c.self.view_is) c.requires.few) pushed
    (c.put.ensures.places ∙ ap (λ l. put_in c.args.seg.now.start l) c.in_ok-reserve-2.ensures.items) c.put-2.ensures.places
