use Rattle.std.proofs.Common.{◌∙◌, ◌+◌, ap, sym, subst, take, arith, List}
use Rattle.std.specs.Option.{option_map}
use Rattle.std.specs.Map.Iter.{deref_pair}
use Rattle.std.proofs.lemmas.List.{take_all}
use Rattle.name_core.specs.declared.name.Name.{Name}
use Rattle.comb_tree.specs.Changes.{is_among}
use Rattle.object_pages.specs.Entries.{Entries, HoldsUsers}
use Rattle.object_pages.proofs.UserLemmas.{users_more, users_next, past_end}
use Rattle.object_pages.proofs.users.put_users.Goals as goal
use Rattle.object_pages.proofs.users.put_users.Goals.{in-Some+in_ok-put_user, in_default}

pub loop-place-preserved : goal.loop-place-preserved
loop-place-preserved c =
    elim c.match-at.branch [
      | in-Some+in_ok-put_user w ↦ record {
        users = subst (λ (l : List Name). HoldsUsers (take (c.loop-place.place + 1) c.args.pairs.now) c.args.name.now l) (sym w.names-is)
            (users_next c.args.pairs.now c.loop-place.place w.in-Some.user.now w.in-Some.object.now c.args.name.now w.put_user.new.names (sym c.at.ensures ∙ ap (option_map deref_pair) w.in-Some.is)
            (users_more (take c.loop-place.place c.args.pairs.now) c.args.name.now c.loop-place.names w.put_user.new.names c.loop-place.invariant.users w.in_ok-put_user.ensures.kept) w.in_ok-put_user.ensures.user);
        kept = λ x h. ap (λ (l : List Name). is_among l x) w.names-is ∙ w.in_ok-put_user.ensures.kept x (c.loop-place.invariant.kept x h);
      }
      | in_default w ↦ absurd (omega (arith, c.loop-place-test.true, c.len-place-end.ensures.value, past_end c.args.pairs.now c.loop-place.place (sym c.at.ensures ∙ ap (option_map deref_pair) w.in_default.is)))
    ]

pub returns-clause-users : goal.returns-clause-users
returns-clause-users c =
    subst (λ (l : Entries). HoldsUsers l c.args.name.now c.loop-place.names) (take_all c.loop-place.place c.args.pairs.now (omega (arith, c.loop-place-test.false, c.len-place-end.ensures.value))) c.loop-place.invariant.users
