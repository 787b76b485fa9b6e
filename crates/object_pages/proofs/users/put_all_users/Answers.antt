use Rattle.std.proofs.Common.{◌∙◌, ◌<◌, ◌+◌, ap, sym, subst, arith, List, ℕ}
use Rattle.name_core.specs.declared.name.Name.{Name}
use Rattle.comb_tree.specs.Changes.{is_among}
use Rattle.shared_pages.specs.Pages.{page_of}
use Rattle.shared_pages.proofs.PageOfLemmas.{numbers_distinct}
use Rattle.object_pages.specs.Entries.{HoldsUsers}
use Rattle.object_pages.proofs.UserLemmas.{NumberAt, numbers_step, no_number, past_end, users_counted}
use Rattle.object_pages.proofs.users.put_all_users.Goals as goal
use Rattle.object_pages.proofs.users.put_all_users.Goals.{in-Some+in_ok-put_page_users, in_default}

pub loop-place-preserved : goal.loop-place-preserved
loop-place-preserved c =
    elim c.match-page_at.branch [
      | in-Some+in_ok-put_page_users w ↦ record {
        users = subst (λ (l : List Name). (i n : ℕ) → i < c.loop-place.place + 1 → NumberAt c.args.tally.now i n → HoldsUsers (page_of c.args.pages.now n) c.args.name.now l) (sym w.names-is)
            (numbers_step c.args.pages.now c.args.name.now c.args.tally.now c.loop-place.place w.in-Some.number c.loop-place.names w.put_page_users.new.names c.loop-place.invariant.users (sym w.in-Some.is ∙ c.page_at.ensures)
            w.in_ok-put_page_users.ensures.users w.in_ok-put_page_users.ensures.kept);
        kept = λ x h. ap (λ (l : List Name). is_among l x) w.names-is ∙ w.in_ok-put_page_users.ensures.kept x (c.loop-place.invariant.kept x h);
      }
      | in_default w ↦ absurd (omega (arith, c.loop-place-test.true, c.len-place-end.ensures.value, past_end c.args.tally.now c.loop-place.place (no_number c.args.tally.now c.loop-place.place (sym w.in_default.is ∙ c.page_at.ensures))))
    ]

pub returns-clause-users : goal.returns-clause-users
returns-clause-users c =
    users_counted c.args.pages.now c.args.name.now c.args.tally.now c.loop-place.names (numbers_distinct c.args.pages.now 0 c.len-count.ensures.pages.rise) c.requires
    (λ i n lt at. c.loop-place.invariant.users i n (omega (arith, lt, c.loop-place-test.false, c.len-place-end.ensures.value)) at)
