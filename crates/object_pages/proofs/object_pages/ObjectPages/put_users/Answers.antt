use Rattle.std.proofs.Common.{◌∙◌, ap, sym, subst}
use Rattle.std.specs.Option.{option_copied}
use Rattle.shared_pages.proofs.PageOfLemmas.{numbers_distinct}
use Rattle.object_pages.specs.Entries.{Entries, HoldsUsers}
use Rattle.object_pages.proofs.UserLemmas.{users_untold}
use Rattle.object_pages.proofs.object_pages.ObjectPages.put_users.Goals as goal

pub returns-in-None-clause-users : goal.returns-in-None-clause-users
returns-in-None-clause-users c =
    subst (λ (l : Entries). HoldsUsers l c.args.name.now c.args.names.now) c.self.view_is
    (users_untold c.self.inside.pages c.args.name.now _ c.args.names.now (numbers_distinct c.self.inside.pages 0 c.len-count.ensures.pages.rise) (c.self.invariant.counted c.args.name.now)
    (sym (ap option_copied c.in-None.is) ∙ c.tally.ensures))
