use Rattle.std.proofs.Common.{◌∙◌, ◌≤◌, ap, sym, subst, List}
use Rattle.std.specs.Option.{option_copied}
use Rattle.name_core.specs.declared.name.Name.{Name}
use Rattle.object_pages.specs.Members.{node_names, times}
use Rattle.object_pages.specs.Tallies.{leaves_on}
use Rattle.object_pages.proofs.ListLemmas.{page_told, members_there, room_there}
use Rattle.object_pages.proofs.object_pages.exchange_members.Goals as goal

pub exchange-requires-clause-there : goal.exchange-requires-clause-there
exchange-requires-clause-there c x =
    subst (λ (l : List Name). times l x ≤ leaves_on c.args.references x c.args.page) (sym c.nodes_of.ensures.names)
    (members_there c.args.pages.now c.args.references c.args.page c.args.name.now c.in-Some-get.old.now x c.requires.counted
    (page_told c.args.pages.now c.args.page c.args.name.now c.in-Some.pairs.now c.in-Some-get.old.now (sym (ap option_copied c.in-Some.is) ∙ c.page.ensures) (sym (ap option_copied c.in-Some-get.is) ∙ c.get.ensures)))

pub exchange-requires-clause-room : goal.exchange-requires-clause-room
exchange-requires-clause-room c x = room_there c.args.pages.now c.args.references c.args.page (node_names c.args.after.now) x c.requires.counted c.requires.small c.requires.few c.requires.few_after
