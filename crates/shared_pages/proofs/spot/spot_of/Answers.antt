use Rattle.std.proofs.Common.{◌-◌, ◌+◌, ◌∙◌, Some, ap, arith, nat_eq, subst, sym}
use Rattle.std.specs.Map.{lookup}
use Rattle.shared_pages.specs.Pages.{IsPlace, RiseFrom, StandsFrom}
use Rattle.shared_pages.specs.Groups.{firsts}
use Rattle.shared_pages.proofs.GroupLemmas.{none_above, group_rises, spot_some, spot_none, get_within, firsts_length}
use Rattle.shared_pages.proofs.spot.spot_of.Goals as goal

pub returns-then-upto-eq0 : goal.returns-then-upto-eq0
returns-then-upto-eq0 g c =
    none_above c.args.groups.now c.args.number c.requires.0 (subst (λ m. StandsFrom (firsts c.args.groups.now) (c.args.number + 1) m) (omega (arith, c.if-upto-eq0.true)) c.groups_upto-upto.ensures)

pub place_of-requires : goal.place_of-requires
place_of-requires g c =
    subst (λ l. RiseFrom 0 l) (sym c.pages.ensures) (group_rises c.args.groups.now (c.groups_upto-upto.result - 1) c.in-Some.pages.now c.requires.0 c.in-Some.ensures)

pub unreachable-requires : goal.unreachable-requires
unreachable-requires g c =
    omega (arith, c.groups_upto-upto.ensures.0, c.if-upto-eq0.false, firsts_length c.args.groups.now, get_within c.args.groups.now (c.groups_upto-upto.result - 1) c.in-None.ensures)

pub returns-in_default : goal.returns-in_default
returns-in_default g c =
    spot_none c.args.groups.now (c.groups_upto-upto.result - 1) c.args.number c.groups_upto-upto.result c.in-Some.pages.now c.requires.0 c.requires.1 c.groups_upto-upto.ensures
    (omega (arith, c.if-upto-eq0.false)) c.in-Some.ensures (ap (λ l. lookup (nat_eq c.args.number) l) (sym c.pages.ensures) ∙ c.in_default.ensures)

pub returns : goal.returns
returns g c =
    spot_some c.args.groups.now (c.groups_upto-upto.result - 1) c.args.number c.in-Some-place_of.page c.in-Some.pages.now c.in-Some.ensures (subst (λ l. IsPlace l c.args.number (Some c.in-Some-place_of.page)) c.pages.ensures c.in-Some-place_of.ensures)
