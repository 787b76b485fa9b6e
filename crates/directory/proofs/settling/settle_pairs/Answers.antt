use Rattle.std.proofs.Common.{subst, sym}
use Rattle.directory.specs.Keeping.{IsKept}
use Rattle.directory.specs.Walks.{Entries, IsSound}
use Rattle.directory.proofs.DraftLemmas.{stands_sound}
use Rattle.directory.proofs.settling.settle_pairs.Goals as goal

pub of_parts-requires : goal.of_parts-requires
of_parts-requires c =
    let sound : IsSound c.args.objects = stands_sound c.args.objects (c.all_stand.ensures.sound c.if-not-all_stand.false) c.requires.small c.len.ensures.distinct in
    subst (λ (l : Entries). IsKept l c.in_ok-levels.levels) (sym c.in_ok-list.ensures) (record { sound = sound; known = c.in_ok-levels.ensures })

pub returns-clause-sound : goal.returns-clause-sound
returns-clause-sound c = stands_sound c.args.objects (c.all_stand.ensures.sound c.if-not-all_stand.false) c.requires.small c.len.ensures.distinct
