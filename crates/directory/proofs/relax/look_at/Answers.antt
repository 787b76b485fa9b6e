use Rattle.std.proofs.Common.{◌∙◌, inl, inr, List, ap, sym}
use Rattle.name_core.specs.declared.name.Name.{Name}
use Rattle.comb_tree.specs.Changes.{is_among}
use Rattle.directory.specs.Depths.{depth_kept}
use Rattle.directory.proofs.RoundLemmas.{step_same, step_set, insert_keeps, insert_puts}
use Rattle.directory.proofs.TracedLemmas.{traced_same, traced_set}
use Rattle.directory.proofs.relax.look_at.Goals as goal
use Rattle.directory.proofs.relax.look_at.Goals.{then-depth-gt-DEPTH+in_ok-insert, else-depth-gt-DEPTH}

pub returns-then-depth-of-clause-round : goal.returns-then-depth-of-clause-round
returns-then-depth-of-clause-round c turns rest few known h =
    step_same c.args.list.now turns (depth_kept c.args.round.depths) c.args.name.now c.due-depth.result rest c.args.round.next c.args.round.high h few (c.due-depth.ensures known)
    (sym c.of.ensures ∙ sym c.if-depth-of.true)

pub returns-then-depth-of-clause-traced : goal.returns-then-depth-of-clause-traced
returns-then-depth-of-clause-traced c e rest known h =
    traced_same c.args.list.now e (depth_kept c.args.round.depths) c.args.name.now c.due-depth.result rest (c.due-depth.ensures known) (sym c.of.ensures ∙ sym c.if-depth-of.true) h

pub returns-clause-round : goal.returns-clause-round
returns-clause-round c turns rest few known h =
    let set = step_set c.args.list.now turns (depth_kept c.args.round.depths) (depth_kept c.in_ok-depths.depths) c.args.name.now c.due-depth.result rest c.args.round.next c.put_users.new.names
    c.args.round.high c.if-depth-gt-DEPTH.high h few (c.due-depth.ensures known) c.in_ok-depths.ensures c.in_ok-put_users.ensures.users c.in_ok-put_users.ensures.kept in
    elim c.if-depth-gt-DEPTH.branch [
      | then-depth-gt-DEPTH+in_ok-insert w ↦
          set (λ x inside. ap (λ (l : List Name). is_among l x) w.high-is ∙ insert_keeps c.args.round.high w.insert.new.self c.args.name.now w.in_ok-insert.ensures.members x inside)
          (inl (ap (λ (l : List Name). is_among l c.args.name.now) w.high-is ∙ insert_puts c.args.round.high w.insert.new.self c.args.name.now w.in_ok-insert.ensures.members))
      | else-depth-gt-DEPTH w ↦
          set (λ x inside. ap (λ (l : List Name). is_among l x) w.high-is ∙ inside) (inr w.if-depth-gt-DEPTH.false)
    ]

pub returns-clause-traced : goal.returns-clause-traced
returns-clause-traced c e rest known h =
    traced_set c.args.list.now e (depth_kept c.args.round.depths) (depth_kept c.in_ok-depths.depths) c.args.name.now c.due-depth.result rest (c.due-depth.ensures known)
    (λ same. c.if-depth-of.false (same ∙ sym c.of.ensures)) c.in_ok-depths.ensures h
