use Rattle.std.proofs.Common.{◌<◌, ℕ, List, length, rules, ap, ◌∙◌}
use Rattle.mged_words.proofs.CommandLaws.{read_refused, read_passed, r_empty, r_syntax, r_bad, r_rest, r_good, not_empty}
use Rattle.comb_tree.specs.declared.node.ListEntry.{ListEntry}
use Rattle.command_set.specs.declared.command.Command.TheVariants.{Edit}
use Rattle.command_set.specs.declared.command.Edit.TheVariants.{Region}
use Rattle.mged_words.proofs.list.region_command.Goals as goal
use Rattle.mged_words.proofs.list.region_command.Goals.{then-is_empty-via-then-is_empty, then-is_empty-via-else-is_empty+then-not-is_list}

pub returns-then-is_empty : goal.returns-then-is_empty
returns-then-is_empty c =
    elim c.then-is_empty.branch [
      | then-is_empty-via-then-is_empty w ↦ r_empty c.args.name.now c.args.words.now (search rules)
      | then-is_empty-via-else-is_empty+then-not-is_list w ↦ r_syntax c.args.name.now _ (search rules)
    ]

pub returns-in_err-name : goal.returns-in_err-name
returns-in_err-name c =
    let lt : 0 < length c.args.words.now = not_empty _ c.is_empty.result c.is_empty.ensures c.if-is_empty.false in
    read_refused c.from_residual.result c.in_err-name.field-0.0 _ c.from_residual.ensures (λ e h. h)
    (r_bad c.args.name.now c.args.words.now c.in_err-name.field-0.0 lt (search rules) c.in_err-name.ensures.fault)

pub returns-in_err-read_entries : goal.returns-in_err-read_entries
returns-in_err-read_entries c =
    let lt : 0 < length c.args.words.now = not_empty _ c.is_empty.result c.is_empty.ensures c.if-is_empty.false in
    read_passed ℕ c.from_residual-in_err-read_entries.result c.in_err-read_entries.field-0.0 _ _ c.from_residual-in_err-read_entries.ensures (λ e h. h) c.in_err-read_entries.ensures.fault
    (λ refusal bad. r_rest c.args.name.now c.args.words.now refusal lt (search rules) c.in_ok-name.ensures.none bad)

pub of_vec-list-requires-clause-short : goal.of_vec-list-requires-clause-short
of_vec-list-requires-clause-short c = search rules

pub returns : goal.returns
returns c =
    let lt : 0 < length c.args.words.now = not_empty _ c.is_empty.result c.is_empty.ensures c.if-is_empty.false in
    let list : List ListEntry = c.in_ok-read_entries.field-0.items in
    ap (λ (n : List ℕ). Edit (Region n c.of_vec-list.result)) c.in_ok-name.ensures.name
    ∙ ap (λ (l : List ListEntry). Edit (Region c.args.name.now l)) c.of_vec-list.ensures
    ∙ r_good c.args.name.now c.args.words.now list lt c.in_ok-read_entries.ensures.entries c.in_ok-name.ensures.none c.in_ok-read_entries.ensures.fault
