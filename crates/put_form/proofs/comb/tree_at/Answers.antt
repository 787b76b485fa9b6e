use Rattle.put_form.proofs.comb.tree_at.Goals as goal

pub read_tree-requires-clause-tokens : goal.read_tree-requires-clause-tokens
read_tree-requires-clause-tokens c = c.inside.ensures.tokens _ c.requires.tokens
