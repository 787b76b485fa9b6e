use Rattle.word_values.proofs.atoms.group_atoms.Goals as goal

pub top_words-requires : goal.top_words-requires
top_words-requires c = (c.inside-inner.ensures.tokens _ c.requires.tokens).balanced

pub word_atoms-requires-clause-tokens : goal.word_atoms-requires-clause-tokens
word_atoms-requires-clause-tokens c = c.inside-inner.ensures.tokens _ c.requires.tokens
