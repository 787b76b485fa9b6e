use Rattle.layer_cases.proofs.objects.texts.put_inner.Goals as goal

pub put_words-requires : goal.put_words-requires
put_words-requires c = c.inside.ensures.tokens _ c.requires
