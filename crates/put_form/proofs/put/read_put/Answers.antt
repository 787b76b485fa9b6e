use Rattle.tcl_words.specs.declared.token.Word.{Word}
use Rattle.put_form.proofs.PutLaws.{put_long}
use Rattle.put_form.proofs.put.read_put.Goals as goal

pub returns-in-len3-up : goal.returns-in-len3-up
returns-in-len3-up c =
    let none : Word = record { first = 0; last = 0 } in
    put_long c.words_put.result c.args.text.now c.args.tokens.now c.args.words.now none c.in-len3-up.len_at_least c.words_put.ensures
