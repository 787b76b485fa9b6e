use Rattle.std.proofs.Common.{◌∙◌, ap, sym, arith}
use Rattle.std.specs.Prelude.{slice_index_or}
use Rattle.std.proofs.lemmas.List.{get_or-set_other}
use Rattle.std.proofs.lemmas.Result.{IfOk-weaker, on_ok_weaker}
use Rattle.shared_pages.proofs.shares.Shares.take.Goals as goal

pub returns-clause-value : goal.returns-clause-value
returns-clause-value g c = IfOk-weaker c.take_at.result _ _ (λ v is. is ∙ c.in_ok-pad.ensures.items c.args.place) c.take_at.ensures.value

pub returns-clause-others : goal.returns-clause-others
returns-clause-others g c =
    on_ok_weaker c.take_at.result
    (λ hole i apart. sym (get_or-set_other c.take_at.new.self c.args.place i g.T.Blank.empty g.T.Blank.empty apart) ∙ ap (λ l. slice_index_or l i g.T.Blank.empty) (hole g.T.Blank.empty)
    ∙ get_or-set_other c.pad.new.self c.args.place i g.T.Blank.empty g.T.Blank.empty apart ∙ c.in_ok-pad.ensures.items i)
    c.take_at.ensures.hole

pub returns-clause-there : goal.returns-clause-there
returns-clause-there g c = on_ok_weaker c.take_at.result (λ same. omega (arith, c.in_ok-pad.ensures.there, same)) c.take_at.ensures.same_length
