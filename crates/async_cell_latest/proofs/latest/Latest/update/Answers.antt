use Rattle.std.proofs.Common.{sym, subst}
use Rattle.std.proofs.lemmas.Result.{on_ok_weaker, IfErr-weaker}
use Rattle.std.specs.Fn.{FnOnceReturnsAt}
use Rattle.async_cell_latest.proofs.latest.Latest.update.Goals as goal

pub returns-clause-model : goal.returns-clause-model
returns-clause-model g c =
    let view = c.self.view_is in
    (c.change-value.result, (_, c.change-value.ensures, cc), c.write.ensures.model)

-- what holds of the value that was made holds of the one that was written, or came back
pub returns-clause-called : goal.returns-clause-called
returns-clause-called g c =
    let view = c.self.view_is in
    let Returned = FnOnceReturnsAt g.F.FnOnce c.args.change c.args.self.now.value in
    let made : Returned c.change-value.result = (_, c.change-value.ensures, cc) in
    on_ok_weaker c.write.result (λ same. subst Returned (sym same) made) c.write.ensures.holds

pub returns-clause-comes_back : goal.returns-clause-comes_back
returns-clause-comes_back g c =
    let view = c.self.view_is in
    let Returned = FnOnceReturnsAt g.F.FnOnce c.args.change c.args.self.now.value in
    let made : Returned c.change-value.result = (_, c.change-value.ensures, cc) in
    IfErr-weaker c.write.result _ Returned (λ back same. subst Returned (sym same) made) c.write.ensures.comes_back
