use Rattle.async_cell_model.specs.declared.entry.Kept.TheVariants.{TryGet}
use Rattle.async_cell_model.specs.Machine.{content}
use Rattle.async_cell_history.specs.History.{get_reply}
use Rattle.async_cell_history.proofs.Found.{linearized_copy}
use Rattle.async_cell_calls.proofs.queries.CloningAsQueryCellCoreTaskWaker.answer.Goals as goal

pub returns-clause-gives : goal.returns-clause-gives
returns-clause-gives g c =
    let held = content c.args.core.now.inner.cell in let copied = c.make-copied.result.answer in let gives = c.make-copied.ensures.gives in
    let seen = c.see.ensures.sees c.args.self.0 c.args.core.now TryGet (get_reply held copied) _ c.catch_up.ensures.ready c.make-copied.ensures.made in
    linearized_copy _ g.N.Protocol.named c.args.self.0 _ _ c.see.new.self held copied c.or_closed.result.answer c.paired_with.result.answer
    gives.2 seen.0 seen.1 gives.1 c.or_closed.ensures.found c.paired_with.ensures.found
