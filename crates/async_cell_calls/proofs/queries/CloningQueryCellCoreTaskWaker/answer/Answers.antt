use Rattle.async_cell_history.proofs.Found.{closed_if_not_cloned}
use Rattle.async_cell_calls.proofs.queries.CloningQueryCellCoreTaskWaker.answer.Goals as goal

pub returns-clause-closed : goal.returns-clause-closed
returns-clause-closed g c =
    closed_if_not_cloned _ c.args.core.now.inner.cell _ c.or_closed.result.answer c.make.ensures.gives.1 c.or_closed.ensures.none c.requires.ready
