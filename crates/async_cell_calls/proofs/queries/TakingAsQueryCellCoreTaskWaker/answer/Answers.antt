use Rattle.std.proofs.Common.{arith}
use Rattle.async_cell_calls.proofs.queries.TakingAsQueryCellCoreTaskWaker.answer.Goals as goal

pub returns-clause-gives : goal.returns-clause-gives
returns-clause-gives g c =
    let seen = c.see.ensures.sees c.args.self.0 c.args.core.now _ _ _ c.catch_up.ensures.ready c.make-taken.ensures.made in
    grind (arith, seen.0, seen.1, c.make-taken.ensures.gives, c.or_closed.ensures.found, c.paired_with.ensures.found)
