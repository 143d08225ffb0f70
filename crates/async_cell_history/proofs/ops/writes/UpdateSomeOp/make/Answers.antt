use Rattle.async_cell_history.proofs.Written.{done_as}
use Rattle.async_cell_history.proofs.ops.writes.UpdateSomeOp.make.Goals as goal

pub returns-then-is_set-clause-made : goal.returns-then-is_set-clause-made
returns-then-is_set-clause-made g c = rw (c.waking-then-is_set.ensures.answers, c.waking-then-is_set.ensures.wakes, c.waking.ensures.wakes)
    (done_as _ _ c.args.core.now c.update_some.new.self _ c.update_some.result c.update_some.ensures.model)
