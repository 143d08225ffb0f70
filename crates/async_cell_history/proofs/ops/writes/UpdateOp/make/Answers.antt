use Rattle.async_cell_history.proofs.Written.{closed_update}
use Rattle.async_cell_history.proofs.ops.writes.UpdateOp.make.Goals as goal

pub returns-then-is_closed-clause-made : goal.returns-then-is_closed-clause-made
returns-then-is_closed-clause-made g c = rw (c.waking-then-is_closed.ensures.answers, c.waking-then-is_closed.ensures.wakes, c.waking.ensures.wakes)
    (closed_update _ _ c.args.core.now c.is_closed.ensures.sound c.if-is_closed.ensures.closed)

pub returns-in-Ok-clause-made : goal.returns-in-Ok-clause-made
returns-in-Ok-clause-made g c = rw (c.waking-in-Ok-2.ensures.answers, c.waking-in-Ok-2.ensures.wakes, c.waking-in-Ok.ensures.wakes) c.in-Ok.ensures.model

pub returns-in-Ok-clause-allowed : goal.returns-in-Ok-clause-allowed
returns-in-Ok-clause-allowed g c = λ change. c.requires.can.1 _ _ c.requires.rule c.in-Ok.ensures.called

pub returns-in-Err-clause-made : goal.returns-in-Err-clause-made
returns-in-Err-clause-made g c = rw (c.waking-in-Err-2.ensures.answers, c.waking-in-Err-2.ensures.wakes, c.waking-in-Err.ensures.wakes) c.in-Err.ensures.model
