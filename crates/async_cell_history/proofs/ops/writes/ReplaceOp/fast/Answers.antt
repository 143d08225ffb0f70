use Rattle.async_cell_history.proofs.Written.{woke_first}
use Rattle.async_cell_history.proofs.ops.writes.ReplaceOp.fast.Goals as goal

pub returns-in-Ok-clause-made : goal.returns-in-Ok-clause-made
returns-in-Ok-clause-made g c = rw (c.waking-in-Ok.ensures.answers, c.waking-in-Ok.ensures.wakes, c.waking.ensures.wakes) c.in-Ok.ensures.model

pub returns-in-Ok-fill_first-clause-made : goal.returns-in-Ok-fill_first-clause-made
returns-in-Ok-fill_first-clause-made g c = rw (c.waking-in-Ok-fill_first-2.ensures.answers, c.waking-in-Ok-fill_first-2.ensures.wakes, c.waking-in-Ok-fill_first.ensures.wakes)
    (woke_first _ _ c.args.core.now _ _ _ (rw (c.in-Err.ensures.unchanged, c.in-Err.ensures.comes_back) at c.in-Ok-fill_first.ensures.model))
