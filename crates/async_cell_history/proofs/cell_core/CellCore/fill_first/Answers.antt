use Rattle.async_cell_history.proofs.cell_core.CellCore.fill_first.Goals as goal

pub returns-in-Ok-clause-made : goal.returns-in-Ok-clause-made
returns-in-Ok-clause-made g c = rw (c.waking.ensures.wakes, ← c.self.view_is)
    (record { does = c.in-Ok.ensures.model; begun = c.enter.ensures.begun; entered = rw c.of-before.ensures.passed at c.enter.ensures.entered; signed = c.enter.ensures.signed })
