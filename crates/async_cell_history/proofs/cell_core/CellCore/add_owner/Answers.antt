use Rattle.async_cell_history.proofs.cell_core.CellCore.add_owner.Goals as goal

pub returns-in-Ok-clause-made : goal.returns-in-Ok-clause-made
returns-in-Ok-clause-made g c = rw (c.of.ensures, ← c.self.view_is, c.give.ensures)
    (record { does = rw c.in-Ok.is at c.add_owner-added.ensures.model; begun = c.enter.ensures.begun; entered = rw c.in-Ok.is at c.enter.ensures.entered; signed = c.enter.ensures.signed })

pub returns-in-Err-clause-made : goal.returns-in-Err-clause-made
returns-in-Err-clause-made g c = rw (c.of-in-Err.ensures, ← c.self.view_is)
    (record { does = rw c.in-Err.is at c.add_owner-added.ensures.model; begun = c.enter.ensures.begun; entered = rw c.in-Err.is at c.enter.ensures.entered; signed = c.enter.ensures.signed })
