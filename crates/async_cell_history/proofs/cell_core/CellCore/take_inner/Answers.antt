use Rattle.async_cell_history.proofs.cell_core.CellCore.take_inner.Goals as goal

pub returns-in-Ok-clause-made : goal.returns-in-Ok-clause-made
returns-in-Ok-clause-made g c = rw (c.waking.ensures.answers, c.waking.ensures.wakes, ← c.self.view_is, c.take.ensures) (record {
  does = rw c.in-Ok.is at c.take_inner-taken.ensures.model;
  begun = c.enter.ensures.begun;
  entered = rw c.in-Ok.is at c.enter.ensures.entered;
  signed = c.enter.ensures.signed;
})
