use Rattle.async_cell_history.proofs.cell_core.CellCore.make.Goals as goal

pub returns-clause-made : goal.returns-clause-made
returns-clause-made g c = rw (← c.self.view_is) (record {
  does = c.make-held.ensures.made;
  begun = c.enter.ensures.begun;
  entered = rw (c.of-before.ensures.from, c.of-before.ensures.passed) at c.enter.ensures.entered;
  signed = c.enter.ensures.signed;
})
