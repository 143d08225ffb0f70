use Rattle.async_cell_history.proofs.cell_core.CellCore.close_first.Goals as goal

pub returns : goal.returns
returns g c = record {
  made = rw (c.waking.ensures.answers, c.waking.ensures.wakes, ← c.self.view_is, c.take.ensures)
      (record { does = c.in-Some.ensures.model; begun = c.enter.ensures.begun; entered = c.enter.ensures.entered; signed = c.enter.ensures.signed });
}
