use Rattle.async_cell_history.proofs.cell_core.CellCore.end_owner.Goals as goal
use Rattle.async_cell_history.proofs.cell_core.CellCore.end_owner.Goals.{in-Ok, in-Err}

pub returns-clause-made : goal.returns-clause-made
returns-clause-made g c = elim c.match-ended.branch [
  | in-Ok w ↦ rw (w.result-is, w.waking.ensures.answers, w.waking.ensures.wakes, ← c.self.view_is, c.take.ensures) (record {
    does = rw w.in-Ok.is at c.end_owner-ended.ensures.model;
    begun = c.enter.ensures.begun;
    entered = rw w.in-Ok.is at c.enter.ensures.entered;
    signed = c.enter.ensures.signed;
  })
  | in-Err w ↦ rw (w.result-is, w.waking-in-Err.ensures.answers, w.waking-in-Err.ensures.wakes, ← c.self.view_is, c.take.ensures) (record {
    does = rw w.in-Err.is at c.end_owner-ended.ensures.model;
    begun = c.enter.ensures.begun;
    entered = rw w.in-Err.is at c.enter.ensures.entered;
    signed = c.enter.ensures.signed;
  })
]
