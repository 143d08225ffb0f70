use Rattle.std.proofs.Common.{rules}
use Rattle.async_cell_history.proofs.cell_core.CellCore.overwrite.Goals as goal
use Rattle.async_cell_history.proofs.cell_core.CellCore.overwrite.Goals.{in-Ok, in_default}

pub returns-clause-made : goal.returns-clause-made
returns-clause-made g c = elim c.match-written.branch [
  | in-Ok w ↦ rw (c.of.ensures, w.in-Ok.is, w.self-is, ← c.self.view_is) (record {
    does = rw w.in-Ok.is at c.overwrite-written.ensures.model;
    begun = w.enter.ensures.begun;
    entered = rw c.of-before.ensures.passed at w.enter.ensures.entered;
    signed = w.enter.ensures.signed;
  })
  | in_default w ↦ search rules
]
