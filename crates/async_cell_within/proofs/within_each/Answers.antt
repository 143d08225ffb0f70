use Rattle.async_cell_within.proofs.Fills.{each_given}
use Rattle.async_cell_within.proofs.within_each.Goals as goal

pub returns-clause-ready : goal.returns-clause-ready
returns-clause-ready g c = each_given _ _ _ _ _ _ (rw c.in_ok-outputs.ensures at c.fill.ensures)
