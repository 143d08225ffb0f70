use Rattle.std.proofs.Common.{refl}
use Rattle.async_cell_history.proofs.cell_core.CellCore.end_other.Goals as goal

pub returns : goal.returns
returns g c = record {
  made = rw (← c.self.view_is, c.take.ensures)
      (record { does = c.if-not-end_other.ensures.model refl; begun = c.enter.ensures.begun; entered = c.enter.ensures.entered; signed = c.enter.ensures.signed });
}
