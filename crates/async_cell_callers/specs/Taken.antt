-- A test on answers: the reply moves a value out of the cell.
use Rattle.std.specs.Prelude.{ℕ, Bool, List, is_some}
use Rattle.async_cell_wakers.specs.declared.named.Named.{Named}
use Rattle.async_cell_model.specs.Taken.{taken_by}
use Rattle.async_cell_recorded.specs.declared.history.Entry.{Entry}

abbrev pub hands_out : Entry ℕ → List Named → Bool
hands_out entry names = is_some (taken_by entry.call entry.reply)
