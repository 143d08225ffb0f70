use Rattle.std.specs.Prelude.{Some, ⊤}
use Rattle.async_cell_history.specs.History.{puts_any}
use Rattle.async_cell_callers.proofs.waits.all.Given as goal

-- the cell is that of this blank, of which any call may be made
abbrev pub ghosts-all_named : goal.ghosts-all_named
ghosts-all_named g a = record { named = Some a.blank; may = λ _. ⊤; holds = λ _. ⊤; keeps = λ call _. puts_any call }
