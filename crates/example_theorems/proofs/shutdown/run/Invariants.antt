use Rattle.std.specs.Prelude.{Some, ⊤}
use Rattle.async_cell_history.specs.History.{puts_any}
use Rattle.example_theorems.proofs.shutdown.run.Given as goal

-- the cell is that of this server, of which any call may be made
abbrev pub ghosts-run_named : goal.ghosts-run_named
ghosts-run_named g a = record { named = Some a.over; may = λ _. ⊤; holds = λ _. ⊤; keeps = λ call _. puts_any call }
