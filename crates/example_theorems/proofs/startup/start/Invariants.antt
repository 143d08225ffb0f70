use Rattle.std.specs.Prelude.{Some, ⊤}
use Rattle.async_cell_history.specs.History.{IsOrSet, puts_any}
use Rattle.example_theorems.proofs.startup.start.Given as goal

-- the cell is that of this value, which is set where there is none, and in no other way
abbrev pub ghosts-start_named : goal.ghosts-start_named
ghosts-start_named g a = record { named = Some a.value; may = IsOrSet; holds = λ _. ⊤; keeps = λ call _. puts_any call }
