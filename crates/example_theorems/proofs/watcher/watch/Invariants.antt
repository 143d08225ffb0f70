use Rattle.std.specs.Prelude.{◌≡◌, true, nat_le, Some, ⊤}
use Rattle.async_cell_history.specs.History.{GoesOn, puts_any}
use Rattle.example_theorems.proofs.watcher.watch.Given as goal

-- the cell is that of this level, which rises and is never taken out
abbrev pub ghosts-watch_named : goal.ghosts-watch_named
ghosts-watch_named g a = record { named = Some a.level; may = GoesOn (λ old new. nat_le old new ≡ true); holds = λ _. ⊤; keeps = λ call _. puts_any call }
