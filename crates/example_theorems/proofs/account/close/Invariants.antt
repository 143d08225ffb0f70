use Rattle.std.specs.Prelude.{Some, ⊤}
use Rattle.async_cell_history.specs.History.{IsNoSet, puts_any}
use Rattle.example_theorems.proofs.account.close.Given as goal

-- the cell is that of this till, of which any call but a `set` may be made
abbrev pub ghosts-close_named : goal.ghosts-close_named
ghosts-close_named g a = record { named = Some a.till; may = IsNoSet; holds = λ _. ⊤; keeps = λ call _. puts_any call }
