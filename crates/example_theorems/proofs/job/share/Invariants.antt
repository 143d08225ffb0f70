use Rattle.std.specs.Prelude.{Some, ⊤}
use Rattle.async_cell_history.specs.History.{IsTake, puts_any}
use Rattle.example_theorems.proofs.job.share.Given as goal

-- the cell is that of this job, of which takes alone may be made
abbrev pub ghosts-share_named : goal.ghosts-share_named
ghosts-share_named g a = record { named = Some a.job; may = IsTake; holds = λ _. ⊤; keeps = λ call _. puts_any call }
