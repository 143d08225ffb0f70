use Rattle.std.proofs.Common.{◌<◌, Some}
use Rattle.async_cell_callers.proofs.latest_as.watch_gauge.Given as goal

-- the state is that of this list, and its values are below this limit
abbrev pub ghosts-watch_named : goal.ghosts-watch_named
ghosts-watch_named g a = record { named = Some a.blank; may = λ _ value. value < a.limit; holds = λ value. value < a.limit; keeps = λ _ _ may. may }
