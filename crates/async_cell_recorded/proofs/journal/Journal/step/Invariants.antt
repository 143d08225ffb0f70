use Rattle.async_cell_recorded.proofs.Words.{from_bool}
use Rattle.async_cell_recorded.proofs.journal.Journal.step.Given as goal

-- one where the answer was picked
abbrev pub ghost-count : goal.ghost-count
ghost-count g a = from_bool (g.M.Pick.pick a.answer.now.0 a.answer.now.1)
