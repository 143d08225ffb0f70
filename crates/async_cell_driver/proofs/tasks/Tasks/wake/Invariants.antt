use Rattle.async_cell_driver.proofs.Words.{wake_each, length, ◌≡◌}
use Rattle.async_cell_driver.proofs.tasks.Tasks.wake.Given as goal

-- what is left to wake leads where all of them do
abbrev pub invariant-loop-name : goal.invariant-loop-name
invariant-loop-name g l = wake_each l.names l.self ≡ wake_each l.initial.names l.initial.self

abbrev pub decreases-loop-name : goal.decreases-loop-name
decreases-loop-name g l = length l.names
