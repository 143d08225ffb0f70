-- What the mark of a task says. `Ready`: it was never polled, or its last poll was refused.
-- `Waiting`: its last poll returned `Pending`. `Woken`: the same, and its name was woken since.
-- `Done`: a poll of it was ready.
use Rattle.std.specs.Prelude.{Bool, true, false, Option, Some}
use Rattle.async_cell_driver.specs.declared.{tasks.Mark.Mark, tasks.Mark.TheVariants.Ready, tasks.Mark.TheVariants.Waiting, tasks.Mark.TheVariants.Woken}

-- the task's last poll returned `Pending`
abbrev pub waits_mark : Option Mark → Bool
waits_mark (Some Waiting) = true
waits_mark (Some Woken) = true
waits_mark _ = false

-- The task was started, and is not done. It was never polled, its last poll was refused, or its
-- name was woken since.
abbrev pub is_ready_mark : Option Mark → Bool
is_ready_mark (Some Ready) = true
is_ready_mark (Some Woken) = true
is_ready_mark _ = false

-- a mark after the task's name is woken
abbrev pub woken : Mark → Mark
woken Waiting = Woken
woken mark = mark
