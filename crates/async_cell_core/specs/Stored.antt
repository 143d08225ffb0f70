-- The state of a core, made of its fields.
use Rattle.std.specs.Prelude.{ℕ, Option, nat_eq, if◌then◌else◌}
use Rattle.async_cell_wakers.specs.WaitList.{ListState}
use Rattle.async_cell_model.specs.declared.{cell.Cell.Cell, cell.Cell.TheVariants.{Closed, Open}}
use Rattle.async_cell_model.specs.Machine.{State}

-- the cell of a content and a number of owners: closed if the number is 0
abbrev pub cell_of : {T : Type 0} → Option T → ℕ → Cell T
cell_of value owners = if nat_eq owners 0 then Closed else Open value owners

-- the state of a core: the cell, the wait list, and the room for more wakers
abbrev pub state_of : {T W : Type 0} → Option T → ℕ → ListState W → State T W
state_of value owners list =
    record { cell = cell_of value owners; waiting = list.wakers; room = list.room }
