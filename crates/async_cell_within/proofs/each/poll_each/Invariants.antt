use Rattle.futures.specs.Poll.{IfReady, OnPending}
use Rattle.futures.specs.Task.{IsArmed}
use Rattle.async_cell_within.specs.Each.{EachFills}
use Rattle.async_cell_within.proofs.Fills.{ReadyTo}
use Rattle.async_cell_within.proofs.each.poll_each.Given as goal

abbrev pub invariant-loop-at : goal.invariant-loop-at
invariant-loop-at g l =
    EachFills g.F.Future.can_poll g.F.Future.gives l.initial.futures l.initial.outputs.items l.futures l.outputs.items
    × OnPending l.polled (IsArmed l.cx)
    × IfReady l.polled (λ _. ReadyTo l.at l.outputs.items)
