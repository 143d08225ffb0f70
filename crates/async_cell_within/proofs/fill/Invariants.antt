use Rattle.async_cell_within.specs.Each.{EachFills}
use Rattle.async_cell_within.proofs.fill.Given as goal

abbrev pub invariant-loop : goal.invariant-loop
invariant-loop g l =
    EachFills g.F.Future.can_poll g.F.Future.gives l.initial.futures l.initial.outputs.items l.futures l.outputs.items
