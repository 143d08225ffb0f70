use Rattle.async_cell_within.proofs.within.Given as goal

abbrev pub invariant-loop : goal.invariant-loop
invariant-loop g l = g.F.Future.can_poll l.future × ((x : _) → g.F.Future.gives l.future x → g.F.Future.gives l.fn.future x)
