use Rattle.std.specs.Prelude.{◌≡◌, replicate, None}
use Rattle.async_cell_within.proofs.each.no_outputs.Given as goal

abbrev pub invariant-loop : goal.invariant-loop
invariant-loop g l = l.outputs.items ≡ replicate l.counter None
