use Rattle.async_cell_driver.proofs.Words.{None}
use Rattle.async_cell_driver.proofs.{Logs.drives_nil, Settled.covered_keeping, Settled.drives_keeping}
use Rattle.async_cell_driver.proofs.driver.Driver.result.Goals as goal

pub invariant_of-self : goal.invariant_of-self
invariant_of-self g c = rw c.replace_result.ensures.once (covered_keeping c.args.i None (record { core = c.self.inside.core; tasks = c.self.inside.tasks }) c.self.invariant)

pub returns-clause-nothing_else : goal.returns-clause-nothing_else
returns-clause-nothing_else g c =
    rw (c.replace_result.ensures.once, ← c.self.view_is) (drives_keeping _ c.args.i None _ _ _ (drives_nil _ _ c.soundness.ensures c.self.invariant))
