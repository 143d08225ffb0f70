use Rattle.async_cell_driver.proofs.Words.{arith}
use Rattle.async_cell_driver.proofs.TaskList.{waiting_few}
use Rattle.async_cell_driver.proofs.driver.Driver.waiting.Goals as goal

pub returns-clause-at_most : goal.returns-clause-at_most
returns-clause-at_most g c =
    let few = waiting_few (record { core = c.self.inside.core; tasks = c.self.inside.tasks }) c.soundness.ensures c.self.invariant in
    rw (← c.self.view_is) (omega (arith, few, c.waiting.ensures))
