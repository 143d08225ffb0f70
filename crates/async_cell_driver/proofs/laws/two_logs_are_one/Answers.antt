use Rattle.async_cell_driver.proofs.Logs.{drives_join}
use Rattle.async_cell_driver.proofs.laws.two_logs_are_one.Goals as goal

pub returns : goal.returns
returns g c = drives_join _
