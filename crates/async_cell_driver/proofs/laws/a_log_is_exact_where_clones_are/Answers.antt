use Rattle.async_cell_driver.proofs.Words.{handed_out, history, exact_told, same_name, true}
use Rattle.async_cell_driver.proofs.laws.a_log_is_exact_where_clones_are.Goals as goal

pub returns : goal.returns
returns g c from to log exact drives =
    exact_told g.T.Clone.is_clone same_name true from.core to.core (history from log) (handed_out from log) exact drives.core_leads
