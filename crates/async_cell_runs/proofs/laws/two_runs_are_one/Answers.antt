use Rattle.async_cell_runs.proofs.LongerRuns.{two_runs}
use Rattle.async_cell_runs.proofs.laws.two_runs_are_one.Goals as goal

pub returns : goal.returns
returns g c = λ will_wake sure edit edit_some. two_runs edit edit_some _ will_wake sure
