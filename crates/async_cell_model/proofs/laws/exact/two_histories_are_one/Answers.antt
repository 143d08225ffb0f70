use Rattle.async_cell_model.proofs.LegalHistories.{Runs-join}
use Rattle.async_cell_model.proofs.laws.exact.two_histories_are_one.Goals as goal

pub returns : goal.returns
returns ctx c = λ will_wake sure. Runs-join will_wake sure
