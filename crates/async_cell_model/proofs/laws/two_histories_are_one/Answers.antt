use Rattle.async_cell_model.proofs.Words.{UpToClones}
use Rattle.async_cell_model.proofs.LegalHistories.{Runs-join-by}
use Rattle.async_cell_model.proofs.laws.two_histories_are_one.Goals as goal

pub returns : goal.returns
returns ctx c = λ will_wake sure. Runs-join-by (UpToClones ctx.T.Clone.is_clone) will_wake sure
