use base.Growing.{prefix_trans}
use Rattle.async_cell_history.proofs.Words.{sym}
use Rattle.async_cell_sync.proofs.owner.Owner.another_as.Goals as goal

pub returns-in-Ok-clause-goes_on : goal.returns-in-Ok-clause-goes_on
returns-in-Ok-clause-goes_on g c = let seen = c.in-Ok.ensures.sees.0 in prefix_trans _ _ _ seen.goes_on (_, sym seen.ends)
