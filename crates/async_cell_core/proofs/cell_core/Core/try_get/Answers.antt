use Rattle.std.proofs.Common.{rules}
use Rattle.async_cell_core.proofs.Steps.{get_cloned, get_refused}
use Rattle.async_cell_core.proofs.cell_core.Core.try_get.Goals as goal

pub returns-in-None-clause-up_to_clones : goal.returns-in-None-clause-up_to_clones
returns-in-None-clause-up_to_clones g c = get_cloned _ _ _ _ _ (search rules) (search rules)

pub returns-in-Ok-clause-up_to_clones : goal.returns-in-Ok-clause-up_to_clones
returns-in-Ok-clause-up_to_clones g c = get_cloned _ _ _ _ _ (search rules) (search rules)

pub returns-in-Err-clause-up_to_clones : goal.returns-in-Err-clause-up_to_clones
returns-in-Err-clause-up_to_clones g c = get_refused _ _ _ _ (search rules) (search rules)
