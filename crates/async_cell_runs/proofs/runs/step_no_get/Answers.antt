use Rattle.async_cell_runs.proofs.runs.step_no_get.Goals as goal

pub returns-in-Set-clause-model : goal.returns-in-Set-clause-model
returns-in-Set-clause-model g c = rw (c.in-Set.is, c.set-in-Set.ensures) c.set.ensures.model

pub returns-in-OrSet-clause-model : goal.returns-in-OrSet-clause-model
returns-in-OrSet-clause-model g c = rw (c.in-OrSet.is, c.replaced.ensures) c.or_set.ensures.model

pub returns-in-Replace-clause-model : goal.returns-in-Replace-clause-model
returns-in-Replace-clause-model g c = rw (c.in-Replace.is, c.replaced-in-Replace.ensures) c.replace.ensures.model
