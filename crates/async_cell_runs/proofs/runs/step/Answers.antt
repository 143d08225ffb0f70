use Rattle.async_cell_model.proofs.Machine.{does_up_to}
use Rattle.async_cell_runs.proofs.runs.step.Goals as goal

pub returns-in-TryGet-clause-up_to_clones : goal.returns-in-TryGet-clause-up_to_clones
returns-in-TryGet-clause-up_to_clones g c = rw (c.in-TryGet.is, c.got.ensures) c.try_get.ensures.up_to_clones

pub returns-in-TryGet-clause-if_no_get : goal.returns-in-TryGet-clause-if_no_get
returns-in-TryGet-clause-if_no_get g c = rw c.in-TryGet.is (λ no. cc)

pub returns-in-TryGet-clause-if_exact : goal.returns-in-TryGet-clause-if_exact
returns-in-TryGet-clause-if_exact g c = λ exact. rw (c.in-TryGet.is, c.got.ensures) (c.try_get.ensures.model exact)

pub returns-in-PollGet-clause-up_to_clones : goal.returns-in-PollGet-clause-up_to_clones
returns-in-PollGet-clause-up_to_clones g c = rw (c.in-PollGet.is, c.polled.ensures) c.poll_get.ensures.up_to_clones

pub returns-in-PollGet-clause-if_no_get : goal.returns-in-PollGet-clause-if_no_get
returns-in-PollGet-clause-if_no_get g c = rw c.in-PollGet.is (λ no. cc)

pub returns-in-PollGet-clause-if_exact : goal.returns-in-PollGet-clause-if_exact
returns-in-PollGet-clause-if_exact g c = λ exact. rw (c.in-PollGet.is, c.polled.ensures) (c.poll_get.ensures.model exact)

pub returns-in_default-clause-up_to_clones : goal.returns-in_default-clause-up_to_clones
returns-in_default-clause-up_to_clones g c = does_up_to _ _ _ _ _ _ _ _ c.step_no_get.ensures.model
