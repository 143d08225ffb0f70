use Rattle.std.proofs.Common.{rules, sym, ◌∙◌}
use Rattle.async_cell_model.proofs.Machine.{does_up_to}
use Rattle.async_cell_core.proofs.Steps.{poll_cloned, poll_ready, poll_refused}
use Rattle.async_cell_core.proofs.cell_core.Core.poll_get.Goals as goal

pub returns-then-is_vacant-clause-up_to_clones : goal.returns-then-is_vacant-clause-up_to_clones
returns-then-is_vacant-clause-up_to_clones g c = does_up_to _ _ _ _ _ _ _ _ c.wait.ensures.get

pub returns-in-Err-clause-up_to_clones : goal.returns-in-Err-clause-up_to_clones
returns-in-Err-clause-up_to_clones g c = does_up_to _ _ _ _ _ _ _ _ (poll_refused _ _ _ _ _ (sym c.is_vacant.ensures ∙ c.if-is_vacant.false) c.in-Err.ensures.refused)

pub returns-in-Err-clause-model : goal.returns-in-Err-clause-model
returns-in-Err-clause-model g c = λ _. poll_refused _ _ _ _ _ (sym c.is_vacant.ensures ∙ c.if-is_vacant.false) c.in-Err.ensures.refused

pub returns-in-Err-clause-if_not_full : goal.returns-in-Err-clause-if_not_full
returns-in-Err-clause-if_not_full g c = λ _. poll_refused _ _ _ _ _ (sym c.is_vacant.ensures ∙ c.if-is_vacant.false) c.in-Err.ensures.refused

pub returns-in-Err-clause-refused : goal.returns-in-Err-clause-refused
returns-in-Err-clause-refused g c = poll_refused _ _ _ _ _ (sym c.is_vacant.ensures ∙ c.if-is_vacant.false) c.in-Err.ensures.refused

pub returns-in-Ok-clause-up_to_clones : goal.returns-in-Ok-clause-up_to_clones
returns-in-Ok-clause-up_to_clones g c = poll_cloned _ _ _ _ _ _ (search rules) (sym c.is_vacant.ensures ∙ c.if-is_vacant.false) c.in-Ok.ensures.clones

pub returns-in-Ok-clause-model : goal.returns-in-Ok-clause-model
returns-in-Ok-clause-model g c = λ exact. poll_ready _ _ _ _ _ (search rules) (sym c.is_vacant.ensures ∙ c.if-is_vacant.false) (c.in-Ok.ensures.gives exact)
