use Rattle.async_cell_recorded.proofs.Words.{◌≡◌, true, false, rules, is_memory, same_name}
use Rattle.async_cell_recorded.proofs.Histories.{kept_made, refused_unchanged}
use Rattle.async_cell_recorded.proofs.made.make.Goals as goal

pub returns-clause-kept : goal.returns-clause-kept
returns-clause-kept g c =
    let found : is_memory c.step_copied-reply.result.reply ≡ false = search rules in
    let saw = c.keep-kept.ensures c.args.core.now.cell c.try_get_copied.ensures.gives in
    cc (saw, kept_made same_name true c.args.core.now c.step_copied-reply.new.core g.E.Edit.edit g.E.Edit.edit_some c.args.call _ _ found c.step_copied-reply.ensures.model)

pub returns-clause-model : goal.returns-clause-model
returns-clause-model g c = rw (returns-clause-kept g c) c.step_copied-reply.ensures.model

pub returns-in-Refused-Memory-default-clause-unchanged : goal.returns-in-Refused-Memory-default-clause-unchanged
returns-in-Refused-Memory-default-clause-unchanged g c =
    let no_memory : is_memory c.step_copied-reply.result.reply ≡ true = search rules in
    refused_unchanged same_name true c.args.core.now c.step_copied-reply.new.core _ _ _ no_memory c.step_copied-reply.ensures.model
