use Rattle.async_cell_recorded.proofs.journal.count.Given as goal

abbrev pub ghost-add_unseen : goal.ghost-add_unseen
ghost-add_unseen g a = g.amount
