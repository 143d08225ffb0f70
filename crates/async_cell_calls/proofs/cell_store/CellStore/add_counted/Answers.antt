use Rattle.async_cell_calls.proofs.cell_store.CellStore.add_counted.Goals as goal

pub returns-2-clause-sees : goal.returns-2-clause-sees
returns-2-clause-sees g c = rw c.end.ensures.answers
    (λ _. c.see.ensures.sees c.args.seen.now _ _ _ _ c.catch_up.ensures.ready c.add_owner-added.ensures.made)
