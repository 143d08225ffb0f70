use Rattle.async_cell_calls.proofs.cell_store.CellStore.take_counted.Goals as goal

pub returns-clause-sees : goal.returns-clause-sees
returns-clause-sees g c = rw c.end_and_wake.ensures.answers
    (λ _. c.see.ensures.sees c.args.seen.now _ _ _ _ c.catch_up.ensures.ready c.take_inner-taken.ensures.made)
