use Rattle.async_cell_latest_sync.proofs.owner.Owner.update.Goals as goal

pub returns : goal.returns
returns g c = record { called = (_, _, c.look-value.ensures.called) }
