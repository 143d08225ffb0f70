use Rattle.async_cell_history.proofs.Waking.{set_wakes}
use Rattle.async_cell_history.proofs.laws.a_set_wakes_who_waits.Goals as goal

pub returns : goal.returns
returns g c seen now v w told lawful waits = set_wakes _ g.N.Protocol.may g.N.Protocol.named seen now v w told lawful waits
