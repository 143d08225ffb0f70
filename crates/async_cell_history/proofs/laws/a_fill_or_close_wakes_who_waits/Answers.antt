use Rattle.async_cell_history.proofs.Waking.{wakes}
use Rattle.async_cell_history.proofs.laws.a_fill_or_close_wakes_who_waits.Goals as goal

pub returns : goal.returns
returns g c seen now call reply w told lawful waits ends = wakes _ g.N.Protocol.may g.N.Protocol.named seen now call reply w told lawful waits ends
