use Rattle.async_cell_history.proofs.TwoTakers.{one_takes}
use Rattle.async_cell_history.proofs.laws.of_takers_alone_one_gets.Goals as goal

pub returns : goal.returns
returns g c all m n v w only lawful one other =
    one_takes g.W.Wakes.will_wake g.W.Wakes.SURE_CLONE g.N.Protocol.may _ all m n v w only lawful one other
