use Rattle.std.proofs.Common.{[], refl}
use Rattle.async_cell_history.specs.History.{IsNoSet, start_of}
use Rattle.async_cell_history.proofs.Counting.{balance, none_dropped}
use Rattle.async_cell_history.proofs.Leading.{all_such}
use Rattle.async_cell_history.proofs.laws.as_many_come_out_or_are_left_as_went_in.Goals as goal

pub returns : goal.returns
returns g c = record {
  as_many = λ is_counted now lawful. balance is_counted g.W.Wakes.will_wake g.W.Wakes.SURE_CLONE (start_of g.N.Protocol.named) [] now _ refl lawful.legal;
  none_dropped = λ only now lawful. none_dropped _ now (all_such g.N.Protocol.may IsNoSet only now lawful.allowed);
}
