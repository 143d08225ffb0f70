use Rattle.async_cell_history.specs.History.{start_of}
use Rattle.async_cell_history.proofs.Closing.{all_back, balance_of_closed, stays_closed}
use Rattle.async_cell_history.proofs.laws.after_a_close_nothing_is_left.Goals as goal

pub returns : goal.returns
returns g c = let start = start_of g.N.Protocol.named in record {
  as_many = λ is_counted now lawful closed. balance_of_closed is_counted g.W.Wakes.will_wake g.W.Wakes.SURE_CLONE start now closed lawful.legal;
  stays = λ now later closed. stays_closed start.cell now later closed;
  comes_back = λ now later lawful closed. all_back g.W.Wakes.will_wake g.W.Wakes.SURE_CLONE start now later closed lawful.legal;
}
