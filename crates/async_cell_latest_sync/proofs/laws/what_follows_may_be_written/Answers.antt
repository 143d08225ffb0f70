use Rattle.async_cell_latest_sync.proofs.InOrder.{may_begin, may_follow}
use Rattle.async_cell_latest_sync.proofs.laws.what_follows_may_be_written.Goals as goal

pub returns : goal.returns
returns g c = record {
  first = λ value all. may_begin g.N.Protocol.may g.O.Order.follows all value;
  next = λ before old new all follows. may_follow g.N.Protocol.may g.O.Order.follows all before old new follows;
}
