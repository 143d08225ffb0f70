use Rattle.async_cell_latest_sync.proofs.InOrder.{in_order_follows, next_after, shown_after, shown_follows}
use Rattle.async_cell_latest_sync.proofs.laws.what_is_shown_never_goes_back.Goals as goal

pub returns : goal.returns
returns g c = record {
  in_order = λ values x y only exact lawful shown.
      in_order_follows g.N.Protocol.may g.O.Order.follows g.O.Order.follows_on only g.T.Clone.is_clone exact values x y lawful shown;
  shown = λ seen now mid later x y only exact lawful first on second.
      shown_follows g.N.Protocol.may g.O.Order.follows g.O.Order.follows_on only g.T.Clone.is_clone exact g.O.Order.follows_itself seen now mid later x y lawful first on second;
  again = λ seen now x y only exact lawful was shown.
      shown_after g.N.Protocol.may g.O.Order.follows g.O.Order.follows_on only g.T.Clone.is_clone exact g.O.Order.follows_itself seen now x y lawful was shown;
  next = λ seen now x y only exact lawful was next.
      next_after g.N.Protocol.may g.O.Order.follows g.O.Order.follows_on only g.T.Clone.is_clone exact g.O.Order.follows_itself seen now x y lawful was next;
}
