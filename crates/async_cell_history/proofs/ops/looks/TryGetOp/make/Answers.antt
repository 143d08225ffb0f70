use Rattle.async_cell_history.proofs.Words.{content}
use Rattle.async_cell_history.proofs.Found.{cloned_ones}
use Rattle.async_cell_history.proofs.Replied.{got, get_fails, sure_one}
use Rattle.async_cell_history.proofs.ops.looks.TryGetOp.make.Goals as goal

pub returns-clause-made : goal.returns-clause-made
returns-clause-made g c = let core = c.args.core.now in
    rw c.of.ensures (got g.T.Clone.is_clone g.W.Wakes.will_wake g.W.Wakes.SURE_CLONE core core c.try_get.result c.try_get.ensures.up_to_clones c.try_get.ensures.refused)

pub returns-clause-gives : goal.returns-clause-gives
returns-clause-gives g c = let core = c.args.core.now in let told = c.try_get.ensures in rw c.of.ensures (
  get_fails g.W.Wakes.will_wake g.W.Wakes.SURE_CLONE core core c.try_get.result told.refused,
  told.clones,
  cloned_ones _ g.N.Protocol.holds (content core.cell) c.try_get.result c.requires.rule told.clones,
  sure_one (content core.cell) g.T.Clone.is_infallible _ told.if_infallible,
)
