use Rattle.async_cell_history.proofs.Words.{content}
use Rattle.async_cell_history.proofs.Replied.{polled_own, polled_up_to, poll_fails, sure_one, full_is_ready, polled_ones}
use Rattle.async_cell_history.proofs.ops.looks.PollGetOp.make.Goals as goal

pub returns-clause-made : goal.returns-clause-made
returns-clause-made g c = let told = c.poll_get.ensures in
    rw c.of.ensures (polled_own g.T.Clone.is_clone g.W.Wakes.will_wake g.W.Wakes.SURE_CLONE c.args.core.now c.poll_get.new.self c.args.self.0.now c.poll_get.result told.up_to_clones told.refused)

pub returns-clause-gives : goal.returns-clause-gives
returns-clause-gives g c = let core = c.args.core.now in let to = c.poll_get.new.self in let told = c.poll_get.ensures in rw c.of.ensures (
  poll_fails g.W.Wakes.will_wake g.W.Wakes.SURE_CLONE core to c.args.self.0.now c.poll_get.result told.refused,
  polled_up_to g.T.Clone.is_clone g.W.Wakes.will_wake g.W.Wakes.SURE_CLONE core to c.args.self.0.now c.poll_get.result told.up_to_clones,
  (λ full. sure_one (content core.cell) g.T.Clone.is_infallible _ (told.if_infallible (full_is_ready core.cell full))),
  polled_ones _ g.N.Protocol.holds core.cell c.poll_get.result _ c.requires.rule told.clones told.waits,
)
