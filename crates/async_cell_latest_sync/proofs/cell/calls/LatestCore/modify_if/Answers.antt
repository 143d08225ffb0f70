use Rattle.async_cell_latest_sync.proofs.Words.{[], arith}
use Rattle.async_cell_latest_sync.proofs.cell.calls.LatestCore.modify_if.Goals as goal

-- what the closure left may be written, and so it keeps the rule, if it is not written
pub invariant_of-self-in-Ok-None : goal.invariant_of-self-in-Ok-None
invariant_of-self-in-Ok-None g c =
    let kept = g.N.Protocol.keeps [] _ (c.requires.may _ _ _ _ c.self.invariant.0.rule c.in-Ok-None.ensures.called) in
    grind arith
