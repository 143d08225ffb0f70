use Rattle.async_cell_latest_sync.proofs.Words.{GoesOn, ◌≢◌, length}
use Rattle.async_cell_latest_sync.proofs.Lives.{shown_next}
use Rattle.async_cell_latest_sync.proofs.cell.calls.NextQueryLatestCore.answer.Goals as goal

pub returns-then-is_unseen-clause-gives : goal.returns-then-is_unseen-clause-gives
returns-then-is_unseen-clause-gives g c =
    let state = c.core.inside.state in
    let on : GoesOn c.args.self.0 c.core.inside.values = rw c.again-now.ensures at c.learn.ensures.goes_on in
    let other : length c.args.self.0.values ≢ state.version = rw c.version-2.ensures at (c.is_unseen.ensures.0 c.if-is_unseen.true) in
    let next =
    shown_next g.N.Protocol.named g.N.Protocol.holds state c.args.self.0 c.core.inside.values g.T.Clone.is_clone c.in-Ok.shown.1 c.learn.ensures.named
    c.core.invariant.0 on other c.in-Ok.ensures.clones
    in
    rw (c.of-then-is_unseen.ensures, c.learn.ensures.whole) next
