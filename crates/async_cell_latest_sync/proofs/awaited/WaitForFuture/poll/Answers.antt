use Rattle.async_cell_latest_sync.proofs.Words.{[], refl}
use Rattle.async_cell_latest_sync.proofs.awaited.WaitForFuture.poll.Goals as goal

-- the value that was cloned is the one that the predicate was called on
pub returns-in-Some-found-clause-value : goal.returns-in-Some-found-clause-value
returns-in-Some-found-clause-value g c =
    let one = c.in-Some.ensures.tested in
    let found = rw c.in-Some-found.is at (rw c.in-Ok.is at one.2) in
    (tt, (one.0, one.1, found.1, ([], _, _, refl, found.0)))
