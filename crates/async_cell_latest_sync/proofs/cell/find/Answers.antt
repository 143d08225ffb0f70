use Rattle.std.proofs.Common.{refl}
use Rattle.async_cell_latest_sync.proofs.cell.find.Goals as goal

-- the value that was cloned is the one that the predicate was called on
pub returns-clause-tested : goal.returns-clause-tested
returns-clause-tested g c =
    let called = rw c.if-not-predicate.false at c.predicate.ensures in
    (record { shown = c.args.value; shows = refl; called = called }, c.in_ok-copy.ensures.cases)
