use Rattle.std.proofs.Common.{arith}
use Rattle.async_cell_latest_sync.proofs.awaited.ChangedFuture.TheImpl.Goals as goal

-- what the poll says of its own meets what the trait asks
pub poll-tells : goal.poll-tells
poll-tells g x c =
    let poll = c.ensures in
    record { value = poll.value; again = grind arith; same = grind arith; registered = poll.registered; kept = poll.kept }
