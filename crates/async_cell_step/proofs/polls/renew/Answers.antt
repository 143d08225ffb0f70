use Rattle.std.proofs.Common.{subst}
use Rattle.futures.specs.Poll.{OnPending}
use Rattle.async_cell_step.specs.Seat.{WaitsAt}
use Rattle.async_cell_step.proofs.Seats.{renewed}
use Rattle.async_cell_step.proofs.polls.renew.Goals as goal

pub returns-then-renew-clause-waits : goal.returns-then-renew-clause-waits
returns-then-renew-clause-waits g c = renewed g.C.Room.waiting c.args.cx.now c.renew.new.cx c.renew.new.self _ _ (c.renew.ensures.renewed c.if-renew.true)

pub returns-clause-waits : goal.returns-clause-waits
returns-clause-waits g c =
    let moved = c.renew_moved in
    subst (λ cx. OnPending moved.result (WaitsAt g.C.Room.waiting moved.new.place.index cx moved.new.cx)) (c.renew.ensures.unchanged c.if-renew.false).1 moved.ensures.waits
