use Rattle.std.proofs.Common.{◌≡◌, Some}
use Rattle.async_cell_step.proofs.Seats.{stored}
use Rattle.async_cell_step.proofs.polls.renew_moved.Goals as goal

pub returns-in-Ok-clause-waits : goal.returns-in-Ok-clause-waits
returns-in-Ok-clause-waits g c =
    let held = c.in-Some-open_holding.ensures.held in
    let is = c.in-Some-open_holding.waker-is in
    let of : Some c.in-Some-open_holding.waker.answer ≡ Some c.in-Some.waker = cc in
    stored g.C.Room.waiting c.args.cx.now c.register.new.self c.store_in-stored.new.room _ _ _ _ _ _ _ _ c.register.ensures.left c.in-Some.is
    c.store_in-stored.ensures.seated c.end.ensures.answers c.in-Ok.is of c.note.ensures.1
