use Rattle.std.proofs.Common.{refl}
use Rattle.async_cell_step.proofs.Seats.{stored}
use Rattle.async_cell_step.proofs.polls.add.Goals as goal

pub returns-in-Ok-clause-waits : goal.returns-in-Ok-clause-waits
returns-in-Ok-clause-waits g c =
    let new = c.store_new-stored.new in (
      new.place.index,
      stored g.C.Room.waiting c.args.cx.now c.register.new.self new.self _ _ _ _ _ _ _ _ c.register.ensures.left c.in-Some.is
          c.store_new-stored.ensures.seated c.end-2.ensures.answers c.in-Ok.is c.of-2.ensures refl,
    )
