use Rattle.std.proofs.Common.{None, Some, refl}
use Rattle.async_cell_wakers.proofs.Places.{taken_none}
use Rattle.async_cell_latest.proofs.JoinedHistories.{still_sound}
use Rattle.async_cell_latest.proofs.latest.places.Latest+T+TaskWaker.take_left.Goals as goal

pub invariant_of-self : goal.invariant_of-self
invariant_of-self g c =
    let old = c.self.inside.waiting in
    let none = taken_none old c.take_left.new.self c.take_left.result _ (λ w. Some w) None c.take_left.ensures.taken c.take_left.ensures.unchanged in
    still_sound _ (λ a b. refl) _ _ _ old c.take_left.new.self c.self.invariant none
