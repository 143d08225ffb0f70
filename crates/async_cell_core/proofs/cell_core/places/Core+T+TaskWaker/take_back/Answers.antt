use Rattle.std.proofs.Common.{None, Some, refl}
use Rattle.async_cell_core.proofs.Steps.{still_sound}
use Rattle.async_cell_wakers.proofs.Places.{taken_none}
use Rattle.async_cell_core.proofs.cell_core.places.Core+T+TaskWaker.take_back.Goals as goal

pub invariant_of-self : goal.invariant_of-self
invariant_of-self g c =
    let old = c.self.inside.waiting in
    let none = taken_none old c.take_back.new.self c.take_back.result _ (λ w. Some w) None c.take_back.ensures.taken c.take_back.ensures.unchanged in
    (still_sound _ (λ a b. refl) _ _ old c.take_back.new.self c.self.invariant.0 none, c.self.invariant.1)
