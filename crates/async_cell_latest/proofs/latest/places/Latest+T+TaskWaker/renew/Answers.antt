use Rattle.std.proofs.Common.{refl}
use Rattle.async_cell_wakers.proofs.Places.{renewed_none}
use Rattle.async_cell_latest.proofs.JoinedHistories.{still_sound}
use Rattle.async_cell_latest.proofs.latest.places.Latest+T+TaskWaker.renew.Goals as goal

pub invariant_of-self : goal.invariant_of-self
invariant_of-self g c =
    let old = c.self.inside.waiting in
    let none = renewed_none old c.renew.new.self _ _ _ c.renew.result c.renew.ensures.renewed c.renew.ensures.unchanged in
    still_sound _ (λ a b. refl) _ _ _ old c.renew.new.self c.self.invariant none
