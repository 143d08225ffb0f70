use Rattle.std.proofs.Common.{refl}
use Rattle.async_cell_latest.proofs.JoinedHistories.{open_sound}
use Rattle.async_cell_latest.proofs.latest.places.Latest+T+TaskWaker.store.Goals as goal

pub invariant_of-self : goal.invariant_of-self
invariant_of-self g c =
    open_sound _ (λ a b. refl) _ _ _ c.self.inside.waiting c.store.new.self c.self.invariant (rw (← c.self.view_is) at c.requires.open)
