use Rattle.std.proofs.Common.{inl, inr, refl}
use Rattle.async_cell_core.proofs.Steps.{stored, vacant_sound}
use Rattle.async_cell_core.proofs.cell_core.places.Core+T+TaskWaker.store.Goals as goal

pub returns-clause-take : goal.returns-clause-take
returns-clause-take g c =
    let list = c.store.ensures in
    rw (← c.self.view_is) (stored _ _ (λ a b. refl) _ _ _ _ c.args.waker _ (inl refl) c.self.invariant.0 (rw (← c.self.view_is) at c.requires.vacant)
    c.store.result _ list.stored list.takes_room list.unchanged list.first_is_added list.room_suffices)

pub returns-clause-get : goal.returns-clause-get
returns-clause-get g c =
    let list = c.store.ensures in
    rw (← c.self.view_is) (stored _ _ (λ a b. refl) _ _ _ _ c.args.waker _ (inr refl) c.self.invariant.0 (rw (← c.self.view_is) at c.requires.vacant)
    c.store.result _ list.stored list.takes_room list.unchanged list.first_is_added list.room_suffices)

pub invariant_of-self : goal.invariant_of-self
invariant_of-self g c = (vacant_sound _ (λ a b. refl) _ _ c.self.inside.waiting c.store.new.self c.self.invariant.0 (rw (← c.self.view_is) at c.requires.vacant), c.self.invariant.1)
