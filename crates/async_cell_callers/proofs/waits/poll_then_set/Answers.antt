use Rattle.async_cell_callers.proofs.NotForgotten.{not_forgotten}
use Rattle.async_cell_callers.proofs.waits.poll_then_set.Goals as goal

pub returns : goal.returns
returns g c = record {
  woken = λ waited is_set.
      let told = c.sets-is_set.ensures.linearized is_set in
      not_forgotten _ _ _ _ _ _ _ (c.waits-has_waited.ensures.linearized waited) told
      (c.a_set_wakes_who_waits.ensures _ _ _ _ told c.lawful.ensures.lawful);
}
