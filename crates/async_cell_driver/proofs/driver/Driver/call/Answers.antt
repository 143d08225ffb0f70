use Rattle.async_cell_driver.proofs.Words.{call_of, with_edit, Does, State, Event, Cell, Kept, Reply, same_name, Named, List, [], Option, Some, true, ◌≡◌}
use Rattle.async_cell_driver.proofs.CoreCalls.{CallsAs, is_call-with_edit, call_drives, covered_called}
use Rattle.async_cell_driver.proofs.driver.Driver.call.Goals as goal

-- the call that the event stands for, made by the core
made : {T : Type 0} (event : Event T (Option T → Option T)) (kept : Cell T → Kept T Named) → ((cell : Cell T) → call_of [] cell event ≡ Some (kept cell))
    → (from to : State T Named) (r : Reply T) (names : List Named) → Does same_name true from (record { call = kept from.cell; reply = r }) names to → CallsAs event from r names to
made event kept is from to r names does = rw (is from.cell) does

pub invariant_of-self : goal.invariant_of-self
invariant_of-self g c =
    rw c.wake.ensures (covered_called _ _ c.step-answer.result.woken _ _ (is_call-with_edit g.E.Edit.edit c.args.event c.requires) c.self.invariant
    (made (with_edit g.E.Edit.edit c.args.event) _ c.call_of.ensures.stands_for _ _ _ _ (c.step-answer.ensures.if_no_get c.call_of.ensures.no_get)))

pub returns-clause-happens : goal.returns-clause-happens
returns-clause-happens g c =
    rw (← c.self.view_is, c.wake.ensures) (call_drives g.T.Clone.is_clone _ _ c.step-answer.result.woken _ _ (is_call-with_edit g.E.Edit.edit c.args.event c.requires) c.self.invariant
    (made (with_edit g.E.Edit.edit c.args.event) _ c.call_of.ensures.stands_for _ _ _ _ (c.step-answer.ensures.if_no_get c.call_of.ensures.no_get)))
