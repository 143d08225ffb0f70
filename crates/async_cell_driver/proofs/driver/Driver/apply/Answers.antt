use Rattle.async_cell_driver.proofs.Words.{DriverState, [], append-nil, append_assoc, arith, length-append, refl, rules, sym, ◌∙◌, ◌≡◌, common_steps, nil_from_length, into_iter_items}
use Rattle.async_cell_driver.proofs.Logs.{drives_nil, happen_more}
use Rattle.async_cell_driver.proofs.driver.Driver.apply.Goals as goal

pub loop-event-init : goal.loop-event-init
loop-event-init g c =
    let at : DriverState g.row.T.Denot = record { core = c.self.inside.core; tasks = c.self.inside.tasks } in record {
      made = search rules;
      left = search rules;
      space = grind (arith, common_steps);
      drives = ([], refl, rw (← c.self.view_is) (drives_nil g.T.Clone.is_clone at c.soundness.ensures c.self.invariant), tt);
      results = λ i. refl;
    }

pub loop-event-preserved : goal.loop-event-preserved
loop-event-preserved g c =
    let step = rw c.in-Some.is at c.next.ensures.steps in
    let here = c.loop-event.invariant in record {
      made = rw length-append (omega (arith, here.made, c.push_reserved.ensures.len));
      left = rw (append_assoc, ← step.0) here.left;
      space = omega (arith, here.space, step.1, c.push_reserved.ensures.len, c.push_reserved.ensures.capacity);
      drives = rw c.push_reserved.ensures.items (happen_more g.E.Edit.edit g.T.Clone.is_clone g.T.Clone.is_infallible _ _ _ c.loop-event.yielded c.loop-event.told.items c.in-Some.event c.happen.result
          (omega (arith, here.made, c.loop-event.told.ok.0)) here.drives c.happen.ensures.drives c.happen.ensures.spared);
      results = λ i. c.happen.ensures.results_stay i ∙ here.results i;
    }

pub returns-clause-drives : goal.returns-clause-drives
returns-clause-drives g c =
    let last = rw c.in-None.is at c.next.ensures.steps in
    let here = c.loop-event.invariant in
    let none : into_iter_items c.loop-event.event-iterator ≡ [] = nil_from_length _ (omega (arith, last.0, c.loop-event.event-iterator.rest.ok.0)) in
    let all : c.loop-event.yielded ≡ c.args.events.items = sym (append-nil c.loop-event.yielded) ∙ (rw none at here.left) in
    (here.drives.0, here.drives.1 ∙ search rules, rw (← all) here.drives.2, rw (← all) here.drives.3)
