use Rattle.async_cell_driver.proofs.Words.{ResultsStay, length, vec_capacity, vec_len, ◌++◌, ◌+◌, ◌≡◌, ◌≤◌, into_iter_items, into_iter_len}
use Rattle.async_cell_driver.proofs.Logs.{Happened}
use Rattle.async_cell_driver.proofs.driver.Driver.apply.Given as goal

-- the events that happened so far, and what they were told
abbrev pub invariant-loop-event : goal.invariant-loop-event
invariant-loop-event g l = record {
  made : vec_len l.told ≡ length l.yielded;
  left : l.yielded ++ into_iter_items l.event-iterator ≡ l.fn.events.items;
  space : vec_len l.told + into_iter_len l.event-iterator ≤ vec_capacity l.told;
  drives : Happened g.E.Edit.edit g.T.Clone.is_clone g.T.Clone.is_infallible l.fn.self l.yielded l.told.items l.self;
  results : ResultsStay l.fn.self l.self;
}
