use Rattle.std.proofs.Common.{◌≡◌, ◌≤◌, ◌+◌, length, vec_len, vec_capacity, ◌++◌}
use Rattle.std.specs.Vec.Iter.{into_iter_items, into_iter_len}
use Rattle.async_cell_runs.proofs.LongerRuns.{Told}
use Rattle.async_cell_runs.proofs.runs.run.Given as goal

-- the calls that were made so far, and their answers
abbrev pub invariant-loop-call : goal.invariant-loop-call
invariant-loop-call g l = record {
  made : vec_len l.answers ≡ length l.yielded;
  left : l.yielded ++ into_iter_items l.call-iterator ≡ l.fn.calls.items;
  space : vec_len l.answers + into_iter_len l.call-iterator ≤ vec_capacity l.answers;
  told : Told g.E.Edit.edit g.E.Edit.edit_some g.T.Clone.is_clone g.T.Clone.is_infallible g.W.Wakes.will_wake g.W.Wakes.SURE_CLONE l.fn.core l.yielded l.answers.items l.core;
}
