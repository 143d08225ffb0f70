use Rattle.std.proofs.Common.{◌≡◌, ◌≤◌, ◌+◌, ◌-◌, ℕ, [], false, vec_len, vec_capacity}
use Rattle.async_cell_driver.specs.Log.{is_ready}
use Rattle.async_cell_callers.proofs.executor.Executor.turn.Given as goal

-- there is room for what the tasks that are left may have got, and no task is ready
abbrev pub invariant-loop-i : goal.invariant-loop-i
invariant-loop-i l = record {
  space : vec_len l.finished + (l.i-end - l.i) ≤ vec_capacity l.finished;
  none_ready : (j : ℕ) → is_ready l.self.driver [] j ≡ false;
}
