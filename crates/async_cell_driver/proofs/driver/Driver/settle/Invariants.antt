use Rattle.async_cell_driver.proofs.Words.{Log, is_ready, [], false, length, ℕ, ◌<◌, ◌≡◌, ◌≤◌}
use Rattle.async_cell_driver.proofs.Settled.{SoFar}
use Rattle.async_cell_driver.proofs.driver.Driver.settle.Given as goal

-- the tasks below i were polled where they were ready, and those from i on were not touched
abbrev pub invariant-loop-i : goal.invariant-loop-i
invariant-loop-i g l = record {
  within : l.polls ≤ l.i;
  ends : l.i-end ≡ length l.fn.self.tasks;
  size : length l.self.tasks ≡ length l.fn.self.tasks;
  settled : (log : Log g.row.T.Denot) × SoFar g.T.Clone.is_clone l.fn.self l.i l.polls log l.self;
  passed : (j : ℕ) → j < l.i → is_ready l.self [] j ≡ false;
  left : (j : ℕ) → l.i ≤ j → is_ready l.self [] j ≡ is_ready l.fn.self [] j;
}
