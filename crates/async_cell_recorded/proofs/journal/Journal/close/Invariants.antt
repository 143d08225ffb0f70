use Rattle.async_cell_recorded.proofs.Words.{◌≡◌, length, sum_by}
use Rattle.async_cell_recorded.proofs.journal.Journal.close.Given as goal

-- the shares that were taken back, each with its part and its count
abbrev pub invariant-loop-share : goal.invariant-loop-share
invariant-loop-share g l = record {
  calls : l.calls_left.parts ≡ length l.yielded;
  parts : l.picked_left.parts ≡ length l.yielded;
  counted : l.calls_left.amount ≡ sum_by (λ s. s.count) l.yielded;
  picked : l.picked_left.amount ≡ sum_by (λ s. s.picked) l.yielded;
}
