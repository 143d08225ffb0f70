use Rattle.async_cell_recorded.proofs.Words.{◌≡◌, ◌≤◌, ◌+◌, vec_len, vec_capacity, new_shares}
use Rattle.async_cell_recorded.proofs.journal.Books.open.Given as goal

-- a part of each ledger is left for each share that is still to be made
abbrev pub invariant-loop-number : goal.invariant-loop-number
invariant-loop-number g l = record {
  calls : l.calls_left.parts + l.number ≡ l.shares;
  calls_none : l.calls_left.amount ≡ 0;
  picked : l.picked_left.parts + l.number ≡ l.shares;
  picked_none : l.picked_left.amount ≡ 0;
  new_shares : l.made.items ≡ new_shares l.number;
  made : vec_len l.made ≡ l.number;
  room : l.shares ≤ vec_capacity l.made;
}
