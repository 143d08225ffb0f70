use Rattle.async_cell_recorded.proofs.Words.{◌≡◌, ◌≤◌, ◌+◌, length, vec_len, vec_capacity, into_iter_len, of_one_share}
use Rattle.async_cell_recorded.proofs.history.History.carry.Given as goal

-- the entries so far, and room for the others
abbrev pub invariant-loop-plain : goal.invariant-loop-plain
invariant-loop-plain g l = record {
  carried : l.entries.items ≡ of_one_share 0 l.yielded;
  made : vec_len l.entries ≡ length l.yielded;
  serial : l.serial ≡ length l.yielded;
  room : vec_len l.entries + into_iter_len l.plain-iterator ≤ vec_capacity l.entries;
}
