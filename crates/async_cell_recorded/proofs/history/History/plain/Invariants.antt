use Rattle.async_cell_recorded.proofs.Words.{◌≡◌, ◌≤◌, length, map, take, vec_len, vec_capacity, plain_entry}
use Rattle.async_cell_recorded.proofs.history.History.plain.Given as goal

-- the entries so far, and room for the others
abbrev pub invariant-loop-entry : goal.invariant-loop-entry
invariant-loop-entry g l = record {
  copied : l.entries.items ≡ map plain_entry (take l.entry-index l.all);
  made : vec_len l.entries ≡ l.entry-index;
  room : length l.all ≤ vec_capacity l.entries;
}
