use Rattle.async_cell_recorded.proofs.Words.{◌≡◌, ◌≤◌, ◌+◌, length, map, vec_len, vec_capacity, All, AllZip, into_iter_items, into_iter_len, HasEnded}
use Rattle.async_cell_recorded.proofs.session.part.Given as goal

-- an outcome and a share for each seat that was parted, and room for the others
abbrev pub invariant-loop-seat : goal.invariant-loop-seat
invariant-loop-seat g l = record {
  outcomes : vec_len l.outcomes ≡ length l.yielded;
  made : vec_len l.shares ≡ length l.yielded;
  shares : l.shares.items ≡ map (λ seat. seat.share) l.yielded;
  room_outcomes : vec_len l.outcomes + into_iter_len l.seat-iterator ≤ vec_capacity l.outcomes;
  room_shares : vec_len l.shares + into_iter_len l.seat-iterator ≤ vec_capacity l.shares;
  ended : All (HasEnded g.S.Session.describes) (into_iter_items l.seat-iterator);
  described : AllZip g.S.Session.describes l.outcomes.items l.shares.items;
  left : length l.yielded + into_iter_len l.seat-iterator ≡ vec_len l.fn.seats;
}
