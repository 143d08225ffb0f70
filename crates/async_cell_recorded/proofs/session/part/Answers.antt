use Rattle.async_cell_recorded.proofs.Words.{arith, length-append, map-append, All-head, All-tail, HasEnded, all_zipped_more}
use Rattle.async_cell_recorded.proofs.session.part.Goals as goal

pub loop-seat-preserved : goal.loop-seat-preserved
loop-seat-preserved g c =
    let kept = c.loop-seat.invariant in
    let taken = c.in-Some.ensures.steps in
    let first = c.push_reserved.ensures in
    let second = c.push_reserved-in-loop-seat.ensures in
    let ended = rw taken.0 at kept.ended in
    let one = rw c.in-Some-outcome.is at (All-head (HasEnded g.S.Session.describes) _ _ ended).given in
    record {
      outcomes = simp length-append (omega (arith, first.len, kept.outcomes));
      made = simp length-append (omega (arith, second.len, kept.made));
      shares = simp (second.items, kept.shares, map-append);
      room_outcomes = omega (arith, first.len, first.capacity, kept.room_outcomes, taken.1);
      room_shares = omega (arith, second.len, second.capacity, kept.room_shares, taken.1);
      ended = All-tail (HasEnded g.S.Session.describes) _ _ ended;
      described = rw (first.items, second.items) (all_zipped_more g.S.Session.describes _ _ _ _ kept.described one);
      left = simp length-append (omega (arith, kept.left, taken.1));
    }
