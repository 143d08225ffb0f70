use Rattle.async_cell_recorded.proofs.Words.{◌≡◌, ◌≤◌, ◌++◌, List, arith, length, take, drop, refl, take-append-le, take_at, All-map, All-same, All-take, new_shares, Seat, ShareState, HasEnded, IsNew}
use Rattle.async_cell_recorded.proofs.Counted.{new_shares_unused, numbers_of_new, seat_of}
use Rattle.async_cell_recorded.proofs.session.run_marked.Goals as goal

pub in_threads-requires-clause-new : goal.in_threads-requires-clause-new
in_threads-requires-clause-new g c lifetimes outlived =
    All-same (λ (s : Seat ShareState g.row.O.Denot). IsNew s.share) c.deref_mut.result.now c.in_ok-seats.seats.items c.deref_mut.ensures.value
    (rw (c.in_ok-seats.ensures.shares, c.in_ok-cell.ensures.new_shares)
    (All-map (λ (s : Seat ShareState g.row.O.Denot). IsNew s.share) seat_of (new_shares c.args.shares) (new_shares_unused c.args.shares)))

pub part-requires-clause-ended : goal.part-requires-clause-ended
part-requires-clause-ended g c =
    let within : c.in_ok-seats.seats.len ≤ length c.in_threads.new.seats = omega (arith, c.in_threads.ensures.one_each, c.deref_mut.ensures.len) in
    rw (take-append-le c.in_ok-seats.seats.len c.in_threads.new.seats _ within) (All-take (HasEnded g.S.Session.describes) c.in_ok-seats.seats.len c.in_threads.new.seats c.in_threads.ensures.ended)

pub returns-in-Ok-clause-one_each : goal.returns-in-Ok-clause-one_each
returns-in-Ok-clause-one_each g c = omega (arith, c.part.ensures.outcomes, c.part.ensures.one_each, c.in-Ok.ensures.all.0 refl, c.requires.shares)

pub returns-in-Ok-clause-outcomes : goal.returns-in-Ok-clause-outcomes
returns-in-Ok-clause-outcomes g c =
    let parted : List (Seat ShareState g.row.O.Denot) = take c.in_ok-seats.seats.len (c.in_threads.new.seats ++ drop (length c.in_threads.new.seats) c.in_ok-seats.seats.items) in
    let all : parted ≡ c.in_threads.new.seats = take_at c.in_threads.new.seats _ c.in_ok-seats.seats.len (omega (arith, c.in_threads.ensures.one_each, c.deref_mut.ensures.len)) in
    record {
      shares = c.part.new.shares.items;
      numbered = rw (c.part.ensures.shares, all, c.in_threads.ensures.numbers, c.deref_mut.ensures.value, c.in_ok-seats.ensures.shares, c.in_ok-cell.ensures.new_shares)
          (numbers_of_new g.row.O.Denot c.args.shares);
      described = c.part.ensures.described;
      counted = c.in-Ok.ensures.counted;
      picked_is = rw (← c.requires.pick) c.in-Ok.ensures.picked;
    }
