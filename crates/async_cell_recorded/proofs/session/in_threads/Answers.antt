use Rattle.async_cell_recorded.proofs.Words.{◌≡◌, ◌<◌, length, rules, ap, sym, ◌∙◌, subst, Seat, ShareState, HasEnded}
use Rattle.async_cell_recorded.proofs.Counted.{same_numbers}
use Rattle.async_cell_recorded.proofs.session.in_threads.Goals as goal

pub returns-clause-ended : goal.returns-clause-ended
returns-clause-ended g c = λ k d below.
    let inside : k < length c.args.seats.now = search rules in
    let one = (c.for_each_mut.ensures k d inside).1 in
    let made : HasEnded g.S.Session.describes one.after_call.now = let call = one.call in search rules in
    subst (λ seat. HasEnded g.S.Session.describes seat) one.left made

pub returns-clause-numbers : goal.returns-clause-numbers
returns-clause-numbers g c =
    let len : length c.for_each_mut.new.s ≡ length c.args.seats.now = search rules in
    same_numbers c.args.seats.now c.for_each_mut.new.s len (λ k d below.
    let one = (c.for_each_mut.ensures k d below).1 in
    let made : one.after_call.now.share.number ≡ one.argument.now.share.number = let call = one.call in search rules in
    ap (λ (s : Seat ShareState g.row.O.Denot). s.share.number) (sym one.left) ∙ (made ∙ ap (λ (s : Seat ShareState g.row.O.Denot). s.share.number) one.argument_is))
