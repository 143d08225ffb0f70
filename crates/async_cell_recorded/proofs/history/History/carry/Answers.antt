use Rattle.async_cell_recorded.proofs.Words.{◌≡◌, arith, ap, sym, ◌∙◌, length, length-append, into_iter_len, map-id, YieldsList-from_vec, YieldsList-end, PlainRecording, Recording, with_one_share}
use Rattle.async_cell_recorded.proofs.Words.{without_shares}
use Rattle.async_cell_recorded.proofs.PlainHistories.{one_more, carried_is, same_calls}
use Rattle.async_cell_recorded.proofs.history.History.carry.Goals as goal

pub loop-plain-preserved : goal.loop-plain-preserved
loop-plain-preserved g c =
    let kept = c.loop-plain.invariant in
    let taken = c.in-Some.ensures.steps in
    let pushed = c.push_reserved.ensures in
    record {
      carried = rw (pushed.items, kept.carried) (sym (one_more 0 c.loop-plain.serial c.loop-plain.yielded c.in-Some.plain (omega (arith, kept.serial))));
      made = simp length-append (omega (arith, pushed.len, kept.made));
      serial = simp length-append (omega (arith, kept.serial));
      room = omega (arith, pushed.len, pushed.capacity, kept.room, taken.1);
    }

pub returns-clause-entries : goal.returns-clause-entries
returns-clause-entries g c =
    let gives = c.into_iter-plain-iterator.ensures.into_iter_gives in
    let len : into_iter_len c.into_iter-plain-iterator.result ≡ length c.old.inside.entries.items = omega (arith, gives.1, c.old.inside.entries.ok) in
    let end = YieldsList-end (YieldsList-from_vec c.old.inside.entries.items gives.0 len) c.loop-plain.yielded c.loop-plain.plain-iterator c.loop-plain.yielded_by
    c.next.result c.next.new.self c.in-None.is c.next.ensures.steps in
    let all : c.loop-plain.yielded ≡ c.old.inside.entries.items = sym (map-id c.loop-plain.yielded) ∙ end.0 in
    rw (c.loop-plain.invariant.carried, all) (ap (λ (p : PlainRecording g.row.T.Denot). with_one_share p) c.old.view_is)

pub invariant_of-result : goal.invariant_of-result
invariant_of-result g c = rw (returns-clause-entries g c) (carried_is c.args.old (rw c.old.view_is at c.old.invariant))

pub returns-clause-recorded : goal.returns-clause-recorded
returns-clause-recorded g c = invariant_of-result g c

pub returns-clause-plain : goal.returns-clause-plain
returns-clause-plain g c = ap (λ (r : Recording g.row.T.Denot). without_shares r) (returns-clause-entries g c) ∙ simp same_calls
