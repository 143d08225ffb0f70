use Rattle.std.proofs.Common.{◌≡◌, true, false, arith, refl, sym, subst}
use Rattle.std.proofs.lemmas.Bool.Decides.{nat_tests}
use Rattle.async_cell_model.specs.History.{IsCovered}
use Rattle.async_cell_latest.specs.State.{is_closed, is_waited_for}
use Rattle.async_cell_wakers.specs.Named.{same_name}
use Rattle.futures.specs.declared.task.Poll.TheVariants as poll
use Rattle.async_cell_callers.proofs.StillWaits.{still_waits}
use Rattle.async_cell_callers.proofs.follower.write_after_others.Goals as goal

-- the write hands out all that wait, and the follower's waker still does, or one that would wake it
pub returns-in-Ok-clause-woken : goal.returns-in-Ok-clause-woken
returns-in-Ok-clause-woken g c =
    let s = c.poll_changed.new.self in
    let t = c.others.new.arg2 in
    let calls = c.requires.calls s t (record { shown = _; shows = refl; left = _; met = c.others.ensures; leaves = refl }) in
    let pending : c.in_ok-poll_changed.field-0 ≡ poll.Pending = grind arith in
    let polled = rw pending at c.in_ok-poll_changed.ensures.model in
    let waited : is_waited_for t c.args.seen ≡ true = grind arith in
    let same : t.version ≡ s.version = grind (arith, nat_tests) in
    let is_open : is_closed t ≡ false = grind (arith, nat_tests) in
    let still =
    still_waits same_name true (c.two_histories_are_one.ensures same_name true) (c.no_waiting_follower_is_forgotten.ensures.covered same_name true) c.args.latest.now s t c.args.seen
    c.args.name.now calls.0 calls.1 polled calls.2 same is_open
    in
    subst (λ ws. IsCovered same_name ws c.args.name.now) (sym c.in-Ok.ensures.hands_out_all) still
