use Rattle.std.proofs.Common.{true, refl}
use Rattle.async_cell_wakers.specs.Named.{same_name}
use Rattle.async_cell_callers.proofs.TwoPolls.{two_rise}
use Rattle.async_cell_callers.proofs.follower.two_polls.Goals as goal

pub returns : goal.returns
returns g c =
    let before = rw c.in_ok-first.ensures.shows at c.poll_changed.ensures.model in
    let then = rw c.in_ok-second.ensures.shows at c.poll_changed-2.ensures.model in
    let calls = c.requires.calls c.poll_changed.new.self c.others.new.arg2 (record { shown = _; shows = refl; left = _; met = c.others.ensures; leaves = refl }) in
    record {
      rise = two_rise same_name true (c.two_histories_are_one.ensures same_name true) (c.the_versions_of_a_follower_rise.ensures same_name true) c.args.latest.now c.poll_changed.new.self
          c.others.new.arg2 c.poll_changed-2.new.self c.args.seen c.in_ok-first.first c.in_ok-second.second c.args.name.now calls.0 calls.1 before calls.2 then c.requires.seen_before;
    }
