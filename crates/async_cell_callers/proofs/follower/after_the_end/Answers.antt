use Rattle.std.proofs.Common.{refl, ◌∙◌}
use Rattle.async_cell_wakers.specs.Named.{same_name}
use Rattle.async_cell_callers.proofs.follower.after_the_end.Goals as goal

-- the state after a history of others is the closed one
pub returns : goal.returns
returns g c =
    let calls = c.requires.calls c.args.latest.now c.others.new.arg2 (record { shown = _; shows = refl; left = _; met = c.others.ensures; leaves = refl }) in
    let stays = c.the_last_state_stays.ensures same_name c.args.latest.now calls.0 c.requires.closed in
    let left = calls.2.stays in
    record { stays = (left.0 ∙ stays.0, left.1 ∙ stays.1, left.2 ∙ stays.2) }
