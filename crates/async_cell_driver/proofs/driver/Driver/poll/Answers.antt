use Rattle.async_cell_driver.proofs.Words.{mark_after, DriverState, change, with_mark, Drives, line_of, told_of, Poll, [], subst, ◌∷◌}
use Rattle.async_cell_driver.proofs.{Logs.not_polled, CoreCalls.covered_polled, CoreCalls.poll_drives, CoreCalls.ready_no_more}
use Rattle.async_cell_driver.proofs.driver.Driver.poll.Goals as goal

pub returns-in_default-clause-drives : goal.returns-in_default-clause-drives
returns-in_default-clause-drives g c =
    let at : DriverState g.row.T.Denot = record { core = c.self.inside.core; tasks = c.self.inside.tasks } in
    let not_ready = rw c.in_default.is at c.ready.ensures.not_ready in
    rw (← c.self.view_is) (not_polled at c.args.i g.T.Clone.is_clone c.soundness.ensures c.self.invariant not_ready)

pub invariant_of-self : goal.invariant_of-self
invariant_of-self g c =
    let ready = rw c.in-Some.is at c.ready.ensures.kind in
    rw (c.set_mark.ensures, c.mark_after.ensures)
    (covered_polled (record { core = c.self.inside.core; tasks = c.self.inside.tasks }) c.ask-asked.new.core c.args.i c.ask-asked.result
    c.self.invariant ready.1 c.ask-asked.ensures.refused c.ask-asked.ensures.waiting)

pub returns-clause-drives : goal.returns-clause-drives
returns-clause-drives g c =
    let at : DriverState g.row.T.Denot = record { core = c.self.inside.core; tasks = c.self.inside.tasks } in
    let asked = c.ask-asked.ensures in
    let ready = rw c.in-Some.is at c.ready.ensures.kind in
    let E = g.T.Clone.is_clone in
    let drives = poll_drives E at c.ask-asked.new.core c.args.i c.in-Some.kind c.ask-asked.result
    c.soundness-2.ensures c.self.invariant ready.0 ready.1 asked.model asked.refused asked.waiting in
    let tasks = change (with_mark (mark_after c.ask-asked.result)) c.args.i at.tasks in
    rw (c.set_mark.ensures, c.mark_after.ensures)
    (subst (λ (s : DriverState g.row.T.Denot). Drives E s (line_of s (Poll c.args.i) (told_of c.ask-asked.result) ∷ []) (record { core = c.ask-asked.new.core; tasks = tasks }))
    c.self.view_is drives)

pub returns-clause-ready_no_more : goal.returns-clause-ready_no_more
returns-clause-ready_no_more g c =
    let ready = rw c.in-Some.is at c.ready.ensures.kind in
    rw (c.set_mark.ensures, c.mark_after.ensures) (ready_no_more c.ask-asked.new.core c.args.i c.ask-asked.result c.self.inside.tasks ready.1)
