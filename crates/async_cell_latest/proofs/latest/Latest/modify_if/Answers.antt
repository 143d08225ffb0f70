use Rattle.async_cell_latest.proofs.latest.Latest.modify_if.Goals as goal

pub returns-then-change-clause-called : goal.returns-then-change-clause-called
returns-then-change-clause-called g c =
    let view = c.self.view_is in
    record { shown = _; shows = cc; left = _; met = rw c.if-change.true at c.change.ensures; leaves = cc }

pub returns-clause-called : goal.returns-clause-called
returns-clause-called g c =
    let view = c.self.view_is in
    record { shown = _; shows = cc; left = _; met = rw c.if-change.false at c.change.ensures; leaves = cc }
