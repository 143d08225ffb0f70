use Rattle.async_cell_latest.proofs.latest.Latest.modify.Goals as goal

pub returns-clause-called : goal.returns-clause-called
returns-clause-called g c =
    let view = c.self.view_is in
    record { shown = _; shows = cc; left = _; met = c.change-answer.ensures; leaves = cc }
