use Rattle.async_cell_latest_sync.proofs.cell.calls.LatestCore.look.Goals as goal

pub returns-clause-called : goal.returns-clause-called
returns-clause-called g c =
    let view = c.self.view_is in
    (_, c.look.ensures, cc)
