use Rattle.std.proofs.Common.{sym}
use Rattle.example_theorems.proofs.writer.put.Goals as goal

pub returns : goal.returns
returns g c =
    let told = c.in_ok-update_as.ensures.linearized in
    let returned = told.3.1 in
    record { put = (told.0, (returned.0, (rw (sym returned.1.0) told.2, returned.1.1.0))) }
