use Rattle.cellrun.proofs.Words.{output_contents, Failed, drop, Keeps-refl}
use Rattle.cellrun.proofs.Written.{err_fails, owes_cut, owes_flushed}
use Rattle.cellrun.proofs.script.run.Goals as goal

pub returns-in_err-ended : goal.returns-in_err-ended
returns-in_err-ended g c =
    let out = c.step_all.new.out in
    err_fails _ _ _ c.from_residual.result c.from_residual.ensures.0
    (owes_cut _ _ (output_contents g.W.Write.contents out) _ (drop out.written out.gathered.items) Failed c.in_err-ended.ensures (Keeps-refl _))

pub returns : goal.returns
returns g c = owes_flushed _ _ _ _ _ _ c.in_ok-ended.ensures c.in_ok-flush.ensures.bytes c.in_ok-flush.ensures.all
