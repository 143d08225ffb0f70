use Rattle.cellrun.proofs.Words.{bytes_left, output_contents}
use Rattle.cellrun.proofs.Written.{IsPrinted}
use Rattle.cellrun.proofs.script.step_all.Given as goal

-- line `number` is the next, and the results of those before it are in `out`
abbrev pub invariant-loop-number : goal.invariant-loop-number
invariant-loop-number g l =
    IsPrinted (bytes_left l.fn.lines) (bytes_left l.lines) l.number l.session.core
    (output_contents g.W.Write.contents l.fn.out) (output_contents g.W.Write.contents l.out)
