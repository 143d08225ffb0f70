use Rattle.cellrun.proofs.Words.{arith}
use Rattle.cellrun.proofs.Reading.{kept_next}
use Rattle.cellrun.proofs.lines.Lines.next.Goals as goal

pub returns-in-Some-clause-next : goal.returns-in-Some-clause-next
returns-in-Some-clause-next g c = grind (arith, kept_next)

pub loop-next-smaller : goal.loop-next-smaller
loop-next-smaller g c =
    omega (arith, rw c.in_default.is at c.in_ok-next.ensures.longer, rw c.in_default.is at c.in_ok-next.ensures.fits)
