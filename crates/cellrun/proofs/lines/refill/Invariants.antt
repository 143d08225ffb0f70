use Rattle.cellrun.proofs.Words.{reader_remaining, Keeps}
use Rattle.cellrun.proofs.lines.refill.Given as goal

abbrev pub invariant-loop : goal.invariant-loop
invariant-loop g l = Keeps (reader_remaining g.R.Read.remaining l.initial.input) (reader_remaining g.R.Read.remaining l.input)
