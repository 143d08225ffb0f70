use Rattle.cellrun.proofs.Words.{output_contents, Keeps}
use Rattle.cellrun.proofs.output.Output.flush.Given as goal

-- nothing is lost
abbrev pub invariant-loop : goal.invariant-loop
invariant-loop g l = Keeps (output_contents g.W.Write.contents l.initial.self) (output_contents g.W.Write.contents l.self)
