use Rattle.cellrun.proofs.Words.{arith}
use Rattle.cellrun.proofs.command.parse.Goals as goal

pub returns-clause-refused : goal.returns-clause-refused
returns-clause-refused c = grind (arith, c.in_default.ensures.refused, c.with_operand.ensures.refused)
