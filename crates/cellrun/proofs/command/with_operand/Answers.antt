use Rattle.cellrun.proofs.Words.{Spells}
use Rattle.cellrun.proofs.Reading.{none_of}
use Rattle.cellrun.proofs.command.with_operand.Goals as goal

pub returns-clause-refused : goal.returns-clause-refused
returns-clause-refused c =
    none_of (Spells c.args.line.now) c.in_default.ensures.none c.in_default-value_after.ensures.none c.in_default-value_after-2.ensures.none
    c.in_default-value_after-3.ensures.none c.in_default-value_after-4.ensures.none c.in_default-waker_after.ensures.none c.in_default-waker_after-2.ensures.none
