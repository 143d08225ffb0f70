use Rattle.cellrun.proofs.Words.{IsDigits, None, Some, Decides-eqb, strip_prefix_is, digits_value}
use Rattle.cellrun.proofs.Reading.{read_some}
use Rattle.cellrun.proofs.command.waker_after.Goals as goal

pub returns-in_err-text-clause-none : goal.returns-in_err-text-clause-none
returns-in_err-text-clause-none c =
    rw c.from_residual.ensures (λ it ends. strip_prefix_is Decides-eqb c.args.line.now c.args.words.now None c.in_err-text.ensures.cases (ends.0) (ends.1))

pub returns-clause-some : goal.returns-clause-some
returns-clause-some c =
    let is = strip_prefix_is Decides-eqb c.args.line.now c.args.words.now (Some c.in_ok-text.text) c.in_ok-text.ensures.cases in
    read_some c.args.words.now c.args.line.now c.in_ok-text.text.now IsDigits (digits_value 10) c.digits.result is c.digits.ensures
