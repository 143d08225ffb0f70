use Rattle.cellrun.proofs.Words.{arith, take_all, digit_at, digit_value_digit, digits_more, digits_value_more, digits_value-take-le, ◌+◌}
use Rattle.cellrun.proofs.command.digits.Goals as goal

pub returns-then-not-is_ascii_digit : goal.returns-then-not-is_ascii_digit
returns-then-not-is_ascii_digit c = λ is. grind (arith, digit_at c.args.text.now c.loop-byte.byte-index is.0.1)

-- the number so far and one digit more are no more than all digits write
pub returns-in_err-checked_mul : goal.returns-in_err-checked_mul
returns-in_err-checked_mul c =
    rw c.from_residual.ensures (λ is. grind (arith, digit_value_digit, digits_value_more, digits_value-take-le 10 c.args.text.now (c.loop-byte.byte-index + 1), is.1))

pub returns-in_err-number : goal.returns-in_err-number
returns-in_err-number c =
    rw c.from_residual-in_err-number.ensures (λ is. grind (arith, digit_value_digit, digits_value_more, digits_value-take-le 10 c.args.text.now (c.loop-byte.byte-index + 1), is.1))

pub loop-byte-preserved : goal.loop-byte-preserved
loop-byte-preserved c = grind (arith, digit_value_digit, digits_more, digits_value_more)

pub returns : goal.returns
returns c = grind (arith, take_all)
