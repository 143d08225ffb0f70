use Rattle.cellrun.proofs.Words.{◌≡◌, ◌<◌, ◌^◌, take, AllDigits, digits_value}
use Rattle.cellrun.proofs.command.digits.Given as goal

-- the bytes so far are digits, and write the number
abbrev pub invariant-loop-byte : goal.invariant-loop-byte
invariant-loop-byte l = AllDigits 10 (take l.byte-index l.text) × (l.number ≡ digits_value 10 (take l.byte-index l.text)) × (l.number < 2 ^ 64)
