-- Which line is which call.
use Rattle.std.specs.Prelude.{◌≡◌, ℕ, ◌^◌, ◌<◌, List, ◌++◌, drop, Bool, true, false, ℤ, pos, neg_ℤ, codes, FitsSigned, if◌then◌else◌}
use Rattle.std.specs.Int.{w64}
use Rattle.std.specs.Str.Parse.{IsNumeral, digits_value, starts_with_minus}
use Rattle.cellrun.specs.declared.command.Command.{Command}
use Rattle.cellrun.specs.declared.command.Command.TheVariants.{Set, OrSet, Replace, UpdatePut, UpdateNone, UpdateKeep, UpdateSomeAdd, Take, Get, TryTake, TryGet, IsSet, Own, End, Inner, Debug}

-- the text without the minus that it may begin with
abbrev pub without_minus : List ℕ → List ℕ
without_minus text = if starts_with_minus text then drop 1 text else text

-- the number that decimal digits write, below 0 after a minus
abbrev pub number_of : List ℕ → ℤ
number_of text =
    if starts_with_minus text then neg_ℤ (pos (digits_value 10 (without_minus text)))
    else pos (digits_value 10 (without_minus text))

-- one decimal digit or more, after a minus or none, and a number of 64 bits with a sign
abbrev pub IsValue : List ℕ → Type 0
IsValue text = IsNumeral 10 (without_minus text) × FitsSigned w64 (number_of text)

-- one decimal digit or more, and a number of 64 bits
abbrev pub IsDigits : List ℕ → Type 0
IsDigits text = IsNumeral 10 text × (digits_value 10 text < 2 ^ 64)

-- the line is these words and then a value
abbrev pub EndsWithValue : List ℕ → List ℕ → ℤ → Type 0
EndsWithValue words line v =
    (text : List ℕ) × (line ≡ words ++ text) × IsValue text × (v ≡ number_of text)

-- the line is these words and then a waker's name
abbrev pub EndsWithWaker : List ℕ → List ℕ → ℕ → Type 0
EndsWithWaker words line w =
    (text : List ℕ) × (line ≡ words ++ text) × IsDigits text × (w ≡ digits_value 10 text)

-- the line is the call
abbrev pub Spells : List ℕ → Command → Type 0
Spells line (Set v) = EndsWithValue (codes "set ") line v
Spells line (OrSet v) = EndsWithValue (codes "or_set ") line v
Spells line (Replace v) = EndsWithValue (codes "replace ") line v
Spells line (UpdatePut v) = EndsWithValue (codes "update put ") line v
Spells line UpdateNone = line ≡ codes "update none"
Spells line UpdateKeep = line ≡ codes "update keep"
Spells line (UpdateSomeAdd v) = EndsWithValue (codes "update_some add ") line v
Spells line (Take w) = EndsWithWaker (codes "take ") line w
Spells line (Get w) = EndsWithWaker (codes "get ") line w
Spells line TryTake = line ≡ codes "try_take"
Spells line TryGet = line ≡ codes "try_get"
Spells line IsSet = line ≡ codes "is_set"
Spells line Own = line ≡ codes "own"
Spells line End = line ≡ codes "end"
Spells line Inner = line ≡ codes "inner"
Spells line Debug = line ≡ codes "debug"

-- the line is none of the calls
abbrev pub SpellsNone : List ℕ → Type 0
SpellsNone line = (call : Command) → ¬ (Spells line call)

-- the call's line ends with a value or with the name of a waker
abbrev pub has_operand : Command → Bool
has_operand (Set v) = true
has_operand (OrSet v) = true
has_operand (Replace v) = true
has_operand (UpdatePut v) = true
has_operand (UpdateSomeAdd v) = true
has_operand (Take w) = true
has_operand (Get w) = true
has_operand _ = false
