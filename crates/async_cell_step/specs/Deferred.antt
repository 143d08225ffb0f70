-- What a core hands out.
use Rattle.std.specs.Prelude.{List, [], Option, Some, None}

-- all wakers that a call handed out, if it handed out any
abbrev pub all_of : {W : Type 0} → Option (List W) → List W
all_of None = []
all_of (Some woken) = woken
