-- When a name wakes another.
use Rattle.std.specs.Prelude.{Bool, nat_eq}
use Rattle.async_cell_wakers.specs.declared.named.Named.{Named}

-- whether two names are the same, which is when one wakes the other
abbrev pub same_name : Named → Named → Bool
same_name a b = nat_eq a.0 b.0
