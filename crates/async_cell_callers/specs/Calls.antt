-- Any calls of others on a state.
use Rattle.std.specs.Prelude.{ℕ, true, List}
use Rattle.async_cell_wakers.specs.declared.named.Named.{Named}
use Rattle.async_cell_wakers.specs.Named.{same_name}
use Rattle.async_cell_latest.specs.State.{State}
use Rattle.async_cell_latest.specs.History.{History, Runs}

-- some calls led from the one state to the other
abbrev pub AreCalls : State ℕ Named → State ℕ Named → Type 0
AreCalls s t = (h : History ℕ Named) × (woken : List (List Named)) × Runs same_name true s h woken t
