-- What futures over a weak pointer give.
use Rattle.std.specs.Prelude.{◌≡◌, Option, Result, Err, IfOk, IfSome}
use Rattle.async_cell_model.specs.Refusal.{FailsWithMemory}
use Rattle.async_cell_model.specs.declared.refusal.Refusal.{Refusal}
use Rattle.async_cell_model.specs.declared.refusal.Refusal.TheVariants.{Memory}
use Rattle.async_cell_unsync.specs.Names.{IsLost}
use Rattle.async_cell_unsync.specs.declared.weak.Weak.{Weak}

module _ {T N : Type 0} where
  -- what a future over a weak pointer may give: a value of which `holds` is known, or nothing
  abbrev pub GivesWeakly : (T → Type 0) → Weak T N → Result (Option T) Refusal → Type 0
  GivesWeakly holds weak answer = FailsWithMemory answer × (IsLost weak → answer ≡ Err Memory)
      × IfOk answer (λ found. IfSome found holds)
