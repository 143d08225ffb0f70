-- The source that the tasks waiting on a cell register with.
use Rattle.std.specs.Prelude.{◌≡◌, ℕ, IsSomeAnd}
use Rattle.async_cell_unsync.specs.declared.async_cell.AsyncCell.{AsyncCell}
use Rattle.async_cell_unsync.specs.declared.weak.Weak.{Weak}

module _ {T N : Type 0} where
  -- the id of the source of a cell
  abbrev pub source_of : AsyncCell T N → ℕ
  source_of cell = cell.source.id

  -- s is the source of the cell that a weak pointer points to
  abbrev pub IsSourceOf : Weak T N → ℕ → Type 0
  IsSourceOf weak s = IsSomeAnd weak.cell (λ pointer. s ≡ source_of pointer.value)
