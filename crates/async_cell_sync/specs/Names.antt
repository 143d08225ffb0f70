-- Which cell a pointer points to.
use Rattle.std.specs.Prelude.{◌≡◌, None, IfSome, IsSomeAnd, MatchOption}
use Rattle.std.specs.Arc.{arc_value}
use Rattle.async_cell_sync.specs.declared.async_cell.AsyncCell.{AsyncCell}
use Rattle.async_cell_sync.specs.declared.shared.Shared.{Shared}
use Rattle.async_cell_sync.specs.declared.weak.Weak.{Weak}

module _ {T N : Type 0} where
  -- the cell of an owner
  abbrev pub cell_of : Shared T N → AsyncCell T N
  cell_of owner = arc_value owner.cell

  -- the weak pointer points to this cell
  abbrev pub Names : Weak T N → AsyncCell T N → Type 0
  Names weak cell = IsSomeAnd weak.cell (λ pointer. arc_value pointer ≡ cell)

  -- the weak pointer points to this cell, or is lost
  abbrev pub NamesAtMost : Weak T N → AsyncCell T N → Type 0
  NamesAtMost weak cell = IfSome weak.cell (λ pointer. arc_value pointer ≡ cell)

  -- the second weak pointer points to what the first one points to
  abbrev pub NameTheSame : Weak T N → Weak T N → Type 0
  NameTheSame weak copy =
      MatchOption weak.cell (copy.cell ≡ None) (λ pointer. Names copy (arc_value pointer))

  -- the second weak pointer points to what the first one points to, or is lost
  abbrev pub NameAtMostTheSame : Weak T N → Weak T N → Type 0
  NameAtMostTheSame weak copy =
      MatchOption weak.cell (copy.cell ≡ None) (λ pointer. NamesAtMost copy (arc_value pointer))

  -- the owner is of the cell that the weak pointer points to
  abbrev pub OwnsNamed : Weak T N → Shared T N → Type 0
  OwnsNamed weak owner = Names weak (cell_of owner)

  -- the weak pointer is lost: it could not be counted when it was made, so it points to no cell
  abbrev pub IsLost : Weak T N → Type 0
  IsLost weak = weak.cell ≡ None
