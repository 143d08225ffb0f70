-- Which cell a pointer points to.
use Rattle.std.specs.Prelude.{◌≡◌, None, IfSome, IsSomeAnd, MatchOption}
use Rattle.std.specs.Rc.{rc_value}
use Rattle.async_cell_unsync.specs.declared.async_cell.AsyncCell.{AsyncCell}
use Rattle.async_cell_unsync.specs.declared.shared.Shared.{Shared}
use Rattle.async_cell_unsync.specs.declared.weak.Weak.{Weak}

module _ {T N : Type 0} where
  -- the cell of an owner
  abbrev pub cell_of : Shared T N → AsyncCell T N
  cell_of owner = rc_value owner.cell

  -- the weak pointer points to this cell
  abbrev pub Names : Weak T N → AsyncCell T N → Type 0
  Names weak cell = IsSomeAnd weak.cell (λ pointer. rc_value pointer ≡ cell)

  -- the weak pointer points to this cell, or to none because it could not be counted when it was
  -- made
  abbrev pub NamesAtMost : Weak T N → AsyncCell T N → Type 0
  NamesAtMost weak cell = IfSome weak.cell (λ pointer. rc_value pointer ≡ cell)

  -- the second weak pointer points to what the first one points to
  abbrev pub NameTheSame : Weak T N → Weak T N → Type 0
  NameTheSame weak copy =
      MatchOption weak.cell (copy.cell ≡ None) (λ pointer. Names copy (rc_value pointer))

  -- the second weak pointer points to what the first one points to, or to none because it could
  -- not be counted when it was made
  abbrev pub NameAtMostTheSame : Weak T N → Weak T N → Type 0
  NameAtMostTheSame weak copy =
      MatchOption weak.cell (copy.cell ≡ None) (λ pointer. NamesAtMost copy (rc_value pointer))

  -- the owner is of the cell that the weak pointer points to
  abbrev pub OwnsNamed : Weak T N → Shared T N → Type 0
  OwnsNamed weak owner = Names weak (cell_of owner)

  -- the pointer could not be counted when the weak pointer was made
  abbrev pub IsLost : Weak T N → Type 0
  IsLost weak = weak.cell ≡ None
