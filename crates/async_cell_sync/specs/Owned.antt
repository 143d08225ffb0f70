-- Which cell an owner that keeps its right to wait is of.
use Rattle.async_cell_sync.specs.Names.{cell_of}
use Rattle.async_cell_sync.specs.declared.async_cell.AsyncCell.{AsyncCell}
use Rattle.async_cell_sync.specs.declared.owner.Owner.{Owner}

module _ {T R N : Type 0} where
  -- the cell of such an owner
  abbrev pub cell_owned : Owner T R N → AsyncCell T N
  cell_owned owner = cell_of owner.shared
