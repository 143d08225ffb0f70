-- Which cell an owner with the cell's calls is of.
use Rattle.async_cell_unsync.specs.Names.{cell_of}
use Rattle.async_cell_unsync.specs.declared.async_cell.AsyncCell.{AsyncCell}
use Rattle.async_cell_unsync.specs.declared.owner.Owner.{Owner}

module _ {T N : Type 0} where
  -- the cell of such an owner
  abbrev pub cell_owned : Owner T N → AsyncCell T N
  cell_owned owner = cell_of owner.shared
