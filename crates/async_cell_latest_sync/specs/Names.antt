-- Which cell an owner or a follower is of.
use Rattle.std.specs.{Arc.arc_value, Prelude.◌≡◌, Prelude.ℕ}
use Rattle.async_cell_latest_sync.specs.declared.{cell.LatestCell.LatestCell, follower.Follower.Follower, owner.Owner.Owner}

module _ {T R N : Type 0} where
  -- the cell of an owner
  abbrev pub cell_owned : Owner T R N → LatestCell T N
  cell_owned owner = arc_value owner.cell

  -- the cell that a follower follows
  abbrev pub cell_followed : Follower T R N → LatestCell T N
  cell_followed follower = arc_value follower.cell

  -- the source that the tasks that wait for it register with
  abbrev pub sources : Follower T R N → ℕ → Type 0
  sources follower s = s ≡ (cell_followed follower).source.id
