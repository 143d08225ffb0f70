use Rattle.std.specs.Prelude.{◌≤◌, Some, ⊤}
use Rattle.async_cell_latest_sync.specs.InOrder.{FollowsLast}
use Rattle.example_theorems.proofs.versions.follow.Given as goal

-- the state is that of this list, whose versions never fall
abbrev pub ghosts-follow_named : goal.ghosts-follow_named
ghosts-follow_named g a = record { named = Some a.blank; may = FollowsLast (λ old new. old ≤ new); holds = λ _. ⊤; keeps = λ _ _ _. tt }
