-- Polls that have to wait: which need no memory, and what a refused one leaves.
use Rattle.std.specs.Prelude.{◌≡◌, ◌<◌, ◌≤◌, ◌⊎◌, true, []}
use Rattle.async_cell_model.specs.Machine.{State, skips}
use Rattle.async_cell_core.specs.IsStep.{WakerRules}

module _ {T W : Type 0} where
  -- A poll by w that has to wait needs no memory: w is skipped, or its clone cannot fail and w is
  -- the first to wait or finds room.
  abbrev pub NeedsNoMemory : WakerRules W → State T W → W → Type 0
  NeedsNoMemory rules at w =
      (skips rules.will_wake at.waiting w ≡ true)
      ⊎ (rules.is_infallible w × ((at.waiting ≡ []) ⊎ (0 < at.room)))

  -- the cell and the wait list stay, and there is no less room
  pub record OnlyRoomGrows (old new : State T W) : Type 0 where
    pub cell : new.cell ≡ old.cell
    pub waiting : new.waiting ≡ old.waiting
    pub room : old.room ≤ new.room
