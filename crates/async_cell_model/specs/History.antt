-- Histories: the cell, the wait list and the room after one. Each can be read off the history.
use Rattle.std.specs.Prelude.{◌≡◌, ◌⊎◌, ◌-◌, ℕ, Bool, true, false, ◌||◌, List, [], ◌∷◌, ◌++◌, Contains, length, filter_map, if◌then◌else◌}
use Rattle.async_cell_model.specs.declared.cell.Cell.{Cell}
use Rattle.async_cell_model.specs.declared.entry.Entry.{Entry}
use Rattle.async_cell_model.specs.Machine.{State, next, ends_waiting, pending_waker, wait_list, skips}

module _ {W : Type 0} (will_wake : W → W → Bool) where
  -- w waits, or some waiting waker would wake it
  abbrev pub IsCovered : List W → W → Type 0
  IsCovered waiting w = Contains waiting w ⊎ (skips will_wake waiting w ≡ true)

-- the calls on a cell, in order, each with its reply
abbrev pub History : Type 0 → Type 0 → Type 0
History T W = List (Entry T W)

module _ {T W : Type 0} where
  -- the cell after a history
  abbrev pub cell_after : Cell T → History T W → Cell T
  cell_after c [] = c
  cell_after c (e ∷ h) = cell_after (next c e) h

  -- whether some entry is a fill or a close
  abbrev pub has_fill_or_close : Cell T → History T W → Bool
  has_fill_or_close c [] = false
  has_fill_or_close c (e ∷ h) = ends_waiting c (next c e) || has_fill_or_close (next c e) h

  -- the entries after the last fill or close: all entries if there is none
  abbrev pub since : Cell T → History T W → History T W
  since c [] = []
  since c (e ∷ h) = if has_fill_or_close c (e ∷ h) then since (next c e) h else e ∷ h

  -- The wakers of the polls that returned `Pending` since the last fill or close, in order. If
  -- there was none, the wakers that waited in the start state come first.
  abbrev pub registrations : State T W → History T W → List W
  registrations b h =
      (if has_fill_or_close b.cell h then [] else b.waiting)
      ++ filter_map pending_waker (since b.cell h)

module _ {T W : Type 0} (will_wake : W → W → Bool) where
  -- the wait list after a history
  abbrev pub waiting : State T W → History T W → List W
  waiting b h = wait_list will_wake (registrations b h)

  -- The room after a history. Each waker that was added uses up one place; a fill or a close leaves
  -- no room.
  abbrev pub room : State T W → History T W → ℕ
  room b h =
      if has_fill_or_close b.cell h then 0
      else b.room - (length (waiting b h) - length b.waiting)

  -- the state after a history: the start state of whatever follows
  abbrev pub after : State T W → History T W → State T W
  after b h = record { cell = cell_after b.cell h; waiting = waiting b h; room = room b h }
