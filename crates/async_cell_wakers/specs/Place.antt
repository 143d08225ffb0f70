-- The places of futures in a wait list.
use Rattle.std.specs.Prelude.{◌≡◌, ◌≢◌, ◌<◌, ◌⊎◌, ℕ, true, List, length, slice_get, slice_set, Option, Some, None, IsSomeAnd, Result, Ok, Err}
use Rattle.futures.specs.Task.{Wakes}
use Rattle.futures.specs.declared.task.context.Context.{Context}
use Rattle.futures.specs.declared.task.waker.Waker.{Waker}
use Rattle.async_cell_wakers.specs.WaitList.{ListState}
use Rattle.async_cell_wakers.specs.declared.place.Place.{Place}

-- the place is one of this list: it was taken in this round, and the list has a waker there
abbrev pub Holds : {W : Type 0} → ListState W → Place → Type 0
Holds list place = (place.round ≡ list.round) × (place.index < length list.wakers)

-- each place of the first list is one of an earlier round than the second: it is given up
abbrev pub GivesUpPlaces : {W : Type 0} → ListState W → ListState W → Type 0
GivesUpPlaces old new = (place : Place) → Holds old place → place.round ≢ new.round

-- the waker that was in the place before another was stored there; `None` if that one was added
abbrev pub displaced : {W E : Type 0} → Result (Option W) E → Option W
displaced (Ok before) = before
displaced (Err back) = None

-- `before` was at this index, `after` is there now, and elsewhere the list is as it was
pub record Swaps {W : Type 0} (old : List W) (index : ℕ) (before after : W) (new : List W)
    : Type 0 where
  pub was : slice_get old index ≡ Some before
  pub becomes : new ≡ slice_set old index after

-- the waker is one of the context's task, or there was no memory for a waker
abbrev pub IsOfTask : Context → Context → Option Waker → Type 0
IsOfTask old new waker = (new.lacks_waker ≡ true) ⊎ IsSomeAnd waker (λ w. Wakes w old)

-- at this index there is now a waker of the context's task, and elsewhere the list is as it was
abbrev pub Renews : List (Option Waker) → ℕ → Context → Context → List (Option Waker) → Type 0
Renews old index cx_old cx_new new = (before after : Option Waker)
    × Swaps old index before after new × IsOfTask cx_old cx_new after
