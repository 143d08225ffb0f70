-- Whose waker waits, when a poll is pending.
use Rattle.std.specs.Prelude.{◌≡◌, ◌⊎◌, ℕ, true, List, slice_get, Option, Some}
use Rattle.futures.specs.Task.{Wakes}
use Rattle.futures.specs.declared.task.context.Context.{Context}
use Rattle.futures.specs.declared.task.waker.Waker.{Waker}

-- a waker of the context's task is at this index of the list
abbrev pub Seats : List (Option Waker) → ℕ → Context → Type 0
Seats waiting index cx = (waker : Waker)
    × (slice_get waiting index ≡ Some (Some waker)) × Wakes waker cx

-- the task is polled again, whatever wakes it: this was asked for, or there was no memory for a
-- waker
abbrev pub IsPolledAgain : Context → Type 0
IsPolledAgain cx = (cx.is_woken ≡ true) ⊎ (cx.lacks_waker ≡ true)

-- The task is polled again in any case, or its waker waits at this index of some core. `waiting`
-- gives the wakers of a core, and nothing but a core's calls can make a core.
abbrev pub WaitsAt : {C : Type 0} → (C → List (Option Waker)) → ℕ → Context → Context → Type 0
WaitsAt {C} waiting index old new = IsPolledAgain new ⊎ ((core : C) × Seats (waiting core) index old)

-- the same at some index
abbrev pub Waits : {C : Type 0} → (C → List (Option Waker)) → Context → Context → Type 0
Waits waiting old new = (index : ℕ) × WaitsAt waiting index old new
