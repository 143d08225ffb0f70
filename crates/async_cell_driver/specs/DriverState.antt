-- What contracts see of a driver: its core, and its tasks by number.
use Rattle.std.specs.Prelude.{◌≡◌, ℕ, zero, suc, Bool, true, List, [], ◌∷◌, Option, Some, None, slice_get, map, nat_eq}
use Rattle.std.specs.{List.list_any, Option.option_map}
use Rattle.async_cell_wakers.specs.declared.named.Named.{Named}
use Rattle.async_cell_model.specs.Machine.{State}
use Rattle.async_cell_driver.specs.declared.{event.Kind.Kind, tasks.Mark.Mark, tasks.Mark.TheVariants.Waiting, tasks.Task.Task}
use Rattle.async_cell_driver.specs.Mark.{woken}

pub record DriverState (T : Type 0) : Type 0 where
  pub core : State T Named
  pub tasks : List (Task T)

-- the name that task i polls with
abbrev pub name_of : ℕ → Named
name_of i = record { 0 = i }

-- whether the name of task i is in this list
abbrev pub is_named : ℕ → List Named → Bool
is_named i names = list_any (λ name. nat_eq name.0 i) names

-- the mark of task i, if it was started
abbrev pub mark_at : {T : Type 0} → List (Task T) → ℕ → Option Mark
mark_at tasks i = option_map (λ t. t.mark) (slice_get tasks i)

-- the kind of task i, if it was started
abbrev pub kind_at : {T : Type 0} → List (Task T) → ℕ → Option Kind
kind_at tasks i = slice_get (map (λ t. t.kind) tasks) i

abbrev pub result_of : {T : Type 0} → Option (Task T) → Option (Option T)
result_of None = None
result_of (Some task) = task.result

-- what `settle` got for task i, until `result` returns it
abbrev pub result_at : {T : Type 0} → List (Task T) → ℕ → Option (Option T)
result_at tasks i = result_of (slice_get tasks i)

module _ {T : Type 0} where
  -- the tasks after this change to task i
  abbrev pub change : (Task T → Task T) → ℕ → List (Task T) → List (Task T)
  change f i [] = []
  change f zero (task ∷ tasks) = f task ∷ tasks
  change f (suc i) (task ∷ tasks) = task ∷ change f i tasks

  abbrev pub with_mark : Mark → Task T → Task T
  with_mark mark task = record task { mark = mark }

  abbrev pub with_result : Option (Option T) → Task T → Task T
  with_result result task = record task { result = result }

  -- a task after its name is woken
  abbrev pub wake : Task T → Task T
  wake task = record task { mark = woken task.mark }

  -- the tasks after those with these names are woken
  abbrev pub wake_each : List Named → List (Task T) → List (Task T)
  wake_each [] tasks = tasks
  wake_each (name ∷ names) tasks = wake_each names (change wake name.0 tasks)

  -- the name of each task that waits and was not woken is in the wait list
  abbrev pub AllNamed : DriverState T → Type 0
  AllNamed at = (i : ℕ) → mark_at at.tasks i ≡ Some Waiting → is_named i at.core.waiting ≡ true

  -- each name in the wait list is that of a task that waits and was not woken
  abbrev pub AllWaiting : DriverState T → Type 0
  AllWaiting at = (i : ℕ) → is_named i at.core.waiting ≡ true → mark_at at.tasks i ≡ Some Waiting

  abbrev pub NamesMatch : DriverState T → Type 0
  NamesMatch at = AllNamed at × AllWaiting at
