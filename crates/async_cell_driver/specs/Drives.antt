-- What a driver promises: which log runs from one state of it to another.
use Rattle.std.specs.Prelude.{◌≡◌, ℕ, Bool, true, false, List, [], ◌∷◌, Option, ⊤, map, length, MatchOption}
use Rattle.async_cell_wakers.specs.Named.{same_name}
use Rattle.async_cell_wakers.specs.declared.named.Named.{Named}
use Rattle.async_cell_model.specs.declared.{refusal.Refusal.TheVariants.Memory, cell.Cell.Cell}
use Rattle.async_cell_model.specs.{Machine.content, Machine.is_vacant, History.cell_after, Legal.RunsUpTo}
use Rattle.async_cell_driver.specs.declared.{event.Event.Event, event.Event.TheVariants.Start, event.Event.TheVariants.Poll, event.Told.Told, event.Polled.TheVariants.NotReady}
use Rattle.async_cell_driver.specs.declared.event.Told.TheVariants as told
use Rattle.async_cell_driver.specs.{DriverState.DriverState, DriverState.mark_at, DriverState.result_at, Log.Log, Log.kinds, Log.mark_in, Log.waits, Log.is_ready}
use Rattle.async_cell_driver.specs.History.{history, handed_out, line_of}

-- The outcome and the woken names that an event may have, if this many tasks were started and these
-- are ready. The outcome of a start is the number of tasks before it. A poll returns `NotReady`
-- exactly if the task is not ready. The core decides the outcome of a call on the cell, and the
-- names that it wakes. A start wakes none, and neither does a poll: it neither fills nor closes the
-- cell.
abbrev pub FitsTold : {T : Type 0} → ℕ → (ℕ → Bool)
    → Event T (Option T → Option T) → Told T → List Named → Type 0
FitsTold count ready (Start kind) (told.Started number) names = (number ≡ count) × (names ≡ [])
FitsTold count ready (Start kind) (told.Refused why) names = (why ≡ Memory) × (names ≡ [])
FitsTold count ready (Start kind) _ names = ⊥
FitsTold count ready (Poll i) (told.Polled NotReady) names = (ready i ≡ false) × (names ≡ [])
FitsTold count ready (Poll i) (told.Polled answer) names = (ready i ≡ true) × (names ≡ [])
FitsTold count ready (Poll i) (told.Refused why) names =
    (ready i ≡ true) × (why ≡ Memory) × (names ≡ [])
FitsTold count ready (Poll i) _ names = ⊥
FitsTold count ready event (told.Reply reply) names = ⊤
FitsTold count ready event _ names = ⊥

-- each line fits those before it
abbrev pub IsLegal : {T : Type 0} → DriverState T → Log T → Type 0
IsLegal from [] = ⊤
IsLegal from (line ∷ earlier) =
    FitsTold (length (kinds from earlier)) (is_ready from earlier) line.event line.told line.names
    × IsLegal from earlier

-- whenever the cell is full or closed, every task that waits is ready
abbrev pub NoneForgotten : {T : Type 0} → DriverState T → Type 0
NoneForgotten at = is_vacant at.core.cell ≡ false
    → (i : ℕ) → waits at [] i ≡ true → is_ready at [] i ≡ true

-- The promise: the log runs from one state of a driver to another. Each line fits those before it.
-- The core's calls are a legal history, in which a getter gets a clone of the value by the type's
-- own relation. The tasks are as the log says.
pub record Drives {T : Type 0} (is_clone : T → T → Type 0)
    (from : DriverState T) (log : Log T) (to : DriverState T) : Type 0 where
  pub legal : IsLegal from log
  pub core_leads : RunsUpTo same_name true is_clone
      from.core (history from log) (handed_out from log) to.core
  pub kinds_are : map (λ task. task.kind) to.tasks ≡ kinds from log
  pub marks_are : (i : ℕ) → mark_at to.tasks i ≡ mark_in from log i
  pub none_forgotten : NoneForgotten to

-- the event happens, with this outcome
abbrev pub Happens : {T : Type 0} → (T → T → Type 0) → DriverState T
    → Event T (Option T → Option T) → Told T → DriverState T → Type 0
Happens is_clone from event answer to = Drives is_clone from (line_of from event answer ∷ []) to

-- If the event polls a task of a full cell and is refused, the clone of the value can fail. A poll
-- of a closed cell is not refused.
abbrev pub IsSpared : {T : Type 0} → (T → Type 0) → Cell T
    → Event T (Option T → Option T) → Told T → Type 0
IsSpared is_infallible c (Poll i) (told.Refused why) = is_vacant c ≡ false
    → MatchOption (content c) ⊥ (λ value. is_infallible value → ⊥)
IsSpared is_infallible c event answer = ⊤

-- `IsSpared` holds of each line
abbrev pub AllSpared : {T : Type 0} → (T → Type 0) → DriverState T → Log T → Type 0
AllSpared is_infallible from [] = ⊤
AllSpared is_infallible from (line ∷ earlier) =
    IsSpared is_infallible (cell_after from.core.cell (history from earlier)) line.event line.told
    × AllSpared is_infallible from earlier

-- what `settle` got for the tasks stays
abbrev pub ResultsStay : {T : Type 0} → DriverState T → DriverState T → Type 0
ResultsStay from to = (i : ℕ) → result_at to.tasks i ≡ result_at from.tasks i
