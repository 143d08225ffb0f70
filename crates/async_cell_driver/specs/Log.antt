-- What happened to a driver, line by line, and what the lines of a legal log say of a task.
use Rattle.std.specs.Prelude.{ℕ, ◌++◌, Bool, true, false, List, [], ◌∷◌, Option, Some, map, reverse, nat_eq, if◌then◌else◌}
use Rattle.std.specs.Option.{option_map}
use Rattle.async_cell_wakers.specs.declared.named.Named.{Named}
use Rattle.async_cell_driver.specs.declared.{event.Kind.Kind, event.Event.Event, event.Told.Told, event.Polled.TheVariants.Ready, event.Polled.TheVariants.Pending, event.Polled.TheVariants.NotReady}
use Rattle.async_cell_driver.specs.declared.event.Told.TheVariants as told
use Rattle.async_cell_driver.specs.declared.event.Event.TheVariants.{Start, Poll, Set, OrSet, Replace, Update, TryTake, AddOwner, EndOwner}
use Rattle.async_cell_driver.specs.declared.tasks.Mark.{Mark}
use Rattle.async_cell_driver.specs.declared.tasks.Mark.TheVariants as mark
use Rattle.async_cell_driver.specs.{Mark.is_ready_mark, Mark.waits_mark, Mark.woken, DriverState.DriverState, DriverState.mark_at, DriverState.is_named}

-- an event, its outcome, and the names that it woke; an update stands as the function of its edit
pub record Line (T : Type 0) : Type 0 where
  pub event : Event T (Option T → Option T)
  pub told : Told T
  pub names : List Named

-- the lines, the last one first: a log is read from its end
abbrev pub Log : Type 0 → Type 0
Log T = List (Line T)

-- whether task i is polled: a poll that returned `NotReady` does not count
abbrev pub is_poll_of : {T : Type 0} → ℕ → Event T (Option T → Option T) → Told T → Bool
is_poll_of i (Poll j) (told.Polled NotReady) = false
is_poll_of i (Poll j) answer = nat_eq j i
is_poll_of i _ answer = false

abbrev pub was_refused : {T : Type 0} → Told T → Bool
was_refused (told.Refused why) = true
was_refused _ = false

-- the kind of the task that a line starts
abbrev pub started : {T : Type 0} → Event T (Option T → Option T) → Told T → List Kind
started (Start kind) (told.Started number) = kind ∷ []
started _ _ = []

-- The mark of task i after an event with this outcome, by its mark before. No name is woken yet.
abbrev pub mark_told : {T : Type 0} → ℕ
    → Told T → Event T (Option T → Option T) → Option Mark → Option Mark
mark_told i (told.Started n) (Start kind) old = if nat_eq n i then Some mark.Ready else old
mark_told i (told.Polled (Ready value)) (Poll j) old = if nat_eq j i then Some mark.Done else old
mark_told i (told.Polled Pending) (Poll j) old = if nat_eq j i then Some mark.Waiting else old
mark_told i (told.Refused why) (Poll j) old = if nat_eq j i then Some mark.Ready else old
mark_told i _ _ old = old

-- the mark of a task after a line that wakes its name or not
abbrev pub woken_if : Bool → Option Mark → Option Mark
woken_if named mark = if named then option_map woken mark else mark

-- The tasks after a log that starts from `from`. A task that is in `from` starts with the mark that
-- it has there.
module _ {T : Type 0} (from : DriverState T) where
  -- the kinds of the tasks that were started, by number
  abbrev pub kinds : Log T → List Kind
  kinds [] = map (λ task. task.kind) from.tasks
  kinds (line ∷ earlier) = kinds earlier ++ started line.event line.told

  -- the mark of task i: none if it was not started
  abbrev pub mark_in : Log T → ℕ → Option Mark
  mark_in [] i = mark_at from.tasks i
  mark_in (line ∷ earlier) i =
      woken_if (is_named i line.names) (mark_told i line.told line.event (mark_in earlier i))

  -- the last poll of task i returned `Pending`
  abbrev pub waits : Log T → ℕ → Bool
  waits log i = waits_mark (mark_in log i)

  -- Task i was started, and no poll of it was ready. It was never polled, its last poll was
  -- refused, or a line after that wakes its name.
  abbrev pub is_ready : Log T → ℕ → Bool
  is_ready log i = is_ready_mark (mark_in log i)

module _ {T : Type 0} where
  -- the lines of these events, in order
  abbrev pub lines : List (Event T (Option T → Option T))
      → List (Told T) → List (List Named) → List (Line T)
  lines (event ∷ events) (answer ∷ answers) (names ∷ handed) =
      record { event = event; told = answer; names = names } ∷ lines events answers handed
  lines _ _ _ = []

  -- the log of these events, of their outcomes and of the woken names
  abbrev pub log_of : List (Event T (Option T → Option T))
      → List (Told T) → List (List Named) → Log T
  log_of events answers handed = reverse (lines events answers handed)

  -- an event with its edit replaced by the function of the edit
  abbrev pub with_edit : {E : Type 0} → (E → Option T → Option T)
      → Event T E → Event T (Option T → Option T)
  with_edit edit (Start kind) = Start kind
  with_edit edit (Poll i) = Poll i
  with_edit edit (Set value) = Set value
  with_edit edit (OrSet value) = OrSet value
  with_edit edit (Replace value) = Replace value
  with_edit edit (Update e) = Update (edit e)
  with_edit edit TryTake = TryTake
  with_edit edit AddOwner = AddOwner
  with_edit edit EndOwner = EndOwner
