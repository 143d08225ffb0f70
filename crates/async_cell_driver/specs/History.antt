-- The calls that a log makes on the core.
use Rattle.std.specs.Prelude.{map, ℕ, Bool, true, false, ◌++◌, List, [], ◌∷◌, Option, Some, None, Result, Ok, Err, slice_get, option_to_list}
use Rattle.std.specs.Option.{option_map}
use Rattle.async_cell_wakers.specs.declared.named.Named.{Named}
use Rattle.async_cell_model.specs.declared.{cell.Cell.Cell, cell.Cell.TheVariants.Closed, cell.Cell.TheVariants.Open, entry.Entry.Entry, entry.Kept.Kept, refusal.Refusal.Refusal, reply.Reply.Reply}
use Rattle.async_cell_model.specs.declared.entry.Kept.TheVariants as kept
use Rattle.async_cell_model.specs.declared.reply.Reply.TheVariants as reply
use Rattle.async_cell_model.specs.{Machine.State, Machine.reply as model_reply, History.History, History.cell_after, Legal.woken_by}
use Rattle.async_cell_driver.specs.declared.event.Event.TheVariants.{Start, Poll, Set, OrSet, Replace, Update, TryTake, AddOwner, EndOwner}
use Rattle.async_cell_driver.specs.declared.{event.Kind.Kind, event.Kind.TheVariants.Get, event.Event.Event, event.Told.Told, event.Polled.Polled, event.Polled.TheVariants.Ready}
use Rattle.async_cell_driver.specs.declared.{event.Polled.TheVariants.Pending, event.Polled.TheVariants.NotReady}
use Rattle.async_cell_driver.specs.declared.event.Told.TheVariants as told
use Rattle.async_cell_driver.specs.{DriverState.DriverState, DriverState.name_of, Log.Line, Log.Log, Log.kinds}

module _ {T : Type 0} where
  -- the poll of task i, by its kind
  abbrev pub poll_of : Option Kind → ℕ → Kept T Named
  poll_of (Some Get) i = kept.PollGet (name_of i)
  poll_of _ i = kept.PollTake (name_of i)

  -- an update on this cell as a history stores it: with what its edit saw and what it returned,
  -- both `None` if it was not called
  abbrev pub kept_update : Cell T → (Option T → Option T) → Kept T Named
  kept_update Closed edit = kept.Update None None
  kept_update (Open value owners) edit = kept.Update value (edit value)

  -- the call that an event makes on a core with this cell, if the tasks are of these kinds
  abbrev pub call_of : List Kind → Cell T → Event T (Option T → Option T) → Option (Kept T Named)
  call_of all c (Start kind) = None
  call_of all c (Poll i) = Some (poll_of (slice_get all i) i)
  call_of all c (Set value) = Some (kept.Set value)
  call_of all c (OrSet value) = Some (kept.OrSet value)
  call_of all c (Replace value) = Some (kept.Replace value)
  call_of all c (Update edit) = Some (kept_update c edit)
  call_of all c TryTake = Some kept.TryTake
  call_of all c AddOwner = Some kept.AddOwner
  call_of all c EndOwner = Some kept.EndOwner

  -- whether an event is a call on the cell
  abbrev pub is_call : {E : Type 0} → Event T E → Bool
  is_call (Start kind) = false
  is_call (Poll i) = false
  is_call _ = true

  -- the core's reply in an outcome: `None` if the core was not called
  abbrev pub reply_of : Told T → Option (Reply T)
  reply_of (told.Started number) = None
  reply_of (told.Polled (Ready value)) = Some (reply.Ready value)
  reply_of (told.Polled Pending) = Some reply.Pending
  reply_of (told.Polled NotReady) = None
  reply_of (told.Reply r) = Some r
  reply_of (told.Refused why) = Some (reply.Refused why None)

  -- a call and its reply, if there are both
  abbrev pub entry_of : Option (Kept T Named) → Option (Reply T) → Option (Entry T Named)
  entry_of (Some call) (Some r) = Some (record { call = call; reply = r })
  entry_of _ _ = None

module _ {T : Type 0} (from : DriverState T) where
  -- the history of the core's calls
  abbrev pub history : Log T → History T Named
  history [] = []
  history (line ∷ earlier) =
      history earlier
      ++ option_to_list (entry_of
      (call_of (kinds from earlier) (cell_after from.core.cell (history earlier)) line.event)
      (reply_of line.told))

  -- the names that each of the core's calls wakes
  abbrev pub handed_out : Log T → List (List Named)
  handed_out [] = []
  handed_out (line ∷ earlier) =
      handed_out earlier
      ++ option_to_list (option_map (λ e. line.names) (entry_of
      (call_of (kinds from earlier) (cell_after from.core.cell (history earlier)) line.event)
      (reply_of line.told)))

module _ {T : Type 0} where
  -- the names that an entry wakes, if there is one
  abbrev pub names_by : State T Named → Option (Entry T Named) → List Named
  names_by core None = []
  names_by core (Some e) = woken_by core e

  -- the line of an event with this outcome
  abbrev pub line_of : DriverState T → Event T (Option T → Option T) → Told T → Line T
  line_of at event answer = record {
    event = event;
    told = answer;
    names = names_by at.core (entry_of
        (call_of (map (λ task. task.kind) at.tasks) at.core.cell event) (reply_of answer));
  }

-- the outcome for the result of a task's poll
abbrev pub told_of : {T : Type 0} → Result (Polled T) Refusal → Told T
told_of (Ok polled) = told.Polled polled
told_of (Err why) = told.Refused why

-- the outcome of a call for which the core finds memory
abbrev pub told_by : {T : Type 0} → State T Named → Kept T Named → Told T
told_by core call = told.Reply (model_reply core.cell call)
