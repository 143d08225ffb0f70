-- What `settle` does.
use Rattle.std.specs.Prelude.{◌≡◌, ℕ, zero, suc, ◌++◌, Bool, false, List, [], ◌∷◌, Option, Some, None, Result, MatchResult, filter, map, reverse, length, if◌then◌else◌}
use Rattle.std.specs.List.{list_any}
use Rattle.async_cell_model.specs.declared.refusal.Refusal.{Refusal}
use Rattle.async_cell_driver.specs.declared.{event.Event.Event, event.Event.TheVariants.Poll, event.Told.Told, event.Polled.TheVariants.Ready}
use Rattle.async_cell_driver.specs.declared.event.Told.TheVariants as told
use Rattle.async_cell_driver.specs.{DriverState.DriverState, DriverState.result_at, Log.Log, Log.is_ready, Log.is_poll_of, Log.was_refused, History.line_of, Drives.Drives}

-- the numbers below n, in order
abbrev pub numbers : ℕ → List ℕ
numbers zero = []
numbers (suc n) = numbers n ++ n ∷ []

module _ {T : Type 0} where
  -- the tasks that are ready, in order of number
  abbrev pub ready_tasks : DriverState T → List ℕ
  ready_tasks at = filter (is_ready at []) (numbers (length at.tasks))

  -- the events of a log, in order
  abbrev pub events_of : Log T → List (Event T (Option T → Option T))
  events_of log = map (λ line. line.event) (reverse log)

  -- whether a poll was refused
  abbrev pub has_refused : Log T → Bool
  has_refused log = list_any (λ line. was_refused line.told) log

  -- what a poll was ready with
  abbrev pub got_by : Told T → Option (Option T)
  got_by (told.Polled (Ready value)) = Some value
  got_by _ = None

  -- what was got, if anything; otherwise what was there before
  abbrev pub got_or : Option (Option T) → Option (Option T) → Option (Option T)
  got_or None old = old
  got_or (Some value) old = Some value

  -- what a log got for task i: what a poll of it was ready with
  abbrev pub got : Log T → ℕ → Option (Option T)
  got [] i = None
  got (line ∷ earlier) i = got_or
      (if is_poll_of i line.event line.told then got_by line.told else None) (got earlier i)

  -- what the log got for the tasks is stored for `result`
  abbrev pub Keeps : DriverState T → Log T → DriverState T → Type 0
  Keeps from log to = (i : ℕ) → result_at to.tasks i ≡ got_or (got log i) (result_at from.tasks i)

  -- only the last line was refused
  abbrev pub IsRefusedLast : Refusal → Log T → Type 0
  IsRefusedLast why [] = ⊥
  IsRefusedLast why (line ∷ earlier) =
      (line.told ≡ told.Refused why) × (has_refused earlier ≡ false)

  -- The log polls the tasks that were ready, in order of number. `Ok` has the number of these
  -- tasks, and none was refused. Otherwise the last poll was refused, and it was the first that
  -- was.
  pub record PollsReady
      (from : DriverState T) (result : Result ℕ Refusal) (log : Log T) : Type 0 where
    pub polls : MatchResult result
        (λ count. events_of log ≡ map Poll (ready_tasks from))
        (λ why. (rest : List ℕ) × (events_of log ++ map Poll rest ≡ map Poll (ready_tasks from)))
    pub counts : MatchResult result
        (λ count. (count ≡ length (ready_tasks from)) × (has_refused log ≡ false))
        (λ why. IsRefusedLast why log)

  -- What `settle` does: its polls run to this state, and what they got is stored for `result`.
  pub record Settles (is_clone : T → T → Type 0) (from : DriverState T)
      (result : Result ℕ Refusal) (log : Log T) (to : DriverState T) : Type 0 where
    pub drives : Drives is_clone from log to
    pub polls_ready : PollsReady from result log
    pub keeps : Keeps from log to

  -- The poll of a ready task, with this outcome.
  pub record SettlesOne (is_clone : T → T → Type 0) (from : DriverState T) (i : ℕ)
      (result : Result (Unit {0}) Refusal) (answer : Told T) (to : DriverState T) : Type 0 where
    pub drives : Drives is_clone from (line_of from (Poll i) answer ∷ []) to
    pub told : MatchResult result
        (λ done. was_refused answer ≡ false) (λ why. answer ≡ told.Refused why)
    pub keeps : Keeps from (line_of from (Poll i) answer ∷ []) to
