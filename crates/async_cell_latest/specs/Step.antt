-- The reply to each call, the state after it, and whom it wakes.
use Rattle.std.specs.Prelude.{◌+◌, ◌-◌, ℕ, Bool, false, not, ◌||◌, List, [], Option, Some, None, nat_eq, if◌then◌else◌}
use Rattle.async_cell_model.specs.declared.refusal.Refusal.{Refusal}
use Rattle.async_cell_model.specs.declared.refusal.Refusal.TheVariants as why
use Rattle.async_cell_latest.specs.State.{State, is_closed, is_writable, is_waited_for, registered, owners_limit}

-- a call on a state, as a history holds it; a poll has the version that its follower has seen
pub data Kept (T W : Type 0) : Type 0 where
  Write : T → Kept T W
  Read : Kept T W
  PollChanged : ℕ → W → Kept T W
  AddOwner : Kept T W
  EndOwner : Kept T W

-- What a call returns. `Shown` has the version and the value, `Old` the value that was there before
-- the write, and a refusal what was passed to the write.
pub data Reply (T : Type 0) : Type 0 where
  Old : T → Reply T
  Shown : ℕ → T → Reply T
  Pending : Reply T
  Ended : Reply T
  Done : Reply T
  Refused : Refusal → Option T → Reply T

module _ {T W : Type 0} where
  -- the reply to a call that does not fail with `Memory`
  abbrev pub reply : State T W → Kept T W → Reply T
  reply s (Write x) = if is_writable s then Old s.value else Refused why.Closed (Some x)
  reply s Read = Shown s.version s.value
  reply s (PollChanged seen w) =
      if not (nat_eq seen s.version) then Shown s.version s.value
      else if is_closed s then Ended else Pending
  reply s AddOwner =
      if is_closed s then Refused why.Closed None
      else if nat_eq s.owners owners_limit then Refused why.OwnersFull None else Done
  reply s EndOwner = if is_closed s then Refused why.Closed None else Done

  -- whether a call ends all waiting: a write that succeeds, or the end of the last owner
  abbrev pub ends_waiting : State T W → Kept T W → Bool
  ends_waiting s (Write x) = is_writable s
  ends_waiting s EndOwner = nat_eq s.owners 1
  ends_waiting s _ = false

  -- the wakers that a call wakes: all that wait if it ends all waiting, else none
  abbrev pub wakes : State T W → Kept T W → List W
  wakes s call = if ends_waiting s call then s.waiting else []

  -- the state after a write that succeeds: nobody waits
  abbrev pub written : State T W → T → State T W
  written s x =
      record s { value = x; version = s.version + 1; waiting = []; room = 0 }

  -- the state after its last owner ended: the value stays, and nobody waits
  abbrev pub closed : State T W → State T W
  closed s = record s { owners = 0; waiting = []; room = 0 }

module _ {T W : Type 0} (will_wake : W → W → Bool) where
  -- the state after a call that does not fail with `Memory`
  abbrev pub next : State T W → Kept T W → State T W
  next s (Write x) = if is_writable s then written s x else s
  next s Read = s
  next s (PollChanged seen w) = if is_waited_for s seen then registered will_wake s w else s
  next s AddOwner =
      if is_closed s || nat_eq s.owners owners_limit then s
      else record s { owners = s.owners + 1 }
  next s EndOwner = if nat_eq s.owners 1 then closed s else record s { owners = s.owners - 1 }
