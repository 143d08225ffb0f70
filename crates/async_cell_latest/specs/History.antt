-- Histories: which are legal, the state after one, and the whole promise of a list of calls.
use Rattle.std.specs.Prelude.{◌≡◌, ◌≤◌, ◌⊎◌, Bool, true, false, not, ◌&&◌, ◌||◌, List, [], ◌∷◌, None, ⊤, nat_lt, if◌then◌else◌}
use Rattle.async_cell_model.specs.declared.refusal.Refusal.TheVariants as why
use Rattle.async_cell_model.specs.Machine.{is_empty, skips}
use Rattle.async_cell_latest.specs.State.{State, IsSound, Stays, is_waited_for}
use Rattle.async_cell_latest.specs.Step.{Kept, PollChanged, Reply, Refused, reply, next, wakes}

-- a call and its reply
pub record Entry (T W : Type 0) : Type 0 where
  pub call : Kept T W
  pub reply : Reply T

-- the calls on a state, in order, each with its reply
abbrev pub History : Type 0 → Type 0 → Type 0
History T W = List (Entry T W)

-- whether the reply is that the call failed with `Memory`
abbrev pub is_memory : {T : Type 0} → Reply T → Bool
is_memory (Refused why.Memory back) = true
is_memory _ = false

module _ {T W : Type 0} (will_wake : W → W → Bool) where
  -- the state after an entry: a call that failed with `Memory` changes nothing
  abbrev pub then_state : State T W → Entry T W → State T W
  then_state s e = if is_memory e.reply then s else next will_wake s e.call

  -- the state after a history
  abbrev pub after : State T W → History T W → State T W
  after s [] = s
  after s (e ∷ h) = after (then_state s e) h

  -- the wakers that each entry wakes
  abbrev pub all_woken : State T W → History T W → List (List W)
  all_woken s [] = []
  all_woken s (e ∷ h) = wakes s e.call ∷ all_woken (then_state s e) h

-- `sure_wakers` says whether cloning a waker never fails
module _ {T W : Type 0} (will_wake : W → W → Bool) (sure_wakers : Bool) where
  -- Whether a poll by w that has to wait needs no memory: w is skipped, or its clone is sure and it
  -- is the first to wait or finds room.
  abbrev pub needs_no_memory : State T W → W → Bool
  needs_no_memory s w =
      skips will_wake s.waiting w || (sure_wakers && (is_empty s.waiting || nat_lt 0 s.room))

  -- whether a call may fail with `Memory`: a poll that waits and needs memory
  abbrev pub may_refuse : State T W → Kept T W → Bool
  may_refuse s (PollChanged seen w) = is_waited_for s seen && not (needs_no_memory s w)
  may_refuse s _ = false

  -- the entry is legal in this state: its reply is the model's own, or `Memory` if the call may
  -- fail with it
  abbrev pub MayFollow : State T W → Entry T W → Type 0
  MayFollow s e = (e.reply ≡ reply s e.call)
      ⊎ ((e.reply ≡ Refused why.Memory None) × (may_refuse s e.call ≡ true))

  -- each entry is legal after those before it
  abbrev pub IsLegal : State T W → History T W → Type 0
  IsLegal s [] = ⊤
  IsLegal s (e ∷ h) = MayFollow s e × IsLegal (then_state will_wake s e) h

  -- The promise of a list of calls: `from` is sound; `h` is a legal history from it; `to` is the
  -- state after it, with at least its room; and `woken` has the wakers that each entry wakes, one
  -- list an entry.
  pub record Runs (from : State T W) (h : History T W)
      (woken : List (List W)) (to : State T W) : Type 0 where
    pub sound : IsSound will_wake from
    pub legal : IsLegal from h
    pub stays : Stays (after will_wake from h) to
    pub waiting_is : to.waiting ≡ (after will_wake from h).waiting
    pub room_is_left : (after will_wake from h).room ≤ to.room
    pub wakes_are : woken ≡ all_woken will_wake from h
