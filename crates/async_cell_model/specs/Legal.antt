-- Which histories are legal, and the whole promise of a call and of a list of calls.
use Rattle.std.specs.Prelude.{◌≡◌, ◌≤◌, ◌⊎◌, Bool, true, false, List, [], ◌∷◌, ◌++◌, None, ⊤, if◌then◌else◌}
use Rattle.async_cell_model.specs.declared.entry.Entry.{Entry}
use Rattle.async_cell_model.specs.declared.entry.Kept.{Kept}
use Rattle.async_cell_model.specs.declared.reply.Reply.{Reply}
use Rattle.async_cell_model.specs.declared.reply.Reply.TheVariants.{Refused}
use Rattle.async_cell_model.specs.declared.refusal.Refusal.TheVariants as why
use Rattle.async_cell_model.specs.Machine.{State, IsSound, ends_waiting, reply, next, FitsUpdate, may_refuse, is_copy, Exactly, UpToClones}
use Rattle.async_cell_model.specs.History.{History, cell_after, waiting, room, after}

-- whether the reply is a refusal
abbrev pub is_refused : {T : Type 0} → Reply T → Bool
is_refused (Refused why back) = true
is_refused _ = false

-- whether the call of the entry copies the value
abbrev pub copies : {T W : Type 0} → Entry T W → Bool
copies e = is_copy e.call

-- under this clone relation, every clone equals its source
abbrev pub IsExact : {T : Type 0} → (T → T → Type 0) → Type 0
IsExact {T} is_clone = (a b : T) → is_clone a b → b ≡ a

-- the wakers that an entry wakes: the whole wait list if it fills or closes the cell, else none
abbrev pub woken_by : {T W : Type 0} → State T W → Entry T W → List W
woken_by at e = if ends_waiting at.cell (next at.cell e) then at.waiting else []

module _ {T W : Type 0} (will_wake : W → W → Bool) where
  -- the wakers that each of these entries wakes, if the entries h come first
  abbrev pub wakes_after : State T W → History T W → History T W → List (List W)
  wakes_after b h [] = []
  wakes_after b h (e ∷ rest) = woken_by (after will_wake b h) e ∷ wakes_after b (h ++ e ∷ []) rest

-- `MayReply call own reply`: the call may return `reply` where the model's own reply is `own`
module _ {T W : Type 0} (MayReply : Kept T W → Reply T → Reply T → Type 0)
    (will_wake : W → W → Bool) (sure_wakers : Bool) where
  -- The entry is legal in this state: its reply is an allowed one, or `Memory` if the call may fail
  -- with it; and an update fits the cell.
  pub record MayFollowBy (at : State T W) (e : Entry T W) : Type 0 where
    pub replied : MayReply e.call (reply at.cell e.call) e.reply
        ⊎ ((e.reply ≡ Refused why.Memory None)
        × (may_refuse will_wake sure_wakers at e.call ≡ true))
    pub updated : FitsUpdate at.cell e.call

  -- each of these entries is legal after those before it, if the entries h come first
  abbrev pub IsLegalAfterBy : State T W → History T W → History T W → Type 0
  IsLegalAfterBy b h [] = ⊤
  IsLegalAfterBy b h (e ∷ rest) =
      MayFollowBy (after will_wake b h) e × IsLegalAfterBy b (h ++ e ∷ []) rest

  -- The promise of a list of calls: `from` is sound; `h` is a legal history from it; `to` has the
  -- cell and the wait list after `h`, and at least the room after it; and `woken` has the wakers
  -- that each entry wakes, one list an entry.
  pub record RunsBy (from : State T W) (h : History T W)
      (woken : List (List W)) (to : State T W) : Type 0 where
    pub sound : IsSound will_wake from
    pub legal : IsLegalAfterBy from [] h
    pub cell_is : to.cell ≡ cell_after from.cell h
    pub waiting_is : to.waiting ≡ waiting will_wake from h
    pub room_is_left : room will_wake from h ≤ to.room
    pub wakes_are : woken ≡ wakes_after will_wake from [] h

-- Exact histories: each reply is the model's own, or `Memory`.
module _ {T W : Type 0} (will_wake : W → W → Bool) (sure_wakers : Bool) where
  -- the entry is legal in this state
  abbrev pub MayFollow : State T W → Entry T W → Type 0
  MayFollow at e = MayFollowBy Exactly will_wake sure_wakers at e

  -- each of these entries is legal after those before it, if the entries h come first
  abbrev pub IsLegalAfter : State T W → History T W → History T W → Type 0
  IsLegalAfter b h rest = IsLegalAfterBy Exactly will_wake sure_wakers b h rest

  -- each entry is legal after those before it
  abbrev pub IsLegal : State T W → History T W → Type 0
  IsLegal b h = IsLegalAfter b [] h

  -- the promise of a list of calls
  abbrev pub Runs : State T W → History T W → List (List W) → State T W → Type 0
  Runs from h woken to = RunsBy Exactly will_wake sure_wakers from h woken to

  -- the promise of one call: it returns this reply, wakes these wakers, and leaves this state
  abbrev pub Steps : State T W → Kept T W → Reply T → List W → State T W → Type 0
  Steps from call answer woken to =
      Runs from (record { call = call; reply = answer } ∷ []) (woken ∷ []) to

-- The same up to clones: a get of a full cell may return a clone of the value.
module _ {T W : Type 0} (will_wake : W → W → Bool) (sure_wakers : Bool)
    (is_clone : T → T → Type 0) where
  -- each entry is legal after those before it
  abbrev pub IsLegalUpTo : State T W → History T W → Type 0
  IsLegalUpTo b h = IsLegalAfterBy (UpToClones is_clone) will_wake sure_wakers b [] h

  -- the promise of a list of calls
  abbrev pub RunsUpTo : State T W → History T W → List (List W) → State T W → Type 0
  RunsUpTo from h woken to = RunsBy (UpToClones is_clone) will_wake sure_wakers from h woken to

  -- the promise of one call
  abbrev pub StepsUpTo : State T W → Kept T W → Reply T → List W → State T W → Type 0
  StepsUpTo from call answer woken to =
      RunsUpTo from (record { call = call; reply = answer } ∷ []) (woken ∷ []) to
