-- The machine: what a cell is, and what one call does to it. Histories are lists of such steps.
use Rattle.std.specs.Prelude.{◌≡◌, ◌≤◌, ◌⊎◌, ◌+◌, ◌-◌, ℕ, Bool, true, false, not, ◌&&◌, ◌||◌, List, [], ◌∷◌, ◌++◌, length, fold}
use Rattle.std.specs.Prelude.{Option, Some, None, IsSome, is_some, option_to_list, ⊤, nat_eq, nat_lt, if◌then◌else◌}
use Rattle.std.specs.List.{list_any}
use Rattle.async_cell_model.specs.declared.cell.Cell.{Cell}
use Rattle.async_cell_model.specs.declared.cell.Cell.TheVariants.{Closed, Open}
use Rattle.async_cell_model.specs.declared.entry.Entry.{Entry}
use Rattle.async_cell_model.specs.declared.entry.Kept.{Kept}
use Rattle.async_cell_model.specs.declared.entry.Kept.TheVariants.{Set, OrSet, Replace, Update, UpdateSome, TryTake, TryGet, IsSet, PollTake, PollGet, AddOwner, EndOwner, TakeInner}
use Rattle.async_cell_model.specs.declared.refusal.Refusal.TheVariants as why
use Rattle.async_cell_model.specs.declared.reply.Reply.{Reply}
use Rattle.async_cell_model.specs.declared.reply.Reply.TheVariants.{Done, Value, Is, Pending, Ready, Refused}
use Rattle.async_cell_model.specs.Facts.{Fate, stays, moved, copied, lost, updated, updated_if_full, is_copied, facts}

-- THE CELL: its content, its owners, and the two changes that end all waiting.

-- the largest number of owners that a cell can count
abbrev pub owners_limit : ℕ
owners_limit = 4294967295

module _ {T : Type 0} where
  -- the value that the cell holds: `None` if there is none or the cell is closed
  abbrev pub content : Cell T → Option T
  content Closed = None
  content (Open value owners) = value

  -- the number of owners: 0 if the cell is closed
  abbrev pub owners_of : Cell T → ℕ
  owners_of Closed = 0
  owners_of (Open value owners) = owners

  -- an open cell has at least one owner and at most `owners_limit`
  abbrev pub IsCounted : Cell T → Type 0
  IsCounted Closed = ⊤
  IsCounted (Open value owners) = (1 ≤ owners) × (owners ≤ owners_limit)

  -- whether the cell is closed
  abbrev pub is_closed : Cell T → Bool
  is_closed Closed = true
  is_closed (Open value owners) = false

  -- whether the cell is open with a value
  abbrev pub is_full : Cell T → Bool
  is_full Closed = false
  is_full (Open None owners) = false
  is_full (Open (Some value) owners) = true

  -- whether the cell is open without a value: a poll waits then, and only then
  abbrev pub is_vacant : Cell T → Bool
  is_vacant Closed = false
  is_vacant (Open None owners) = true
  is_vacant (Open (Some value) owners) = false

  -- a fill: a vacant cell became full
  abbrev pub is_fill : Cell T → Cell T → Bool
  is_fill before after = is_vacant before && is_full after

  -- a close: an open cell became closed
  abbrev pub is_close : Cell T → Cell T → Bool
  is_close Closed after = false
  is_close (Open value owners) after = is_closed after

  -- a fill or a close: either ends all waiting
  abbrev pub ends_waiting : Cell T → Cell T → Bool
  ends_waiting before after = is_fill before after || is_close before after

-- A CALL ON THE CELL: the reply to it, and the cell after it.

-- whether the reply is that the call failed with `Memory`
abbrev pub is_memory : {T : Type 0} → Reply T → Bool
is_memory (Refused why.Memory back) = true
is_memory _ = false

-- Whether an update fits the cell: `saw` is what its closure was called with, and `put` is what it
-- returned. `update` calls its closure exactly on an open cell. `update_some` calls it exactly on a
-- full one, and it returns a value. If no closure was called, both are `None`. A call without a
-- closure fits each cell.
abbrev pub FitsFate : {T : Type 0} → Cell T → Fate T → Option T → Type 0
FitsFate Closed (updated saw) put = (saw ≡ None) × (put ≡ None)
FitsFate (Open value owners) (updated saw) put = saw ≡ value
FitsFate Closed (updated_if_full saw) put = (saw ≡ None) × (put ≡ None)
FitsFate (Open None owners) (updated_if_full saw) put = (saw ≡ None) × (put ≡ None)
FitsFate (Open (Some v) owners) (updated_if_full saw) put = (saw ≡ Some v) × IsSome put
FitsFate c stays put = ⊤
FitsFate c moved put = ⊤
FitsFate c copied put = ⊤
FitsFate c lost put = ⊤

module _ {T W : Type 0} where
  -- what a call does to an open cell: its reply, and the cell after it
  abbrev pub on_open : Option T → ℕ → Kept T W → Reply T × Cell T
  on_open value owners (Set x) = (Done, Open (Some x) owners)
  on_open None owners (OrSet x) = (Value None, Open (Some x) owners)
  on_open (Some v) owners (OrSet x) = (Value (Some x), Open (Some v) owners)
  on_open value owners (Replace x) = (Value value, Open (Some x) owners)
  on_open value owners (Update saw put) = (Done, Open put owners)
  on_open None owners (UpdateSome saw put) = (Done, Open None owners)
  on_open (Some v) owners (UpdateSome saw put) = (Done, Open put owners)
  on_open value owners TryTake = (Value value, Open None owners)
  on_open value owners TryGet = (Value value, Open value owners)
  on_open value owners IsSet = (Is (is_some value), Open value owners)
  on_open None owners (PollTake w) = (Pending, Open None owners)
  on_open (Some v) owners (PollTake w) = (Ready (Some v), Open None owners)
  on_open None owners (PollGet w) = (Pending, Open None owners)
  on_open (Some v) owners (PollGet w) = (Ready (Some v), Open (Some v) owners)
  on_open value owners AddOwner =
      if nat_eq owners owners_limit then (Refused why.OwnersFull None, Open value owners)
      else (Done, Open value (owners + 1))
  on_open value owners EndOwner =
      if nat_eq owners 1 then (Value value, Closed) else (Value None, Open value (owners - 1))
  on_open value owners TakeInner =
      if nat_eq owners 1 then (Value value, Closed)
      else (Refused why.StillShared None, Open value owners)

  -- the reply to a call on a closed cell, which stays closed
  abbrev pub on_closed : Kept T W → Reply T
  on_closed (Set x) = Refused why.Closed (Some x)
  on_closed (OrSet x) = Refused why.Closed (Some x)
  on_closed (Replace x) = Refused why.Closed (Some x)
  on_closed (Update saw put) = Refused why.Closed None
  on_closed (UpdateSome saw put) = Refused why.Closed None
  on_closed TryTake = Value None
  on_closed TryGet = Value None
  on_closed IsSet = Is false
  on_closed (PollTake w) = Ready None
  on_closed (PollGet w) = Ready None
  on_closed AddOwner = Refused why.Closed None
  on_closed EndOwner = Refused why.Closed None
  on_closed TakeInner = Refused why.Closed None

  -- the reply to a call that does not fail with `Memory`
  abbrev pub reply : Cell T → Kept T W → Reply T
  reply Closed call = on_closed call
  reply (Open value owners) call = (on_open value owners call).0

  -- The cell after an entry. A closed cell stays closed, and a call that failed with `Memory`
  -- changes nothing.
  abbrev pub next : Cell T → Entry T W → Cell T
  next Closed e = Closed
  next (Open value owners) e =
      if is_memory e.reply then Open value owners else (on_open value owners e.call).1

  -- whether the call fits the cell, if it is an update
  abbrev pub FitsUpdate : Cell T → Kept T W → Type 0
  FitsUpdate c call = FitsFate c (facts call).fate (facts call).puts

-- THE WAIT LIST. `will_wake v w` says whether waking v also wakes what w would wake.

-- whether a list is empty
abbrev pub is_empty : {A : Type 0} → List A → Bool
is_empty [] = true
is_empty (x ∷ xs) = false

module _ {W : Type 0} (will_wake : W → W → Bool) where
  -- whether w need not be registered: some waiting waker would wake it (see `WaitList::skips`)
  abbrev pub skips : List W → W → Bool
  skips waiting w = list_any (λ v. will_wake v w) waiting

  -- the wait list after w is registered: w is added last, or skipped
  abbrev pub with_one_more : List W → W → List W
  with_one_more waiting w = if skips waiting w then waiting else waiting ++ w ∷ []

  -- The wait list: these registrations in order, less each that an earlier waiting waker would
  -- wake.
  abbrev pub wait_list : List W → List W
  wait_list registrations = fold with_one_more [] registrations

-- THE STATE: a cell, and those who wait at it.

-- The state that a history starts from: the cell, the wait list in order of registration, and the
-- room, which is the number of wakers that can still be added without memory beyond their clones.
pub record State (T W : Type 0) : Type 0 where
  pub cell : Cell T
  pub waiting : List W
  pub room : ℕ

module _ {T W : Type 0} (will_wake : W → W → Bool) where
  -- A sound state: the number of owners is in range, wakers wait only if the cell is vacant, and
  -- none of them is one that an earlier waiting waker would wake.
  pub record IsSound (b : State T W) : Type 0 where
    pub counted : IsCounted b.cell
    pub waits_vacant : is_vacant b.cell ≡ false → b.waiting ≡ []
    pub none_skipped : wait_list will_wake b.waiting ≡ b.waiting

-- whether the reply is `Pending`
abbrev pub is_pending : {T : Type 0} → Reply T → Bool
is_pending Pending = true
is_pending _ = false

module _ {T W : Type 0} where
  -- whether the call copies the value: the two gets do
  abbrev pub is_copy : Kept T W → Bool
  is_copy call = is_copied (facts call).fate

  -- the waker of a poll: `None` for any other call
  abbrev pub waker_of : Kept T W → Option W
  waker_of call = (facts call).waker

  -- the waker of a poll that returned `Pending`
  abbrev pub pending_waker : Entry T W → Option W
  pending_waker e = if is_pending e.reply then waker_of e.call else None

-- `sure_wakers` says whether cloning a waker never fails
module _ {T W : Type 0} (will_wake : W → W → Bool) (sure_wakers : Bool) where
  -- Whether a poll by w that has to wait needs no memory: w is skipped, or its clone is sure and it
  -- is the first to wait or finds room.
  abbrev pub needs_no_memory : State T W → W → Bool
  needs_no_memory at w =
      skips will_wake at.waiting w || (sure_wakers && (is_empty at.waiting || nat_lt 0 at.room))

  -- whether a poll with this waker has to wait, and needs memory for that
  abbrev pub needs_memory : State T W → Option W → Bool
  needs_memory at None = false
  needs_memory at (Some w) = is_vacant at.cell && not (needs_no_memory at w)

  -- whether a call may fail with `Memory`: a get of a full cell, which clones the value, or a poll
  -- of a vacant cell that needs memory
  abbrev pub may_refuse : State T W → Kept T W → Bool
  may_refuse at call = (is_copy call && is_full at.cell) || needs_memory at (facts call).waker

-- CLONES: which replies may stand in for the machine's own: no other, or at a get a clone.

-- the call copies the value, and the second reply has a clone of the one in the first
abbrev pub HasClone : {T : Type 0} → (T → T → Type 0) → Bool → Reply T → Reply T → Type 0
HasClone is_clone false own answer = ⊥
HasClone is_clone true (Value (Some a)) (Value (Some b)) = is_clone a b
HasClone is_clone true (Ready (Some a)) (Ready (Some b)) = is_clone a b
HasClone is_clone true own answer = ⊥

module _ {T W : Type 0} where
  -- the call is a get, and the reply has a clone of the value that the model's own reply has
  abbrev pub IsCloned : (T → T → Type 0) → Kept T W → Reply T → Reply T → Type 0
  IsCloned is_clone call own reply = HasClone is_clone (is_copy call) own reply

  -- the reply is the model's own
  abbrev pub Exactly : Kept T W → Reply T → Reply T → Type 0
  Exactly call own reply = reply ≡ own

  -- the reply is the model's own, or at a get of a full cell it has a clone of the value
  abbrev pub UpToClones : (T → T → Type 0) → Kept T W → Reply T → Reply T → Type 0
  UpToClones is_clone call own reply = Exactly call own reply ⊎ IsCloned is_clone call own reply

-- THE MACHINE.

module _ {T W : Type 0} (will_wake : W → W → Bool) (sure_wakers : Bool) where
  -- In the sound state `s` the call of the entry returns its reply, wakes these wakers, and leaves
  -- the state `t`.
  pub record Does (s : State T W) (e : Entry T W) (woken : List W) (t : State T W) : Type 0 where
    pub sound : IsSound will_wake s
    -- the reply is that of the cell, or `Memory` if the call may fail with it
    pub replied : (e.reply ≡ reply s.cell e.call)
        ⊎ ((e.reply ≡ Refused why.Memory None) × (may_refuse will_wake sure_wakers s e.call ≡ true))
    pub updated : FitsUpdate s.cell e.call
    pub cell_is : t.cell ≡ next s.cell e
    -- a fill or a close ends all waiting; else a poll that waits registers its waker
    pub waiting_is : t.waiting ≡ (if ends_waiting s.cell t.cell then []
        else fold (with_one_more will_wake) s.waiting (option_to_list (pending_waker e)))
    -- each waker that is added uses up one place of the room; a fill or a close leaves none
    pub room_is_left : (if ends_waiting s.cell t.cell then 0
        else s.room - (length t.waiting - length s.waiting)) ≤ t.room
    pub woken_are : woken ≡ (if ends_waiting s.cell t.cell then s.waiting else [])

  -- The same up to clones: where the machine gives a value, a get may return a clone of it.
  abbrev pub DoesUpTo : (T → T → Type 0) → State T W → Entry T W → List W → State T W → Type 0
  DoesUpTo is_clone s e woken t = (own : Reply T)
      × Does s (record { call = e.call; reply = own }) woken t × UpToClones is_clone e.call own e.reply
