-- The history of a cell: which cell it is, the calls on it, and what a call adds to it.
use Rattle.std.specs.Prelude.{◌≡◌, ◌⊎◌, ◌≤◌, ◌+◌, ℕ, Bool, true, false, List, [], ◌∷◌, ◌++◌, Contains, length, filter_map, option_to_list, ⊤, Option, Some, None, IfSome, IsSome}
use Rattle.std.specs.Prelude.{IsSomeAnd, Result, Ok, Err, is_some, if◌then◌else◌}
use Rattle.std.specs.List.{All}
use mathlib.Core.List.{IsPrefix}
use Rattle.async_cell_model.specs.declared.cell.Cell.{Cell}
use Rattle.async_cell_model.specs.declared.cell.Cell.TheVariants.{Closed}
use Rattle.async_cell_model.specs.declared.entry.Entry.{Entry}
use Rattle.async_cell_model.specs.declared.entry.Kept.{Kept}
use Rattle.async_cell_model.specs.declared.entry.Kept.TheVariants.{Set, OrSet, TryTake}
use Rattle.async_cell_model.specs.declared.refusal.Refusal.{Refusal}
use Rattle.async_cell_model.specs.declared.refusal.Refusal.TheVariants as why
use Rattle.async_cell_model.specs.declared.reply.Reply.{Reply}
use Rattle.async_cell_model.specs.declared.reply.Reply.TheVariants as reply
use Rattle.async_cell_model.specs.Machine.{State, Does, UpToClones, content, is_closed, next, pending_waker}
use Rattle.async_cell_model.specs.Taken.{given_by}
use Rattle.async_cell_model.specs.History.{History, after, cell_after, has_fill_or_close}
use Rattle.async_cell_model.specs.Legal.{IsLegal, Runs, wakes_after}
use Rattle.async_cell_model.specs.Facts.{Fate, stays, moved, copied, lost, updated, updated_if_full, facts}
use Rattle.async_cell_core.specs.declared.answer.Answer.{Answer}
use Rattle.async_cell_core.specs.IsStep.{WakerRules}
use Rattle.futures.specs.declared.task.Poll.{Poll}
use Rattle.futures.specs.declared.task.Poll.TheVariants as poll

-- how a named cell began: the name of its list of calls, that of the count of its owners, if they
-- are counted, and its first state
pub record Begun (T W : Type 0) : Type 0 where
  pub name : ℕ
  pub permits : Option ℕ
  pub start : State T W

-- how a cell began, the calls on it so far, and the number of who made each: 0 is nobody
pub record Past (T W : Type 0) : Type 0 where
  pub begun : Begun T W
  pub calls : History T W
  pub authors : List ℕ
  -- how many permits of owners are out
  pub out : ℕ

-- the calls that one witness has seen, the number of who made each, and its own; and how many calls
-- were made with it
pub record Seen (T W : Type 0) : Type 0 where
  pub calls : History T W
  pub authors : List ℕ
  pub author : ℕ
  pub own : ℕ

-- a core, beside its past
pub record Logged (T W : Type 0) : Type 0 where
  pub inner : State T W
  pub past : Past T W

-- the first of these numbers: 0 if there is none
abbrev pub first_number : List ℕ → ℕ
first_number [] = 0
first_number (first ∷ rest) = first

module _ {T W : Type 0} where
  -- a cell without a name can have begun anyhow
  abbrev pub Fits : Option (Begun T W) → Begun T W → Type 0
  Fits None begun = ⊤
  Fits (Some named) begun = begun ≡ named

  -- the first state of a named cell
  abbrev pub start_of : Option (Begun T W) → State T W
  start_of None = record { cell = Closed; waiting = []; room = 0 }
  start_of (Some named) = named.start

  -- the name of the count of a cell's owners
  abbrev pub permits_of : Option (Begun T W) → Option ℕ
  permits_of None = None
  permits_of (Some named) = named.permits

  -- whether the call adds an owner or ends one
  abbrev pub is_of_owners : Kept T W → Bool
  is_of_owners call = (facts call).of_owners

  -- a call and the reply to it
  abbrev pub entry_of : Kept T W → Answer T W → Entry T W
  entry_of call answer = record { call = call; reply = answer.reply }

  -- whether the call may change the content: the writes and the takes do
  abbrev pub is_change : Kept T W → Bool
  is_change call = (facts call).changes

  -- a change is one that may be made; any other call is
  abbrev pub IsAllowed : (Kept T W → Type 0) → Kept T W → Type 0
  IsAllowed may call = is_change call ≡ true → may call

module _ {W : Type 0} (will_wake : W → W → Bool) where
  -- Wakers were exchanged for others, which only places of futures do: the lists are equal. Where
  -- no waker would wake another, they need only be as long as each other.
  abbrev pub Exchanged : List W → List W → Type 0
  Exchanged was now = (now ≡ was)
      ⊎ (((v w : W) → will_wake v w ≡ false) × (length now ≡ length was))

module _ {T W : Type 0} (will_wake : W → W → Bool) where
  -- wakers were exchanged, and the rest is as it was, with no less room
  pub record OnlyExchanges (old new : State T W) : Type 0 where
    pub cell : new.cell ≡ old.cell
    pub waiting : Exchanged will_wake old.waiting new.waiting
    pub room : old.room ≤ new.room

module _ {T W : Type 0} (will_wake : W → W → Bool) (sure_wakers : Bool) where
  -- The calls are legal, and lead from the first state to this one. A waker in the history is the
  -- one that was stored first: `waited` are these, and others may wait in their places since.
  pub record IsLed (start : State T W) (calls : History T W) (at : State T W) : Type 0 where
    pub waited : List W
    pub runs : Runs will_wake sure_wakers start calls (wakes_after will_wake start [] calls)
        (record { cell = at.cell; waiting = waited; room = at.room })
    pub exchanged : Exchanged will_wake waited at.waiting

  -- the calls lead to this state, where a value satisfies `holds`
  abbrev pub Leads : (T → Type 0) → Past T W → State T W → Type 0
  Leads holds past at =
      IsLed past.begun.start past.calls at × IfSome (content at.cell) holds

  -- from this state the calls are legal, and the changes among them are allowed
  pub record IsLawful (may : Kept T W → Type 0) (start : State T W) (calls : History T W)
      : Type 0 where
    pub legal : IsLegal will_wake sure_wakers start calls
    pub allowed : All (λ e. IsAllowed may e.call) calls

  -- these calls were seen of the cell with this name, whose list has this name, and whose owners
  -- are counted
  pub record IsSeen (may : Kept T W → Type 0) (named : Option (Begun T W)) (name : ℕ)
      (calls : History T W) : Type 0 where
    pub of_this : named
        ≡ Some (record { name = name; permits = permits_of named; start = start_of named })
    pub counted : IsSome (permits_of named)
    pub lawful : IsLawful may (start_of named) calls

  -- the core made this call and handed out these wakers, and its past has it now at the end, signed
  -- with this number
  pub record Made (old : Logged T W) (call : Kept T W) (reply : Reply T) (woken : List W) (by : ℕ)
      (new : Logged T W) : Type 0 where
    pub does : Does will_wake sure_wakers old.inner
        (record { call = call; reply = reply }) woken new.inner
    pub begun : new.past.begun ≡ old.past.begun
    pub entered : new.past.calls ≡ old.past.calls ++ record { call = call; reply = reply } ∷ []
    pub signed : new.past.authors ≡ old.past.authors ++ by ∷ []

-- The calls that were seen have gone on, and end with this call and its reply. There it is a step
-- of the machine: on the state after all calls before it.
pub record IsLinearized {T W : Type 0} (rules : WakerRules W) (named : Option (Begun T W))
    (seen : History T W) (call : Kept T W) (reply : Reply T) (now : History T W) : Type 0 where
  pub before : History T W
  pub goes_on : IsPrefix seen before
  pub ends : now ≡ before ++ record { call = call; reply = reply } ∷ []
  pub woken : List W
  pub does : Does rules.will_wake rules.SURE_CLONE (after rules.will_wake (start_of named) before)
      (record { call = call; reply = reply }) woken (after rules.will_wake (start_of named) now)

-- The authors that were seen have gone on, and end with the thread's own number, which stays. The
-- witness counts one call more that was made with it.
pub record IsSigned {T W : Type 0} (seen now : Seen T W) : Type 0 where
  pub before : List ℕ
  pub goes_on : IsPrefix seen.authors before
  pub ends : now.authors ≡ before ++ seen.author ∷ []
  pub stays : now.author ≡ seen.author
  pub one_more : now.own ≡ seen.own + 1

-- The first has seen what begins the past of this core. The second has seen all of it, and signs as
-- the first does.
pub record IsReady {T W : Type 0} (will_wake : W → W → Bool) (sure_wakers : Bool)
    (holds : T → Type 0) (named : Option (Begun T W)) (seen now : Seen T W) (core : Logged T W)
    : Type 0 where
  pub led : Leads will_wake sure_wakers holds core.past core.inner
  pub begun : core.past.begun.start ≡ start_of named
  pub calls : IsPrefix seen.calls core.past.calls
  pub authors : IsPrefix seen.authors core.past.authors
  pub whole : now.calls ≡ core.past.calls
  pub whole_authors : now.authors ≡ core.past.authors
  pub stays : now.author ≡ seen.author
  pub none_made : now.own ≡ seen.own

-- What was seen has gone on, and the cell is closed after it.
pub record IsSeenClosed {T W : Type 0} (named : Option (Begun T W)) (seen now : Seen T W)
    : Type 0 where
  pub goes_on : IsPrefix seen.calls now.calls
  pub authors_go_on : IsPrefix seen.authors now.authors
  pub stays : now.author ≡ seen.author
  pub closed : is_closed (cell_after (start_of named).cell now.calls) ≡ true

-- In all that was seen, a `try_take` that this author signed took this value, at some place.
pub record Took {T W : Type 0} (author : ℕ) (value : T) (seen : Seen T W) : Type 0 where
  pub before : History T W
  pub authors_before : List ℕ
  pub as_many : length authors_before ≡ length before
  pub calls : IsPrefix
      (before ++ record { call = TryTake; reply = reply.Value (Some value) } ∷ []) seen.calls
  pub authors : IsPrefix (authors_before ++ author ∷ []) seen.authors

-- `IsLinearized` up to clones: where the machine gives a value, a get may return a clone of it
abbrev pub IsLinearizedUpTo : {T W : Type 0} → (T → T → Type 0) → WakerRules W → Option (Begun T W)
    → History T W → Kept T W → Reply T → History T W → Type 0
IsLinearizedUpTo {T} is_clone rules named seen call reply now = (own : Reply T)
    × IsLinearized rules named seen call own now × UpToClones is_clone call own reply

-- The reply that stands for what a call returned.
module _ {T : Type 0} where
  -- of `set`
  abbrev pub set_reply : {A : Type 0} → Result A T → Reply T
  set_reply (Ok _) = reply.Done
  set_reply (Err back) = reply.Refused why.Closed (Some back)

  -- of `replace` and `or_set`
  abbrev pub write_reply : Result (Option T) T → Reply T
  write_reply (Ok old) = reply.Value old
  write_reply (Err back) = reply.Refused why.Closed (Some back)

  -- of `update`, `update_some` and `add_owner`
  abbrev pub done_reply : {A : Type 0} → Result A Refusal → Reply T
  done_reply (Ok _) = reply.Done
  done_reply (Err why) = reply.Refused why None

  -- of `end_owner`, and of a get up to clones
  abbrev pub end_reply : Result (Option T) Refusal → Reply T
  end_reply (Ok value) = reply.Value value
  end_reply (Err why) = reply.Refused why None

  -- of `take_inner`, where the permit of the owner comes back
  abbrev pub take_reply : {P : Type 0} → Result (Option T) (Refusal × P) → Reply T
  take_reply (Ok value) = reply.Value value
  take_reply (Err back) = reply.Refused back.0 None

  -- of `try_into_inner_as`, which fails only if there are other owners
  abbrev pub inner_reply : {P : Type 0} → Result (Option T) P → Reply T
  inner_reply (Ok value) = reply.Value value
  inner_reply (Err back) = reply.Refused why.StillShared None

  -- of a get: the machine's own reply, where the cell held this content
  abbrev pub get_reply : {A : Type 0} → Option T → Result A Refusal → Reply T
  get_reply held (Ok _) = reply.Value held
  get_reply held (Err why) = reply.Refused why None

  -- of `poll_get`: the machine's own reply, where the cell held this content
  abbrev pub own_poll : Option T → Result (Poll (Option T)) Refusal → Reply T
  own_poll held (Ok (poll.Ready _)) = reply.Ready held
  own_poll held (Ok poll.Pending) = reply.Pending
  own_poll held (Err why) = reply.Refused why None

-- The values of a cell.
module _ {T : Type 0} where
  -- without a rule, any value is one that keeps it
  abbrev pub any_value : (put : Option T) → IfSome put (λ _. ⊤)
  any_value None = tt
  any_value (Some x) = tt

  -- the value in a reply, also one that comes back from a refused call
  abbrev pub value_in : Reply T → Option T
  value_in (reply.Refused why back) = back
  value_in answer = given_by answer

  -- The value that comes out at a call with this fate of what it finds, and which puts in `put`.
  -- Where the reply neither moves nor copies, a value in it is the call's own, which was not used.
  abbrev pub out_by : Fate T → Option T → Reply T → Option T
  out_by (updated saw) put answer = saw
  out_by (updated_if_full saw) put answer = saw
  out_by copied put answer = None
  out_by moved put answer = value_in answer
  out_by stays put answer = if is_some (value_in answer) then put else None
  out_by lost put answer = if is_some (value_in answer) then put else None

  -- what a call with this fate of the content drops
  abbrev pub lost_by : Fate T → Option T → List T
  lost_by stays old = []
  lost_by moved old = []
  lost_by copied old = []
  lost_by lost old = option_to_list old
  lost_by (updated saw) old = []
  lost_by (updated_if_full saw) old = []

  -- It is the fate at a take: a change whose reply moves the value out, and which puts none in. A
  -- call with any other fate is no take, so it may not be made where only takes may be made.
  abbrev pub IsTaken : Fate T → Option T → Bool → Type 0
  IsTaken moved None true = ⊤
  IsTaken fate put changes = ⊥

  -- With this fate, the value stays, or the one put in follows it. Any other fate promises neither,
  -- so a call with it may not be made where values only go on.
  abbrev pub IsFollowed : (T → T → Type 0) → Fate T → Option T → Type 0
  IsFollowed Follows stays (Some x) = ⊤
  IsFollowed Follows (updated (Some old)) put = IsSomeAnd put (Follows old)
  IsFollowed Follows (updated None) put = ⊤
  IsFollowed Follows (updated_if_full (Some old)) put = IsSomeAnd put (Follows old)
  IsFollowed Follows (updated_if_full None) put = ⊤
  IsFollowed Follows fate put = ⊥

module _ {T W : Type 0} where
  -- the value that goes in: passed to a write, or returned by the closure of an update
  abbrev pub goes_in : Kept T W → Option T
  goes_in call = (facts call).puts

  -- the value that the call puts in satisfies `P`
  abbrev pub Puts : (T → Type 0) → Kept T W → Type 0
  Puts P call = IfSome (goes_in call) P

  -- without a rule, each call puts in what keeps it
  abbrev pub puts_any : (call : Kept T W) → Puts (λ _. ⊤) call
  puts_any call = any_value (goes_in call)

  -- the value that comes out: moved to the closure of an update, or by the reply, also where it was
  -- not used or the call was refused. A get only copies it.
  abbrev pub comes_out : Kept T W → Reply T → Option T
  comes_out call reply = out_by (facts call).fate (facts call).puts reply

  -- what the call drops: a `set` the value that it replaces
  abbrev pub dropped_by : Cell T → Kept T W → List T
  dropped_by c call = lost_by (facts call).fate (content c)

  -- all values that these calls put in
  abbrev pub gone_in : History T W → List T
  gone_in h = filter_map (λ e. goes_in e.call) h

  -- all values that came out at these calls
  abbrev pub come_out : History T W → List T
  come_out h = filter_map (λ e. comes_out e.call e.reply) h

  -- the values that the `set`s among these calls replaced: each was dropped
  abbrev pub dropped : Cell T → History T W → List T
  dropped c [] = []
  dropped c (e ∷ h) = dropped_by c e.call ++ dropped (next c e) h

  -- among these calls is this one, with this reply
  pub record HasEntry (calls : History T W) (call : Kept T W) (reply : Reply T) : Type 0 where
    pub there : Contains calls (record { call = call; reply = reply })

  -- the call is an `or_set`, and no other one
  abbrev pub IsOrSet : Kept T W → Type 0
  IsOrSet (OrSet x) = ⊤
  IsOrSet _ = ⊥

  -- the call is no `set`: any other one, which then must drop nothing (`none_dropped`)
  abbrev pub IsNoSet : Kept T W → Type 0
  IsNoSet (Set x) = ⊥
  IsNoSet _ = ⊤

  -- the call takes the value
  abbrev pub IsTake : Kept T W → Type 0
  IsTake call = IsTaken (facts call).fate (facts call).puts (facts call).changes

  -- of a full cell, the call makes one with a value that follows the one that was there
  abbrev pub GoesOn : (T → T → Type 0) → Kept T W → Type 0
  GoesOn Follows call = IsFollowed Follows (facts call).fate (facts call).puts

  -- the changes that may be made are such calls
  abbrev pub OnlyMakes : (Kept T W → Type 0) → (Kept T W → Type 0) → Type 0
  OnlyMakes may Such = (call : Kept T W) → may call → IsAllowed Such call

-- Who waits. A poll with this waker has returned `Pending`, and nothing filled or closed the cell
-- since.
pub record StillWaits {T W : Type 0} (start : Cell T) (w : W) (calls : History T W) : Type 0 where
  pub before : History T W
  pub poll : Entry T W
  pub later : History T W
  pub split : calls ≡ before ++ poll ∷ later
  pub pending : pending_waker poll ≡ Some w
  pub none : has_fill_or_close (cell_after start (before ++ poll ∷ [])) later ≡ false
