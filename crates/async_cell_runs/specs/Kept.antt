-- Calls of a list, as a history holds them.
use Rattle.std.specs.Prelude.{◌≡◌, List, [], ◌∷◌, Option, Some, None, IfSome, Bool, true, false, ⊤}
use Rattle.async_cell_model.specs.declared.{cell.Cell.Cell, cell.Cell.TheVariants.{Closed, Open}, entry.Entry.Entry, entry.Kept.Kept}
use Rattle.async_cell_model.specs.declared.entry.Kept.TheVariants as kept
use Rattle.async_cell_model.specs.declared.reply.Reply.{Reply}
use Rattle.async_cell_model.specs.{Machine.{content, next}, Legal.copies, History.History}
use Rattle.async_cell_core.specs.Polled.{IsCopied}
use Rattle.async_cell_runs.specs.declared.call.Call.{Call}
use Rattle.async_cell_runs.specs.declared.call.Call.TheVariants.{Set, OrSet, Replace, Update, UpdateSome, TryTake, TryGet, IsSet, PollTake, PollGet, AddOwner, EndOwner, TakeInner}

-- Whether the call is a get: it copies the value. Any other call is none, and `copy_is` proves that
-- these are the copies of the model.
abbrev pub is_get : {T W E : Type 0} → Call T W E → Bool
is_get TryGet = true
is_get (PollGet w) = true
is_get _ = false

-- Whether the call may wait: it is a poll. Any other call is none. If one of those is refused, the
-- core stays as it was, which is proved.
abbrev pub is_poll : {T W E : Type 0} → Call T W E → Bool
is_poll (PollTake w) = true
is_poll (PollGet w) = true
is_poll _ = false

-- `edit` and `edit_some` give what an edit makes of a content and of a value
module _ {T W E : Type 0} (edit : E → Option T → Option T) (edit_some : E → T → T) where
  -- A call on this cell, as a history holds it. An update has what its edit was called with and
  -- what it returned: both are `None` if it was not called.
  abbrev pub kept_call : Cell T → Call T W E → Kept T W
  kept_call c (Set x) = kept.Set x
  kept_call c (OrSet x) = kept.OrSet x
  kept_call c (Replace x) = kept.Replace x
  kept_call Closed (Update e) = kept.Update None None
  kept_call (Open value owners) (Update e) = kept.Update value (edit e value)
  kept_call Closed (UpdateSome e) = kept.UpdateSome None None
  kept_call (Open None owners) (UpdateSome e) = kept.UpdateSome None None
  kept_call (Open (Some v) owners) (UpdateSome e) = kept.UpdateSome (Some v) (Some (edit_some e v))
  kept_call c TryTake = kept.TryTake
  kept_call c TryGet = kept.TryGet
  kept_call c IsSet = kept.IsSet
  kept_call c (PollTake w) = kept.PollTake w
  kept_call c (PollGet w) = kept.PollGet w
  kept_call c AddOwner = kept.AddOwner
  kept_call c EndOwner = kept.EndOwner
  kept_call c TakeInner = kept.TakeInner

  -- the history of these calls from this cell on, with these replies
  abbrev pub history_of : Cell T → List (Call T W E) → List (Reply T) → History T W
  history_of c (call ∷ calls) (reply ∷ replies) =
      let e : Entry T W = record { call = kept_call c call; reply = reply } in
      e ∷ history_of (next c e) calls replies
  history_of c _ _ = []

-- Each get of a full cell returns a clone of its value, or fails with `Memory`. It fails only if
-- the clone can fail.
module _ {T W : Type 0} (is_clone : T → T → Type 0) (is_infallible : T → Type 0) where
  abbrev pub GetsAreCopied : Cell T → History T W → Type 0
  GetsAreCopied c [] = ⊤
  GetsAreCopied c (e ∷ h) =
      (copies e ≡ true → IfSome (content c) (λ v. IsCopied is_clone is_infallible v e.reply))
      × GetsAreCopied (next c e) h
