-- What each call is, apart from what it does to a cell. One row a call, and no row for all others:
-- without its row a new call is an error.
use Rattle.std.specs.Prelude.{Bool, true, false, Option, Some, None}
use Rattle.async_cell_model.specs.declared.entry.Kept.{Kept}
use Rattle.async_cell_model.specs.declared.entry.Kept.TheVariants.{Set, OrSet, Replace, Update, UpdateSome, TryTake, TryGet, IsSet, PollTake, PollGet, AddOwner, EndOwner, TakeInner}

-- what becomes of the value that a call finds
pub data Fate (T : Type 0) : Type 0 where
  -- it stays
  stays : Fate T
  -- the reply moves it out
  moved : Fate T
  -- it stays, and the reply has a copy
  copied : Fate T
  -- it is replaced and dropped
  lost : Fate T
  -- it is moved to a closure, which is called on an open cell, with `saw`
  updated : (saw : Option T) → Fate T
  -- it is moved to a closure, which is called only on a full cell
  updated_if_full : (saw : Option T) → Fate T

-- the facts of a call
pub record Facts (T W : Type 0) : Type 0 where
  -- the value that it puts in: passed to a write, or returned by the closure of an update
  pub puts : Option T
  pub fate : Fate T
  -- the waker of a poll
  pub waker : Option W
  -- whether it may change the content: the writes and the takes do
  pub changes : Bool
  -- whether it adds an owner or ends one
  pub of_owners : Bool

module _ {T W : Type 0} where
  -- a row of the table
  abbrev row : Option T → Fate T → Option W → Bool → Bool → Facts T W
  row puts fate waker changes of_owners = record {
    puts = puts;
    fate = fate;
    waker = waker;
    changes = changes;
    of_owners = of_owners;
  }

  -- the table: what the call puts in, the fate of what it finds, its waker, whether it is a change,
  -- and whether it is of owners
  abbrev pub facts : Kept T W → Facts T W
  facts (Set x) = row (Some x) lost None true false
  facts (OrSet x) = row (Some x) stays None true false
  facts (Replace x) = row (Some x) moved None true false
  facts (Update saw put) = row put (updated saw) None true false
  facts (UpdateSome saw put) = row put (updated_if_full saw) None true false
  facts TryTake = row None moved None true false
  facts TryGet = row None copied None false false
  facts IsSet = row None stays None false false
  facts (PollTake w) = row None moved (Some w) true false
  facts (PollGet w) = row None copied (Some w) false false
  facts AddOwner = row None stays None false true
  facts EndOwner = row None moved None false true
  facts TakeInner = row None moved None true true

module _ {T : Type 0} where
  -- whether the value is moved out by the reply
  abbrev pub is_moved : Fate T → Bool
  is_moved stays = false
  is_moved moved = true
  is_moved copied = false
  is_moved lost = false
  is_moved (updated saw) = false
  is_moved (updated_if_full saw) = false

  -- whether the reply has a copy of the value
  abbrev pub is_copied : Fate T → Bool
  is_copied stays = false
  is_copied moved = false
  is_copied copied = true
  is_copied lost = false
  is_copied (updated saw) = false
  is_copied (updated_if_full saw) = false

  -- whether the value is moved to a closure
  abbrev pub is_updated : Fate T → Bool
  is_updated stays = false
  is_updated moved = false
  is_updated copied = false
  is_updated lost = false
  is_updated (updated saw) = true
  is_updated (updated_if_full saw) = true
