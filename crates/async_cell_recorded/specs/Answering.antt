-- What is stored of a call, and what it returns.
use Rattle.std.specs.Prelude.{◌≡◌, ◌⊎◌, ◌++◌, ◌∷◌, [], List, Option, Result, IfOk, IfErr, OnErr}
use Rattle.async_cell_wakers.specs.declared.named.Named.{Named}
use Rattle.async_cell_model.specs.declared.{cell.Cell.Cell, entry.Kept.Kept, refusal.Refusal.Refusal}
use Rattle.async_cell_model.specs.declared.entry.Kept.TheVariants as kept
use Rattle.async_cell_model.specs.declared.refusal.Refusal.TheVariants.{Memory, OutOfTurn}
use Rattle.async_cell_model.specs.{Legal.woken_by, Machine.reply}
use Rattle.async_cell_recorded.specs.declared.history.Entry.{Entry}
use Rattle.async_cell_recorded.specs.{Counting.ShareState, Counting.Test, Counting.share_after, Recording.Recording, Recording.IsRecorded, Recording.state, Recording.plain_entry}

-- the call of a history, if it left this content: an update returned it
abbrev pub kept_after : {T W : Type 0} → Kept T W → Option T → Kept T W
kept_after (kept.Update saw _) put = kept.Update saw put
kept_after (kept.UpdateSome saw _) put = kept.UpdateSome saw put
kept_after call put = call

module _ {T : Type 0} where
  -- The entry may come next in a recorded history. On the cell there it holds the call that was
  -- made, it replies what that cell replies, and these names are those that it wakes.
  pub record ComesAfter (before : Recording T) (call : Cell T → Kept T Named)
      (entry : Entry T) (names : List Named) : Type 0 where
    pub recorded : IsRecorded (record before { entries = before.entries ++ entry ∷ [] })
    pub called : entry.call ≡ call (state before).cell
    pub replied : entry.reply ≡ reply (state before).cell entry.call
    pub woken : names ≡ woken_by (state before) (plain_entry entry)

  -- What a call with a share returns: an entry of that share with its next serial, which comes
  -- after some recorded history. The share counts the call, and whether its result was picked.
  abbrev pub IsAnswer : Test T → (Cell T → Kept T Named) → ShareState → Entry T → List Named
      → ShareState → Type 0
  IsAnswer test call share entry names share' =
      (entry.share ≡ share.number) × (entry.serial ≡ share.count)
      × (share' ≡ share_after test share entry names)
      × ((before : Recording T) × ComesAfter before call entry names)

  -- The result of a recorded call. `call` is what is stored of it, on each cell. It returns an
  -- entry, or it fails, out of turn or because there is no memory, and leaves its share unchanged.
  abbrev pub IsCallResult : Test T → (Cell T → Kept T Named) → ShareState
      → Result (Entry T × List Named) Refusal → ShareState → Type 0
  IsCallResult test call share result share' =
      IfOk result (λ answer. IsAnswer test call share answer.0 answer.1 share')
      × IfErr result (λ why. (why ≡ OutOfTurn) ⊎ (why ≡ Memory))
      × OnErr result (share' ≡ share)
