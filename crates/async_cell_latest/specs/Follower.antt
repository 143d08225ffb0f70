-- What a follower is shown over a history, the writes of one, and the polls that wait.
use Rattle.std.specs.Prelude.{◌≡◌, ◌≤◌, ◌<◌, ℕ, Bool, true, false, ◌||◌, [], ◌∷◌, Option, Some, None, ⊤}
use Rattle.std.specs.List.{list_any}
use Rattle.async_cell_latest.specs.State.{State}
use Rattle.async_cell_latest.specs.Step.{Kept, Read, PollChanged, Reply, Old, Shown, Pending, ends_waiting}
use Rattle.async_cell_latest.specs.History.{History, then_state}

-- the version that a follower has seen after a reply, if it had seen `seen` before
abbrev pub seen_then : {T : Type 0} → ℕ → Reply T → ℕ
seen_then seen (Shown version value) = version
seen_then seen _ = seen

-- whether the reply is that of a write that succeeded
abbrev pub is_old : {T : Type 0} → Reply T → Bool
is_old (Old value) = true
is_old _ = false

module _ {T W : Type 0} where
  -- the call is one of a follower that has seen this version: a read, or a poll that passes it
  abbrev pub IsBy : ℕ → Kept T W → Type 0
  IsBy seen Read = ⊤
  IsBy seen (PollChanged passed w) = passed ≡ seen
  IsBy seen _ = ⊥

  -- these are the entries of one follower, which had seen this version before: each poll passes the
  -- version that the follower saw last
  abbrev pub IsFollower : ℕ → History T W → Type 0
  IsFollower seen [] = ⊤
  IsFollower seen (e ∷ h) = IsBy seen e.call × IsFollower (seen_then seen e.reply) h

  -- the version that the follower has seen after these entries
  abbrev pub seen_after : ℕ → History T W → ℕ
  seen_after seen [] = seen
  seen_after seen (e ∷ h) = seen_after (seen_then seen e.reply) h

  -- what the call shows is newer than this version if it is a poll, and no older if it is a read
  abbrev pub IsNewer : ℕ → Kept T W → Reply T → Type 0
  IsNewer seen (PollChanged passed w) (Shown version value) = seen < version
  IsNewer seen Read (Shown version value) = seen ≤ version
  IsNewer seen call reply = ⊤

  -- each entry of the follower shows a newer version than it saw last (a read: no older one)
  abbrev pub IsRising : ℕ → History T W → Type 0
  IsRising seen [] = ⊤
  IsRising seen (e ∷ h) = IsNewer seen e.call e.reply × IsRising (seen_then seen e.reply) h

  -- whether some entry is a write that succeeded
  abbrev pub has_write : History T W → Bool
  has_write h = list_any (λ e. is_old e.reply) h

  -- the waker of a poll that returned `Pending`
  abbrev pub pending_waker : Kept T W → Reply T → Option W
  pending_waker (PollChanged seen w) Pending = Some w
  pending_waker _ _ = None

module _ {T W : Type 0} (will_wake : W → W → Bool) where
  -- whether some entry ends all waiting: a write that succeeds, or the end of the last owner
  abbrev pub has_end : State T W → History T W → Bool
  has_end s [] = false
  has_end s (e ∷ h) = ends_waiting s e.call || has_end (then_state will_wake s e) h
