-- What gets, and polls that wait with a waker of their own, do to a sound state.
use Rattle.async_cell_model.proofs.Words.{◌≡◌, ◌⊎◌, ◌≤◌, ◌<◌, ◌-◌, Bool, true, false, [], ◌∷◌, ◌++◌, Option, None, arith, nat_tests, length-append, content, is_vacant, State, IsSound, Does, DoesUpTo}
use Rattle.std.specs.Prelude.{ℕ, Result, IfOk, IfNone, MatchOption, OnOk, OnErr, IsOk}
use Rattle.async_cell_model.specs.declared.{entry.Kept.Kept, entry.Kept.TheVariants.{TryGet, PollTake, PollGet}, refusal.Refusal.Refusal}
use Rattle.async_cell_model.specs.declared.refusal.Refusal.TheVariants as why
use Rattle.async_cell_model.specs.declared.reply.Reply.TheVariants.{Value, Ready, Refused}
use Rattle.async_cell_model.specs.Machine.{is_full}
use Rattle.async_cell_model.proofs.OneMoreWaker.{all_wait, may_lack_memory, never_skipped}
use Rattle.async_cell_core.specs.{IsStep.{wait_answer}, Stored.{cell_of, state_of}, Polled.IsCloneOf}
use Rattle.async_cell_wakers.specs.{Place.{Swaps, displaced}, WaitList.ListState}

module _ {T W : Type 0} (is_clone : T → T → Type 0) (will_wake : W → W → Bool) (sure : Bool) where
  -- a `TryGet` that returns a clone of what the cell holds
  pub get_cloned : (b : State T W) (copy : Option T) → IsSound will_wake b → IsCloneOf is_clone (content b.cell) copy
      → DoesUpTo will_wake sure is_clone b (record { call = TryGet; reply = Value copy }) [] b
  get_cloned b copy sound cloned = (Value (content b.cell), grind arith, grind arith)

  -- and such a poll, where it need not wait
  pub poll_cloned : (b : State T W) (w : W) (copy : Option T) → IsSound will_wake b → is_vacant b.cell ≡ false → IsCloneOf is_clone (content b.cell) copy
      → DoesUpTo will_wake sure is_clone b (record { call = PollGet w; reply = Ready copy }) [] b
  poll_cloned b w copy sound full cloned = (Ready (content b.cell), grind arith, grind arith)

  -- a `TryGet` for whose clone there is no memory
  pub get_refused : (b : State T W) → IsSound will_wake b → is_full b.cell ≡ true
      → DoesUpTo will_wake sure is_clone b (record { call = TryGet; reply = Refused why.Memory None }) [] b
  get_refused b sound full = (Refused why.Memory None, grind arith, grind arith)

-- A `PollGet` that need not wait does as a `TryGet` does.
module _ {T W : Type 0} (will_wake : W → W → Bool) (sure : Bool) where
  pub poll_ready : (b : State T W) (w : W) (copy : Option T) → IsSound will_wake b → is_vacant b.cell ≡ false → copy ≡ content b.cell
      → Does will_wake sure b (record { call = PollGet w; reply = Ready copy }) [] b
  poll_ready b w copy sound full is = grind arith

  pub poll_refused : (b : State T W) (w : W) (refusal : Refusal) → is_vacant b.cell ≡ false → Does will_wake sure b (record { call = TryGet; reply = Refused refusal None }) [] b
      → Does will_wake sure b (record { call = PollGet w; reply = Refused refusal None }) [] b
  poll_refused b w refusal full does = grind arith

-- A poll that waits gives its waker by value, and may find a place. If it does, the waker is not
-- added. Else it is added, or comes back where there is no memory.
module _ {T W : Type 0} (will_wake : W → W → Bool) (sure : Bool) (never : (a b : W) → will_wake a b ≡ false) (value : Option T) (owners : ℕ) (old new : ListState W) (w : W) (call : Kept T W)
    (poll : (call ≡ PollTake w) ⊎ (call ≡ PollGet w)) (sound : IsSound will_wake (state_of value owners old)) (vacant : is_vacant (cell_of value owners) ≡ true) where
  pub stored : (result : Result (Option W) W) (index : ℕ) → IfOk result (λ before. MatchOption before (new.wakers ≡ old.wakers ++ w ∷ []) (λ there. Swaps old.wakers index there w new.wakers))
      → OnOk result (old.room - 1 ≤ new.room) → OnErr result (new ≡ old) → (old.wakers ≡ [] → IsOk result) → (0 < old.room → IsOk result)
      → IfNone (displaced result) (Does will_wake sure (state_of value owners old) (record { call = call; reply = (wait_answer {T = T} {W = W} result).reply })
      (wait_answer {T = T} {W = W} result).woken (state_of value owners new))
  stored result index waiting room same first more = grind (arith, nat_tests, length-append, never_skipped, may_lack_memory sure old.wakers old.room)

-- where none is ever skipped, another list that is empty if the first was leaves a state sound
pub still_sound : {T W : Type 0} (will_wake : W → W → Bool) (never : (a b : W) → will_wake a b ≡ false) (value : Option T) (owners : ℕ) (old new : ListState W)
    → IsSound will_wake (state_of value owners old) → (old.wakers ≡ [] → new.wakers ≡ []) → IsSound will_wake (state_of value owners new)
still_sound will_wake never value owners old new sound none = record {
  counted = sound.counted;
  waits_vacant = λ not. none (sound.waits_vacant not);
  none_skipped = all_wait will_wake new.wakers never;
}

-- and of a vacant cell each list does
pub vacant_sound : {T W : Type 0} (will_wake : W → W → Bool) (never : (a b : W) → will_wake a b ≡ false) (value : Option T) (owners : ℕ) (old new : ListState W)
    → IsSound will_wake (state_of value owners old) → is_vacant (cell_of value owners) ≡ true → IsSound will_wake (state_of value owners new)
vacant_sound will_wake never value owners old new sound vacant = record {
  counted = sound.counted;
  waits_vacant = λ not. cc;
  none_skipped = all_wait will_wake new.wakers never;
}
