-- What a poll that has to wait does to a sound state.
use Rattle.async_cell_model.proofs.Words.{◌≡◌, ◌≤◌, ◌-◌, Bool, true, false, not, [], ◌∷◌, ◌++◌, None, arith, length-append, PollTake}
use Rattle.async_cell_model.proofs.Words.{PollGet, Pending, Refused, is_vacant, skips, State, IsSound, needs_no_memory, Does}
use Rattle.async_cell_model.specs.declared.refusal.Refusal.TheVariants as why

module _ {T W : Type 0} (will_wake : W → W → Bool) (sure : Bool) where
  -- a poll adds its waker, and takes one place of the room at most
  pub get_added : (b to : State T W) (w : W) → IsSound will_wake b → is_vacant b.cell ≡ true → skips will_wake b.waiting w ≡ false
      → to.cell ≡ b.cell → to.waiting ≡ b.waiting ++ w ∷ [] → b.room - 1 ≤ to.room → Does will_wake sure b (record { call = PollGet w; reply = Pending }) [] to
  get_added b to w sound vacant not cell waiting less = grind (arith, length-append)

  pub take_added : (b to : State T W) (w : W) → IsSound will_wake b → is_vacant b.cell ≡ true → skips will_wake b.waiting w ≡ false
      → to.cell ≡ b.cell → to.waiting ≡ b.waiting ++ w ∷ [] → b.room - 1 ≤ to.room → Does will_wake sure b (record { call = PollTake w; reply = Pending }) [] to
  take_added b to w sound vacant not cell waiting less = grind (arith, length-append)

  -- one whose waker is skipped changes nothing
  pub get_skipped : (b : State T W) (w : W) → IsSound will_wake b → is_vacant b.cell ≡ true → skips will_wake b.waiting w ≡ true
      → Does will_wake sure b (record { call = PollGet w; reply = Pending }) [] b
  get_skipped b w sound vacant is = grind arith

  pub take_skipped : (b : State T W) (w : W) → IsSound will_wake b → is_vacant b.cell ≡ true → skips will_wake b.waiting w ≡ true
      → Does will_wake sure b (record { call = PollTake w; reply = Pending }) [] b
  take_skipped b w sound vacant is = grind arith

  -- one that is refused leaves the cell and those that wait, and at least the room
  pub get_refused : (b to : State T W) (w : W) → IsSound will_wake b → is_vacant b.cell ≡ true → needs_no_memory will_wake sure b w ≡ false
      → to.cell ≡ b.cell → to.waiting ≡ b.waiting → b.room ≤ to.room → Does will_wake sure b (record { call = PollGet w; reply = Refused why.Memory None }) [] to
  get_refused b to w sound vacant needs cell waiting less = grind arith

  pub take_refused : (b to : State T W) (w : W) → IsSound will_wake b → is_vacant b.cell ≡ true → needs_no_memory will_wake sure b w ≡ false
      → to.cell ≡ b.cell → to.waiting ≡ b.waiting → b.room ≤ to.room → Does will_wake sure b (record { call = PollTake w; reply = Refused why.Memory None }) [] to
  take_refused b to w sound vacant needs cell waiting less = grind arith
