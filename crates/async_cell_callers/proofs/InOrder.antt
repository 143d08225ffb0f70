-- Two looks, one after the other.
use Rattle.async_cell_latest_sync.specs.Life.{Life, IsShown, IsShownNext}
use Rattle.async_cell_latest_sync.specs.InOrder.{AreInOrder}
use Rattle.async_cell_latest_sync.proofs.InOrder.{in_order, stays_itself}

module _ {T : Type 0} (is_clone : T → T → Type 0) where
  -- what is shown next was written later
  pub next_in_order : (seen now later : Life T) (x y : T) → IsShown is_clone seen x now → IsShownNext is_clone now y later → AreInOrder is_clone x y later.values
  next_in_order seen now later x y shown next = in_order is_clone seen now now later x y shown (stays_itself now) next
