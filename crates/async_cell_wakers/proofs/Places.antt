-- Where a waker is in a wait list.
use Rattle.std.proofs.Common.{◌≡◌, ℕ, suc, zero, Bool, true, false, List, [], ◌∷◌, ◌++◌, length, Option, Some, None, IfSome, IfNone, IsTrue, refl, arith}
use Rattle.std.specs.Prelude.{slice_get, slice_set}
use Rattle.futures.specs.declared.{task.context.Context.Context, task.waker.Waker.Waker}
use Rattle.async_cell_wakers.specs.{Place.{Renews, Swaps}, WaitList.ListState}

-- one that is added is the last
pub at_last : {W : Type 0} (l : List W) (w : W) (index : ℕ) → index ≡ length l → slice_get (l ++ w ∷ []) index ≡ Some w
at_last [] w index is = rw is refl
at_last (x ∷ l) w index is = rw is (at_last l w (length l) refl)

at_set : {W : Type 0} (l : List W) (index : ℕ) (before after : W) → slice_get l index ≡ Some before → slice_get (slice_set l index after) index ≡ Some after
at_set [] index before after was = grind arith
at_set (x ∷ l) zero before after was = refl
at_set (x ∷ l) (suc index) before after was = at_set l index before after was

-- where one was exchanged, the new one is
pub at_swapped : {W : Type 0} (old new : List W) (index : ℕ) (before after : W) → Swaps old index before after new → slice_get new index ≡ Some after
at_swapped old new index before after swapped = rw swapped.becomes (at_set old index before after swapped.was)

-- A list in which a waker was exchanged is empty if the one before was.
module _ {W : Type 0} (old new : ListState W) where
  swapped_none : (index : ℕ) (before after : W) → Swaps old.wakers index before after new.wakers → old.wakers ≡ [] → new.wakers ≡ []
  swapped_none index before after swapped none = rw (swapped.becomes, none) refl

  -- where the waker was taken out, if there was one
  pub taken_none : {A : Type 0} (taken : Option A) (index : ℕ) (before : A → W) (after : W) → IfSome taken (λ x. Swaps old.wakers index (before x) after new.wakers)
      → IfNone taken (new ≡ old) → old.wakers ≡ [] → new.wakers ≡ []
  taken_none None index before after swapped same none = rw same none
  taken_none (Some x) index before after swapped same none = swapped_none index (before x) after swapped none

module _ (old new : ListState (Option Waker)) (index : ℕ) (cx cx' : Context) where
  one_renewed : Renews old.wakers index cx cx' new.wakers → old.wakers ≡ [] → new.wakers ≡ []
  one_renewed (before, after, swapped, of_task) none = swapped_none old new index before after swapped none

  -- where the waker was renewed, or was not
  pub renewed_none : (renewed : Bool) → (IsTrue renewed → Renews old.wakers index cx cx' new.wakers) → (renewed ≡ false → (new ≡ old) × (cx' ≡ cx)) → old.wakers ≡ [] → new.wakers ≡ []
  renewed_none true is same none = one_renewed (is refl) none
  renewed_none false is same none = rw (same refl).0 none
