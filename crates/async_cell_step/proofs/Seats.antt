-- What the clauses of a core say of the task that waits there.
use Rattle.std.proofs.Common.{◌≡◌, ℕ, inl, inr, arith, List, Option, Some, None, Result, Ok, Err, OnOk, sym, subst, ◌∙◌}
use Rattle.std.specs.Prelude.{slice_get}
use Rattle.futures.specs.declared.{task.context.Context.Context, task.waker.Waker.Waker}
use Rattle.async_cell_wakers.specs.Place.{IsOfTask, Renews}
use Rattle.async_cell_wakers.proofs.Places.{at_swapped}
use Rattle.async_cell_step.specs.Seat.{WaitsAt}

module _ {C : Type 0} (waiting : C → List (Option Waker)) (old new : Context) (core : C) (index : ℕ) where
  there : (waker : Option Waker) → IsOfTask old new waker → slice_get (waiting core) index ≡ Some waker → WaitsAt waiting index old new
  there waker (inl lacks) is = inl (inr lacks)
  there None (inr none) is = absurd none
  there (Some waker) (inr wakes) is = inr (core, (waker, is, wakes))

  -- the task waits where its waker was renewed
  pub renewed : (list : List (Option Waker)) → Renews list index old new (waiting core) → WaitsAt waiting index old new
  renewed list (before, after, swapped, is) = there after is (at_swapped list (waiting core) index before after swapped)

  -- and where a waker that was registered is stored
  pub stored : {A E : Type 0} (slot : Option Waker) (waker : Waker) (ended answer : Result A E) (x : A) (at : ℕ) (taken : Option Waker) → IsOfTask old new slot → slot ≡ Some waker
      → OnOk answer (slice_get (waiting core) at ≡ Some taken) → ended ≡ answer → ended ≡ Ok x → taken ≡ Some waker → index ≡ at → WaitsAt waiting index old new
  stored slot waker ended answer x at taken left is seated ends ok of same =
      there slot left (rw (same, is, ← of) (subst (λ r. OnOk r (slice_get (waiting core) at ≡ Some taken)) (sym ends ∙ ok) seated))
