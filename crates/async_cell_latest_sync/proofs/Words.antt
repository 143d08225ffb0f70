-- The words that the proofs use.
pub use Rattle.async_cell_latest.specs.State.{State, is_closed}
pub use Rattle.async_cell_latest_sync.specs.Found.{IsFound}
pub use Rattle.async_cell_latest_sync.specs.Life.{Begun, Life, GoesOn, IsLawful, IsOf, IsShownNext, values_of, closed_of, life_of}
pub use Rattle.async_cell_model.specs.declared.refusal.Refusal.{Refusal}
pub use Rattle.ghost_tokens.proofs.LogSteps.{shorter_begins}
pub use Rattle.std.proofs.Common.{◌<◌, ◌≤◌, ◌≡◌, ◌≢◌, ℕ, Bool, true, false, List, [], ◌∷◌, ◌++◌, length, Option, Some, None, IsSome, IfErr, Result, Ok, Err, refl, ap, sym, subst, arith, length-append}
pub use Rattle.std.proofs.Common.{◌∙◌, ◌⊎◌, inl, inr, append_assoc, append-nil}
pub use Rattle.std.specs.{Borrow.Bor, Fn.Mut, Fn.CalledAt, Fn.FnOnceReturnsAt}
pub use mathlib.Core.List.{IsPrefix}
