-- The words that the proofs use.
pub use Rattle.async_cell_latest.specs.Follower.{pending_waker, has_end, seen_then, IsBy, IsFollower, seen_after, is_old, has_write, IsNewer, IsRising}
pub use Rattle.async_cell_latest.specs.History.{Runs, History, is_memory, then_state, after, Entry, MayFollow, IsLegal, all_woken}
pub use Rattle.async_cell_latest.specs.IsStep.{wait_answer}
pub use Rattle.async_cell_latest.specs.State.{State, IsSound, Stays, is_closed}
pub use Rattle.async_cell_latest.specs.Step.{PollChanged, Kept, next, Shown, ends_waiting}
pub use Rattle.async_cell_model.proofs.OneMoreWaker.{may_lack_memory, never_skipped, keep_added}
pub use Rattle.async_cell_model.specs.History.{IsCovered}
pub use Rattle.async_cell_model.specs.Machine.{skips}
pub use Rattle.async_cell_model.specs.Taken.{IsSubsequence, none, skip, both}
pub use Rattle.std.proofs.Common.{◌≡◌, ◌≤◌, ◌<◌, ◌-◌, ℕ, Bool, true, false, List, [], ◌∷◌, ◌++◌, Some, Result, OnOk, OnErr, IsOk, refl, arith, le_refl}
pub use Rattle.std.proofs.lemmas.Bool.{or_parts, Decides.nat_tests}
pub use Rattle.std.proofs.lemmas.List.Elements.{Contains-append_left, Contains-push}
pub use Rattle.std.proofs.lemmas.List.Folds.{list_any-append}
pub use Rattle.std.specs.Prelude.{if◌then◌else◌}
