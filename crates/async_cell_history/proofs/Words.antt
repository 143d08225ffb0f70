-- The words of these proofs.
pub use Rattle.async_cell_model.proofs.Words.{◌≡◌, ◌⊎◌, ◌++◌, ℕ, Bool, List, [], ◌∷◌, Option, Some, None, refl, ap, sym, subst, ◌∙◌, inl, inr, append_assoc, arith, true, false, ◌+◌, ◌≤◌, suc}
pub use Rattle.async_cell_model.proofs.Words.{length, append-nil, ◌<◌, if◌then◌else◌, option_to_list, AllPairs, All, cons_option, Contains-append_left, Contains-push, filter_map-append}
pub use Rattle.async_cell_model.proofs.Words.{State, Exactly, UpToClones, content, next, is_memory, IsSound, ends_waiting, is_vacant, may_refuse, reply, Does, History, cell_after}
pub use Rattle.async_cell_model.proofs.Words.{after, IsCovered, waiting, IsExact, IsLegalAfterBy, MayFollowBy, IsLegal, IsLegalUpTo, Runs, wakes_after, woken_by}
pub use Rattle.std.proofs.Common.{rules, Contains, Result, Ok, Err, IfErr, IfOk, IfSome, ◌≢◌, map}
pub use Rattle.std.proofs.lemmas.List.{length-append, map-append, same_from_push}
pub use Rattle.std.proofs.lemmas.List.Elements.{All-head, All-tail, All-weaker, All-contains, All-contains_itself, Contains-append_right, Contains-append_cases, All-append, All-cons, All-nil}
pub use Rattle.std.specs.List.{count_by}
pub use Rattle.std.specs.Prelude.{⊤, IsSomeAnd, cond}
pub use mathlib.Core.List.{IsPrefix}
pub use Rattle.async_cell_model.proofs.Exact.{NoClone, legal_of_exact}
pub use Rattle.async_cell_model.proofs.JoinedHistory.{cell_after-append, after-append}
pub use Rattle.async_cell_model.proofs.Machine.{model_of, machine_of}
pub use Rattle.async_cell_model.proofs.Whole.{stays_covered, IsLegalAfter-first, after-nil, IsSound-after}
pub use Rattle.async_cell_model.specs.Machine.{FitsUpdate, on_open, is_closed, owners_of}
pub use Rattle.async_cell_model.specs.declared.cell.Cell.{Cell}
pub use Rattle.async_cell_model.specs.declared.cell.Cell.TheVariants.{Closed, Open}
pub use Rattle.async_cell_model.specs.declared.entry.Entry.{Entry}
pub use Rattle.async_cell_model.specs.declared.entry.Kept.{Kept}
pub use Rattle.async_cell_model.specs.declared.entry.Kept.TheVariants.{Update, UpdateSome, TryGet, EndOwner, Set, TryTake, TakeInner}
pub use Rattle.async_cell_model.specs.declared.reply.Reply.{Reply}
pub use Rattle.async_cell_model.specs.declared.reply.Reply.TheVariants.{Value, Done, Refused}
pub use Rattle.async_cell_core.specs.IsStep.{WakerRules}
pub use Rattle.async_cell_history.specs.History.{Begun, GoesOn, HasEntry, IsAllowed, IsLawful, IsOrSet, IsLinearized, IsLinearizedUpTo, OnlyMakes, start_of, StillWaits, Seen, IsSigned, get_reply}
pub use Rattle.async_cell_history.specs.History.{IsNoSet, come_out, comes_out, dropped, dropped_by, goes_in, gone_in, IsTake, Took, Puts, is_of_owners, Past, Leads, Logged, Made, IsReady}
