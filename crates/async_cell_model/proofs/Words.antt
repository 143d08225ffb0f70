-- The words that the proofs use.
pub use Rattle.async_cell_model.specs.History.{History, cell_after, after, waiting, IsCovered, registrations, has_fill_or_close, since, room}
pub use Rattle.async_cell_model.specs.Legal.{IsLegalAfterBy, MayFollowBy, is_refused, RunsBy, wakes_after, IsLegal, IsLegalUpTo}
pub use Rattle.async_cell_model.specs.Legal.{Runs, RunsUpTo, Steps, StepsUpTo, woken_by, IsExact, copies, IsLegalAfter}
pub use Rattle.async_cell_model.specs.Machine.{content, next, reply, State, IsCloned, UpToClones, ends_waiting, IsCounted, is_vacant, wait_list, IsSound, pending_waker}
pub use Rattle.async_cell_model.specs.Machine.{is_empty, skips, with_one_more, is_pending, needs_no_memory, Does, Exactly, is_memory, DoesUpTo, may_refuse, is_copy}
pub use Rattle.async_cell_model.specs.Taken.{IsDistinct, IsSubsequence, none, skip, both, is_update, has_update, put_by, put_in, taken_by, taken_out}
pub use Rattle.async_cell_model.specs.declared.cell.Cell.{Cell}
pub use Rattle.async_cell_model.specs.declared.entry.Entry.{Entry}
pub use Rattle.async_cell_model.specs.declared.entry.Kept.{Kept}
pub use Rattle.async_cell_model.specs.declared.entry.Kept.TheVariants.{PollTake, PollGet}
pub use Rattle.async_cell_model.specs.declared.reply.Reply.{Reply}
pub use Rattle.async_cell_model.specs.declared.reply.Reply.TheVariants.{Refused, Pending}
pub use Rattle.std.proofs.Common.{◌≡◌, ◌⊎◌, inl, inr, suc, zero, Bool, false, ◌||◌, List, [], ◌∷◌, ◌++◌, Option, Some, None, refl, sym, subst, arith, append_assoc}
pub use Rattle.std.proofs.Common.{append-nil, ◌-◌, true, ap, ◌∙◌, ◌+◌, ◌≤◌, ◌<◌, ℕ, not, ◌&&◌, length, get_or, le_refl, le_trans, length-append}
pub use Rattle.std.proofs.lemmas.Bool.Decides.{nat_tests}
pub use Rattle.std.proofs.lemmas.List.Elements.{Contains-append_left, Contains-push, filter_map-append}
pub use Rattle.std.proofs.lemmas.List.Folds.{list_any-append, list_any_at}
pub use Rattle.std.proofs.lemmas.List.Kept.{AllPairs-cons}
pub use Rattle.std.proofs.lemmas.List.Quantifiers.{all_pairs_push}
pub use Rattle.std.proofs.lemmas.List.Sums.{fold-append}
pub use Rattle.std.specs.List.{cons_option, filter_map, list_any}
pub use Rattle.std.specs.Prelude.{option_to_list, All, AllPairs, nat_lt, if◌then◌else◌, filter, fold, ◌↔◌}
