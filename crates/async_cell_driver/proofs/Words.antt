-- The words that the proofs use.
pub use Rattle.async_cell_driver.specs.{Asked.mark_after, Asked.waiting_when, Mark.is_ready_mark, Mark.woken}
pub use Rattle.async_cell_driver.specs.DriverState.{AllNamed, DriverState, NamesMatch, change, is_named, kind_at, mark_at, name_of, result_at, result_of, wake, wake_each, with_mark, with_result}
pub use Rattle.async_cell_driver.specs.Drives.{AllSpared, Drives, FitsTold, IsLegal, IsSpared, NoneForgotten, ResultsStay}
pub use Rattle.async_cell_driver.specs.History.{is_call, call_of, entry_of, handed_out, history, line_of, names_by, poll_of, reply_of, told_of}
pub use Rattle.async_cell_driver.specs.Log.{Line, Log, is_poll_of, is_ready, kinds, lines, log_of, mark_in, mark_told, started, waits, with_edit, woken_if}
pub use Rattle.async_cell_driver.specs.Settle.{Keeps, Settles, SettlesOne, events_of, has_refused, numbers}
pub use Rattle.async_cell_driver.specs.declared.{event.Event.Event, event.Event.TheVariants.Poll, event.Event.TheVariants.Start, event.Kind.Kind, event.Polled.Polled}
pub use Rattle.async_cell_driver.specs.declared.{event.Polled.TheVariants.NotReady, event.Polled.TheVariants.Ready, event.Told.TheVariants.Refused, event.Told.TheVariants.Started}
pub use Rattle.async_cell_driver.specs.declared.{event.Told.Told, tasks.Mark.Mark, tasks.Mark.TheVariants.Waiting, tasks.Task.Task}
pub use Rattle.async_cell_model.proofs.{JoinedHistory.cell_after-append, LegalHistories.Runs-join-by, LegalHistories.Runs-nil, Machine.model_of, Machine.model_up_to}
pub use Rattle.async_cell_model.proofs.{OneEntry.Runs-sound, OneMoreWaker.wait_list-distinct, UpTo.exact_told, UpTo.up_to_clones}
pub use Rattle.async_cell_model.specs.{History.History, History.cell_after, Legal.RunsUpTo, Legal.woken_by}
pub use Rattle.async_cell_model.specs.Machine.{Does, DoesUpTo, IsSound, State, UpToClones, ends_waiting, wait_list, waker_of, with_one_more}
pub use Rattle.async_cell_model.specs.declared.{cell.Cell.Cell, entry.Entry.Entry, entry.Kept.Kept, refusal.Refusal.Refusal, refusal.Refusal.TheVariants.Memory, reply.Reply.Reply}
pub use Rattle.async_cell_wakers.specs.{Named.same_name, declared.named.Named.Named}
pub use Rattle.std.proofs.Common.{Bool, List, None, Option, Some, [], add-one, ap, append-nil, append_assoc, arith, below_more, false, get_or, inl, inr, length, length-append, map}
pub use Rattle.std.proofs.Common.{not, refl, rules, set, subst, suc, sym, true, vec_capacity, vec_len, zero, ℕ, ◌++◌, ◌+◌, ◌-◌, ◌<◌, ◌||◌, ◌∙◌, ◌∷◌, ◌≡◌, ◌≢◌, ◌≤◌, ◌⊎◌}
pub use Rattle.std.proofs.{Math.Bool.or-false, Math.Bool.or-true, lemmas.Bool.Decides.nat_tests, lemmas.Bool.eq-eqb, lemmas.Bool.eqb-true, lemmas.Grind.common_steps}
pub use Rattle.std.proofs.{lemmas.List.Elements.filter-append, lemmas.List.Folds.list_any-append, lemmas.List.get_or-map, lemmas.List.length-map, lemmas.List.map-append, lemmas.List.nil_from_length}
pub use Rattle.std.proofs.{lemmas.List.reverse-append, lemmas.Map.Keys.IsDistinct-from_apart, lemmas.Map.Steps.length-le_from_distinct_below, lemmas.Option.slice_get_cases}
pub use Rattle.std.proofs.{lemmas.Option.slice_get_past, lemmas.Option.slice_get_read, lemmas.Result.MatchResult-weaker, lemmas.Result.err_from_is_err_and}
pub use Rattle.std.specs.{List.IsDistinct, List.list_any, Option.IsSomeAnd, Option.option_map, Vec.Iter.into_iter_items, Vec.Iter.into_iter_len}
pub use Rattle.std.specs.Prelude.{AllPairs, Err, IfErr, IfOk, IsOk, MatchOption, Ok, OnOk, Result, filter, fold, if◌then◌else◌, is_some, nat_eq, option_to_list, reverse, slice_get}
