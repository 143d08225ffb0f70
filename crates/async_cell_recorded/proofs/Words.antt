-- The words that the proofs use.
pub use Rattle.async_cell_runs.specs.{Kept.kept_call, declared.call.Call.Call}
pub use Rattle.async_cell_model.proofs.{LegalHistories.Runs-join, Machine.model_of}
pub use Rattle.async_cell_model.specs.{History.History, Legal.Runs, Legal.wakes_after, Legal.woken_by, declared.cell.Cell.Cell, declared.entry.Kept.Kept, declared.reply.Reply.Reply}
pub use Rattle.async_cell_model.specs.Machine.{Does, IsSound, State, content, is_memory, reply}
pub use Rattle.async_cell_recorded.specs.Counting.{IsJournal, ShareState, Test, Totals, from_bool, new_shares, picked_after}
pub use Rattle.async_cell_recorded.specs.{Outcomes.HasEnded, Outcomes.IsNew, Recording.start, Recording.state, Recording.with_one_share, Recording.without_shares}
pub use Rattle.async_cell_recorded.specs.Recording.{IsPlain, IsRecorded, PlainRecording, Recording, is_of, made_by, numbers_below, of_one_share, plain_entry, serials_of}
pub use Rattle.async_cell_recorded.specs.{Answering.kept_after, declared.history.Entry.Entry, declared.session.Seat.Seat}
pub use Rattle.async_cell_wakers.specs.{Named.same_name, declared.named.Named.Named}
pub use Rattle.std.proofs.Common.{Bool, List, None, Option, [], ap, append-nil, append_assoc, arith, drop, false, length, length-append, map, refl, rules, subst, suc, sym, take, true, vec_capacity}
pub use Rattle.std.proofs.Common.{vec_len, zero, ℕ, ◌++◌, ◌+◌, ◌<◌, ◌^◌, ◌∙◌, ◌∷◌, ◌≡◌, ◌≤◌}
pub use Rattle.std.proofs.lemmas.List.Elements.{All-cons, All-head, All-map, All-nil, All-push, All-same, All-tail, All-take, filter-append}
pub use Rattle.std.proofs.lemmas.List.{get_or-replicate, get_or-set_other, get_or-set_same, length-replicate, length-set, map-append, map-id, take-append-le, take_all, take_at}
pub use Rattle.std.proofs.lemmas.List.Sums.{count_by-le-length, sum_by-cons, sum_by_push}
pub use Rattle.std.proofs.lemmas.{Bool.Decides.Decides-eqb, Bool.Decides.nat_tests, Iterator.Adapters.YieldsList-from_vec, Iterator.Consumers.YieldsList-end, Slice.Zip.all_zipped_more}
pub use Rattle.std.specs.{List.All, List.AllZip, List.sum_by, Vec.Iter.into_iter_items, Vec.Iter.into_iter_len}
pub use Rattle.std.specs.Prelude.{if◌then◌else◌, nat_eq, replicate, slice_index, slice_index_or, slice_set}
