-- The words that the proofs use.
pub use Rattle.arrayvec.specs.ArrayVec.{array_vec_len}
pub use Rattle.async_cell_model.specs.Machine.{Does, State, owners_of, skips, waker_of}
pub use Rattle.async_cell_model.specs.declared.{cell.Cell.Cell, entry.Kept.Kept, reply.Reply.Reply}
pub use Rattle.async_cell_wakers.specs.{Named.same_name, declared.named.Named.Named}
pub use Rattle.cellrun.specs.CallPrints.{CallPrints, KnowsNames, end_text, kept_call, names_text, reply_text, value_text}
pub use Rattle.cellrun.specs.Command.{IsDigits, IsValue, Spells, has_operand, number_of}
pub use Rattle.cellrun.specs.Script.{IsLine, IsNext, Owes, Prints, StopsAt, after_line, blank, called, first_line, is_line_feed, new_cell, start}
pub use Rattle.cellrun.specs.{Lines.bytes_left, Output.output_contents, declared.command.Command.Command, declared.lines.Next.Next, declared.script.Ended.Ended}
pub use Rattle.cellrun.specs.declared.command.Command.TheVariants.{Debug, End, Get, OrSet, Own, Replace, Set, Take, UpdatePut, UpdateSomeAdd}
pub use Rattle.cellrun.specs.declared.lines.Next.TheVariants.{Bad, Blank, Call}
pub use Rattle.cellrun.specs.declared.script.Ended.TheVariants.{BadLine, Done, Failed}
pub use Rattle.std.proofs.Common.{Bool, Err, IfSome, IsErr, List, None, Ok, Option, Result, Some, [], ap, append-nil, append_assoc, arith, codes, drop, drop-drop, false, if◌then◌else◌}
pub use Rattle.std.proofs.Common.{length, length-drop, refl, rules, subst, sym, take, take-append-drop, take_all, true, ℕ, ℤ, ◌++◌, ◌+◌, ◌-◌, ◌<◌, ◌^◌, ◌∙◌, ◌∷◌, ◌≡◌, ◌≢◌, ◌≤◌}
pub use Rattle.std.proofs.KnownBytes.{Appends-kept, Appends-nil, Appends-trans, Keeps-refl, Keeps-trans, append_known-kept, append_known-moved}
pub use Rattle.std.proofs.Math.Seq.{drop-append-add, take-append-add}
pub use Rattle.std.proofs.lemmas.List.{drop-append-le, drop_all, length-append, length-take, take-append-le, Folds.list_any-append, Folds.prefix_len-append, Sums.prefix_len-le-length}
pub use Rattle.std.proofs.lemmas.{Bool.Decides.Decides-eqb, Bool.Decides.nat_tests, Int.Digits.digits_more, Int.Digits.digits_value_more, Option.IfSome_then, Slice.Eq.strip_prefix_is}
pub use Rattle.std.proofs.lemmas.Str.{Parse.digit_at, Parse.digits_value-take-le, digit_value_digit}
pub use Rattle.std.specs.Io.{BufRead.DropsConsumable, Buffered.reader_buffer, Buffered.reader_remaining}
pub use Rattle.std.specs.Io.KnownBytes.{Appends, IsAtEnd, Keeps, append_known, prepend_known}
pub use Rattle.std.specs.{BTreeSet.BTreeSet, BTreeSet.Updates, BTreeSet.contains, List.position, List.position_or_len, Option.SomeIff, Ordering.nat_cmp, Result.result_unwrap_or}
pub use Rattle.std.specs.Str.Parse.{AllDigits, digits_value}
