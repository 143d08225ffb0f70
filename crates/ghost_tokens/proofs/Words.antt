-- The words that the proofs use.
pub use Rattle.atomic_table.proofs.Walks.{proved}
pub use Rattle.core.proofs.ledger.Walks.{tells, tells_last}
pub use Rattle.ghost_tokens.specs.Owned.{back, count_owns, counted, counts, given_permits, held, is_held, lists, log_owns, names, outs, permit_owns, right, seen_owns, table, was_given}
pub use Rattle.logbook.proofs.Fields.{Token, ends, lends_twice, token, token_made, token_told}
pub use Rattle.logbook.proofs.Roster.{prefix_in, prefix_out}
pub use Rattle.std.proofs.Common.{Bool, List, [], arith, false, inl, inr, length, map, refl, suc, sym, true, ℕ, ◌++◌, ◌+◌, ◌-◌, ◌<◌, ◌∷◌, ◌≡◌, ◌≢◌, ◌≤◌}
pub use Rattle.std.proofs.lemmas.Bool.Decides.{nat_tests}
pub use Rattle.std.proofs.lemmas.List.{length-append, length-map}
pub use Rattle.std.specs.Prelude.{IsSome, None, Option, Some, if◌then◌else◌, nat_eq, nat_lt}
pub use base.{Before.before, Fraction.full_share, FractionLaws.not-OpDef-full_share, Growing.Least, Growing.prefix_anti, Growing.prefix_refl, Shift.Keyless, Stored.Coded, Stored.Gv}
pub use base.Fml.{Fml, Lft, Share, fbor, fhide, flft, fsep, fshr_bor, ftrue}
unfoldable pub use base.Growing.{at_least, growing, latest, numbers}
pub use base.Logic.{SProp, emp, ent, ex, guard, sep, snd∗, via}
pub use contract.{Monad.fact, Monad.fact_i, Running.tables}
pub use denote.{Builtin.RefOf, Builtin.u32, Builtin.unit, Exit.yes, Memory.hidden_shr, Opens.unhide, Param.bounded, Param.param, Param.Laws.Laws, Param.Send.IsSend, Param.Send.IsSync}
pub use denote.{Param.Send.sendable, Param.Shared.copy_shared, Plain.uint_Tells, Plain.uint_vals, RattleType.RattleType, RattleType.owns, Sharing.one, SharingLaws.one_shr_laws}
pub use denote.{Signature.plain, Signature.types_at, Steps.closes, Steps.nothing, Steps.opens, Struct.Laws.field_copy, Struct.Lending.Lends, Struct.Lending.lent_out, Struct.Lending.of_Lends}
pub use denote.{Struct.Owning.shape, Struct.Struct.Struct}
pub use denote.Ref.{mut_Tells, mut_vals, shr_Tells, shr_vals}
pub use denote.Triple.Walked.{Goes-dropped, Goes-ref, Stays, stay_dropped, stay_ref, walk_of}
pub use ghost.Rules.{Halves}
pub use mathlib.Core.List.{IsPrefix}
pub use mathlib.Core.Logic.{◌⊎◌}
pub use mir.MapTy.{inst_fn}
pub use mir.Syntax.{a_type, dcons, dnil, named, w32}
pub use mir.Val.{Val, vint, vptr, vunit}
pub use seplogic.Ra.Ura.{Ura}
pub use types.{Logic.Logic, Logic.lfts, Logic.sem, Owned.basic, Owned.own_sum, Part.agg, Tokens.bor_fracture, Tokens.obor_close, Tokens.shr_bor-open}
pub use types.ByLocal.{alloc_all, free_all, get, look_at, pass_all, sets}
pub use types.Growing.{at_least_dup, at_least_join, latest_bounds, latest_cut, latest_glue, latest_grows, latest_new, latest_shows}
pub use types.Kit.{ !, await, by, check, done, drop, feq_i, fjoin, fjoin3, fpack, fpick, fsplit, fsplit3, given, join}
pub use types.Kit.{keep, later, learn, move, now, pick, qed, raw, rewrite, show, some, split, updating, use0, use1, use2, ‵, ◌$◌, ◌∵◌, ◌⊛◌}
pub use types.Run.{and_then, enter, no_more, of_opd, returns, unit_lit}
