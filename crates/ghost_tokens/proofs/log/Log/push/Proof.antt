-- `push` moves the list on.
use Rattle.ghost_tokens.proofs.Words.{proved, tells, tells_last, log_owns, ends, List, [], ◌∷◌, ◌++◌, refl, Fml, ftrue, fsep, flft, full_share, SProp, tables, RefOf, yes, param, bounded}
use Rattle.ghost_tokens.proofs.Words.{RattleType, owns, mut_vals, mut_Tells, shr_vals, shr_Tells, types_at, plain, nothing, opens, closes, Stays, stay_dropped, stay_ref, walk_of, Goes-dropped}
use Rattle.ghost_tokens.proofs.Words.{Goes-ref, inst_fn, a_type, dcons, dnil, named, Val, vunit, vptr, alloc_all, pass_all, free_all, look_at, sets, ‵, raw, ◌⊛◌, later, ◌$◌, ◌∵◌, ! }
use Rattle.ghost_tokens.proofs.Words.{qed, by, move, keep, split, fsplit, fsplit3, fjoin, fjoin3, use1, await, feq_i, unit_lit, of_opd, returns, enter, length-append, None}
use Rattle.ghost_tokens.specs.contracts.log.Log as Log
use Rattle.ghost_tokens.specs.contracts.log.Seen as Seen
use Rattle.ghost_tokens.proofs.LogSteps as steps
use Rattle.ghost_tokens.specs.contracts.log.Log.push.{ended, clauses, Key.name as #self}
use Rattle.ghost_tokens.proofs.log.Log.push.Statement.{statement}
use Rattle.ghost_tokens.proofs.log.Log.push.Code as code

pub push_spec : {M : Type 1} → statement M
push_spec 𝓤 𝓛 𝓜 𝓡 wired E X N _ _ _ gn dn _ =
    let H = 𝓛.H in let 𝓣 = tables 𝓤 H 𝓜 𝓡 𝓡.env in let E' : RattleType = param 0 E in let X' : RattleType = param 1 X in let N' : RattleType = param 2 N in let En = ended E X N gn dn in
    let fn = inst_fn (bounded (a_type ∷ a_type ∷ a_type ∷ []) (E, (X, (N, tt))) (dcons dn dnil)) code.function in let c = clauses E X N gn dn 𝓛 𝓜.mem 𝓡.returns in
    let Lg : RattleType = Log.the_row E' in let Sn : RattleType = Seen.the_row E' in let cv = E'.coded in
    let hs : Stays En.signature.params En.kept = (stay_ref (0 ∷ []) tt (plain (λ _. Lg)), (stay_dropped (RefOf (1 ∷ []) tt (plain (λ _. X')) (λ _. tt)) yes, tt)) in
    proved 𝓛 En hs c 𝓜 𝓡 (Goes-ref 𝓛 5 0 tt (plain (λ _. Lg)), (Goes-dropped 𝓛 5 (RefOf (1 ∷ []) tt (plain (λ _. X')) (λ _. tt)) yes (λ κs x f. refl), tt))
    (#self (bounded (a_type ∷ a_type ∷ a_type ∷ []) (E, (X, (N, tt))) (dcons dn dnil))) fn (code.unfolded 𝓤 H 𝓜 𝓡 wired (E, (X, (N, tt))) dn)
    (λ κs. (mut_vals, (shr_vals, tt))) (λ κs. (mut_Tells (named 0) κs.0 Lg, (shr_Tells (named 1) κs.1.0 X', tt))) (λ κs qs bounds a gh are.
    let y : (walk_of 𝓛 En hs c).Ghost = ((κs, qs, bounds, a, (vptr a.0.ref_ptr.0 a.0.ref_ptr.1 ∷ [], (vptr a.1.0.ref_ptr.0 a.1.0.ref_ptr.1 ∷ [], tt))), gh) in let Post : Val → SProp 𝓤 =
    (walk_of 𝓛 En hs c).post y in let toks : Fml = fsep (flft κs.0 qs.0)
    (fsep (flft κs.1.0 qs.1.0) (fsep (flft κs.1.1.0 qs.1.1.0) (fsep (flft κs.1.1.1.0 qs.1.1.1.0) (fsep (flft κs.1.1.1.1.0 qs.1.1.1.1.0) ftrue)))) in
    qed 𝓛 ((‵ toks ⊛ ‵ (owns (types_at En.signature.params κs) a y.0.4)) ∷ raw ((c κs a).requires gh) ∷ []) ∵ keep ! (0 ∷ []) $ split ! $
    fsplit ! $ move ! (2 ∷ []) $ fsplit ! $ fsplit3 ! $ keep ! (1 ∷ 2 ∷ 4 ∷ 5 ∷ []) $
    let me = a.0.now in let e = gn.entry a.1.0.now in let me' : Lg.Denot = record { marker = me.marker; name = me.name; list = me.list ++ e ∷ [] } in let b = a.0.ref_ptr.0 in let o = a.0.ref_ptr.1 in
    enter ! 𝓣.C 𝓣.Λ fn (vptr a.0.ref_ptr.0 a.0.ref_ptr.1 ∷ vptr a.1.0.ref_ptr.0 a.1.0.ref_ptr.1 ∷ []) Post $ alloc_all ! (λ l. pass_all ! refl ((tt, tt), ((tt, tt), tt)) $
    opens ! tt Lg b o (λ vs. move ! (1 ∷ []) $ fsplit ! $ move ! (1 ∷ []) $ use1 𝓛 (later (‵ (log_owns cv.code me.name (me.list ++ e ∷ []) full_share))) (steps.pushes 𝓛 cv me.name me.list e) $
    await ! tt $
    move ! (1 ∷ 0 ∷ []) $ fjoin ! $ move ! (1 ∷ 0 ∷ 2 ∷ 3 ∷ 4 ∷ []) $ closes ! tt Lg me' vs b o $ sets ! (of_opd ! (unit_lit !)) refl (tt, tt) $ feq_i ! (List Val) (vunit ∷ []) (vunit ∷ []) refl $
    move ! (3 ∷ 4 ∷ []) $ fjoin ! $ nothing ! $ nothing ! $ fjoin ! $ feq_i ! (List Val) (vptr b o ∷ []) (vptr b o ∷ []) refl $ move ! (0 ∷ 4 ∷ 5 ∷ []) $ fjoin3 ! $ fjoin ! $
    returns ! (look_at ! 0 refl) $ free_all ! refl $ keep ! (1 ∷ 0 ∷ 2 ∷ []) $
    by ! (ends 𝓛 En hs c y vunit tt (me', (tt, tt)) (tt, (tt, tt))
    (qed 𝓛 [] ∵ tells ! refl $ tells ! refl $ tells ! (steps.last_added None me.list e) $ tells_last ! (length-append me.list (e ∷ [])))))))
