-- `learn` compares with the list, and then knows it.
use Rattle.ghost_tokens.proofs.Words.{proved, tells, tells_last, log_owns, seen_owns, Token, ends, ℕ, List, [], ◌∷◌, sym, refl, Fml, ftrue, fsep, flft, fhide, fshr_bor, SProp}
use Rattle.ghost_tokens.proofs.Words.{fact, tables, RefOf, yes, hidden_shr, unhide, param, bounded, RattleType, owns, mut_vals, mut_Tells, shr_vals, shr_Tells, types_at, plain}
use Rattle.ghost_tokens.proofs.Words.{nothing, opens, closes, lent_out, Stays, stay_dropped, stay_ref, walk_of, Goes-dropped, Goes-ref, IsPrefix, inst_fn, a_type, dnil, named}
use Rattle.ghost_tokens.proofs.Words.{Val, vunit, vptr, alloc_all, pass_all, free_all, look_at, sets, ‵, raw, ◌⊛◌, given, ◌$◌, ◌∵◌, !, qed, by, move, keep, drop, split, fsplit}
use Rattle.ghost_tokens.proofs.Words.{fsplit3, fjoin, fjoin3, learn, use1, use2, rewrite, feq_i, unit_lit, of_opd, returns, enter, shr_bor-open, obor_close}
use Rattle.core.specs.contracts.marker.PhantomData as marker
use Rattle.ghost_tokens.specs.contracts.log.Log as Log
use Rattle.ghost_tokens.specs.contracts.log.Seen as Seen
use Rattle.ghost_tokens.proofs.LogSteps as steps
use Rattle.ghost_tokens.specs.contracts.log.Seen.learn.{ended, clauses, Key.name as #self}
use Rattle.ghost_tokens.proofs.log.Seen.learn.Statement.{statement}
use Rattle.ghost_tokens.proofs.log.Seen.learn.Code as code

pub learn_spec : {M : Type 1} → statement M
learn_spec 𝓤 𝓛 𝓜 𝓡 wired E _ =
    let H = 𝓛.H in let 𝓣 = tables 𝓤 H 𝓜 𝓡 𝓡.env in let E' : RattleType = param 0 E in let En = ended E in
    let fn = inst_fn (bounded (a_type ∷ []) (E, tt) dnil) code.function in let c = clauses E 𝓛 𝓜.mem 𝓡.returns in
    let Lg : RattleType = Log.the_row E' in let Sn : RattleType = Seen.the_row E' in let cv = E'.coded in
    let hs : Stays En.signature.params En.kept = (stay_ref (0 ∷ []) tt (plain (λ _. Sn)), (stay_dropped (RefOf (1 ∷ []) tt (plain (λ _. Lg)) (λ _. tt)) yes, tt)) in
    proved 𝓛 En hs c 𝓜 𝓡 (Goes-ref 𝓛 3 0 tt (plain (λ _. Sn)), (Goes-dropped 𝓛 3 (RefOf (1 ∷ []) tt (plain (λ _. Lg)) (λ _. tt)) yes (λ κs x f. refl), tt)) (#self (bounded (a_type ∷ []) (E, tt) dnil))
    fn (code.unfolded 𝓤 H 𝓜 𝓡 wired (E, tt))
    (λ κs. (mut_vals, (shr_vals, tt))) (λ κs. (mut_Tells (named 0) κs.0 Sn, (shr_Tells (named 1) κs.1.0 Lg, tt))) (λ κs qs bounds a gh are.
    let y : (walk_of 𝓛 En hs c).Ghost = ((κs, qs, bounds, a, (vptr a.0.ref_ptr.0 a.0.ref_ptr.1 ∷ [], (vptr a.1.0.ref_ptr.0 a.1.0.ref_ptr.1 ∷ [], tt))), gh) in let Post : Val → SProp 𝓤 =
    (walk_of 𝓛 En hs c).post y in let toks : Fml = fsep (flft κs.0 qs.0) (fsep (flft κs.1.0 qs.1.0) (fsep (flft κs.1.1.0 qs.1.1.0) ftrue)) in
    qed 𝓛 ((‵ toks ⊛ ‵ (owns (types_at En.signature.params κs) a y.0.4)) ∷ raw (fact 𝓤 _) ∷ given _ (‵ ftrue) ∷ []) ∵ keep ! (2 ∷ 0 ∷ []) $ learn ! (λ asked. drop ! $ split ! $
    fsplit ! $ move ! (1 ∷ []) $ fsplit ! $ move ! (3 ∷ []) $ fsplit ! $ fsplit3 ! $ move ! (3 ∷ []) $ fsplit ! $ fsplit ! $ keep ! (1 ∷ 4 ∷ 5 ∷ 8 ∷ 6 ∷ 7 ∷ []) $
    let me = a.0.now in let whole = a.1.0.now in let me' : Sn.Denot = record { marker = me.marker; name = me.name; list = whole.list } in let b = a.0.ref_ptr.0 in let o = a.0.ref_ptr.1 in
    enter ! 𝓣.C 𝓣.Λ fn (vptr a.0.ref_ptr.0 a.0.ref_ptr.1 ∷ vptr a.1.0.ref_ptr.0 a.1.0.ref_ptr.1 ∷ []) Post $ alloc_all ! (λ l. pass_all ! refl ((tt, tt), ((tt, tt), tt)) $
    use1 𝓛 (‵ (hidden_shr (Token E') κs.1.0 (record {}, tt) a.1.0.ref_ptr.0 a.1.0.ref_ptr.1) ⊛ ‵ (fhide (fshr_bor κs.1.0 (log_owns cv.code whole.name whole.list))))
    (lent_out 𝓛 (Log.struct E') (Log.the_codes E.Denot E'.coded (marker.the_row E').coded) (Log.the_heap E') (Log.the_lent E') κs.1.0 whole a.1.0.ref_ptr.0 a.1.0.ref_ptr.1) $ split ! $ drop ! $
    unhide ! $
    move ! (1 ∷ 2 ∷ 3 ∷ []) $ opens ! tt Sn b o (λ vs. move ! (5 ∷ 6 ∷ []) $ shr_bor-open ! tt (steps.halves 𝓛 cv whole.name whole.list) (λ q. move ! (3 ∷ []) $ fsplit ! $ move ! (3 ∷ 1 ∷ []) $
    rewrite ! 1 (λ (γ : ℕ). ‵ (seen_owns cv.code γ me.list)) asked refl $
    use2 𝓛 (given (IsPrefix me.list whole.list) (‵ (log_owns cv.code whole.name whole.list q) ⊛ ‵ (seen_owns cv.code whole.name whole.list))) (steps.learns 𝓛 cv whole.name whole.list me.list q) $
    learn ! (λ so. split ! $
    rewrite ! 1 (λ (γ : ℕ). ‵ (seen_owns cv.code γ whole.list)) (sym asked) refl $ move ! (3 ∷ 0 ∷ []) $ obor_close ! tt $ drop ! $ move ! (2 ∷ 1 ∷ []) $ fjoin ! $
    move ! (2 ∷ 0 ∷ 3 ∷ 4 ∷ 5 ∷ []) $ closes ! tt Sn me' vs b o $ sets ! (of_opd ! (unit_lit !)) refl (tt, tt) $
    feq_i ! (List Val) (vunit ∷ []) (vunit ∷ []) refl $ move ! (4 ∷ 5 ∷ []) $ fjoin ! $ move ! (4 ∷ 0 ∷ []) $ fjoin ! $
    nothing ! $ nothing ! $ fjoin ! $ feq_i ! (List Val) (vptr b o ∷ []) (vptr b o ∷ []) refl $ move ! (0 ∷ 4 ∷ 5 ∷ []) $ fjoin3 ! $ fjoin ! $
    returns ! (look_at ! 0 refl) $ free_all ! refl $ keep ! (1 ∷ 0 ∷ 2 ∷ []) $
    by ! (ends 𝓛 En hs c y vunit tt (me', (tt, tt)) (tt, (tt, tt)) (qed 𝓛 [] ∵ tells ! refl $ tells ! refl $ tells ! so $ tells_last ! (steps.whole_if_long me.list whole.list so)))))))))
