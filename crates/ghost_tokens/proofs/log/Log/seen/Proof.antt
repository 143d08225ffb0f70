-- `seen` shows where the list is.
use Rattle.ghost_tokens.proofs.Words.{proved, tells, tells_last, log_owns, seen_owns, token, Token, token_made, ends, [], ◌∷◌, refl, Fml, ftrue, fsep, flft, fhide, fshr_bor, SProp}
use Rattle.ghost_tokens.proofs.Words.{tables, RefOf, yes, hidden_shr, unhide, param, bounded, RattleType, owns, shr_vals, shr_Tells, types_at, plain, nothing, lent_out, Stays, stay_dropped}
use Rattle.ghost_tokens.proofs.Words.{walk_of, Goes-dropped, inst_fn, a_type, dnil, named, Val, vptr, alloc_all, pass_all, free_all, look_at, get, sets, ‵, raw, ◌⊛◌, ◌$◌, ◌∵◌, !, qed}
use Rattle.ghost_tokens.proofs.Words.{by, move, keep, drop, split, fsplit, fjoin, use0, use1, agg, no_more, and_then, returns, enter, shr_bor-open, obor_close}
use Rattle.core.specs.contracts.marker.PhantomData as marker
use Rattle.ghost_tokens.specs.contracts.log.Log as Log
use Rattle.ghost_tokens.specs.contracts.log.Seen as Seen
use Rattle.ghost_tokens.proofs.LogSteps as steps
use Rattle.ghost_tokens.specs.contracts.log.Log.seen.{ended, clauses, Key.name as #self}
use Rattle.ghost_tokens.proofs.log.Log.seen.Statement.{statement}
use Rattle.ghost_tokens.proofs.log.Log.seen.Code as code

pub seen_spec : {M : Type 1} → statement M
seen_spec 𝓤 𝓛 𝓜 𝓡 wired E _ =
    let H = 𝓛.H in let 𝓣 = tables 𝓤 H 𝓜 𝓡 𝓡.env in let E' : RattleType = param 0 E in let En = ended E in
    let fn = inst_fn (bounded (a_type ∷ []) (E, tt) dnil) code.function in let c = clauses E 𝓛 𝓜.mem 𝓡.returns in
    let Lg : RattleType = Log.the_row E' in let Sn : RattleType = Seen.the_row E' in let cv = E'.coded in
    let hs : Stays En.signature.params En.kept = (stay_dropped (RefOf (0 ∷ []) tt (plain (λ _. Lg)) (λ _. tt)) yes, tt) in
    proved 𝓛 En hs c 𝓜 𝓡 (Goes-dropped 𝓛 2 (RefOf (0 ∷ []) tt (plain (λ _. Lg)) (λ _. tt)) yes (λ κs x f. refl), tt) (#self (bounded (a_type ∷ []) (E, tt) dnil)) fn
    (code.unfolded 𝓤 H 𝓜 𝓡 wired (E, tt))
    (λ κs. (shr_vals, tt)) (λ κs. (shr_Tells (named 0) κs.0 Lg, tt)) (λ κs qs bounds a gh are.
    let y : (walk_of 𝓛 En hs c).Ghost = ((κs, qs, bounds, a, (vptr a.0.ref_ptr.0 a.0.ref_ptr.1 ∷ [], tt)), gh) in let Post : Val → SProp 𝓤 = (walk_of 𝓛 En hs c).post y in let toks : Fml =
    fsep (flft κs.0 qs.0) (fsep (flft κs.1.0 qs.1.0) ftrue) in
    qed 𝓛 ((‵ toks ⊛ ‵ (owns (types_at En.signature.params κs) a y.0.4)) ∷ raw ((c κs a).requires gh) ∷ []) ∵ keep ! (0 ∷ []) $ split ! $
    fsplit ! $ move ! (2 ∷ []) $ fsplit ! $ fsplit ! $ keep ! (1 ∷ 3 ∷ 4 ∷ []) $ let me = a.0.now in
    enter ! 𝓣.C 𝓣.Λ fn (vptr a.0.ref_ptr.0 a.0.ref_ptr.1 ∷ []) Post $ alloc_all ! (λ l. pass_all ! refl ((tt, tt), tt) $
    use1 𝓛 (‵ (hidden_shr (Token E') κs.0 (record {}, tt) a.0.ref_ptr.0 a.0.ref_ptr.1) ⊛ ‵ (fhide (fshr_bor κs.0 (log_owns cv.code me.name me.list))))
    (lent_out 𝓛 (Log.struct E') (Log.the_codes E.Denot E'.coded (marker.the_row E').coded) (Log.the_heap E') (Log.the_lent E') κs.0 me a.0.ref_ptr.0 a.0.ref_ptr.1) $ split ! $ drop ! $ unhide ! $
    shr_bor-open ! tt (steps.halves 𝓛 cv me.name me.list) (λ q. move ! (1 ∷ []) $
    use1 𝓛 (‵ (log_owns cv.code me.name me.list q) ⊛ ‵ (seen_owns cv.code me.name me.list)) (steps.shows 𝓛 cv me.name me.list q) $ split ! $
    move ! (2 ∷ 0 ∷ []) $ obor_close ! tt $ drop ! $ move ! (0 ∷ 2 ∷ []) $ fjoin ! $ move ! (1 ∷ []) $ use0 𝓛 (‵ ((Token E').own_val (record {}, tt) (token ∷ []))) (token_made E' 𝓛) $ fjoin ! $
    sets ! (agg ! (no_more !)) refl (tt, tt) $ sets ! (agg ! (and_then ! (get ! refl) (no_more !))) refl (tt, (tt, tt)) $ nothing ! $ nothing ! $ fjoin ! $
    returns ! (look_at ! 0 refl) $ free_all ! refl $ keep ! (2 ∷ 0 ∷ 1 ∷ []) $
    by ! (ends 𝓛 En hs c y token (record { marker = record {}; name = me.name; list = me.list }) (tt, tt) (tt, tt) (qed 𝓛 [] ∵ tells ! refl $ tells_last ! refl)))))
