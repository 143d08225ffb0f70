-- `longer` joins what two know of one name.
use Rattle.ghost_tokens.proofs.Words.{proved, tells, tells_last, seen_owns, token, Token, token_made, ends, ◌≡◌, ℕ, [], ◌∷◌, refl, Fml, ftrue, fsep, flft, fhide, SProp, fact, tables, RefOf}
use Rattle.ghost_tokens.proofs.Words.{yes, hidden_shr, unhide, param, bounded, RattleType, owns, shr_vals, shr_Tells, types_at, plain, nothing, lent_out, Stays, stay_dropped, walk_of}
use Rattle.ghost_tokens.proofs.Words.{Goes-dropped, IsPrefix, ◌⊎◌, inst_fn, a_type, dnil, named, Val, vptr, alloc_all, pass_all, free_all, look_at, get, sets, ‵, raw, ◌⊛◌, given, ◌$◌}
use Rattle.ghost_tokens.proofs.Words.{◌∵◌, !, qed, by, move, keep, drop, split, fsplit, fjoin, learn, use0, use1, use2, rewrite, agg, no_more, and_then, returns, enter}
use Rattle.core.specs.contracts.marker.PhantomData as marker
use Rattle.ghost_tokens.specs.contracts.log.Log as Log
use Rattle.ghost_tokens.specs.contracts.log.Seen as Seen
use Rattle.ghost_tokens.proofs.LogSteps as steps
use Rattle.ghost_tokens.specs.contracts.log.Seen.longer.{ended, clauses, Key.name as #self}
use Rattle.ghost_tokens.proofs.log.Seen.longer.Statement.{statement}
use Rattle.ghost_tokens.proofs.log.Seen.longer.Code as code

pub longer_spec : {M : Type 1} → statement M
longer_spec 𝓤 𝓛 𝓜 𝓡 wired E _ =
    let H = 𝓛.H in let 𝓣 = tables 𝓤 H 𝓜 𝓡 𝓡.env in let E' : RattleType = param 0 E in let En = ended E in
    let fn = inst_fn (bounded (a_type ∷ []) (E, tt) dnil) code.function in let c = clauses E 𝓛 𝓜.mem 𝓡.returns in
    let Lg : RattleType = Log.the_row E' in let Sn : RattleType = Seen.the_row E' in let cv = E'.coded in
    let hs : Stays En.signature.params En.kept = (stay_dropped (RefOf (0 ∷ []) tt (plain (λ _. Sn)) (λ _. tt)) yes, (stay_dropped (RefOf (1 ∷ []) tt (plain (λ _. Sn)) (λ _. tt)) yes, tt)) in
    proved 𝓛 En hs c 𝓜 𝓡 (
      Goes-dropped 𝓛 3 (RefOf (0 ∷ []) tt (plain (λ _. Sn)) (λ _. tt)) yes (λ κs x f. refl),
      (Goes-dropped 𝓛 3 (RefOf (1 ∷ []) tt (plain (λ _. Sn)) (λ _. tt)) yes (λ κs x f. refl), tt),
    ) (#self (bounded (a_type ∷ []) (E, tt) dnil)) fn (code.unfolded 𝓤 H 𝓜 𝓡 wired (E, tt))
    (λ κs. (shr_vals, (shr_vals, tt))) (λ κs. (shr_Tells (named 0) κs.0 Sn, (shr_Tells (named 1) κs.1.0 Sn, tt))) (λ κs qs bounds a gh are.
    let y : (walk_of 𝓛 En hs c).Ghost = ((κs, qs, bounds, a, (vptr a.0.ref_ptr.0 a.0.ref_ptr.1 ∷ [], (vptr a.1.0.ref_ptr.0 a.1.0.ref_ptr.1 ∷ [], tt))), gh) in let Post : Val → SProp 𝓤 =
    (walk_of 𝓛 En hs c).post y in let toks : Fml = fsep (flft κs.0 qs.0) (fsep (flft κs.1.0 qs.1.0) (fsep (flft κs.1.1.0 qs.1.1.0) ftrue)) in
    qed 𝓛 ((‵ toks ⊛ ‵ (owns (types_at En.signature.params κs) a y.0.4)) ∷ raw (fact 𝓤 _) ∷ given _ (‵ ftrue) ∷ []) ∵ keep ! (2 ∷ 0 ∷ []) $ learn ! (λ asked. drop ! $ split ! $
    move ! (1 ∷ []) $ fsplit ! $ fsplit ! $ move ! (2 ∷ []) $ fsplit ! $ fsplit ! $ keep ! (4 ∷ 1 ∷ 5 ∷ []) $ let me = a.0.now in let other = a.1.0.now in let both =
    steps.longest me.list other.list in
    enter ! 𝓣.C 𝓣.Λ fn (vptr a.0.ref_ptr.0 a.0.ref_ptr.1 ∷ vptr a.1.0.ref_ptr.0 a.1.0.ref_ptr.1 ∷ []) Post $ alloc_all ! (λ l. pass_all ! refl ((tt, tt), ((tt, tt), tt)) $
    use1 𝓛 (‵ (hidden_shr (Token E') κs.0 (record {}, tt) a.0.ref_ptr.0 a.0.ref_ptr.1) ⊛ ‵ (fhide (seen_owns cv.code me.name me.list)))
    (lent_out 𝓛 (Seen.struct E') (Seen.the_codes E.Denot E'.coded (marker.the_row E').coded) (Seen.the_heap E') (Seen.the_lent E') κs.0 me a.0.ref_ptr.0 a.0.ref_ptr.1) $ split ! $ drop ! $
    unhide ! $ move ! (1 ∷ []) $
    use1 𝓛 (‵ (hidden_shr (Token E') κs.1.0 (record {}, tt) a.1.0.ref_ptr.0 a.1.0.ref_ptr.1) ⊛ ‵ (fhide (seen_owns cv.code other.name other.list)))
    (lent_out 𝓛 (Seen.struct E') (Seen.the_codes E.Denot E'.coded (marker.the_row E').coded) (Seen.the_heap E') (Seen.the_lent E') κs.1.0 other a.1.0.ref_ptr.0 a.1.0.ref_ptr.1) $ split ! $
    drop ! $ unhide ! $ rewrite ! 0 (λ (γ : ℕ). ‵ (seen_owns cv.code γ other.list)) asked refl $ move ! (1 ∷ 0 ∷ []) $
    use2 𝓛 (given (((both ≡ me.list) ⊎ (both ≡ other.list)) × IsPrefix me.list both × IsPrefix other.list both) (‵ (seen_owns cv.code me.name both))) (steps.joins 𝓛 cv me.name me.list other.list) $
    learn ! (λ so.
    use0 𝓛 (‵ ((Token E').own_val (record {}, tt) (token ∷ []))) (token_made E' 𝓛) $ fjoin ! $ sets ! (agg ! (no_more !)) refl (tt, tt) $
    sets ! (agg ! (and_then ! (get ! refl) (no_more !))) refl (tt, (tt, tt)) $ nothing ! $ nothing ! $ fjoin ! $ nothing ! $ fjoin ! $
    returns ! (look_at ! 0 refl) $ free_all ! refl $ keep ! (2 ∷ 0 ∷ 1 ∷ []) $
    by ! (ends 𝓛 En hs c y token (record { marker = record {}; name = me.name; list = both }) (tt, (tt, tt)) (tt, (tt, tt))
    (qed 𝓛 [] ∵ tells ! refl $ tells ! so.0 $ tells ! so.1 $ tells_last ! so.2))))))
