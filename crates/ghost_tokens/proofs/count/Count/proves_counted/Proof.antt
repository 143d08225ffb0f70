-- `proves_counted` compares a permit with the count.
use Rattle.ghost_tokens.proofs.Words.{◌≡◌, ℕ, List, [], ◌∷◌, refl, sym, named, Val, vunit, vptr, SProp, Fml, ftrue, fsep, flft, fhide, fshr_bor, shr_bor-open, obor_close, ‵, ◌⊛◌, given, ◌$◌, ◌∵◌, ! }
use Rattle.ghost_tokens.proofs.Words.{qed, by, move, keep, drop, split, fsplit, fsplit3, fjoin, fjoin3, learn, use1, use2, rewrite, feq_i, unit_lit, of_opd, returns, enter, alloc_all, pass_all}
use Rattle.ghost_tokens.proofs.Words.{free_all, look_at, sets, tables, tells, tells_last, yes, RattleType, owns, types_at, plain, RefOf, unit, mut_vals, mut_Tells, shr_vals, shr_Tells, hidden_shr}
use Rattle.ghost_tokens.proofs.Words.{unhide, nothing, opens, closes, lent_out, Stays, stay_dropped, stay_ref, walk_of, Goes-dropped, Goes-ref, proved, Token, ends, Option, count_owns, permit_owns}
use Rattle.core.specs.contracts.marker.PhantomData as marker
use Rattle.ghost_tokens.specs.contracts.count.Count as Count
use Rattle.ghost_tokens.specs.contracts.count.Permit as Permit
use Rattle.ghost_tokens.proofs.CountSteps as steps
use Rattle.ghost_tokens.specs.contracts.count.Count.proves_counted.{ended, clauses, Key.name as #self}
use Rattle.ghost_tokens.proofs.count.Count.proves_counted.Statement.{statement}
use Rattle.ghost_tokens.proofs.count.Count.proves_counted.Code as code

pub proves_counted_spec : {M : Type 1} → statement M
proves_counted_spec 𝓤 𝓛 𝓜 𝓡 wired =
    let H = 𝓛.H in let 𝓣 = tables 𝓤 H 𝓜 𝓡 𝓡.env in let fn = code.function in let c = clauses 𝓛 𝓜.mem 𝓡.returns in let Ct : RattleType = Count.the_row in let St : RattleType = Permit.the_row in
    let hs : Stays ended.signature.params ended.kept = (stay_ref (0 ∷ []) tt (plain (λ _. Ct)), (stay_dropped (RefOf (1 ∷ []) tt (plain (λ _. St)) (λ _. tt)) yes, tt)) in
    proved 𝓛 ended hs c 𝓜 𝓡 (Goes-ref 𝓛 2 0 tt (plain (λ _. Ct)), (Goes-dropped 𝓛 2 (RefOf (1 ∷ []) tt (plain (λ _. St)) (λ _. tt)) yes (λ κs x f. refl), tt)) #self fn (code.unfolded 𝓤 H 𝓜 𝓡 wired)
    (λ κs. (mut_vals, (shr_vals, tt))) (λ κs. (mut_Tells (named 0) κs.0 Ct, (shr_Tells (named 1) κs.1.0 St, tt))) (λ κs qs bounds a gh are.
    let y : (walk_of 𝓛 ended hs c).Ghost = ((κs, qs, bounds, a, (vptr a.0.ref_ptr.0 a.0.ref_ptr.1 ∷ [], (vptr a.1.0.ref_ptr.0 a.1.0.ref_ptr.1 ∷ [], tt))), gh) in let Post : Val → SProp 𝓤 =
    (walk_of 𝓛 ended hs c).post y in let h : Ct.Denot = a.0.now in let s : St.Denot = a.1.0.now in let toks : Fml = fsep (flft κs.0 qs.0) (fsep (flft κs.1.0 qs.1.0) ftrue) in
    qed 𝓛 ((‵ toks ⊛ ‵ (owns (types_at ended.signature.params κs) a y.0.4)) ∷ given (s.name ≡ h.name) (‵ ftrue) ∷ []) ∵ move ! (1 ∷ []) $ learn ! (λ asked. drop ! $ split ! $
    fsplit ! $ move ! (1 ∷ []) $ fsplit ! $ move ! (3 ∷ []) $ fsplit ! $ fsplit3 ! $ move ! (3 ∷ []) $ fsplit ! $ fsplit ! $ keep ! (1 ∷ 4 ∷ 5 ∷ 8 ∷ 6 ∷ 7 ∷ []) $
    let b = a.0.ref_ptr.0 in let o = a.0.ref_ptr.1 in
    enter ! 𝓣.C 𝓣.Λ fn (vptr a.0.ref_ptr.0 a.0.ref_ptr.1 ∷ vptr a.1.0.ref_ptr.0 a.1.0.ref_ptr.1 ∷ []) Post $ alloc_all ! (λ l. pass_all ! refl ((tt, tt), ((tt, tt), tt)) $
    use1 𝓛 (‵ (hidden_shr (Token unit) κs.1.0 (record {}, tt) a.1.0.ref_ptr.0 a.1.0.ref_ptr.1) ⊛ ‵ (fhide (fshr_bor κs.1.0 (permit_owns s.name s.key))))
    (lent_out 𝓛 Permit.struct (Permit.the_codes (marker.the_row unit).coded) Permit.the_heap Permit.the_lent κs.1.0 s a.1.0.ref_ptr.0 a.1.0.ref_ptr.1) $ split ! $ drop ! $ unhide ! $
    move ! (1 ∷ 2 ∷ 3 ∷ []) $ opens ! tt Ct b o (λ vs. move ! (5 ∷ 6 ∷ []) $
    shr_bor-open ! tt (steps.halves 𝓛 s.name s.key) (λ q. move ! (3 ∷ []) $ fsplit ! $ move ! (3 ∷ 1 ∷ []) $ rewrite ! 0 (λ (x : Option ℕ). ‵ (permit_owns x s.key q)) asked refl $
    use2 𝓛 (given (steps.Shown 𝓛 h.name h.out) (‵ (permit_owns h.name s.key q) ⊛ ‵ (count_owns h.name h.out))) (steps.proves_counted 𝓛 h.name h.out s.key q) $
    learn ! (λ so. split ! $ rewrite ! 0 (λ (x : Option ℕ). ‵ (permit_owns x s.key q)) (sym asked) refl $
    move ! (3 ∷ 0 ∷ []) $ obor_close ! tt $ drop ! $ move ! (2 ∷ 1 ∷ []) $ fjoin ! $
    move ! (2 ∷ 0 ∷ 3 ∷ 4 ∷ 5 ∷ []) $ closes ! tt Ct h vs b o $ sets ! (of_opd ! (unit_lit !)) refl (tt, tt) $
    feq_i ! (List Val) (vunit ∷ []) (vunit ∷ []) refl $ move ! (4 ∷ 5 ∷ []) $ fjoin ! $ move ! (4 ∷ 0 ∷ []) $ fjoin ! $
    nothing ! $ nothing ! $ fjoin ! $ feq_i ! (List Val) (vptr b o ∷ []) (vptr b o ∷ []) refl $ move ! (0 ∷ 4 ∷ 5 ∷ []) $ fjoin3 ! $ fjoin ! $
    returns ! (look_at ! 0 refl) $ free_all ! refl $ keep ! (1 ∷ 0 ∷ 2 ∷ []) $ by ! (ends 𝓛 ended hs c y vunit tt (h, (tt, tt)) (tt, (tt, tt)) (qed 𝓛 [] ∵ tells ! refl $ tells_last ! so))))))))
