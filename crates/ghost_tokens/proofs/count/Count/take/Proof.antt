-- `take` takes a permit back.
use Rattle.ghost_tokens.proofs.Words.{◌≡◌, ℕ, ◌-◌, List, [], ◌∷◌, refl, named, Val, vunit, vptr, full_share, SProp, ftrue, flft, ‵, ◌⊛◌, given, ◌$◌, ◌∵◌, !, qed, by, move, keep}
use Rattle.ghost_tokens.proofs.Words.{drop, split, join, fsplit, fsplit3, fjoin, fjoin3, learn, use2, rewrite, feq_i, unit_lit, of_opd, returns, enter, alloc_all, pass_all, free_all}
use Rattle.ghost_tokens.proofs.Words.{look_at, sets, tables, tells, tells_last, yes, RattleType, owns, types_at, plain, unit, mut_vals, mut_Tells, nothing, opens, closes, Stays}
use Rattle.ghost_tokens.proofs.Words.{stay_dropped, stay_ref, walk_of, Goes-dropped, Goes-ref, proved, token, token_told, ends, Option, count_owns, permit_owns}
use Rattle.ghost_tokens.specs.contracts.count.Count as Count
use Rattle.ghost_tokens.specs.contracts.count.Permit as Permit
use Rattle.ghost_tokens.proofs.CountSteps as steps
use Rattle.ghost_tokens.specs.contracts.count.Count.take.{ended, clauses, Key.name as #self}
use Rattle.ghost_tokens.proofs.count.Count.take.Statement.{statement}
use Rattle.ghost_tokens.proofs.count.Count.take.Code as code

pub take_spec : {M : Type 1} → statement M
take_spec 𝓤 𝓛 𝓜 𝓡 wired =
    let H = 𝓛.H in let 𝓣 = tables 𝓤 H 𝓜 𝓡 𝓡.env in let fn = code.function in let c = clauses 𝓛 𝓜.mem 𝓡.returns in let Ct : RattleType = Count.the_row in let St : RattleType = Permit.the_row in
    let hs : Stays ended.signature.params ended.kept = (stay_ref (0 ∷ []) tt (plain (λ _. Ct)), (stay_dropped (plain (λ _. St)) yes, tt)) in
    proved 𝓛 ended hs c 𝓜 𝓡 (Goes-ref 𝓛 1 0 tt (plain (λ _. Ct)), (Goes-dropped 𝓛 1 (plain (λ _. St)) yes (λ κs x f. refl), tt)) #self fn (code.unfolded 𝓤 H 𝓜 𝓡 wired)
    (λ κs. (mut_vals, ((λ x. token ∷ []), tt))) (λ κs. (mut_Tells (named 0) κs.0 Ct, ((λ x vs is. token_told unit vs is.0), tt))) (λ κs qs bounds a gh are.
    let b : ℕ = a.0.ref_ptr.0 in let o : ℕ = a.0.ref_ptr.1 in let h : Ct.Denot = a.0.now in let s : St.Denot = a.1.0 in let h' : Ct.Denot =
    record { marker = h.marker; name = h.name; out = h.out - 1 } in
    let y : (walk_of 𝓛 ended hs c).Ghost = ((κs, qs, bounds, a, (vptr b o ∷ [], (token ∷ [], tt))), gh) in let Post : Val → SProp 𝓤 = (walk_of 𝓛 ended hs c).post y in
    qed 𝓛 (((‵ (flft κs.0 qs.0) ⊛ ‵ ftrue) ⊛ ‵ (owns (types_at ended.signature.params κs) a y.0.4)) ∷ given (s.name ≡ h.name) (‵ ftrue) ∷ []) ∵ move ! (1 ∷ []) $
    learn ! (λ asked. drop ! $ split ! $ split ! $ move ! (2 ∷ []) $ fsplit ! $ fsplit3 ! $ move ! (3 ∷ []) $ fsplit ! $ fsplit ! $ keep ! (4 ∷ 5 ∷ 6 ∷ 1 ∷ []) $
    enter ! 𝓣.C 𝓣.Λ fn (vptr b o ∷ token ∷ []) Post $ alloc_all !
    (λ l. pass_all ! refl ((tt, tt), ((tt, (tt, tt)), tt)) $
    opens ! tt Ct b o (λ ts. move ! (1 ∷ []) $ fsplit ! $ move ! (1 ∷ 6 ∷ []) $ rewrite ! 1 (λ (x : Option ℕ). ‵ (permit_owns x s.key full_share)) asked refl $
    use2 𝓛 (given (steps.Taken 𝓛 h.name h.out) (‵ (count_owns h.name (h.out - 1)))) (steps.takes 𝓛 h.name h.out s.key) $
    learn ! (λ so. move ! (1 ∷ 0 ∷ []) $ fjoin ! $ move ! (1 ∷ 0 ∷ 2 ∷ 3 ∷ 4 ∷ []) $
    closes ! tt Ct h' ts b o $ feq_i ! (List Val) (vptr b o ∷ []) (vptr b o ∷ []) refl $ fjoin3 ! $ nothing ! $ nothing ! $ fjoin ! $ move ! (1 ∷ 0 ∷ []) $ fjoin ! $ nothing ! $ move ! (2 ∷ 0 ∷ []) $
    join ! $
    sets ! (of_opd ! (unit_lit !)) refl (tt, tt) $ feq_i ! (List Val) (vunit ∷ []) (vunit ∷ []) refl $
    returns ! (look_at ! 0 refl) $ free_all ! refl $ keep ! (1 ∷ 2 ∷ 0 ∷ []) $
    by ! (ends 𝓛 ended hs c y vunit tt (h', (tt, tt)) (tt, (tt, tt)) (qed 𝓛 [] ∵ tells ! refl $ tells ! refl $ tells_last ! so)))))))
