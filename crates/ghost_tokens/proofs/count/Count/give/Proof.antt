-- `give` makes a permit.
use Rattle.ghost_tokens.proofs.Words.{ℕ, ◌+◌, List, [], ◌∷◌, refl, named, Val, vptr, full_share, SProp, ftrue, flft, ‵, raw, ◌⊛◌, some, later, ◌$◌, ◌∵◌, !, qed, by, move}
use Rattle.ghost_tokens.proofs.Words.{keep, split, join, fsplit, fsplit3, fjoin, fjoin3, pick, use0, use1, await, feq_i, no_more, and_then, returns, enter, alloc_all, pass_all}
use Rattle.ghost_tokens.proofs.Words.{free_all, look_at, get, sets, agg, tables, tells, tells_last, RattleType, owns, types_at, plain, unit, mut_vals, mut_Tells, nothing}
use Rattle.ghost_tokens.proofs.Words.{opens, closes, Stays, stay_ref, walk_of, Goes-ref, proved, token, Token, token_made, ends, count_owns, permit_owns}
use Rattle.ghost_tokens.specs.contracts.count.Count as Count
use Rattle.ghost_tokens.proofs.CountSteps as steps
use Rattle.ghost_tokens.specs.contracts.count.Count.give.{ended, clauses, Key.name as #self}
use Rattle.ghost_tokens.proofs.count.Count.give.Statement.{statement}
use Rattle.ghost_tokens.proofs.count.Count.give.Code as code

pub give_spec : {M : Type 1} → statement M
give_spec 𝓤 𝓛 𝓜 𝓡 wired =
    let H = 𝓛.H in let 𝓣 = tables 𝓤 H 𝓜 𝓡 𝓡.env in let fn = code.function in let c = clauses 𝓛 𝓜.mem 𝓡.returns in let Ct : RattleType = Count.the_row in
    let hs : Stays ended.signature.params ended.kept = (stay_ref (0 ∷ []) tt (plain (λ _. Ct)), tt) in
    proved 𝓛 ended hs c 𝓜 𝓡 (Goes-ref 𝓛 1 0 tt (plain (λ _. Ct)), tt) #self fn (code.unfolded 𝓤 H 𝓜 𝓡 wired)
    (λ κs. (mut_vals, tt)) (λ κs. (mut_Tells (named 0) κs.0 Ct, tt)) (λ κs qs bounds a gh are.
    let b : ℕ = a.0.ref_ptr.0 in let o : ℕ = a.0.ref_ptr.1 in let h : Ct.Denot = a.0.now in let h' : Ct.Denot = record { marker = h.marker; name = h.name; out = h.out + 1 } in
    let y : (walk_of 𝓛 ended hs c).Ghost = ((κs, qs, bounds, a, (vptr b o ∷ [], tt)), gh) in let Post : Val → SProp 𝓤 = (walk_of 𝓛 ended hs c).post y in
    qed 𝓛 (((‵ (flft κs.0 qs.0) ⊛ ‵ ftrue) ⊛ ‵ (owns (types_at ended.signature.params κs) a y.0.4)) ∷ raw ((c κs a).requires gh) ∷ []) ∵ keep ! (0 ∷ []) $ split ! $ split ! $ move ! (2 ∷ []) $
    fsplit ! $ fsplit3 ! $ keep ! (1 ∷ 2 ∷ 4 ∷ []) $
    enter ! 𝓣.C 𝓣.Λ fn (vptr b o ∷ []) Post $ alloc_all ! (λ l. pass_all ! refl ((tt, tt), tt) $ opens ! tt Ct b o (λ ts. move ! (1 ∷ []) $ fsplit ! $ move ! (1 ∷ []) $
    use1 𝓛 (later (some (λ (δ : ℕ). ‵ (count_owns h.name (h.out + 1)) ⊛ ‵ (permit_owns h.name δ full_share)))) (steps.gives 𝓛 h.name h.out) $ await ! tt $
    pick ! (λ δ. split ! $ move ! (2 ∷ 0 ∷ []) $ fjoin ! $ move ! (2 ∷ 0 ∷ 3 ∷ 4 ∷ 5 ∷ []) $
    closes ! tt Ct h' ts b o $ feq_i ! (List Val) (vptr b o ∷ []) (vptr b o ∷ []) refl $ fjoin3 ! $ nothing ! $ move ! (1 ∷ 0 ∷ []) $ fjoin ! $ nothing ! $ move ! (2 ∷ 0 ∷ []) $ join ! $
    move ! (2 ∷ []) $
    use0 𝓛 (‵ ((Token unit).own_val (record {}, tt) (token ∷ []))) (token_made unit 𝓛) $ fjoin ! $ sets ! (agg ! (no_more !)) refl (tt, tt) $
    sets ! (agg ! (and_then ! (get ! refl) (no_more !))) refl (tt, (tt, tt)) $
    returns ! (look_at ! 0 refl) $ free_all ! refl $ keep ! (1 ∷ 2 ∷ 0 ∷ []) $
    by ! (ends 𝓛 ended hs c y token (record { marker = record {}; name = h.name; key = δ }) (h', tt) (tt, tt) (qed 𝓛 [] ∵ tells ! refl $ tells ! refl $ tells_last ! refl))))))
