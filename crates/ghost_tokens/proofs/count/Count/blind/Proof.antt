-- A count without a name owns nothing.
use Rattle.ghost_tokens.proofs.Words.{ℕ, [], ◌∷◌, refl, w32, Val, vint, SProp, ftrue, ‵, raw, ◌⊛◌, ◌$◌, ◌∵◌, !, qed, by, keep, split, fjoin, use0, no_more, and_then, returns}
use Rattle.ghost_tokens.proofs.Words.{enter, alloc_all, pass_all, free_all, look_at, get, sets, agg, tables, tells, tells_last, yes, owns, types_at, plain, unit, u32, uint_vals}
use Rattle.ghost_tokens.proofs.Words.{uint_Tells, nothing, Stays, stay_dropped, walk_of, Goes-dropped, proved, token, Token, token_made, ends, None}
use Rattle.ghost_tokens.specs.contracts.count.Count.blind.{ended, clauses, Key.name as #self}
use Rattle.ghost_tokens.proofs.count.Count.blind.Statement.{statement}
use Rattle.ghost_tokens.proofs.count.Count.blind.Code as code

pub blind_spec : {M : Type 1} → statement M
blind_spec 𝓤 𝓛 𝓜 𝓡 wired =
    let H = 𝓛.H in let 𝓣 = tables 𝓤 H 𝓜 𝓡 𝓡.env in let fn = code.function in let c = clauses 𝓛 𝓜.mem 𝓡.returns in
    let hs : Stays ended.signature.params ended.kept = (stay_dropped (plain (λ _. u32)) yes, tt) in
    proved 𝓛 ended hs c 𝓜 𝓡 (Goes-dropped 𝓛 0 (plain (λ _. u32)) yes (λ κs x f. refl), tt) #self fn (code.unfolded 𝓤 H 𝓜 𝓡 wired)
    (λ κs. (uint_vals w32, tt)) (λ κs. (uint_Tells w32, tt)) (λ κs qs bounds a gh are.
    let n : ℕ = a.0 in let y : (walk_of 𝓛 ended hs c).Ghost = ((κs, qs, bounds, a, (vint w32 n ∷ [], tt)), gh) in let Post : Val → SProp 𝓤 = (walk_of 𝓛 ended hs c).post y in
    qed 𝓛 ((‵ ftrue ⊛ ‵ (owns (types_at ended.signature.params κs) a y.0.4)) ∷ raw ((c κs a).requires gh) ∷ []) ∵ keep ! (0 ∷ []) $ split ! $
    keep ! (0 ∷ []) $ enter ! 𝓣.C 𝓣.Λ fn (vint w32 n ∷ []) Post $ alloc_all ! (λ l. pass_all ! refl ((tt, record { fits = are.0.1 }), tt) $
    nothing ! $ use0 𝓛 (‵ ((Token unit).own_val (record {}, tt) (token ∷ []))) (token_made unit 𝓛) $ fjoin ! $ sets ! (agg ! (no_more !)) refl (tt, tt) $
    sets ! (agg ! (and_then ! (get ! refl) (no_more !))) refl (tt, (tt, tt)) $ nothing ! $ nothing ! $ fjoin ! $
    returns ! (look_at ! 0 refl) $ free_all ! refl $ keep ! (2 ∷ 0 ∷ 1 ∷ []) $
    by ! (ends 𝓛 ended hs c y token (record { marker = record {}; name = None; out = n }) (tt, tt) (tt, tt) (qed 𝓛 [] ∵ tells ! refl $ tells_last ! refl))))
