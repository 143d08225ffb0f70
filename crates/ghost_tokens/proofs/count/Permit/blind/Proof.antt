-- A permit without a name owns nothing.
use Rattle.ghost_tokens.proofs.Words.{[], ◌∷◌, refl, Val, SProp, emp, ftrue, ‵, raw, ◌⊛◌, ◌$◌, ◌∵◌, !, qed, by, keep, split, fjoin, use0, no_more, and_then, returns, enter, alloc_all, pass_all}
use Rattle.ghost_tokens.proofs.Words.{free_all, look_at, get, sets, agg, fact_i, tables, owns, types_at, unit, nothing, Stays, walk_of, proved, token, Token, token_made, ends, None}
use Rattle.ghost_tokens.specs.contracts.count.Permit.blind.{ended, clauses, Key.name as #self}
use Rattle.ghost_tokens.proofs.count.Permit.blind.Statement.{statement}
use Rattle.ghost_tokens.proofs.count.Permit.blind.Code as code

pub blind_spec : {M : Type 1} → statement M
blind_spec 𝓤 𝓛 𝓜 𝓡 wired =
    let H = 𝓛.H in let 𝓣 = tables 𝓤 H 𝓜 𝓡 𝓡.env in let fn = code.function in let c = clauses 𝓛 𝓜.mem 𝓡.returns in
    let hs : Stays ended.signature.params ended.kept = tt in
    proved 𝓛 ended hs c 𝓜 𝓡 tt #self fn (code.unfolded 𝓤 H 𝓜 𝓡 wired)
    (λ κs. tt) (λ κs. tt) (λ κs qs bounds a gh are.
    let y : (walk_of 𝓛 ended hs c).Ghost = ((κs, qs, bounds, a, tt), gh) in let Post : Val → SProp 𝓤 = (walk_of 𝓛 ended hs c).post y in
    qed 𝓛 ((‵ ftrue ⊛ ‵ (owns (types_at ended.signature.params κs) a y.0.4)) ∷ raw ((c κs a).requires gh) ∷ []) ∵ keep ! (0 ∷ []) $ split ! $
    keep ! (0 ∷ []) $ enter ! 𝓣.C 𝓣.Λ fn [] Post $ alloc_all ! (λ l. pass_all ! refl tt $
    nothing ! $ use0 𝓛 (‵ ((Token unit).own_val (record {}, tt) (token ∷ []))) (token_made unit 𝓛) $ fjoin ! $ sets ! (agg ! (no_more !)) refl (tt, tt) $
    sets ! (agg ! (and_then ! (get ! refl) (no_more !))) refl (tt, (tt, tt)) $ nothing ! $
    returns ! (look_at ! 0 refl) $ free_all ! refl $ keep ! (2 ∷ 0 ∷ 1 ∷ []) $ by ! (ends 𝓛 ended hs c y token (record { marker = record {}; name = None; key = 0 }) tt tt (fact_i 𝓤 _ (emp 𝓤) refl))))
