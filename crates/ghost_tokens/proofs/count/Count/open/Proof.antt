-- `open` makes a name of its own.
use Rattle.ghost_tokens.proofs.Words.{ℕ, [], ◌∷◌, refl, Val, SProp, ftrue, ‵, raw, ◌⊛◌, some, later, ◌$◌, ◌∵◌, !, qed, by, keep, split, fjoin, pick, use0, await}
use Rattle.ghost_tokens.proofs.Words.{no_more, and_then, returns, enter, alloc_all, pass_all, free_all, look_at, get, sets, agg, tables, tells, tells_last}
use Rattle.ghost_tokens.proofs.Words.{owns, types_at, unit, nothing, Stays, walk_of, proved, token, Token, token_made, ends, Some, count_owns}
use Rattle.ghost_tokens.proofs.CountSteps as steps
use Rattle.ghost_tokens.specs.contracts.count.Count.«open».{ended, clauses, Key.name as #self}
use Rattle.ghost_tokens.proofs.count.Count.«open».Statement.{statement}
use Rattle.ghost_tokens.proofs.count.Count.«open».Code as code

pub open_spec : {M : Type 1} → statement M
open_spec 𝓤 𝓛 𝓜 𝓡 wired =
    let H = 𝓛.H in let 𝓣 = tables 𝓤 H 𝓜 𝓡 𝓡.env in let fn = code.function in let c = clauses 𝓛 𝓜.mem 𝓡.returns in
    let hs : Stays ended.signature.params ended.kept = tt in
    proved 𝓛 ended hs c 𝓜 𝓡 tt #self fn (code.unfolded 𝓤 H 𝓜 𝓡 wired)
    (λ κs. tt) (λ κs. tt) (λ κs qs bounds a gh are.
    let y : (walk_of 𝓛 ended hs c).Ghost = ((κs, qs, bounds, a, tt), gh) in let Post : Val → SProp 𝓤 = (walk_of 𝓛 ended hs c).post y in
    qed 𝓛 ((‵ ftrue ⊛ ‵ (owns (types_at ended.signature.params κs) a y.0.4)) ∷ raw ((c κs a).requires gh) ∷ []) ∵ keep ! (0 ∷ []) $ split ! $
    keep ! (0 ∷ []) $ enter ! 𝓣.C 𝓣.Λ fn [] Post $ alloc_all ! (λ l. pass_all ! refl tt $
    use0 𝓛 (later (some (λ (γ : ℕ). ‵ (count_owns (Some γ) 0)))) (steps.opens_empty 𝓛) $ await ! tt $
    pick ! (λ γ. use0 𝓛 (‵ ((Token unit).own_val (record {}, tt) (token ∷ []))) (token_made unit 𝓛) $ fjoin ! $ sets ! (agg ! (no_more !)) refl (tt, tt) $
    sets ! (agg ! (and_then ! (get ! refl) (no_more !))) refl (tt, (tt, tt)) $ nothing ! $
    returns ! (look_at ! 0 refl) $ free_all ! refl $ keep ! (2 ∷ 0 ∷ 1 ∷ []) $
    by ! (ends 𝓛 ended hs c y token (record { marker = record {}; name = Some γ; out = 0 }) tt tt (qed 𝓛 [] ∵ tells ! refl $ tells_last ! refl)))))
