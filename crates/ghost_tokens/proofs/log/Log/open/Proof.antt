-- `open` makes a name of its own.
use Rattle.ghost_tokens.proofs.Words.{proved, log_owns, token, Token, token_made, ends, ℕ, [], ◌∷◌, refl, Fml, ftrue, fsep, flft, full_share, SProp, emp, fact_i, tables, param}
use Rattle.ghost_tokens.proofs.Words.{bounded, RattleType, owns, types_at, nothing, Stays, walk_of, inst_fn, a_type, dnil, Val, alloc_all, pass_all, free_all, look_at, get, sets}
use Rattle.ghost_tokens.proofs.Words.{‵, raw, ◌⊛◌, some, later, ◌$◌, ◌∵◌, !, qed, by, keep, split, fjoin, pick, use0, await, agg, no_more, and_then, returns, enter}
use Rattle.ghost_tokens.specs.contracts.log.Log as Log
use Rattle.ghost_tokens.specs.contracts.log.Seen as Seen
use Rattle.ghost_tokens.proofs.LogSteps as steps
use Rattle.ghost_tokens.specs.contracts.log.Log.«open».{ended, clauses, Key.name as #self}
use Rattle.ghost_tokens.proofs.log.Log.«open».Statement.{statement}
use Rattle.ghost_tokens.proofs.log.Log.«open».Code as code

pub open_spec : {M : Type 1} → statement M
open_spec 𝓤 𝓛 𝓜 𝓡 wired E _ =
    let H = 𝓛.H in let 𝓣 = tables 𝓤 H 𝓜 𝓡 𝓡.env in let E' : RattleType = param 0 E in let En = ended E in
    let fn = inst_fn (bounded (a_type ∷ []) (E, tt) dnil) code.function in let c = clauses E 𝓛 𝓜.mem 𝓡.returns in
    let Lg : RattleType = Log.the_row E' in let Sn : RattleType = Seen.the_row E' in let cv = E'.coded in
    let hs : Stays En.signature.params En.kept = tt in
    proved 𝓛 En hs c 𝓜 𝓡 tt (#self (bounded (a_type ∷ []) (E, tt) dnil)) fn (code.unfolded 𝓤 H 𝓜 𝓡 wired (E, tt))
    (λ κs. tt) (λ κs. tt) (λ κs qs bounds a gh are.
    let y : (walk_of 𝓛 En hs c).Ghost = ((κs, qs, bounds, a, tt), gh) in let Post : Val → SProp 𝓤 = (walk_of 𝓛 En hs c).post y in let toks : Fml = fsep (flft κs.0 qs.0) ftrue in
    qed 𝓛 ((‵ toks ⊛ ‵ (owns (types_at En.signature.params κs) a y.0.4)) ∷ raw ((c κs a).requires gh) ∷ []) ∵ keep ! (0 ∷ []) $ split ! $
    keep ! (0 ∷ []) $ enter ! 𝓣.C 𝓣.Λ fn ([]) Post $ alloc_all ! (λ l. pass_all ! refl tt $
    use0 𝓛 (later (some (λ (γ : ℕ). ‵ (log_owns cv.code γ [] full_share)))) (steps.opens_empty 𝓛 cv) $ await ! tt $
    pick ! (λ γ. use0 𝓛 (‵ ((Token E').own_val (record {}, tt) (token ∷ []))) (token_made E' 𝓛) $ fjoin ! $ sets ! (agg ! (no_more !)) refl (tt, tt) $
    sets ! (agg ! (and_then ! (get ! refl) (no_more !))) refl (tt, (tt, tt)) $ nothing ! $
    returns ! (look_at ! 0 refl) $ free_all ! refl $ keep ! (2 ∷ 0 ∷ 1 ∷ []) $ by ! (ends 𝓛 En hs c y token (record { marker = record {}; name = γ; list = [] }) tt tt (fact_i 𝓤 _ (emp 𝓤) refl)))))
