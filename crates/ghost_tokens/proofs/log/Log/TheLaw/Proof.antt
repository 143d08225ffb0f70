-- A `&` to a `Log` holds a share of the right. Assumes `Logic`.
use Rattle.ghost_tokens.proofs.Words.{one_shr_laws, log_owns, Laws, copy_shared, RattleType, field_copy, of_Lends}
use Rattle.core.specs.contracts.marker.PhantomData as marker
use Rattle.ghost_tokens.specs.contracts.log.Log as C
use Rattle.ghost_tokens.proofs.LogSteps.{log_lends}
use Rattle.ghost_tokens.proofs.log.Log.TheLaw.Statement.{statement}

pub shares : (E : RattleType) (L : Laws E) → statement E L
shares E L =
    of_Lends (C.struct E) (C.the_codes E.Denot E.coded (marker.the_row E).coded) (C.the_heap E) (C.the_lent E)
    (λ d p. one_shr_laws (log_owns E.coded.code d.name d.list))
    (copy_shared (marker.the_field E) (field_copy (marker.the_type E) tt), tt)
    (λ M 𝓤 𝓛 d p. log_lends 𝓛 E.coded d.name d.list (C.the_row E).lives)
