-- A `&` to a `Seen` holds what it knows, which can be had twice. Assumes `Logic`.
use Rattle.ghost_tokens.proofs.Words.{before, seen_owns, lends_twice, snd∗, Laws, copy_shared, RattleType, field_copy, of_Lends, sem}
use Rattle.core.specs.contracts.marker.PhantomData as marker
use Rattle.ghost_tokens.specs.contracts.log.Seen as C
use Rattle.ghost_tokens.proofs.LogSteps.{twice}
use Rattle.ghost_tokens.proofs.log.Seen.TheLaw.Statement.{statement}

pub shares : (E : RattleType) (L : Laws E) → statement E L
shares E L =
    of_Lends (C.struct E) (C.the_codes E.Denot E.coded (marker.the_row E).coded) (C.the_heap E) (C.the_lent E)
    (λ d p. record { contraction = λ M 𝓤 𝓛 κ. twice 𝓛 E.coded d.name d.list; mono = λ M 𝓤 𝓛 κ' κ. snd∗ 𝓤 (sem 𝓛 (before κ' κ)) (sem 𝓛 (seen_owns E.coded.code d.name d.list)) })
    (copy_shared (marker.the_field E) (field_copy (marker.the_type E) tt), tt)
    (λ M 𝓤 𝓛 d p. lends_twice 𝓛 (seen_owns E.coded.code d.name d.list) (twice 𝓛 E.coded d.name d.list) (C.the_row E).lives)
