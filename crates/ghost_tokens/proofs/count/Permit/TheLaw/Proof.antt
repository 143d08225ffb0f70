-- A `&` to a `Permit` holds a share of it. Assumes `Logic`.
use Rattle.ghost_tokens.proofs.Words.{unit, one_shr_laws, copy_shared, field_copy, of_Lends, permit_owns}
use Rattle.core.specs.contracts.marker.PhantomData as marker
use Rattle.ghost_tokens.specs.contracts.count.Permit as C
use Rattle.ghost_tokens.proofs.CountSteps.{permit_lends}
use Rattle.ghost_tokens.proofs.count.Permit.TheLaw.Statement.{statement}

pub shares : statement
shares =
    of_Lends C.struct (C.the_codes (marker.the_row unit).coded) C.the_heap C.the_lent
    (λ d p. one_shr_laws (permit_owns d.name d.key))
    (copy_shared (marker.the_field unit) (field_copy (marker.the_type unit) tt), tt)
    (λ M 𝓤 𝓛 d p. permit_lends 𝓛 d.name d.key C.the_row.lives)
