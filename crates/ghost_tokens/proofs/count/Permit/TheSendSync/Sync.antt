use Rattle.ghost_tokens.proofs.Words.{IsSync, sendable, Struct, shape}
use Rattle.ghost_tokens.specs.contracts.count.Permit.{the_row, the_type}
use Rattle.ghost_tokens.proofs.CountSteps.{permit_keyless}

pub sync : IsSync the_row
sync = let fields : IsSync (Struct (shape the_type)) = search sendable depth 20 in
    record { shared = λ d b o ν. (fields.shared (tt, tt) b o ν, λ q. permit_keyless d.name d.key q) }
