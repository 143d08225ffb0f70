use Rattle.ghost_tokens.proofs.Words.{IsSync, sendable, RattleType, shape, Struct}
use Rattle.ghost_tokens.specs.contracts.log.Log.{the_row, the_type}
use Rattle.ghost_tokens.proofs.LogSteps.{log_keyless}

pub sync : (E : RattleType) → IsSync (the_row E)
sync E = let fields : IsSync (Struct (shape (the_type E))) = search sendable depth 20 in
    record { shared = λ d b o ν. (fields.shared (tt, tt) b o ν, λ q. log_keyless E.coded.code d.name d.list q) }
