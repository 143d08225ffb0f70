use Rattle.ghost_tokens.proofs.Words.{IsSync, sendable, RattleType, shape, Struct}
use Rattle.ghost_tokens.specs.contracts.log.Seen.{the_row, the_type}
use Rattle.ghost_tokens.proofs.LogSteps.{seen_keyless}

pub sync : (E : RattleType) → IsSync (the_row E)
sync E = let fields : IsSync (Struct (shape (the_type E))) = search sendable depth 20 in
    record { shared = λ d b o ν. (fields.shared (tt, tt) b o ν, seen_keyless E.coded.code d.name d.list) }
