use Rattle.ghost_tokens.proofs.Words.{full_share, IsSend}
use Rattle.ghost_tokens.specs.contracts.count.Permit.{the_row}
use Rattle.ghost_tokens.proofs.CountSteps.{permit_keyless}

pub send : IsSend the_row
send = record { owned = λ d vs. ((λ vss. (tt, ((λ uss. (tt, tt)), tt))), permit_keyless d.name d.key full_share); leaving = λ k f vs. tt }
