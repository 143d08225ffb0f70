use Rattle.ghost_tokens.proofs.Words.{full_share, IsSend, RattleType}
use Rattle.ghost_tokens.specs.contracts.log.Log.{the_row}
use Rattle.ghost_tokens.proofs.LogSteps.{log_keyless}

pub send : (E : RattleType) → IsSend (the_row E)
send E = record { owned = λ d vs. ((λ vss. (tt, ((λ uss. (tt, tt)), tt))), log_keyless E.coded.code d.name d.list full_share); leaving = λ k f vs. tt }
