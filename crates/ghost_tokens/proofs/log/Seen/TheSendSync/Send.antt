use Rattle.ghost_tokens.proofs.Words.{IsSend, RattleType}
use Rattle.ghost_tokens.specs.contracts.log.Seen.{the_row}
use Rattle.ghost_tokens.proofs.LogSteps.{seen_keyless}

pub send : (E : RattleType) → IsSend (the_row E)
send E = record { owned = λ d vs. ((λ vss. (tt, ((λ uss. (tt, tt)), tt))), seen_keyless E.coded.code d.name d.list); leaving = λ k f vs. tt }
