use Rattle.ghost_tokens.proofs.Words.{IsSend}
use Rattle.ghost_tokens.specs.contracts.count.Count.{the_row}
use Rattle.ghost_tokens.proofs.CountSteps.{count_keyless}

pub send : IsSend the_row
send = record { owned = λ d vs. ((λ vss. (tt, ((λ uss. (tt, tt)), tt))), count_keyless d.name d.out); leaving = λ k f vs. tt }
