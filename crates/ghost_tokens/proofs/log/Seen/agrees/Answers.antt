use Rattle.ghost_tokens.proofs.LogSteps.{as_long}
use Rattle.ghost_tokens.proofs.log.Seen.agrees.Goals as goal

pub returns : goal.returns
returns g c =
    let both = c.longer-longer.ensures in
    record { same = as_long c.args.self.now.list c.args.other.now.list c.longer-longer.result.list both.one_of_both both.begins both.other_begins }
