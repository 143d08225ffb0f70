use Rattle.std.proofs.Common.{refl}
use Rattle.example_theorems.proofs.writer.fn.put.update_as.Goals as goal

pub returns : goal.returns
returns c = (c.newer.result, (refl, (c.newer.ensures.no_older, (c.newer.ensures.one_of_both, c.newer.ensures.goes_on))))
