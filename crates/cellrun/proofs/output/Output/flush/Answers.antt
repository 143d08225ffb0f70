use Rattle.cellrun.proofs.Words.{arith, Keeps-trans, append_known-kept, length-drop, take_all}
use Rattle.cellrun.proofs.Written.{moved}
use Rattle.cellrun.proofs.output.Output.flush.Goals as goal

pub loop-preserved : goal.loop-preserved
loop-preserved g c = grind (arith, Keeps-trans, moved, append_known-kept, length-drop, take_all)
