use Rattle.std.proofs.Common.{rules, sym}
use Rattle.example_theorems.proofs.writer.look.Goals as goal

pub returns-clause-got : goal.returns-clause-got
returns-clause-got g c = rw (sym c.get_as.ensures.seen)
    (c.an_exact_get_is_linearized.ensures (λ a b is. is) c.get_as.result.polled.seen.calls c.in_ok-found.now.calls c.in_ok-found.found (search rules))
