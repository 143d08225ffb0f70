use Rattle.async_cell_driver.proofs.Words.{MatchResult-weaker}
use Rattle.async_cell_driver.proofs.Logs.{starts_as, start_refused_as}
use Rattle.async_cell_driver.proofs.driver.Driver.start.Goals as goal

pub returns-clause-started : goal.returns-clause-started
returns-clause-started g c =
    rw (← c.self.view_is) (MatchResult-weaker c.start.result c.start.ensures.started
    (λ number made.
    starts_as _ _ c.args.kind c.start.new.self number c.soundness.ensures c.self.invariant made.0 made.1) (λ why p. p))

pub returns-clause-refused : goal.returns-clause-refused
returns-clause-refused g c =
    rw (← c.self.view_is) (MatchResult-weaker c.start.result c.start.ensures.refused (λ number p. p)
    (λ why same. start_refused_as _ _ c.args.kind c.start.new.self why c.soundness.ensures c.self.invariant same.0 same.1))
