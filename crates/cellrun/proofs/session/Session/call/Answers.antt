use Rattle.cellrun.proofs.Words.{None}
use Rattle.cellrun.proofs.Calls.{known_if, no_waker}
use Rattle.cellrun.proofs.session.Session.call.Goals as goal

pub invariant_of-self : goal.invariant_of-self
invariant_of-self c =
    let none = no_waker c.args.self.now.core.cell c.args.command c.in_default.not-Take c.in_default.not-Get in
    record { known = known_if _ _ _ _ _ _ _ c.args.self.now.known c.step_copied.ensures.model None (cc (c.call_of.ensures, none)) tt }
