use Rattle.cellrun.proofs.Words.{State, waker_of, Named, kept_call, ℤ, ap, ◌∙◌, Some}
use Rattle.cellrun.proofs.Calls.{known_if}
use Rattle.cellrun.proofs.session.Session.poll.Goals as goal

pub invariant_of-self-2 : goal.invariant_of-self-2
invariant_of-self-2 c =
    let is = ap (λ (s : State ℤ Named). waker_of (kept_call s.cell c.args.command)) c.is_new.ensures.core ∙ c.requires in
    record {
      known = known_if _ _ _ _ _ _ _ c.is_new.new.self.known c.step_copied.ensures.model (Some (record { 0 = c.args.name }))
          (cc (c.call_of.ensures, is)) c.is_new.ensures.noted;
    }
