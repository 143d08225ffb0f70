use Rattle.std.proofs.Common.{sym, subst}
use Rattle.async_cell_history.specs.History.{Fits}
use Rattle.async_cell_history.proofs.Leading.{entered, entered_lawful}
use Rattle.async_cell_history.proofs.past.Before.enter.Goals as goal

pub invariant_of-past : goal.invariant_of-past
invariant_of-past g c =
    let W = g.W.Wakes in let N = g.N.Protocol in let past = c.past.inside in let enters = c.push.ensures in
    let led = entered W.will_wake W.SURE_CLONE N.may past.count.name past.start past.count.out N.holds N.keeps _ _ _ _ _ _ _ _ _ c.past.view_is enters.of_this enters.pushed
    c.requires.led c.requires.step c.requires.allowed in (
      subst (λ n. Fits N.named (record { name = n; permits = past.count.name; start = past.start })) (sym enters.of_this) c.past.invariant.0,
      entered_lawful W.will_wake W.SURE_CLONE N.may past.count.name past.start past.count.out _ _ _ enters.pushed led.0.runs.legal c.requires.allowed c.past.invariant.1,
      c.past.invariant.2,
    )

pub returns-clause-leads : goal.returns-clause-leads
returns-clause-leads g c =
    let W = g.W.Wakes in let N = g.N.Protocol in let past = c.past.inside in
    entered W.will_wake W.SURE_CLONE N.may past.count.name past.start past.count.out N.holds N.keeps _ _ _ _ _ _ _ _ _ c.past.view_is c.push.ensures.of_this c.push.ensures.pushed
    c.requires.led c.requires.step c.requires.allowed
