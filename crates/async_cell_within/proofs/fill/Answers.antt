use Rattle.async_cell_within.proofs.Fills.{each_goes_on}
use Rattle.async_cell_within.proofs.fill.Goals as goal

pub returns-then-is_ready : goal.returns-then-is_ready
returns-then-is_ready g c = each_goes_on _ _ _ _ _ _ _ _ c.loop.invariant c.poll_each.ensures.fills

pub returns-in_err-nap_until_woken : goal.returns-in_err-nap_until_woken
returns-in_err-nap_until_woken g c = each_goes_on _ _ _ _ _ _ _ _ c.loop.invariant c.poll_each.ensures.fills

pub loop-preserved : goal.loop-preserved
loop-preserved g c = each_goes_on _ _ _ _ _ _ _ _ c.loop.invariant c.poll_each.ensures.fills
