use Rattle.async_cell_recorded.proofs.Words.{take_all}
use Rattle.async_cell_recorded.proofs.PlainHistories.{plain_is}
use Rattle.async_cell_recorded.proofs.history.History.plain.Goals as goal

pub invariant_of-result : goal.invariant_of-result
invariant_of-result g c =
    rw (c.loop-entry.invariant.copied, take_all c.loop-entry.entry-index c.as_slice-all.result.now c.loop-entry-test.false, c.as_slice-all.ensures.value)
    (plain_is (record { begin = c.self.inside.begin; entries = c.self.inside.entries.items }) c.self.invariant)
