use Rattle.async_cell_recorded.proofs.Histories.{journal_new}
use Rattle.async_cell_recorded.proofs.journal.Journal.new.Goals as goal

pub invariant_of-journal : goal.invariant_of-journal
invariant_of-journal g c =
    rw (c.new-2.ensures.items, c.owned_by.ensures, c.in_ok-books.ensures.empty, c.new.ensures)
    (journal_new g.M.Pick.pick c.args.shares c.requires.some c.ranges.shares.fits)
