use Rattle.async_cell_recorded.proofs.Words.{refl, ◌≡◌, ◌<◌, ◌+◌, ◌^◌, arith, rules, count_by-le-length, is_of, made_by}
use Rattle.async_cell_recorded.proofs.Histories.{journal_more, journal_same, step_replies}
use Rattle.async_cell_recorded.proofs.journal.Journal.step.Goals as goal

pub invariant_of-self-2 : goal.invariant_of-self-2
invariant_of-self-2 g c =
    let within : c.args.share.now.number < c.self.inside.count.shares = omega (arith, c.next_serial.ensures.of_shares, c.self.inside.count.all) in
    let counted = c.self.invariant.counts_each c.args.share.now.number within in
    let turn : c.args.share.now.count ≡ made_by c.args.share.now.number c.self.inside.entries.items =
    omega (arith, c.count.ensures, c.if-count-next_serial.false, c.next_serial.ensures.serial, counted) in
    let model = c.in_ok-made.ensures.model in
    rw (c.push_reserved.ensures.items, c.in_ok-reserve.ensures.items, c.count-3.ensures.books, c.number.ensures.same, c.count-2.ensures)
    (journal_more g.M.Pick.pick _ _ c.make.new.core _ _ c.in_ok-made.woken _ _ c.self.invariant c.in_ok-made.ensures.answered refl refl within turn model)

pub count-requires-3 : goal.count-requires-3
count-requires-3 g c =
    let counted = c.self.invariant.counts_each c.args.share.now.number (omega (arith, c.next_serial.ensures.of_shares, c.self.inside.count.all)) in
    let few = count_by-le-length (is_of c.args.share.now.number) c.self.inside.entries.items in
    let room : c.args.share.now.count + 1 < 2 ^ 64 = omega (arith, c.count.ensures, c.if-count-next_serial.false, c.next_serial.ensures.serial, counted, few) in
    search rules

pub invariant_of-self-in_err-made : goal.invariant_of-self-in_err-made
invariant_of-self-in_err-made g c =
    let same = c.in_err-made.ensures.unchanged in
    rw c.in_ok-reserve.ensures.items (journal_same g.M.Pick.pick _ _ c.make.new.core _ c.self.invariant same.0 same.1)

pub returns-clause-call : goal.returns-clause-call
returns-clause-call g c = rw (← c.self.view_is, ← c.self.invariant.cell_is) c.in_ok-made.ensures.kept

pub returns-clause-reply : goal.returns-clause-reply
returns-clause-reply g c =
    rw (← c.self.view_is) (step_replies g.M.Pick.pick _ _ _ _ _ _ _ c.self.invariant c.in_ok-made.ensures.answered c.in_ok-made.ensures.model)

pub returns-clause-recorded : goal.returns-clause-recorded
returns-clause-recorded g c = (invariant_of-self-2 g c).recorded
