use Rattle.cellrun.proofs.Words.{◌<◌, ◌+◌, None, length, take, refl, sym, arith, rules, reader_buffer}
use Rattle.cellrun.proofs.Reading.{place_joined, bad_next, line_next, end_next, position_found, position_none}
use Rattle.cellrun.proofs.lines.Lines.look.Goals as goal

pub invariant_of-self-in_default : goal.invariant_of-self-in_default
invariant_of-self-in_default g c = record { one_line = grind (arith, place_joined, position_none) }

pub returns-then-is_empty-clause-next : goal.returns-then-is_empty-clause-next
returns-then-is_empty-clause-next g c =
    rw c.if-self.false (end_next _ _ _ c.args.self.now.one_line (c.in_ok-refill.ensures.end (search rules)) c.last.ensures.line c.last.ensures.end)

pub returns-then-is_err-clause-next : goal.returns-then-is_err-clause-next
returns-then-is_err-clause-next g c =
    let long : 64 < length c.args.self.now.held.items + length (take c.min.result c.buffer-buffered.result.now) = grind arith in
    rw c.if-self.false (bad_next _ (reader_buffer c.refill.new.input) _ c.min.result _ _ _ None (rw c.buffer-buffered.ensures refl) c.refill.ensures.bytes c.args.self.now.one_line
    (position_none _ (sym c.in_default.ensures)) long)

pub returns-clause-next : goal.returns-clause-next
returns-clause-next g c =
    let found = position_found (take c.min.result c.buffer-buffered.result.now) c.in-Some.end (sym c.in-Some.ensures) in
    rw (c.if-self.false, c.complete-next.ensures.emptied)
    (line_next _ (reader_buffer c.refill.new.input) _ c.min.result c.in-Some.end _ _ _ _ _ (rw c.buffer-buffered.ensures refl) c.refill.ensures.bytes c.args.self.now.one_line
    (found.0) (found.1) c.consume-2.ensures.bytes c.complete-next.ensures.line)
