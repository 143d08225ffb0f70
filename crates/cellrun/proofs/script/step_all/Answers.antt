use Rattle.cellrun.proofs.Words.{bytes_left, output_contents, Done, BadLine, refl, rules}
use Rattle.cellrun.proofs.Written.{printed_start, printed_blank, printed_call, owes}
use Rattle.cellrun.proofs.script.step_all.Goals as goal
use Rattle.cellrun.proofs.script.step_all.Goals.{in-Blank, in-Call+else-is_err+else-is_err-2}

pub loop-number-init : goal.loop-number-init
loop-number-init g c = rw c.new-session.ensures (printed_start (bytes_left c.args.lines.now) (output_contents g.W.Write.contents c.args.out.now))

pub loop-number-preserved : goal.loop-number-preserved
loop-number-preserved g c =
    elim c.match-branch-2.branch [
      | in-Call+else-is_err+else-is_err-2 w ↦
          rw (w.session-is, w.out-is)
          (printed_call _ _ _ _ _ (bytes_left c.args.lines.now) (bytes_left c.next.new.self) (output_contents g.W.Write.contents c.next.new.out) _
          w.in-Call.command w.step.new.out.items w.step.new.self.core c.loop-number.invariant
          (rw w.in-Call.is at c.in_ok-command.ensures.next) c.next.ensures.out (search rules) (search rules))
      | in-Blank w ↦
          rw (w.session-is, w.out-is)
          (printed_blank _ _ _ _ _ (bytes_left c.args.lines.now) (bytes_left c.next.new.self) _ c.loop-number.invariant
          (rw w.in-Blank.is at c.in_ok-command.ensures.next) c.next.ensures.out)
    ]

pub returns-in-Bad : goal.returns-in-Bad
returns-in-Bad g c =
    owes _ _ _ _ _ _ _ (BadLine c.loop-number.number) c.loop-number.invariant c.next.ensures.out (λ rest is. (refl, rw (c.in-Bad.is, is) at c.in_ok-command.ensures.next, refl))

pub returns-in-End : goal.returns-in-End
returns-in-End g c =
    owes _ _ _ _ _ _ _ Done c.loop-number.invariant c.next.ensures.out (λ rest is. (rw (c.in-End.is, is) at c.in_ok-command.ensures.next, refl))
