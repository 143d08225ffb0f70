use Rattle.cellrun.proofs.Words.{bytes_left, output_contents, ◌-◌, Keeps, array_vec_len}
use Rattle.cellrun.proofs.lines.Lines.next.Given as goal

-- nothing is lost
abbrev pub invariant-loop-next : goal.invariant-loop-next
invariant-loop-next g l = record {
  left : Keeps (bytes_left l.initial.self) (bytes_left l.self);
  out : Keeps (output_contents g.W.Write.contents l.initial.out) (output_contents g.W.Write.contents l.out);
}

-- the number of bytes that `held` has room for
abbrev pub decreases-loop-next : goal.decreases-loop-next
decreases-loop-next g l = 64 - array_vec_len l.self.held
