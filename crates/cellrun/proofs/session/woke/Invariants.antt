use Rattle.cellrun.proofs.Words.{names_text, ◌≡◌, ◌++◌}
use Rattle.cellrun.proofs.session.woke.Given as goal

-- the text so far and the names that are left make up the whole text
abbrev pub invariant-loop-name : goal.invariant-loop-name
invariant-loop-name l = l.out.items ++ names_text l.name-iterator ≡ l.initial.out.items ++ names_text l.fn.woken
