use Rattle.std.specs.Prelude.{◌≡◌, true, nat_le, Some}
use Rattle.async_cell_history.specs.History.{GoesOn, Puts}
use Rattle.example_theorems.proofs.writer.write_twice.Given as goal

-- The cell is that of this level. Its values are of this list, and their numbers rise.
abbrev pub ghosts-write_named : goal.ghosts-write_named
ghosts-write_named g a = record {
  named = Some a.level;
  may = λ call. GoesOn (λ old new. nat_le old.number new.number ≡ true) call × Puts (λ it. it.written.name ≡ a.written.name) call;
  holds = λ it. it.written.name ≡ a.written.name;
  keeps = λ call may. may.1;
}
