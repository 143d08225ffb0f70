use Rattle.std.proofs.Common.{◌≡◌}
use Rattle.example_theorems.proofs.reply.ask.Given as goal

-- the rule is that the value was set in this list
abbrev pub ghosts-ask_named : goal.ghosts-ask_named
ghosts-ask_named g a = record { holds = λ it. it.set.name ≡ a.set.name }
