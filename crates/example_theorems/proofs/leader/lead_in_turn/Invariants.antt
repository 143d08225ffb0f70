use Rattle.example_theorems.proofs.leader.lead_in_turn.Given as goal

-- the office is that of this list
abbrev pub ghosts-lead_named : goal.ghosts-lead_named
ghosts-lead_named g a = record { terms = a.terms.name }
