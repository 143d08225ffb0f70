use Rattle.async_cell_callers.specs.Taken.{hands_out}
use Rattle.async_cell_callers.proofs.taken.five_taken.Given as goal

-- the marker names the two blank ledgers
abbrev pub ghosts-take_five-M-Marker : goal.ghosts-take_five-M-Marker
ghosts-take_five-M-Marker g a = record { calls = a.blanks.calls.name; picked = a.blanks.picked.name; shares = 1 }

-- and its test picks the entries that hand a value out
abbrev pub ghosts-take_five-M-Pick : goal.ghosts-take_five-M-Pick
ghosts-take_five-M-Pick g a = record { pick = hands_out }
