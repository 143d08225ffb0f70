use Rattle.async_cell_recorded.proofs.session.with_recorded.Given as goal

-- the marker names the two blank ledgers
abbrev pub ghosts-run_marked-M-Marker : goal.ghosts-run_marked-M-Marker
ghosts-run_marked-M-Marker g a = record { calls = a.blanks.calls.name; picked = a.blanks.picked.name; shares = a.shares }

-- and its test is that of the session
abbrev pub ghosts-run_marked-M-Pick : goal.ghosts-run_marked-M-Pick
ghosts-run_marked-M-Pick g a = record { pick = g.S.Session.pick }
