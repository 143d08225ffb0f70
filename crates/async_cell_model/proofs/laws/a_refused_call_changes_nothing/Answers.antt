use Rattle.async_cell_model.proofs.Words.{◌∙◌}
use Rattle.async_cell_model.proofs.OneEntry.{refused_cell, refused_waiting, refused_handed}
use Rattle.async_cell_model.proofs.laws.a_refused_call_changes_nothing.Goals as goal

pub returns : goal.returns
returns g c = record {
  cell = λ will_wake sure from to e woken leads is. leads.cell_is ∙ refused_cell g.T.Clone.is_clone will_wake sure from to e woken leads is;
  waiting = λ will_wake sure from to e woken leads is. refused_waiting g.T.Clone.is_clone will_wake sure from to e woken leads is;
  woken = λ will_wake sure from to e woken leads is. refused_handed g.T.Clone.is_clone will_wake sure from to e woken leads is;
}
