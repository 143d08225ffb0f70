use Rattle.async_cell_model.proofs.Words.{◌∙◌}
use Rattle.async_cell_model.proofs.Exact.{NoClone, leads_of_exact}
use Rattle.async_cell_model.proofs.OneEntry.{refused_cell, refused_waiting, refused_handed}
use Rattle.async_cell_model.proofs.laws.exact.a_refused_call_changes_nothing.Goals as goal

pub returns : goal.returns
returns ctx c = record {
  cell = λ will_wake sure from to e woken leads is.
      leads.cell_is ∙ refused_cell NoClone will_wake sure from to e woken (leads_of_exact will_wake sure from to _ woken leads) is;
  waiting = λ will_wake sure from to e woken leads is.
      refused_waiting NoClone will_wake sure from to e woken (leads_of_exact will_wake sure from to _ woken leads) is;
  woken = λ will_wake sure from to e woken leads is.
      refused_handed NoClone will_wake sure from to e woken (leads_of_exact will_wake sure from to _ woken leads) is;
}
