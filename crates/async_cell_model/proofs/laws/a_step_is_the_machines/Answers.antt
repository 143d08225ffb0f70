use Rattle.async_cell_model.proofs.Machine.{machine_up_to, model_up_to}
use Rattle.async_cell_model.proofs.laws.a_step_is_the_machines.Goals as goal

pub returns : goal.returns
returns g c = record {
  machine = λ will_wake sure. machine_up_to g.T.Clone.is_clone will_wake sure;
  model = λ will_wake sure. model_up_to g.T.Clone.is_clone will_wake sure;
}
