use Rattle.async_cell_model.proofs.Machine.{machine_of, model_of}
use Rattle.async_cell_model.proofs.laws.exact.a_step_is_the_machines.Goals as goal

pub returns : goal.returns
returns g c = record { machine = λ will_wake sure. machine_of will_wake sure; model = λ will_wake sure. model_of will_wake sure }
