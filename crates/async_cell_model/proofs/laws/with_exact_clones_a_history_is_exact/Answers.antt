use Rattle.async_cell_model.proofs.Words.{[]}
use Rattle.async_cell_model.proofs.UpTo.{exact_told, up_to_clones, legal_told, legal_up_to}
use Rattle.async_cell_model.proofs.laws.with_exact_clones_a_history_is_exact.Goals as goal

pub returns : goal.returns
returns ctx c = record {
  exact = λ will_wake sure. exact_told ctx.T.Clone.is_clone will_wake sure;
  up_to_clones = λ will_wake sure. up_to_clones ctx.T.Clone.is_clone will_wake sure;
  exact_legal = λ will_wake sure b h. legal_told ctx.T.Clone.is_clone will_wake sure b [] h;
  legal_up_to_clones = λ will_wake sure b h. legal_up_to ctx.T.Clone.is_clone will_wake sure b [] h;
}
