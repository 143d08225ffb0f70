use Rattle.async_cell_model.proofs.JoinedHistory.{cell_after-append, waiting-append, room-append}
use Rattle.async_cell_model.proofs.Whole.{IsSound-after, IsLegal-anew, IsLegalAfter-first}
use Rattle.async_cell_model.proofs.Words.{[]}
use Rattle.async_cell_model.proofs.laws.a_history_can_begin_anew.Goals as goal

pub returns : goal.returns
returns ctx c = record {
  begins = λ will_wake sure b g sound legal. IsSound-after ctx.T.Clone.is_clone will_wake sure b g sound legal;
  front = λ will_wake sure b g h legal. IsLegalAfter-first ctx.T.Clone.is_clone will_wake sure b [] g h legal;
  legal = λ will_wake sure b g h sound legal. IsLegal-anew ctx.T.Clone.is_clone will_wake sure b g h sound legal;
  cell = λ will_wake b g h. cell_after-append b.cell g h;
  waiting = λ will_wake b g h. waiting-append will_wake b g h;
  room = λ will_wake b g h sound. room-append will_wake b g h sound.none_skipped;
}
